-- The numbers and the texts of the statuses.
use Rattle.std.specs.Prelude.{ℕ, List, [], ◌++◌, codes, decimal}
use Rattle.script_form.specs.declared.script.LineName.{LineName}
use Rattle.script_form.specs.declared.script.LineName.TheVariants.{NotUtf8, NoClient, BadClient, BadVerb, BadBody}
use Rattle.solr_cli.specs.declared.status.Status.{Status}
use Rattle.solr_cli.specs.declared.status.Status.TheVariants.{Done, Usage, ReadFault, WriteFault, BadConfig, BadLine, TooLarge, NoMemory}

-- the exit code
abbrev pub code_of : Status → ℕ
code_of Done = 0
code_of Usage = 2
code_of ReadFault = 3
code_of WriteFault = 4
code_of (BadConfig at name) = 5
code_of (BadLine line name) = 6
code_of TooLarge = 7
code_of NoMemory = 8

abbrev pub name_of : LineName → List ℕ
name_of NotUtf8 = codes "NotUtf8"
name_of NoClient = codes "NoClient"
name_of BadClient = codes "BadClient"
name_of BadVerb = codes "BadVerb"
name_of BadBody = codes "BadBody"

-- a number and a name, and what stands between them
abbrev pub named_line : ℕ → List ℕ → List ℕ → List ℕ
named_line number between name = decimal number ++ (between ++ (name ++ codes "\n"))

-- the line on standard error
abbrev pub line_of : Status → List ℕ
line_of Done = []
line_of Usage = codes "usage\nsolr_cli run\nsolr_cli run --summary\nsolr_cli check\nsolr_cli make N\nsolr_cli drill N\n"
line_of ReadFault = codes "read fault\n"
line_of WriteFault = codes "write fault\n"
line_of (BadConfig at name) = codes "bad configuration: check " ++ named_line at (codes ", ") name
line_of (BadLine line name) = codes "bad line " ++ named_line line (codes ": ") (name_of name)
line_of TooLarge = codes "input too large\n"
line_of NoMemory = codes "no memory\n"
