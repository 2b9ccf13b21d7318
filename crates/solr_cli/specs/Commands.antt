-- Which command the words of a command line ask for.
use Rattle.std.specs.Prelude.{◌≡◌, ℕ, List, [], ◌∷◌, Bool, true, false, Option, Some, None, codes, if◌then◌else◌}
use Rattle.std.specs.Option.{option_map}
use Rattle.field_schema.specs.Bytes.{bytes_eq}
use Rattle.script_form.specs.Decimals.{decimal_within}
use Rattle.solr_cli.specs.declared.command.Command.{Command}
use Rattle.solr_cli.specs.declared.command.Command.TheVariants.{Run, Check, Make, Drill}

abbrev pub lone_command : List ℕ → Option Command
lone_command word =
    if bytes_eq word (codes "run") then Some (Run false) else
    (if bytes_eq word (codes "check") then Some Check else None)

abbrev pub run_command : List ℕ → Option Command
run_command option = if bytes_eq option (codes "--summary") then Some (Run true) else None

abbrev pub paired_command : List ℕ → List ℕ → Option Command
paired_command word other =
    if bytes_eq word (codes "run") then run_command other else
    (if bytes_eq word (codes "make") then option_map Make (decimal_within 1 20000 other) else
    (if bytes_eq word (codes "drill") then option_map Drill (decimal_within 1 20000 other) else None))

-- the words of a command line, as they stand
abbrev pub command_of : List (List ℕ) → Option Command
command_of (word ∷ []) = lone_command word
command_of (word ∷ other ∷ []) = paired_command word other
command_of _ = None

-- whether a command works on the generator's script
abbrev pub is_made : Option Command → Bool
is_made (Some (Make n)) = true
is_made (Some (Drill n)) = true
is_made _ = false

-- whether a command reads the input
abbrev pub reads_input : Option Command → Bool
reads_input (Some (Run summary)) = true
reads_input (Some Check) = true
reads_input _ = false
