-- The pieces of the line are the text of its object.
use Rattle.std.proofs.Common.{◌≡◌, ◌++◌, decimal, codes, append_assoc}
use Rattle.serde_json.proofs.OnLiterals.{serde_json_on_literals}
use Rattle.script_counts.specs.Counts.{counts_line}
use Rattle.script_counts.specs.declared.counting.Counts.{Counts}

pub line_is : (c : Counts) → codes "{\"clients\":" ++ (decimal c.clients ++ (codes ",\"lines\":" ++ (decimal c.lines ++ (codes ",\"phases\":" ++ (decimal c.phases ++ (codes ",\"requests\":" ++ (decimal c.requests ++ codes "}\n")))))))
    ≡ counts_line c
unfolding counts_line serde_json_on_literals
line_is c = simp append_assoc
