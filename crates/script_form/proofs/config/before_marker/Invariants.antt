use Rattle.std.proofs.Common.{◌≡◌, length}
use Rattle.std.specs.List.{before_first}
use Rattle.std.specs.Str.Lines.{lines}
use Rattle.script_form.specs.Lines.{config_text, is_marker}
use Rattle.script_form.proofs.Configs.{joined}
use Rattle.script_form.proofs.config.before_marker.Given as goal

abbrev pub invariant-loop-rest : goal.invariant-loop-rest
invariant-loop-rest l = joined l.begun l.text.items (before_first is_marker (lines l.rest)) ≡ config_text l.bytes

abbrev pub decreases-loop-rest : goal.decreases-loop-rest
decreases-loop-rest l = length l.rest
