use Rattle.table_rows.specs.TableTrials.{HasNothingOut}
use Rattle.table_rows.proofs.table.looks.Given as goal

abbrev pub invariant-loop-content : goal.invariant-loop-content
invariant-loop-content l = HasNothingOut l.initial.pass l.pass
