use Rattle.std.proofs.Common.{◌≡◌, map, take}
use Rattle.std.specs.Prelude.{option_map}
use Rattle.std.specs.Arc.{arc_value}
use Rattle.searcher_core.specs.Meeting.{IsCommonOf}
use Rattle.searcher_core.proofs.meeting.common.Given as goal

-- what the sets so far have in common
abbrev pub invariant-loop-set : goal.invariant-loop-set
invariant-loop-set l = IsCommonOf (map arc_value (take l.set-index l.sets)) (option_map arc_value l.common)
