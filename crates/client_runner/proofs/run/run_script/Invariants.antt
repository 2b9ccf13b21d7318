use Rattle.std.proofs.Common.{◌-◌, map, take}
use Rattle.client_runner.specs.RunOrder.{call_at}
use Rattle.client_runner.specs.Rooms.{HasRoom}
use Rattle.client_runner.specs.Standings.{standing}
use Rattle.client_runner.proofs.Ended.{Served}
use Rattle.client_runner.proofs.run.run_script.Given as goal

-- the turns so far were served, and there is room for the rest
abbrev pub invariant-loop-turn : goal.invariant-loop-turn
invariant-loop-turn g l = record {
  served : Served l.config (map (call_at l.script) (take l.turn-index l.turn-items)) (standing l.runner);
  ready : HasRoom (100000 - l.turn-index) l.runner;
}
