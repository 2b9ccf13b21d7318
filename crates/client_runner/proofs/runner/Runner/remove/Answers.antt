use Rattle.std.proofs.Common.{◌≡◌, ◌≤◌, ◌+◌, ap, sym, subst, ◌∙◌, arith}
use Rattle.served_index.specs.IndexState.{IndexState}
use Rattle.client_runner.specs.Standings.{Standing}
use Rattle.client_runner.proofs.Ready.{stays}
use Rattle.client_runner.proofs.runner.Runner.remove.Goals as goal

pub returns-clause-ready : goal.returns-clause-ready
returns-clause-ready c =
    let taken = c.take_place.ensures.taken in
    let same = c.take_place.ensures.index in
    let place : c.take_place.new.self.place ≡ c.args.self.now.place + 1 = ap (λ (s : Standing). s.place) taken in
    let generation : c.take_place.new.self.current.generation ≡ c.args.self.now.current.generation = ap (λ (s : Standing). s.current.generation) taken in
    let count : c.take_place.new.self.current.acquired ≡ c.args.self.now.current.acquired = ap (λ (s : Standing). s.current.acquired) taken in
    let fewer : c.take_away.new.index.numbers ≤ c.args.self.now.index.numbers + 1 = omega (arith, c.take_away.ensures.numbers) in
    stays c.args.self.now c.take_place.new.self
    (subst (λ (x : IndexState). x.numbers ≤ c.args.self.now.index.numbers + 1) (sym same) fewer)
    (omega (arith, place)) (omega (arith, generation)) (omega (arith, count))
