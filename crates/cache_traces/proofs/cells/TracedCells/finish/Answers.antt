use Rattle.std.proofs.Common.{◌≡◌, Some, sym, ap, subst, ◌∙◌, slice_get, refl}
use Rattle.std.specs.Prelude.{nat_eq, option_map, OnOk}
use Rattle.cache_machine.specs.Machine.{released, owned_by, finished as after_finish}
use Rattle.std.specs.Result.{is_ok}
use Rattle.cache_traces.specs.declared.act.Act.TheVariants.{Finished}
use Rattle.cache_traces.specs.NamedCache.{named_cache}
use Rattle.cache_traces.specs.Traced.{and_then}
use Rattle.cache_traces.specs.Traces.{rules as of}
use Rattle.cache_traces.proofs.Holding.{owned_key, owned_named, room_for_end, finished_holds, some_named, moved, on_ok, on_err}
use Rattle.cache_traces.proofs.Renaming.{same_released, same_finished}
use Rattle.cache_traces.proofs.cells.TracedCells.finish.Goals as goal

pub push-requires-clause-room : goal.push-requires-clause-room
push-requires-clause-room g c =
    let r = of g.K.PartialEq.eq g.V.Value.weight g.V.Value.serves g.V.Counted.numbers g.V.Counted.keeps in
    let inside = c.self.inside in
    room_for_end r inside.trace.keys g.met.K.Eq.laws inside.trace.steps inside.trace.room inside.cells c.args.seat c.self.invariant c.owned-key.result c.owned-key.ensures

pub push-requires-clause-named : goal.push-requires-clause-named
push-requires-clause-named g c =
    let r = of g.K.PartialEq.eq g.V.Value.weight g.V.Value.serves g.V.Counted.numbers g.V.Counted.keeps in
    let inside = c.self.inside in
    some_named _ inside.trace.keys c.owned-key.result (owned_key r inside.trace.keys g.met.K.Eq.laws inside.trace.steps inside.trace.room inside.cells c.args.seat c.self.invariant c.owned-key.result c.owned-key.ensures)

pub invariant_of-self : goal.invariant_of-self
invariant_of-self g c =
    let r = of g.K.PartialEq.eq g.V.Value.weight g.V.Value.serves g.V.Counted.numbers g.V.Counted.keeps in
    let inside = c.self.inside in
    let n = c.owned-key.result in
    let numbers = g.V.Counted.numbers c.args.most c.args.value in
    let result = c.finish-result.result in
    let next = c.finish-result.new.self in
    let keep_is : c.keeps-keep.result ≡ g.V.Counted.keeps numbers = c.keeps-keep.ensures ∙ ap g.V.Counted.keeps c.numbers-numbers.ensures in
    let ok = subst (λ b. OnOk result (next ≡ after_finish nat_eq g.V.Value.weight c.args.seat c.args.value b inside.cells)) keep_is c.finish-result.ensures.after in
    let key = owned_key r inside.trace.keys g.met.K.Eq.laws inside.trace.steps inside.trace.room inside.cells c.args.seat c.self.invariant n c.owned-key.ensures in
    let told = c.push.ensures.step (Finished key.0 numbers (is_ok result)) (λ i. option_map (λ k. Finished k (c.numbers-numbers.ensures i) (c.is_ok-stored.ensures.value i)) (key.1 i)) in
    moved r inside.trace.keys c.push.new.self.keys (and_then inside.trace.steps c.args.seat (Finished key.0 numbers (is_ok result))) c.push.new.self.steps c.push.new.self.room c.push.new.self.room next next
    (finished_holds r inside.trace.keys g.met.K.Eq.laws inside.trace.steps inside.trace.room inside.cells c.args.seat c.self.invariant n c.owned-key.ensures c.args.value c.args.most c.push.new.self.room result next c.push.ensures.room ok c.finish-result.ensures.no_memory)
    c.push.ensures.keys told refl refl

pub returns-clause-after : goal.returns-clause-after
returns-clause-after g c =
    let inside = c.self.inside in
    let numbers = g.V.Counted.numbers c.args.most c.args.value in
    let keep = g.V.Counted.keeps numbers in
    let next = c.finish-result.new.self in
    let keep_is : c.keeps-keep.result ≡ keep = c.keeps-keep.ensures ∙ ap g.V.Counted.keeps c.numbers-numbers.ensures in
    on_ok c.finish-result.result (λ e.
    (λ i. named_cache (c.push.ensures.keys i) (e i))
    ∙ ap (λ b. named_cache inside.trace.keys (after_finish nat_eq g.V.Value.weight c.args.seat c.args.value b inside.cells)) keep_is
    ∙ sym (same_finished g.met.K.Eq.laws inside.trace.keys c.self.invariant.distinct g.V.Value.weight c.args.seat c.args.value keep inside.cells c.self.invariant.in_keys)
    ∙ ap (λ v. after_finish g.K.PartialEq.eq g.V.Value.weight c.args.seat c.args.value keep v.cache) c.self.view_is)
    c.finish-result.ensures.after

pub returns-clause-no_memory : goal.returns-clause-no_memory
returns-clause-no_memory g c =
    let inside = c.self.inside in
    on_err c.finish-result.result (λ e.
    (λ i. named_cache (c.push.ensures.keys i) (e i))
    ∙ sym (same_released g.met.K.Eq.laws inside.trace.keys c.self.invariant.distinct c.args.seat inside.cells) ∙ ap (λ v. released c.args.seat v.cache) c.self.view_is)
    c.finish-result.ensures.no_memory

pub returns-clause-steps : goal.returns-clause-steps
returns-clause-steps g c k owns =
    let r = of g.K.PartialEq.eq g.V.Value.weight g.V.Value.serves g.V.Counted.numbers g.V.Counted.keeps in
    let inside = c.self.inside in
    let n = c.owned-key.result in
    let numbers = g.V.Counted.numbers c.args.most c.args.value in
    let result = c.finish-result.result in
    let named = owned_named r inside.trace.keys g.met.K.Eq.laws inside.trace.steps inside.trace.room inside.cells c.args.seat c.self.invariant n c.owned-key.ensures in
    let is : slice_get inside.trace.keys n ≡ Some k = sym named ∙ ap (λ v. owned_by v.cache c.args.seat) c.self.view_is ∙ owns in
    c.push.ensures.step (Finished k numbers (is_ok result)) (λ i. option_map (λ j. Finished j (c.numbers-numbers.ensures i) (c.is_ok-stored.ensures.value i)) (is i))
    ∙ ap (λ v. and_then v.steps c.args.seat (Finished k numbers (is_ok result))) c.self.view_is
