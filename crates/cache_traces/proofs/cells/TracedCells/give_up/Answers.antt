use Rattle.std.proofs.Common.{◌≡◌, Some, sym, ap, ◌∙◌, slice_get, refl}
use Rattle.std.specs.Prelude.{option_map}
use Rattle.cache_machine.specs.Machine.{released, owned_by}
use Rattle.cache_traces.specs.declared.act.Act.TheVariants.{GaveUp}
use Rattle.cache_traces.specs.NamedCache.{named_cache}
use Rattle.cache_traces.specs.Traced.{and_then}
use Rattle.cache_traces.specs.Traces.{rules as of}
use Rattle.cache_traces.proofs.Holding.{owned_key, owned_named, room_for_end, gave_up_holds, some_named, moved}
use Rattle.cache_traces.proofs.Renaming.{same_released}
use Rattle.cache_traces.proofs.cells.TracedCells.give_up.Goals as goal

pub push-requires-clause-room : goal.push-requires-clause-room
push-requires-clause-room g c =
    let r = of g.K.PartialEq.eq g.V.Value.weight g.V.Value.serves g.V.Counted.numbers g.V.Counted.keeps in
    let inside = c.self.inside in
    room_for_end r inside.trace.keys g.met.K.Eq.laws inside.trace.steps inside.trace.room inside.cells c.args.seat c.self.invariant c.release-key.result c.release-key.ensures.key

pub push-requires-clause-named : goal.push-requires-clause-named
push-requires-clause-named g c =
    let r = of g.K.PartialEq.eq g.V.Value.weight g.V.Value.serves g.V.Counted.numbers g.V.Counted.keeps in
    let inside = c.self.inside in
    some_named GaveUp inside.trace.keys c.release-key.result (owned_key r inside.trace.keys g.met.K.Eq.laws inside.trace.steps inside.trace.room inside.cells c.args.seat c.self.invariant c.release-key.result c.release-key.ensures.key)

pub invariant_of-self : goal.invariant_of-self
invariant_of-self g c =
    let r = of g.K.PartialEq.eq g.V.Value.weight g.V.Value.serves g.V.Counted.numbers g.V.Counted.keeps in
    let inside = c.self.inside in
    let n = c.release-key.result in
    let key = owned_key r inside.trace.keys g.met.K.Eq.laws inside.trace.steps inside.trace.room inside.cells c.args.seat c.self.invariant n c.release-key.ensures.key in
    let told = c.push.ensures.step (GaveUp key.0) (ap (λ o. option_map GaveUp o) key.1) in
    moved r inside.trace.keys c.push.new.self.keys (and_then inside.trace.steps c.args.seat (GaveUp key.0)) c.push.new.self.steps c.push.new.self.room c.push.new.self.room (released c.args.seat inside.cells) c.release-key.new.self
    (gave_up_holds r inside.trace.keys g.met.K.Eq.laws inside.trace.steps inside.trace.room inside.cells c.args.seat c.self.invariant n c.release-key.ensures.key c.push.new.self.room c.push.ensures.room)
    c.push.ensures.keys told refl c.release-key.ensures.after

pub returns-clause-after : goal.returns-clause-after
returns-clause-after g c =
    let inside = c.self.inside in
    (λ i. named_cache (c.push.ensures.keys i) (c.release-key.ensures.after i))
    ∙ sym (same_released g.met.K.Eq.laws inside.trace.keys c.self.invariant.distinct c.args.seat inside.cells) ∙ ap (λ v. released c.args.seat v.cache) c.self.view_is

pub returns-clause-steps : goal.returns-clause-steps
returns-clause-steps g c k owns =
    let r = of g.K.PartialEq.eq g.V.Value.weight g.V.Value.serves g.V.Counted.numbers g.V.Counted.keeps in
    let inside = c.self.inside in
    let n = c.release-key.result in
    let named = owned_named r inside.trace.keys g.met.K.Eq.laws inside.trace.steps inside.trace.room inside.cells c.args.seat c.self.invariant n c.release-key.ensures.key in
    let is : slice_get inside.trace.keys n ≡ Some k = sym named ∙ ap (λ v. owned_by v.cache c.args.seat) c.self.view_is ∙ owns in
    c.push.ensures.step (GaveUp k) (ap (λ o. option_map GaveUp o) is) ∙ ap (λ v. and_then v.steps c.args.seat (GaveUp k)) c.self.view_is
