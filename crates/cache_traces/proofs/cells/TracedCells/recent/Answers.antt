use Rattle.std.proofs.Common.{rules, ◌≤◌, ◌<◌, Some, sym, ap, subst, ◌∙◌, length, refl}
use Rattle.std.specs.Prelude.{option_map}
use Rattle.cache_machine.specs.Machine.{recent_keys}
use Rattle.cache_traces.specs.declared.act.Act.TheVariants.{Listed}
use Rattle.cache_traces.specs.Named.{all_named}
use Rattle.cache_traces.specs.NamedCache.{named_cache}
use Rattle.cache_traces.specs.Traced.{and_then}
use Rattle.cache_traces.specs.Traces.{rules as of}
use Rattle.cache_traces.proofs.Holding.{many, moved, names_recent, listed_holds, some_listed}
use Rattle.cache_traces.proofs.cells.TracedCells.recent.Goals as goal

pub push-requires-clause-named : goal.push-requires-clause-named
push-requires-clause-named g c =
    let inside = c.self.inside in
    let names = ap (λ ks. all_named ks c.in_ok-keys.keys.items) c.reserve.ensures.keys ∙ ap (all_named inside.trace.keys) c.in_ok-keys.ensures ∙ names_recent inside.trace.keys c.args.most inside.cells c.self.invariant.in_keys in
    some_listed g.row.V-Numbers.Denot c.args.most names

pub invariant_of-self-2 : goal.invariant_of-self-2
invariant_of-self-2 g c =
    let r = of g.K.PartialEq.eq g.V.Value.weight g.V.Value.serves g.V.Counted.numbers g.V.Counted.keeps in
    let inside = c.self.inside in
    let keys = inside.trace.keys in
    let recent = recent_keys c.args.most (named_cache keys inside.cells).kept in
    let in_seats = subst (λ n. c.args.seat < n) (ap (λ v. length v.cache.pending) (sym c.self.view_is) ∙ many r keys inside.cells.pending) c.requires.seat in
    let few : length inside.cells.pending ≤ c.push.new.self.room = search rules in
    let names = ap (all_named keys) c.in_ok-keys.ensures ∙ names_recent keys c.args.most inside.cells c.self.invariant.in_keys in
    let steps = c.push.ensures.step (Listed c.args.most recent) (ap (λ ks. option_map (Listed c.args.most) (all_named ks c.in_ok-keys.keys.items)) c.reserve.ensures.keys ∙ ap (option_map (Listed c.args.most)) names)
    ∙ ap (λ ss. and_then ss c.args.seat (Listed c.args.most recent)) c.reserve.ensures.steps in
    moved r keys c.push.new.self.keys (and_then inside.trace.steps c.args.seat (Listed c.args.most recent)) c.push.new.self.steps c.push.new.self.room c.push.new.self.room inside.cells inside.cells
    (listed_holds r keys inside.trace.steps inside.trace.room c.push.new.self.room inside.cells c.args.seat c.self.invariant in_seats c.args.most few)
    (c.push.ensures.keys ∙ c.reserve.ensures.keys) steps refl refl

pub returns-clause-answer : goal.returns-clause-answer
returns-clause-answer g c =
    let inside = c.self.inside in
    ap (λ v. all_named v.keys c.in_ok-numbers.numbers.items) (sym c.self.view_is)
    ∙ ap (all_named inside.trace.keys) c.in_ok-numbers.ensures ∙ names_recent inside.trace.keys c.args.most inside.cells c.self.invariant.in_keys
    ∙ ap (λ v. Some (recent_keys c.args.most v.cache.kept)) c.self.view_is

pub returns-clause-steps : goal.returns-clause-steps
returns-clause-steps g c =
    let inside = c.self.inside in
    let keys = inside.trace.keys in
    let recent = recent_keys c.args.most (named_cache keys inside.cells).kept in
    let names = ap (all_named keys) c.in_ok-keys.ensures ∙ names_recent keys c.args.most inside.cells c.self.invariant.in_keys in
    c.push.ensures.step (Listed c.args.most recent) (ap (λ ks. option_map (Listed c.args.most) (all_named ks c.in_ok-keys.keys.items)) c.reserve.ensures.keys ∙ ap (option_map (Listed c.args.most)) names)
    ∙ ap (λ ss. and_then ss c.args.seat (Listed c.args.most recent)) c.reserve.ensures.steps
    ∙ ap (λ v. and_then v.steps c.args.seat (Listed c.args.most (recent_keys c.args.most v.cache.kept))) c.self.view_is
