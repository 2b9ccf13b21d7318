use Rattle.std.proofs.Common.{rules, ◌≡◌, ◌≤◌, ◌<◌, Some, None, sym, ap, subst, ◌∙◌, length, slice_get, refl}
use Rattle.std.specs.Prelude.{nat_eq}
use Rattle.cache_machine.specs.Machine.{look_answer, after_look, owned_by}
use Rattle.cache_traces.specs.Looking.{answer_of, renamed, with_look}
use Rattle.cache_traces.specs.NamedCache.{IsIn, named_cache}
use Rattle.cache_traces.specs.Traces.{rules as of, told}
use Rattle.cache_traces.proofs.Holding.{within, many, moved, unkept, looked_holds, answer_keyless}
use Rattle.cache_traces.proofs.Renaming.{same_answer, same_after}
use Rattle.cache_traces.proofs.cells.TracedCells.look.Goals as goal

pub invariant_of-self-in_err-look : goal.invariant_of-self-in_err-look
invariant_of-self-in_err-look g c =
    let r = of g.K.PartialEq.eq g.V.Value.weight g.V.Value.serves g.V.Counted.numbers g.V.Counted.keeps in
    let inside = c.self.inside in
    let keys = inside.trace.keys in
    let in_seats = subst (λ n. c.args.seat < n) (ap (λ v. length v.cache.pending) (sym c.self.view_is) ∙ many r keys inside.cells.pending) c.requires.seat in
    let few : length inside.cells.pending ≤ c.reserve.new.self.room = search rules in
    moved r keys c.reserve.new.self.keys inside.trace.steps c.reserve.new.self.steps c.reserve.new.self.room c.reserve.new.self.room inside.cells c.look.new.self
    (unkept r keys g.met.K.Eq.laws inside.trace.steps inside.trace.room c.reserve.new.self.room inside.cells c.args.seat c.self.invariant in_seats few)
    c.reserve.ensures.keys c.reserve.ensures.steps refl c.in_err-look.ensures.no_memory

pub invariant_of-self-2 : goal.invariant_of-self-2
invariant_of-self-2 g c =
    let r = of g.K.PartialEq.eq g.V.Value.weight g.V.Value.serves g.V.Counted.numbers g.V.Counted.keeps in
    let inside = c.self.inside in
    let keys = inside.trace.keys in
    let in_seats = subst (λ n. c.args.seat < n) (ap (λ v. length v.cache.pending) (sym c.self.view_is) ∙ many r keys inside.cells.pending) c.requires.seat in
    let few : length inside.cells.pending ≤ c.note.new.trace.room = search rules in
    let one : IsIn keys c.args.key = within keys c.args.key (subst (λ n. c.args.key < n) (ap (λ v. length v.keys) (sym c.self.view_is)) c.requires.named) in
    let idle : owned_by (named_cache keys inside.cells) c.args.seat ≡ None = ap (λ v. owned_by v.cache c.args.seat) c.self.view_is ∙ c.requires.idle in
    let answer = c.in_ok-look.ensures.answer in
    let steps = c.note.ensures.steps one.0 (ap (λ ks. slice_get ks c.args.key) c.reserve.ensures.keys ∙ one.1)
    ∙ (λ i. with_look (c.reserve.ensures.steps i) c.args.seat one.0 c.args.need c.args.again ((c.told.ensures ∙ ap told answer) i)) in
    moved r keys c.note.new.trace.keys (with_look inside.trace.steps c.args.seat one.0 c.args.need c.args.again (told (look_answer nat_eq (g.V.Value.serves c.args.need) c.args.key inside.cells))) c.note.new.trace.steps c.note.new.trace.room c.note.new.trace.room
    (after_look nat_eq (g.V.Value.serves c.args.need) c.args.key c.args.seat inside.cells) c.look.new.self
    (looked_holds r keys g.met.K.Eq.laws inside.trace.steps inside.trace.room c.note.new.trace.room inside.cells c.args.seat c.self.invariant in_seats c.args.key one.0 c.args.need c.args.again one.1 idle few)
    (c.note.ensures.keys ∙ c.reserve.ensures.keys) steps refl c.in_ok-look.ensures.after

pub returns-clause-answer : goal.returns-clause-answer
returns-clause-answer g c k is =
    let inside = c.self.inside in
    let keys = inside.trace.keys in
    let here : slice_get keys c.args.key ≡ Some k = ap (λ v. slice_get v.keys c.args.key) c.self.view_is ∙ is in
    ap (answer_of k) c.without_key.ensures ∙ answer_keyless k c.in_ok-look.look ∙ ap (renamed k) c.in_ok-look.ensures.answer
    ∙ sym (same_answer g.met.K.Eq.laws keys c.self.invariant.distinct c.args.key k here (g.V.Value.serves c.args.need) inside.cells c.self.invariant.in_keys)
    ∙ ap (λ v. look_answer g.K.PartialEq.eq (g.V.Value.serves c.args.need) k v.cache) c.self.view_is

pub returns-clause-after : goal.returns-clause-after
returns-clause-after g c k is =
    let inside = c.self.inside in
    let keys = inside.trace.keys in
    let here : slice_get keys c.args.key ≡ Some k = ap (λ v. slice_get v.keys c.args.key) c.self.view_is ∙ is in
    (λ i. named_cache ((c.note.ensures.keys ∙ c.reserve.ensures.keys) i) (c.in_ok-look.ensures.after i))
    ∙ sym (same_after g.met.K.Eq.laws keys c.self.invariant.distinct c.args.key k here (g.V.Value.serves c.args.need) c.args.seat inside.cells c.self.invariant.in_keys)
    ∙ ap (λ v. after_look g.K.PartialEq.eq (g.V.Value.serves c.args.need) k c.args.seat v.cache) c.self.view_is
