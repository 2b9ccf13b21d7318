use Rattle.std.proofs.Common.{◌≡◌, ◌+◌, List, drop, Some, None, ap, sym, ◌∙◌, zero-add, arith}
use Rattle.lru.specs.LruCache.{lru_cache}
use Rattle.cache_machine.specs.Laws.{weight_of}
use Rattle.cache_cells.specs.Bounded.{put_first_of}
use Rattle.cache_cells.proofs.Putting.{put_entries-first, displaced-weighs, displaced-some}
use Rattle.cache_cells.proofs.store.push_first.Goals as goal

pub returns-in-Ok-Some-clause-first : goal.returns-in-Ok-Some-clause-first
returns-in-Ok-Some-clause-first g c =
    c.in-Ok-Some.ensures.entries ∙ ap (λ es. lru_cache es c.args.entries.now.cap)
    (put_entries-first g.K.PartialEq.eq c.args.key c.args.entries.now c.args.value c.requires.same c.requires.few c.requires.some)

pub returns-in-Ok-None-clause-first : goal.returns-in-Ok-None-clause-first
returns-in-Ok-None-clause-first g c =
    c.in-Ok-None.ensures.entries ∙ ap (λ es. lru_cache es c.args.entries.now.cap)
    (put_entries-first g.K.PartialEq.eq c.args.key c.args.entries.now c.args.value c.requires.same c.requires.few c.requires.some)

pub without-requires : goal.without-requires
without-requires g c =
    let w = g.V.Value.weight in
    let after : List (g.row.K.Denot × g.row.V.Denot) = drop 1 (put_first_of g.K.PartialEq.eq c.args.key c.args.value c.args.entries.now) in
    let weighs : w c.in-Ok-Some.dropped + weight_of w after ≡ weight_of w c.args.entries.now.entries =
    displaced-some g.K.PartialEq.eq c.args.key c.args.entries.now w c.args.value (c.in-Ok-Some._key, c.in-Ok-Some.dropped) c.requires.few c.requires.some
    (sym c.in-Ok-Some.ensures.old ∙ c.in-Ok-Some.field-0-is) in
    let total = c.requires.weighs in
    omega arith

pub returns-in-Ok-Some-clause-rest : goal.returns-in-Ok-Some-clause-rest
returns-in-Ok-Some-clause-rest g c =
    let w = g.V.Value.weight in
    let after : List (g.row.K.Denot × g.row.V.Denot) = drop 1 (put_first_of g.K.PartialEq.eq c.args.key c.args.value c.args.entries.now) in
    let weighs : w c.in-Ok-Some.dropped + weight_of w after ≡ weight_of w c.args.entries.now.entries =
    displaced-some g.K.PartialEq.eq c.args.key c.args.entries.now w c.args.value (c.in-Ok-Some._key, c.in-Ok-Some.dropped) c.requires.few c.requires.some
    (sym c.in-Ok-Some.ensures.old ∙ c.in-Ok-Some.field-0-is) in
    let total = c.requires.weighs in
    let left = c.without.ensures in
    let first = returns-in-Ok-Some-clause-first g c in
    let rest : c.without.result ≡ weight_of w after = omega arith in
    rw first rest

pub returns-in-Ok-None-clause-rest : goal.returns-in-Ok-None-clause-rest
returns-in-Ok-None-clause-rest g c =
    let first = returns-in-Ok-None-clause-first g c in
    let weighs = displaced-weighs g.K.PartialEq.eq c.args.key c.args.entries.now g.V.Value.weight c.args.value None c.requires.few c.requires.some
    (sym c.in-Ok-None.ensures.old ∙ c.in-Ok-None.field-0-is) in
    rw first (c.requires.weighs ∙ sym weighs ∙ zero-add (weight_of g.V.Value.weight (drop 1 (put_first_of g.K.PartialEq.eq c.args.key c.args.value c.args.entries.now))))
