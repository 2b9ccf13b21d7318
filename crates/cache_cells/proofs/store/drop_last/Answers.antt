use Rattle.std.proofs.Common.{◌≡◌, ◌+◌, length, drop, take, ◌-◌, ◌≤◌, arith, sym, ◌∙◌}
use Rattle.cache_machine.specs.Laws.{weight_of}
use Rattle.cache_cells.proofs.Lightening.{shorter-weighs, last-some}
use Rattle.cache_cells.proofs.store.drop_last.Goals as goal

pub without-requires : goal.without-requires
without-requires g c =
    let weighs = shorter-weighs g.V.Value.weight c.args.entries.now.entries (c.in-Some._key, c.in-Some.dropped) c.requires.others (sym c.pop_lru.ensures.value ∙ c.in-Some.is) in
    let rest = c.requires.weighs in
    omega arith

pub returns-in-Some-clause-weighed : goal.returns-in-Some-clause-weighed
returns-in-Some-clause-weighed g c =
    let es = c.args.entries.now.entries in
    let w = g.V.Value.weight in
    let weighs = shorter-weighs w es (c.in-Some._key, c.in-Some.dropped) c.requires.others (sym c.pop_lru.ensures.value ∙ c.in-Some.is) in
    let rest = c.requires.weighs in
    let left = c.without.ensures in
    let lighter : c.without.result ≡ weight_of w (drop 1 (take (length es - 1) es)) = omega arith in
    rw c.pop_lru.ensures.entries lighter

pub returns-in-None-clause-weighed : goal.returns-in-None-clause-weighed
returns-in-None-clause-weighed g c =
    absurd (last-some (length c.args.entries.now.entries - 1) c.args.entries.now.entries (let long = c.requires.others in omega arith) (sym c.pop_lru.ensures.value ∙ c.in-None.is))
