use Rattle.std.proofs.Common.{◌≡◌, length, drop, ◌<◌, ◌≤◌, arith, sym, ap, ◌∙◌}
use Rattle.lru.specs.LruCache.{lru_cache}
use Rattle.cache_machine.specs.Machine.{light_front}
use Rattle.cache_machine.specs.Laws.{weight_of}
use Rattle.cache_cells.proofs.Lightening.{light_front-whole, heavy-two, shorter-some, shorter-first, shorter-front, first_with-same}
use Rattle.cache_cells.proofs.store.lighten.Goals as goal

pub loop-rest-preserved : goal.loop-rest-preserved
loop-rest-preserved g c =
    let es = c.loop-rest.entries.entries in
    let w = g.V.Value.weight in
    let heavy : c.args.most < weight_of w (drop 1 es) = (let more = c.loop-rest-test.true in let is = c.loop-rest.invariant.weighs in omega arith) in
    let long : 1 < length es = heavy-two w c.args.most es heavy in
    let front = c.drop_last-rest.ensures.front in
    record {
      some = rw front (shorter-some w es long);
      cap = rw front c.loop-rest.invariant.cap;
      weighs = c.drop_last-rest.ensures.weighed;
      first = rw front (shorter-first w es long ∙ c.loop-rest.invariant.first);
      front = rw front (shorter-front w c.args.most es long heavy ∙ c.loop-rest.invariant.front);
    }

-- those that stay are all that are left
whole : (g : _) (c : goal.After-loop-rest g) → drop 1 c.loop-rest.entries.entries ≡ light_front g.V.Value.weight c.args.most (drop 1 c.args.entries.now.entries)
whole g c =
    let w = g.V.Value.weight in
    let light : weight_of w (drop 1 c.loop-rest.entries.entries) ≤ c.args.most = (let enough = c.loop-rest-test.false in let is = c.loop-rest.invariant.weighs in omega arith) in
    sym (light_front-whole w c.args.most (drop 1 c.loop-rest.entries.entries) light) ∙ c.loop-rest.invariant.front

pub returns-clause-dropped : goal.returns-clause-dropped
returns-clause-dropped g c =
    let same = first_with-same (light_front g.V.Value.weight c.args.most) c.loop-rest.entries.entries c.args.entries.now.entries c.loop-rest.invariant.some c.loop-rest.invariant.first (whole g c) in
    let cap = c.loop-rest.invariant.cap in
    λ i. lru_cache (same i) (cap i)

pub returns-clause-rest : goal.returns-clause-rest
returns-clause-rest g c = c.loop-rest.invariant.weighs ∙ ap (weight_of g.V.Value.weight) (whole g c)
