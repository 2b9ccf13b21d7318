use Rattle.std.proofs.Common.{ap, ◌∙◌}
use Rattle.lru.specs.LruCache.{lru_cache}
use Rattle.cache_cells.proofs.Putting.{put_entries-first}
use Rattle.cache_cells.proofs.store.put_first.Goals as goal

pub returns-in-Ok-clause-first : goal.returns-in-Ok-clause-first
returns-in-Ok-clause-first g c =
    c.in-Ok.ensures.entries ∙ ap (λ es. lru_cache es c.args.entries.now.cap)
    (put_entries-first g.K.PartialEq.eq c.args.key c.args.entries.now c.args.value c.requires.same c.requires.few c.requires.some)
