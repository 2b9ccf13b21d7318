-- What the steps of a store leave of its entries.
use Rattle.std.specs.Prelude.{ℕ, ◌-◌, Bool, List, length, take, Option}
use Rattle.lru.specs.LruCache.{LruCache, lru_cache}
use Rattle.cache_machine.specs.Machine.{Kept, with_entries, brought_first, served, light_front}
use Rattle.cache_machine.specs.Laws.{weight_of}
use Rattle.cache_cells.specs.Bounded.{first_with, put_first_of}

module _ {K V : Type 0} where
  -- what the machine keeps, where an `LruCache` holds the entries
  abbrev pub kept_of : LruCache K V → Option ℕ → Kept K V
  kept_of c greatest = record { size = c.cap; greatest = greatest; entries = c.entries }

  -- the value of the key, where it serves
  abbrev pub hit_of : (K → K → Bool) → (V → Bool) → K → Kept K V → Option V
  hit_of eq serves k c = served eq serves k c.entries

  -- the entry of the key comes first
  abbrev pub used : (K → K → Bool) → K → Kept K V → Kept K V
  used eq k c = with_entries c (brought_first eq k c.entries)

  -- the pair comes first, and the most recently used others that have room stay
  abbrev pub after_put : (K → K → Bool) → K → V → LruCache K V → LruCache K V
  after_put eq k v c = lru_cache (put_first_of eq k v c) c.cap

  -- of these the longest front stays that weighs at most `most`
  abbrev pub pushed : (K → K → Bool) → (V → ℕ) → ℕ → K → V → LruCache K V → LruCache K V
  pushed eq weight most k v c = lru_cache (light_front weight most (put_first_of eq k v c)) c.cap

  -- behind the first entry the longest front stays that weighs at most `most`
  abbrev pub with_light_rest : (V → ℕ) → ℕ → LruCache K V → LruCache K V
  with_light_rest weight most c = lru_cache (first_with (light_front weight most) c.entries) c.cap

  -- what the longest front weighs that weighs at most `most`
  abbrev pub light_weight : (V → ℕ) → ℕ → List (K × V) → ℕ
  light_weight weight most es = weight_of weight (light_front weight most es)

  -- the least recently used entry went
  abbrev pub without_last : LruCache K V → LruCache K V
  without_last c = lru_cache (take (length c.entries - 1) c.entries) c.cap
