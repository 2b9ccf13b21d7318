-- How many keys of an old cache are regenerated, and in which order.
use Rattle.std.specs.Prelude.{◌≡◌, ℕ, ◌*◌, ◌/◌, List, length, min, reverse, take}
use Rattle.cache_traces.specs.declared.act.Act.{Act}
use Rattle.cache_traces.specs.declared.act.Act.TheVariants.{Listed}
use Rattle.shared_cells.specs.Lists.{GoesOnBy}
use Rattle.autowarm.specs.declared.count.WarmCount.{WarmCount}
use Rattle.autowarm.specs.declared.count.WarmCount.TheVariants.{Count, Percent}

-- a number, or a percentage of the length, rounded down
abbrev pub wanted : WarmCount → ℕ → ℕ
wanted (Count n) length = n
wanted (Percent n) length = n * length / 100

-- as many as are wanted, or all
abbrev pub warm_number : WarmCount → ℕ → ℕ
warm_number count length = min (wanted count length) length

-- of keys, the most recent first, as many as are wanted, the least recent of them first
abbrev pub warm_keys : {K : Type 0} → WarmCount → List K → List K
warm_keys count keys = reverse (take (warm_number count (length keys)) keys)

-- the keys of a cache were listed, and these are the wanted ones
abbrev pub AreWarmKeys :
    {K N : Type 0} → WarmCount → List K → List (Act K N) → List (Act K N) → Type 0
AreWarmKeys {K} count keys old new =
    (all : List K) × GoesOnBy (Listed 4096 all) old new × (keys ≡ warm_keys count all)
