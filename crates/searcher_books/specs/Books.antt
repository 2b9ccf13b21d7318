-- The book of a cache: the numbers of the calls that were made of it.
use Rattle.std.specs.Prelude.{ℕ, ◌-◌, ◌^◌, List, length, count_by, sum_by, min, Bool, true, false, not, ◌&&◌}
use Rattle.cache_traces.specs.declared.told.Told.TheVariants.{Hit}
use Rattle.cache_traces.specs.declared.act.Act.{Act}
use Rattle.cache_traces.specs.declared.act.Act.TheVariants.{Looked, Finished, Listed}
use Rattle.cache_traces.specs.declared.act.Step.{Step}
use Rattle.cache_traces.specs.declared.store_act.StoreAct.{StoreAct}
use Rattle.cache_traces.specs.declared.store_act.StoreAct.TheVariants as store
use Rattle.cache_traces.specs.declared.store_act.StoreStep.{StoreStep}
use Rattle.searcher_books.specs.declared.book.Book.{Book}

module _ {K N : Type 0} where
  -- a look-up, but not one that is asked again
  abbrev pub is_first_look : Act K N → Bool
  is_first_look (Looked k need again told) = not again
  is_first_look _ = false

  -- a look-up that found an entry that serves
  abbrev pub is_hit : Act K N → Bool
  is_hit (Looked k need again Hit) = true
  is_hit _ = false

  -- an end for which there was memory, of a value that may be kept
  abbrev pub is_store : (N → Bool) → Act K N → Bool
  is_store keeps (Finished k n stored) = stored && keeps n
  is_store keeps _ = false

  -- a list of the most recently used keys, and how many keys it gave
  abbrev pub is_recent : Act K N → Bool
  is_recent (Listed most ks) = true
  is_recent _ = false

  abbrev pub keys_given : Act K N → ℕ
  keys_given (Listed most ks) = length ks
  keys_given _ = 0

  -- how many calls are such
  abbrev pub calls_as : (Act K N → Bool) → List (Step K N) → ℕ
  calls_as p steps = count_by (λ s. p s.act) steps

  -- The count of keys stands still at the greatest of 64 bits.
  abbrev pub book_of : (N → Bool) → List (Step K N) → Book
  book_of keeps steps = record {
    lookups = calls_as is_first_look steps;
    hits = calls_as is_hit steps;
    stores = calls_as (is_store keeps) steps;
    recents = calls_as is_recent steps;
    keys = min (sum_by (λ s. keys_given s.act) steps) (2 ^ 64 - 1);
  }

module _ {N : Type 0} where
  abbrev pub is_store_look : StoreAct N → Bool
  is_store_look (store.Looked n hit) = true
  is_store_look _ = false

  abbrev pub is_store_hit : StoreAct N → Bool
  is_store_hit (store.Looked n hit) = hit
  is_store_hit _ = false

  abbrev pub is_put : StoreAct N → Bool
  is_put (store.Put n numbers) = true
  is_put _ = false

  abbrev pub store_calls_as : (StoreAct N → Bool) → List (StoreStep N) → ℕ
  store_calls_as p steps = count_by (λ s. p s.act) steps

  -- a store lists no keys
  abbrev pub store_book_of : List (StoreStep N) → Book
  store_book_of steps = record {
    lookups = store_calls_as is_store_look steps;
    hits = store_calls_as is_store_hit steps;
    stores = store_calls_as is_put steps;
    recents = 0;
    keys = 0;
  }
