-- Records with their keys in place of the keys' numbers.
use Rattle.std.specs.Prelude.{ℕ, ◌∷◌, [], List, Option, Some, IsSome, option_map, option_and_then, slice_get}
use Rattle.std.specs.List.{filter_map, AllByRecursion}
use Rattle.cache_traces.specs.declared.record.Done.{Done}
use Rattle.cache_traces.specs.declared.record.Done.TheVariants as done
use Rattle.cache_traces.specs.declared.record.Record.{Record}
use Rattle.cache_traces.specs.declared.act.Act.{Act}
use Rattle.cache_traces.specs.declared.act.Step.{Step}
use Rattle.cache_traces.specs.declared.act.Act.TheVariants.{Looked, Finished, GaveUp, Listed}

module _ {K : Type 0} (keys : List K) where
  -- the keys of these numbers, where each is one's
  abbrev pub all_named : List ℕ → Option (List K)
  all_named [] = Some []
  all_named (n ∷ ns) = option_and_then (λ k. option_map (λ ks. k ∷ ks) (all_named ns)) (slice_get keys n)

  module _ {N : Type 0} where
    abbrev pub named : Done N → Option (Act K N)
    named (done.Looked key need again told) = option_map (λ k. Looked k need again told) (slice_get keys key)
    named (done.Finished key numbers stored) = option_map (λ k. Finished k numbers stored) (slice_get keys key)
    named (done.GaveUp key) = option_map GaveUp (slice_get keys key)
    named (done.Listed most ns) = option_map (Listed most) (all_named ns.items)

    -- the call that a record tells, where its numbers are those of keys
    abbrev pub step_of : Record N → Option (Step K N)
    step_of r = option_map (λ act. record { seat = r.seat; act = act }) (named r.done)

    -- the calls that records tell
    abbrev pub steps_of : List (Record N) → List (Step K N)
    steps_of rs = filter_map step_of rs

    -- each number is a key's
    abbrev pub AllNamed : List (Record N) → Type 0
    AllNamed rs = AllByRecursion (λ r. IsSome (step_of r)) rs
