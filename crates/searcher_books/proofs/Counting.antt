-- The numbers of records are those of the calls that they tell.
use Rattle.std.proofs.Common.{◌≡◌, ℕ, suc, ◌+◌, Bool, cond, List, [], ◌∷◌, Option, Some, None, IsSome, refl, true≢false, sym, ap, subst, ◌∙◌, length, slice_get}
use Rattle.std.specs.Prelude.{option_map, option_and_then, count_by, sum_by}
use Rattle.std.specs.List.{cons_option, fold}
use Rattle.std.proofs.lemmas.Option.{same_Some}
use Rattle.cache_traces.specs.declared.told.Told.{Told}
use Rattle.cache_traces.specs.declared.told.Told.TheVariants.{Hit, Joined, Owned}
use Rattle.cache_traces.specs.declared.record.Done.{Done}
use Rattle.cache_traces.specs.declared.record.Done.TheVariants as done
use Rattle.cache_traces.specs.declared.record.Record.{Record}
use Rattle.cache_traces.specs.declared.act.Act.{Act}
use Rattle.cache_traces.specs.declared.act.Step.{Step}
use Rattle.cache_traces.specs.declared.act.Act.TheVariants.{Looked, Finished, GaveUp, Listed}
use Rattle.cache_traces.specs.Named.{all_named, named, step_of, steps_of, AllNamed}
use Rattle.searcher_books.specs.Books.{is_first_look, is_hit, is_store, is_recent, keys_given, calls_as}
use Rattle.searcher_books.specs.Records.{looked_first, hit, kept, listed, many_listed}

-- what a map gives is that of what was there
mapped : {A B : Type 0} (f : A → B) (o : Option A) (b : B) → option_map f o ≡ Some b → (a : A) × (o ≡ Some a) × (b ≡ f a)
mapped f None b e = let p : None ≡ Some b = e in absurd (cc)
mapped f (Some a) b e = (a, refl, sym (same_Some (f a) b e))

module _ {K : Type 0} (keys : List K) where
  named_length : (ns : List ℕ) (ks : List K) → all_named keys ns ≡ Some ks → length ks ≡ length ns
  named_length [] ks e = ap length (sym (same_Some [] ks e))
  named_length (n ∷ ns) ks e = by (slice_get keys n) refl (named_length ns)
    where
      by : (o : Option K) → slice_get keys n ≡ o → ((ls : List K) → all_named keys ns ≡ Some ls → length ls ≡ length ns) → length ks ≡ length (n ∷ ns)
      by None q rest = let p : None ≡ Some ks = ap (option_and_then (λ k. option_map (λ ls. k ∷ ls) (all_named keys ns))) (sym q) ∙ e in absurd (cc)
      by (Some k) q rest =
          let m = mapped (λ ls. k ∷ ls) (all_named keys ns) ks (ap (option_and_then (λ l. option_map (λ ls. l ∷ ls) (all_named keys ns))) (sym q) ∙ e) in
          ap length m.2 ∙ ap suc (rest m.0 m.1)

  module _ {N : Type 0} where
    module _ {A : Type 0} (p : Act K N → A) where
      of_look : (key need : ℕ) (again : Bool) (told : Told) (a : Act K N) → named keys (done.Looked key need again told) ≡ Some a → (k : K) × (p a ≡ p (Looked k need again told))
      of_look key need again told a e = let m = mapped (λ (k : K). Looked k need again told) (slice_get keys key) a e in (m.0, ap p m.2)

      of_end : (key : ℕ) (n : N) (stored : Bool) (a : Act K N) → named keys (done.Finished key n stored) ≡ Some a → (k : K) × (p a ≡ p (Finished k n stored))
      of_end key n stored a e = let m = mapped (λ (k : K). Finished k n stored) (slice_get keys key) a e in (m.0, ap p m.2)

      of_none : (key : ℕ) (a : Act K N) → named keys (done.GaveUp key) ≡ Some a → (k : K) × (p a ≡ p (GaveUp k))
      of_none key a e = let m = mapped (λ (k : K). GaveUp k) (slice_get keys key) a e in (m.0, ap p m.2)

    first_of : (d : Done N) (a : Act K N) → named keys d ≡ Some a → is_first_look a ≡ looked_first d
    first_of (done.Looked key need again told) a e = (of_look is_first_look key need again told a e).1
    first_of (done.Finished key n stored) a e = (of_end is_first_look key n stored a e).1
    first_of (done.GaveUp key) a e = (of_none is_first_look key a e).1
    first_of (done.Listed most ns) a e = ap is_first_look (mapped (Listed most) (all_named keys ns.items) a e).2

    hit_of : (d : Done N) (a : Act K N) → named keys d ≡ Some a → is_hit a ≡ hit d
    hit_of (done.Looked key need again Hit) a e = (of_look is_hit key need again Hit a e).1
    hit_of (done.Looked key need again (Joined owner)) a e = (of_look is_hit key need again (Joined owner) a e).1
    hit_of (done.Looked key need again Owned) a e = (of_look is_hit key need again Owned a e).1
    hit_of (done.Finished key n stored) a e = (of_end is_hit key n stored a e).1
    hit_of (done.GaveUp key) a e = (of_none is_hit key a e).1
    hit_of (done.Listed most ns) a e = ap is_hit (mapped (Listed most) (all_named keys ns.items) a e).2

    kept_of : (keeps : N → Bool) (d : Done N) (a : Act K N) → named keys d ≡ Some a → is_store keeps a ≡ kept keeps d
    kept_of keeps (done.Looked key need again told) a e = (of_look (is_store keeps) key need again told a e).1
    kept_of keeps (done.Finished key n stored) a e = (of_end (is_store keeps) key n stored a e).1
    kept_of keeps (done.GaveUp key) a e = (of_none (is_store keeps) key a e).1
    kept_of keeps (done.Listed most ns) a e = ap (is_store keeps) (mapped (Listed most) (all_named keys ns.items) a e).2

    listed_of : (d : Done N) (a : Act K N) → named keys d ≡ Some a → is_recent a ≡ listed d
    listed_of (done.Looked key need again told) a e = (of_look is_recent key need again told a e).1
    listed_of (done.Finished key n stored) a e = (of_end is_recent key n stored a e).1
    listed_of (done.GaveUp key) a e = (of_none is_recent key a e).1
    listed_of (done.Listed most ns) a e = ap is_recent (mapped (Listed most) (all_named keys ns.items) a e).2

    many_of : (d : Done N) (a : Act K N) → named keys d ≡ Some a → keys_given a ≡ many_listed d
    many_of (done.Looked key need again told) a e = (of_look keys_given key need again told a e).1
    many_of (done.Finished key n stored) a e = (of_end keys_given key n stored a e).1
    many_of (done.GaveUp key) a e = (of_none keys_given key a e).1
    many_of (done.Listed most ns) a e =
        let m = mapped (Listed most) (all_named keys ns.items) a e in
        ap keys_given m.2 ∙ named_length ns.items m.0 m.1

    -- a sum over calls is that over their records
    module _ (f : Act K N → ℕ) (g : Done N → ℕ) (same : (d : Done N) (a : Act K N) → named keys d ≡ Some a → f a ≡ g d) where
      same_step : (r : Record N) (s : Step K N) → step_of keys r ≡ Some s → f s.act ≡ g r.done
      same_step r s e =
          let m = mapped (λ (act : Act K N). record { seat = r.seat; act = act }) (named keys r.done) s e in
          ap (λ (t : Step K N). f t.act) m.2 ∙ same r.done m.0 m.1

      from : (a : ℕ) (rs : List (Record N)) → AllNamed keys rs → fold (λ b s. b + f s.act) a (steps_of keys rs) ≡ fold (λ b r. b + g r.done) a rs
      from a [] all = refl
      from a (r ∷ rs) all = by (step_of keys r) refl (from (a + g r.done) rs all.1)
        where
          by : (o : Option (Step K N)) → step_of keys r ≡ o → fold (λ b s. b + f s.act) (a + g r.done) (steps_of keys rs) ≡ fold (λ b r. b + g r.done) (a + g r.done) rs
              → fold (λ b s. b + f s.act) a (steps_of keys (r ∷ rs)) ≡ fold (λ b r. b + g r.done) a (r ∷ rs)
          by None q rest = absurd (true≢false (sym (subst IsSome q all.0)))
          by (Some s) q rest =
              ap (λ o. fold (λ b s. b + f s.act) a (cons_option o (steps_of keys rs))) q
              ∙ ap (λ n. fold (λ b s. b + f s.act) (a + n) (steps_of keys rs)) (same_step r s q)
              ∙ rest

      pub sum_of : (rs : List (Record N)) → AllNamed keys rs → sum_by (λ s. f s.act) (steps_of keys rs) ≡ sum_by (λ r. g r.done) rs
      sum_of rs all = from 0 rs all

    module _ (p : Act K N → Bool) (q : Done N → Bool) (same : (d : Done N) (a : Act K N) → named keys d ≡ Some a → p a ≡ q d) where
      count_of : (rs : List (Record N)) → AllNamed keys rs → calls_as p (steps_of keys rs) ≡ count_by (λ r. q r.done) rs
      count_of rs all = sum_of (λ a. cond (p a) 1 0) (λ d. cond (q d) 1 0) (λ d a e. ap (λ b. cond b 1 0) (same d a e)) rs all

    pub firsts : (rs : List (Record N)) → AllNamed keys rs → calls_as is_first_look (steps_of keys rs) ≡ count_by (λ r. looked_first r.done) rs
    firsts rs all = count_of is_first_look looked_first first_of rs all

    pub hits : (rs : List (Record N)) → AllNamed keys rs → calls_as is_hit (steps_of keys rs) ≡ count_by (λ r. hit r.done) rs
    hits rs all = count_of is_hit hit hit_of rs all

    pub stores : (keeps : N → Bool) (rs : List (Record N)) → AllNamed keys rs → calls_as (is_store keeps) (steps_of keys rs) ≡ count_by (λ r. kept keeps r.done) rs
    stores keeps rs all = count_of (is_store keeps) (kept keeps) (kept_of keeps) rs all

    pub lists : (rs : List (Record N)) → AllNamed keys rs → calls_as is_recent (steps_of keys rs) ≡ count_by (λ r. listed r.done) rs
    lists rs all = count_of is_recent listed listed_of rs all

    pub keys_of : (rs : List (Record N)) → AllNamed keys rs → sum_by (λ s. keys_given s.act) (steps_of keys rs) ≡ sum_by (λ r. many_listed r.done) rs
    keys_of rs all = sum_of keys_given many_listed many_of rs all
