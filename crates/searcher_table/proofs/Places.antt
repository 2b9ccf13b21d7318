-- How many entries of a history have a place.
use Rattle.std.proofs.Common.{◌≡◌, ℕ, ◌+◌, List, [], ◌∷◌, ◌++◌, Bool, true, false, cond, count_by, refl, ap, arith}
use Rattle.std.specs.List.{AllByRecursion}
use Rattle.std.proofs.lemmas.List.Sums.{sum_by-append, sum_by-cons}
use Rattle.registry_machine.specs.declared.entry.Entry.{Entry}
use Rattle.registry_machine.specs.Entries.{has_place}
use Rattle.searcher_table.specs.Views.{HasNoPlaceSince}

module _ {A : Type 0} (q : A → Bool) where
  pub count_first : (x : A) (xs : List A) → count_by q (x ∷ xs) ≡ cond (q x) 1 0 + count_by q xs
  count_first x xs = sum_by-cons (λ y. cond (q y) 1 0) x xs

  pub counts_joined : (xs ys : List A) → count_by q (xs ++ ys) ≡ count_by q xs + count_by q ys
  counts_joined xs ys = sum_by-append (λ y. cond (q y) 1 0) xs ys

  pub counts_none : (xs : List A) → AllByRecursion (λ x. q x ≡ false) xs → count_by q xs ≡ 0
  counts_none [] all = refl
  counts_none (x ∷ xs) all =
      let f = count_first x xs in
      let b : cond {A = ℕ} (q x) 1 0 ≡ 0 = ap (λ t. cond {A = ℕ} t 1 0) all.0 in
      let r = counts_none xs all.1 in
      omega arith

module _ {U X L : Type 0} where
  -- entries without a place don't count
  pub same_places : (log seen : List (Entry U X L)) → HasNoPlaceSince log seen → count_by has_place log ≡ count_by has_place seen
  same_places log seen h =
      let e = ap (count_by has_place) h.grown in
      let f = counts_joined has_place seen h.rest in
      let g = counts_none has_place h.rest h.quiet in
      omega arith

  -- and one with a place counts once
  pub one_place_more : (log : List (Entry U X L)) (e : Entry U X L) → has_place e ≡ true → count_by has_place (log ++ e ∷ []) ≡ count_by has_place log + 1
  one_place_more log e has =
      let f = counts_joined has_place log (e ∷ []) in
      let b : cond {A = ℕ} (has_place e) 1 0 ≡ 1 = ap (λ t. cond {A = ℕ} t 1 0) has in
      let g = count_first has_place e [] in
      omega arith
