-- What holds of each entry of a history that is written out, by its index.
use Rattle.std.proofs.Common.{◌≡◌, ℕ, zero, suc, ◌+◌, ◌<◌, List, [], ◌∷◌, take, true, count_by, Some, IsSome, refl, subst, arith, slice_get}
use Rattle.std.proofs.lemmas.Option.{same_Some, none-some}
use Rattle.search_model.specs.Live.{live}
use Rattle.registry_machine.specs.declared.entry.Entry.{Entry}
use Rattle.registry_machine.specs.declared.entry.Entry.TheVariants.{Open}
use Rattle.registry_machine.specs.Entries.{caller_of, has_place, acquires}
use Rattle.registry_machine.specs.Places.{Stands}
use Rattle.run_history.specs.Tellings.{Reading, Telling, Life, tells_at, warmed_at}
use Rattle.run_history.specs.Agreement.{changes, CarryViews}

-- P holds of each element and its index, where these are counted from k on
abbrev pub EachAt : {A : Type 0} → (ℕ → A → Type 0) → ℕ → List A → Type 0
EachAt P k [] = Unit {0}
EachAt P k (x ∷ xs) = P k x × EachAt P (k + 1) xs

pub each_at : {A : Type 0} (P : ℕ → A → Type 0) (k : ℕ) (xs : List A) → EachAt P k xs → (i : ℕ) (x : A) → slice_get xs i ≡ Some x → P (k + i) x
each_at P k [] h i x at = absurd (none-some x at)
each_at P k (y ∷ ys) h zero x at = let z : k ≡ k + 0 = omega arith in subst (λ n. P n x) z (subst (P k) (same_Some y x at) h.0)
each_at P k (y ∷ ys) h (suc i) x at = let z : k + 1 + i ≡ k + suc i = omega arith in subst (λ n. P n x) z (each_at P (k + 1) ys h.1 i x at)

pub each_from_0 : {A : Type 0} (P : ℕ → A → Type 0) (xs : List A) → EachAt P 0 xs → (n : ℕ) (x : A) → slice_get xs n ≡ Some x → P n x
each_from_0 P xs h n x at = let z : 0 + n ≡ n = omega arith in subst (λ m. P m x) z (each_at P 0 xs h n x at)

module _ {U D L : Type 0} where
  -- one row tells the entry, where it has a place and names a caller and isn't the first
  abbrev pub IsPlacedOnce : List Telling → ℕ → Entry U D L → Type 0
  IsPlacedOnce ts n e = has_place e ≡ true → IsSome (caller_of e) → 0 < n → count_by (tells_at n) ts ≡ 1

  -- one row or warming tells it, where it is an acquire
  abbrev pub IsAcquiredOnce : List Telling → List Life → ℕ → Entry U D L → Type 0
  IsAcquiredOnce ts lives n e = (pin : ℕ × ℕ) → acquires e ≡ Some pin → count_by (tells_at n) ts + count_by (warmed_at n) lives ≡ 1

  -- it carries the documents that those before it leave, where it is an opening
  abbrev pub CarriesView : Reading U D → List (Entry U D L) → ℕ → Entry U D L → Type 0
  CarriesView r whole n e = (caller : ℕ) (u : U) (g slot : ℕ) (d : D) → e ≡ Open caller u g slot d → r.docs d ≡ live (changes r (take n whole))

  pub acquired_by : (ts : List Telling) (lives : List Life) (h : List (Entry U D L)) → EachAt (IsAcquiredOnce ts lives) 0 h → (n g k : ℕ) → Stands acquires h n (g, k) → count_by (tells_at n) ts + count_by (warmed_at n) lives ≡ 1
  acquired_by ts lives h each n g k a = each_from_0 (IsAcquiredOnce ts lives) h each n a.entry a.at (g, k) a.told

  pub views_by : (r : Reading U D) (h : List (Entry U D L)) → EachAt (CarriesView r h) 0 h → CarryViews r h
  views_by r h each n b u g s d at = each_from_0 (CarriesView r h) h each n (Open b u g s d) at b u g s d refl
