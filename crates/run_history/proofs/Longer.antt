-- What was so in a history is so in a longer one.
use Rattle.std.proofs.Common.{◌≡◌, ◌⊎◌, ℕ, zero, suc, ◌+◌, ◌<◌, ◌≤◌, List, [], ◌∷◌, ◌++◌, length, Option, Some, ap, ◌∙◌, inl, inr, arith, slice_get}
use Rattle.std.proofs.lemmas.List.{take-append-le}
use Rattle.std.proofs.lemmas.Option.{slice_get_within}
use Rattle.registry_machine.specs.declared.entry.Entry.{Entry}
use Rattle.registry_machine.specs.Entries.{has_place}
use Rattle.registry_machine.specs.Places.{rank, Stands}

module _ {A : Type 0} where
  pub get_left : (h more : List A) (n : ℕ) (e : A) → slice_get h n ≡ Some e → slice_get (h ++ more) n ≡ Some e
  get_left [] more n e at = absurd (grind arith)
  get_left (x ∷ h) more zero e at = at
  get_left (x ∷ h) more (suc n) e at = get_left h more n e at

  pub get_right : (h more : List A) (i : ℕ) → slice_get (h ++ more) (length h + i) ≡ slice_get more i
  get_right [] more i = ap (slice_get more) (omega arith)
  get_right (x ∷ h) more i = let e : suc (length h) + i ≡ suc (length h + i) = omega arith in ap (slice_get (x ∷ h ++ more)) e ∙ get_right h more i

  pub get_cases : (h more : List A) (n : ℕ) (e : A) → slice_get (h ++ more) n ≡ Some e → (slice_get h n ≡ Some e) ⊎ ((i : ℕ) × (n ≡ length h + i) × (slice_get more i ≡ Some e))
  get_cases [] more n e at = inr (n, omega arith, at)
  get_cases (x ∷ h) more zero e at = inl at
  get_cases (x ∷ h) more (suc n) e at = out (get_cases h more n e at)
    where
      out : (slice_get h n ≡ Some e) ⊎ ((i : ℕ) × (n ≡ length h + i) × (slice_get more i ≡ Some e)) → (slice_get h n ≡ Some e) ⊎ ((i : ℕ) × (suc n ≡ suc (length h) + i) × (slice_get more i ≡ Some e))
      out (inl k) = inl k
      out (inr k) = inr (k.0, omega (arith, k.1), k.2)

module _ {U D L : Type 0} where
  pub rank_left : (h more : List (Entry U D L)) (n : ℕ) → n ≤ length h → rank (h ++ more) n ≡ rank h n
  rank_left h more n le = ap (Rattle.std.specs.List.count_by has_place) (take-append-le n h more le)

  pub stands_left : {X : Type 0} (tells : Entry U D L → Option X) (h more : List (Entry U D L)) (n : ℕ) (x : X) → Stands tells h n x → Stands tells (h ++ more) n x
  stands_left tells h more n x k = record { entry = k.entry; at = get_left h more n k.entry k.at; told = k.told }

  pub stands_cases : {X : Type 0} (tells : Entry U D L → Option X) (h more : List (Entry U D L)) (n : ℕ) (x : X) → Stands tells (h ++ more) n x → Stands tells h n x ⊎ ((i : ℕ) × (n ≡ length h + i) × Stands tells more i x)
  stands_cases {X = X} tells h more n x k = out (get_cases h more n k.entry k.at)
    where
      out : (slice_get h n ≡ Some k.entry) ⊎ ((i : ℕ) × (n ≡ length h + i) × (slice_get more i ≡ Some k.entry)) → Stands tells h n x ⊎ ((i : ℕ) × (n ≡ length h + i) × Stands tells more i x)
      out (inl a) = inl (record { entry = k.entry; at = a; told = k.told })
      out (inr a) = inr (a.0, a.1, record { entry = k.entry; at = a.2; told = k.told })

  pub stands_right : {X : Type 0} (tells : Entry U D L → Option X) (h more : List (Entry U D L)) (i : ℕ) (x : X) → Stands tells more i x → Stands tells (h ++ more) (length h + i) x
  stands_right tells h more i x k = record { entry = k.entry; at = get_right h more i ∙ k.at; told = k.told }

  pub stands_within : {X : Type 0} (tells : Entry U D L → Option X) (h : List (Entry U D L)) (n : ℕ) (x : X) → Stands tells h n x → n < length h
  stands_within tells h n x k = slice_get_within h n k.entry k.at
