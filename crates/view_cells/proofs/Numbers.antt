-- Facts about lists of entries by the seats' numbers.
use Rattle.std.proofs.Common.{◌≡◌, ◌≢◌, ◌⊎◌, ℕ, zero, suc, ◌+◌, ◌<◌, ◌≤◌, Bool, true, false, true≢false, eq-eqb, ne_eqb, List, [], ◌∷◌, ◌++◌, sym, refl, ap, ◌∙◌, inl, inr, ⊎_elim, arith}
use mathlib.Core.Logic.{dite}
use native.Mathlib.Decide.{ℕ_discrete}
use Rattle.std.specs.Prelude.{◌||◌, if◌then◌else◌}
use Rattle.view_cells.specs.declared.board.Listing.{Listing}
use Rattle.view_cells.specs.Lists.{names, AreDistinct, entries_of, first_number, first_alone, others, blank}

-- a test holds or it doesn't
pub holds_or_not : (b : Bool) → (b ≡ true) ⊎ (b ≡ false)
holds_or_not true = inl refl
holds_or_not false = inr refl

module _ {E : Type 0} where
  pub names_cons : (n : ℕ) (l : Listing E) (ls : List (Listing E)) → names n (l ∷ ls) ≡ true → (l.number ≡ n) ⊎ (names n ls ≡ true)
  names_cons n l ls has = dite (ℕ_discrete l.number n) (λ e. inl e) (λ ne. inr (sym (ap (λ b. b || names n ls) (ne_eqb l.number n ne)) ∙ has))

  pub names_here : (n : ℕ) (l : Listing E) (ls : List (Listing E)) → l.number ≡ n → names n (l ∷ ls) ≡ true
  names_here n l ls e = ap (λ b. b || names n ls) (eq-eqb l.number n e)

  pub names_there : (n : ℕ) (l : Listing E) (ls : List (Listing E)) → names n ls ≡ true → names n (l ∷ ls) ≡ true
  names_there n l ls has = dite (ℕ_discrete l.number n) (λ e. names_here n l ls e) (λ ne. ap (λ b. b || names n ls) (ne_eqb l.number n ne) ∙ has)

  pub entries_here : (n : ℕ) (l : Listing E) (ls : List (Listing E)) → l.number ≡ n → entries_of n (l ∷ ls) ≡ l.entries
  entries_here n l ls e = ap (λ b. if b then l.entries else entries_of n ls) (eq-eqb l.number n e)

  pub entries_there : (n : ℕ) (l : Listing E) (ls : List (Listing E)) → l.number ≢ n → entries_of n (l ∷ ls) ≡ entries_of n ls
  entries_there n l ls ne = ap (λ b. if b then l.entries else entries_of n ls) (ne_eqb l.number n ne)

  -- two lists of lists, one after the other
  pub names_append : (n : ℕ) (xs ys : List (Listing E)) → names n (xs ++ ys) ≡ true → (names n xs ≡ true) ⊎ (names n ys ≡ true)
  names_append n [] ys has = inr has
  names_append n (x ∷ xs) ys has = ⊎_elim (λ e. inl (names_here n x xs e)) (λ h. ⊎_elim (λ a. inl (names_there n x xs a)) (λ b. inr b) (names_append n xs ys h)) (names_cons n x (xs ++ ys) has)

  pub entries_left : (n : ℕ) (xs ys : List (Listing E)) → names n xs ≡ true → entries_of n (xs ++ ys) ≡ entries_of n xs
  entries_left n [] ys has = absurd (true≢false (sym has))
  entries_left n (x ∷ xs) ys has = dite (ℕ_discrete x.number n)
      (λ e. entries_here n x (xs ++ ys) e ∙ sym (entries_here n x xs e))
      (λ ne. entries_there n x (xs ++ ys) ne ∙ entries_left n xs ys (⊎_elim (λ e. absurd (ne e)) (λ h. h) (names_cons n x xs has)) ∙ sym (entries_there n x xs ne))

  pub entries_right : (n : ℕ) (xs ys : List (Listing E)) → names n xs ≡ false → entries_of n (xs ++ ys) ≡ entries_of n ys
  entries_right n [] ys not = refl
  entries_right n (x ∷ xs) ys not =
      let ne : x.number ≢ n = λ e. true≢false (sym (names_here n x xs e) ∙ not) in
      let less : names n xs ≡ false = ⊎_elim (λ h. absurd (true≢false (sym (names_there n x xs h) ∙ not))) (λ h. h) (holds_or_not (names n xs)) in
      entries_there n x (xs ++ ys) ne ∙ entries_right n xs ys less

  -- a first list and those behind it, none of which is the first seat's
  pub first_names : (n : ℕ) (ls : List (Listing E)) → names n (first_alone ls) ≡ true → (first_number ls ≡ n) × (names n ls ≡ true) × (entries_of n ls ≡ entries_of n (first_alone ls))
  first_names n [] has = absurd (true≢false (sym has))
  first_names n (l ∷ ls) has = ⊎_elim (λ e. (e, names_here n l ls e, entries_here n l ls e ∙ sym (entries_here n l [] e))) (λ h. absurd (true≢false (sym h))) (names_cons n l [] has)

  pub others_names : (n : ℕ) (ls : List (Listing E)) → names (first_number ls) (others ls) ≡ false → names n (others ls) ≡ true → (names n ls ≡ true) × (entries_of n ls ≡ entries_of n (others ls))
  others_names n [] alone has = absurd (true≢false (sym has))
  others_names n (l ∷ ls) alone has =
      (names_there n l ls has, entries_there n l ls (λ e. true≢false (sym has ∙ ap (λ m. names m ls) (sym e) ∙ alone)))

  pub named_left : (n : ℕ) (xs ys : List (Listing E)) → names n xs ≡ true → names n (xs ++ ys) ≡ true
  named_left n [] ys has = absurd (true≢false (sym has))
  named_left n (x ∷ xs) ys has = ⊎_elim (λ e. names_here n x (xs ++ ys) e) (λ h. names_there n x (xs ++ ys) (named_left n xs ys h)) (names_cons n x xs has)

  pub named_right : (n : ℕ) (xs ys : List (Listing E)) → names n ys ≡ true → names n (xs ++ ys) ≡ true
  named_right n [] ys has = has
  named_right n (x ∷ xs) ys has = names_there n x (xs ++ ys) (named_right n xs ys has)

  -- no number stands twice in two lists of lists, where no number stands in both
  pub distinct_append : (xs ys : List (Listing E)) → AreDistinct xs → AreDistinct ys → ((n : ℕ) → names n xs ≡ true → names n ys ≡ false) → AreDistinct (xs ++ ys)
  distinct_append [] ys dx dy apart = dy
  distinct_append (x ∷ xs) ys dx dy apart =
      let none : names x.number (xs ++ ys) ≡ false = ⊎_elim
      (λ h. ⊎_elim (λ a. absurd (true≢false (sym a ∙ dx.0))) (λ b. absurd (true≢false (sym b ∙ apart x.number (names_here x.number x xs refl)))) (names_append x.number xs ys h))
      (λ f. f) (holds_or_not (names x.number (xs ++ ys))) in
      (none, distinct_append xs ys dx.1 dy (λ n h. apart n (names_there n x xs h)))

  pub distinct_left : (xs ys : List (Listing E)) → AreDistinct (xs ++ ys) → AreDistinct xs
  distinct_left [] ys d = tt
  distinct_left (x ∷ xs) ys d =
      (⊎_elim (λ h. absurd (true≢false (sym (named_left x.number xs ys h) ∙ d.0))) (λ f. f) (holds_or_not (names x.number xs)), distinct_left xs ys d.1)

  pub distinct_apart : (n : ℕ) (xs ys : List (Listing E)) → AreDistinct (xs ++ ys) → names n ys ≡ true → names n xs ≡ false
  distinct_apart n [] ys d has = refl
  distinct_apart n (x ∷ xs) ys d has = ⊎_elim
      (λ h. ⊎_elim
      (λ e. absurd (true≢false (sym (named_right n xs ys has) ∙ ap (λ m. names m (xs ++ ys)) (sym e) ∙ d.0)))
      (λ a. absurd (true≢false (sym a ∙ distinct_apart n xs ys d.1 has)))
      (names_cons n x xs h))
      (λ f. f) (holds_or_not (names n (x ∷ xs)))

  pub distinct_first : (ls : List (Listing E)) → AreDistinct (first_alone ls)
  distinct_first [] = tt
  distinct_first (l ∷ ls) = (refl, tt)

  pub distinct_others : (ls : List (Listing E)) → AreDistinct ls → AreDistinct (others ls)
  distinct_others [] d = tt
  distinct_others (l ∷ ls) d = d.1

  pub blank_entries : (n first count : ℕ) → entries_of {E = E} n (blank first count) ≡ []
  blank_entries n first zero = refl
  blank_entries n first (suc count) = dite (ℕ_discrete first n) (λ e. entries_here n (record { number = first; entries = [] }) (blank (first + 1) count) e)
      (λ ne. entries_there n (record { number = first; entries = [] }) (blank (first + 1) count) ne ∙ blank_entries n (first + 1) count)

-- empty lists have the numbers that they were made for
pub blank_names : (E : Type 0) (n first count : ℕ) → names {E = E} n (blank first count) ≡ true → (first ≤ n) × (n < first + count)
blank_names E n first zero has = absurd (true≢false (sym has))
blank_names E n first (suc count) has = ⊎_elim (λ (e : first ≡ n). (omega arith, omega arith)) (λ h. let t = blank_names E n (first + 1) count h in (omega arith, omega arith))
    (names_cons n (record { number = first; entries = [] }) (blank (first + 1) count) has)

pub blank_alone : (E : Type 0) (first count : ℕ) → names {E = E} first (blank (first + 1) count) ≡ false
blank_alone E first count = ⊎_elim (λ h. let t = blank_names E first (first + 1) count h in absurd (omega arith)) (λ h. h) (holds_or_not (names {E = E} first (blank (first + 1) count)))

pub blank_distinct : (E : Type 0) (first count : ℕ) → AreDistinct {E = E} (blank first count)
blank_distinct E first zero = tt
blank_distinct E first (suc count) = (blank_alone E first count, blank_distinct E (first + 1) count)

pub blank_first : (E : Type 0) (first count : ℕ) → 1 ≤ count → (first_number (blank {E = E} first count) ≡ first) × (names first (blank {E = E} first count) ≡ true)
blank_first E first zero some = absurd (omega arith)
blank_first E first (suc count) some = (refl, names_here first (record { number = first; entries = [] }) (blank (first + 1) count) refl)
