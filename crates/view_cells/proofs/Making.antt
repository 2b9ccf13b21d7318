-- The seats of a new table, split off one after the other.
use Rattle.std.proofs.Common.{◌≡◌, ◌⊎◌, ℕ, zero, suc, ◌+◌, ◌-◌, ◌<◌, true, false, List, [], ◌∷◌, ◌++◌, length, sym, refl, ap, ◌∙◌, subst, inl, inr, ⊎_elim, arith, length-append, Some, None}
use Rattle.std.specs.Prelude.{slice_get}
use Rattle.view_cells.specs.declared.board.Listing.{Listing}
use Rattle.view_cells.specs.declared.seat.Seat.{Seat}
use Rattle.view_cells.specs.Lists.{names, first_number, first_alone, others, blank}
use Rattle.view_cells.specs.Seats.{table_of, IsNew, AreSeats}
use Rattle.view_cells.specs.Making.{IsLast, AreFirst}
use Rattle.view_cells.proofs.Numbers.{names_here, blank_alone}

-- the lists of all seats from n on, cut behind the first
pub record IsCut (E : Type 0) (n next count : ℕ) (ls : List (Listing E)) : Type 0 where
  pub first : first_number ls ≡ n
  pub alone : first_alone ls ≡ record { number = n; entries = [] } ∷ []
  pub rest : others ls ≡ blank next (count - next)
  pub apart : names n (others ls) ≡ false
  pub second : first_number (others ls) ≡ next
  pub named : names next (others ls) ≡ true

pub cut : (E : Type 0) (n next count : ℕ) (ls : List (Listing E)) → next ≡ n + 1 → next < count → ls ≡ blank n (count - n) → IsCut E n next count ls
cut E n next count ls is more e =
    let m : ℕ = count - next - 1 in
    let two : count - n ≡ suc (suc m) = omega arith in
    let all : ls ≡ blank n (suc (suc m)) = e ∙ ap (λ (k : ℕ). blank n k) two in
    let one : count - next ≡ suc m = omega arith in
    let behind : others ls ≡ blank (n + 1) (suc m) = ap others all in
    let second : first_number (others ls) ≡ next = ap first_number behind ∙ sym is in
    record {
      first = ap first_number all;
      alone = ap first_alone all;
      rest = behind ∙ (λ i. blank (sym is i) (sym one i));
      apart = ap (names n) behind ∙ blank_alone E n (suc m);
      second = second;
      named = ap (names next) behind ∙ names_here next (record { number = n + 1; entries = [] }) (blank (n + 1 + 1) m) (sym is);
    }

-- the only list of the last seat
pub lone : (E : Type 0) (n count : ℕ) → count ≡ n + 1 → blank {E = E} n (count - n) ≡ record { number = n; entries = [] } ∷ []
lone E n count e = let one : count - n ≡ suc zero = omega arith in ap (λ (k : ℕ). blank n k) one

got_snoc : {A : Type 0} (xs : List A) (a x : A) (i : ℕ) → slice_get (xs ++ a ∷ []) i ≡ Some x → (slice_get xs i ≡ Some x) ⊎ ((i ≡ length xs) × (a ≡ x))
got_snoc [] a x zero e = inr (refl, (let p : Some a ≡ Some x = e in cc))
got_snoc [] a x (suc i) e = let p : None ≡ Some x = e in absurd (cc)
got_snoc (y ∷ ys) a x zero e = inl e
got_snoc (y ∷ ys) a x (suc i) e = ⊎_elim (λ s. inl s) (λ s. inr (ap suc s.0, s.1)) (got_snoc ys a x i e)

module _ {T W E : Type 0} (view : W) (count : ℕ) where
  -- one seat more
  pub one_more : (seats : List (Seat T W E)) (was last next : Seat T W E) → AreFirst view count seats was → IsNew view count (length seats) (record { number = length seats; entries = [] } ∷ []) last
      → table_of last ≡ table_of was → table_of next ≡ table_of was → IsLast view count (length seats + 1) next → AreFirst view count (seats ++ last ∷ []) next
  one_more seats was last next made new same same' rest = record {
    each = λ i s e. ⊎_elim
        (λ old. let m = made.each i s old in (m.0, m.1 ∙ sym same'))
        (λ (it : (i ≡ length seats) × (last ≡ s)). subst (λ (p : ℕ × Seat T W E). IsNew view count p.0 (record { number = p.0; entries = [] } ∷ []) p.1 × (table_of p.1 ≡ table_of next))
        (λ t. (sym it.0 t, it.1 t)) (new, same ∙ sym same'))
        (got_snoc seats last s i e);
    last = subst (λ (n : ℕ). IsLast view count n next) (let l = length-append seats (last ∷ []) in omega arith) rest;
  }

  -- all seats
  pub all_made : (seats : List (Seat T W E)) (last : Seat T W E) → AreFirst view count seats last → count ≡ length seats + 1 → AreSeats view count (seats ++ last ∷ [])
  all_made seats last made full =
      let n : ℕ = length seats in
      let l = made.last in
      let new : IsNew view count n (record { number = n; entries = [] } ∷ []) last = record { view = l.view; count = l.count; number = l.number; lists = l.lists ∙ lone E n count full; idle = l.idle; tries = l.tries } in
      let P : ℕ → Seat T W E → Type 0 = λ i s. IsNew view count i (record { number = i; entries = [] } ∷ []) s × (table_of s ≡ table_of last) in
      let all : (i : ℕ) (s : Seat T W E) → slice_get (seats ++ last ∷ []) i ≡ Some s → P i s = λ i s e. ⊎_elim (λ old. made.each i s old)
      (λ (it : (i ≡ n) × (last ≡ s)). subst (λ (p : ℕ × Seat T W E). P p.0 p.1) (λ t. (sym it.0 t, it.1 t)) (new, refl)) (got_snoc seats last s i e) in
      record {
        each = λ i s e. (all i s e).0;
        one_table = λ i j s t e f. (all i s e).1 ∙ sym (all j t f).1;
      }
