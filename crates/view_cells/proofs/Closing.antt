-- Joining all seats of a table.
use Rattle.std.proofs.Common.{◌≡◌, ℕ, zero, suc, ◌+◌, ◌<◌, false, List, [], ◌∷◌, ◌++◌, length, Some, None, sym, refl, ap, ◌∙◌, subst, arith, length-append}
use mathlib.Core.Logic.{dite}
use native.Mathlib.Decide.{ℕ_discrete}
use Rattle.std.specs.Prelude.{slice_get}
use Rattle.std.proofs.lemmas.Option.{slice_get_within, same_Some}
use Rattle.view_cells.specs.declared.board.Listing.{Listing}
use Rattle.view_cells.specs.declared.seat.Seat.{Seat}
use Rattle.view_cells.specs.Lists.{names, AreDistinct, entries_of}
use Rattle.view_cells.specs.Seats.{table_of, view_of, lists_of, list_of, own_list, HasNumber, IsIdle, HasJoined, KeepsLists}
use Rattle.view_cells.specs.Closing.{AllIdle, AreLeft, FitsAll, KeepsEach}
use Rattle.view_cells.proofs.Numbers.{named_left, named_right, entries_left, entries_right, distinct_left, distinct_apart}

pub got_last : {A : Type 0} (xs : List A) (x : A) → slice_get (xs ++ x ∷ []) (length xs) ≡ Some x
got_last [] x = refl
got_last (y ∷ ys) x = got_last ys x

pub got_before : {A : Type 0} (xs ys : List A) (i : ℕ) (x : A) → slice_get xs i ≡ Some x → slice_get (xs ++ ys) i ≡ Some x
got_before [] ys i x e = let p : None ≡ Some x = e in absurd (cc)
got_before (y ∷ xs) ys zero x e = e
got_before (y ∷ xs) ys (suc i) x e = got_before xs ys i x e

pub none_left : (n : ℕ) → (0 < n → ⊥) → n ≡ 0
none_left zero off = refl
none_left (suc n) off = absurd (off (omega arith))

module _ {T W E : Type 0} where
  -- a seat has its own number
  own_number : (s : Seat T W E) (n : ℕ) → s.number ≡ n → HasNumber s n
  own_number s n e = ap (λ k. names k (lists_of s)) (sym e) ∙ s.named

  -- the last seat, and those before it
  pub last_of : (all xs : List (Seat T W E)) (last : Seat T W E) → all ≡ xs ++ last ∷ [] → AllIdle all → AreLeft all xs last
  last_of all xs last is row =
      let n : ℕ = length xs in
      let long : length all ≡ n + 1 = ap length is ∙ length-append xs (last ∷ []) in
      let here : slice_get all n ≡ Some last = ap (λ (l : List (Seat T W E)). slice_get l n) is ∙ got_last xs last in
      let l = row.each n last here in
      record {
        row = row;
        front = λ i s e. ap (λ (k : List (Seat T W E)). slice_get k i) is ∙ got_before xs (last ∷ []) i s e;
        at = λ i s e. row.together i n s last e here;
        idle = l.idle;
        count = l.count;
        joined = λ m some few. own_number last m (let k = l.number in omega arith);
        lists = λ _ m s some e.
            let same : m ≡ n = (let w = slice_get_within all m s e in omega arith) in
            let seat : last ≡ s = same_Some last s (sym here ∙ ap (slice_get all) (sym same) ∙ e) in
            ap (λ k. list_of last k) (same ∙ sym l.number) ∙ ap (λ (t : Seat T W E). own_list t) seat;
      }

  -- one seat less is left, which was joined into the one
  pub one_less : (all left xs : List (Seat T W E)) (one other t : Seat T W E) → left ≡ xs ++ other ∷ [] → AreLeft all left one → HasJoined one other t → AreLeft all xs t
  one_less all left xs one other t is old joined =
      let n : ℕ = length xs in
      let long : length left ≡ n + 1 = ap length is ∙ length-append xs (other ∷ []) in
      let here : slice_get all n ≡ Some other = old.front n other (ap (λ (l : List (Seat T W E)). slice_get l n) is ∙ got_last xs other) in
      let o = old.row.each n other here in
      let has : (m : ℕ) → HasNumber one m → HasNumber t m = λ m h. ap (λ (ls : List (Listing E)). names m ls) joined.lists ∙ named_left m (lists_of one) (lists_of other) h in
      record {
        row = old.row;
        front = λ i s e. old.front i s (ap (λ (k : List (Seat T W E)). slice_get k i) is ∙ got_before xs (other ∷ []) i s e);
        at = λ i s e. let w = old.at i s e in record { table = w.table ∙ sym joined.seat.table; view = w.view ∙ sym joined.seat.view };
        idle = joined.idle;
        count = joined.seat.count ∙ old.count;
        joined = λ m some few. dite (ℕ_discrete m n)
            (λ e. ap (λ (ls : List (Listing E)). names m ls) joined.lists ∙ named_right m (lists_of one) (lists_of other) (own_number other m (o.number ∙ sym e)))
            (λ ne. has m (old.joined m (omega arith) few));
        lists = λ distinct m s some e. let apart : AreDistinct (lists_of one ++ lists_of other) = subst AreDistinct joined.lists distinct in ap (λ (ls : List (Listing E)). entries_of m ls) joined.lists ∙ dite (ℕ_discrete m n)
            (λ same.
            let absent : names m (lists_of one) ≡ false = distinct_apart m (lists_of one) (lists_of other) apart (own_number other m (o.number ∙ sym same)) in
            let seat : other ≡ s = same_Some other s (sym here ∙ ap (slice_get all) (sym same) ∙ e) in
            entries_right m (lists_of one) (lists_of other) absent ∙ ap (λ k. list_of other k) (same ∙ sym o.number) ∙ ap (λ (u : Seat T W E). own_list u) seat)
            (λ ne. entries_left m (lists_of one) (lists_of other) (old.joined m (omega arith) (slice_get_within all m s e)) ∙ old.lists (distinct_left (lists_of one) (lists_of other) apart) m s (omega arith) e);
      }

  -- the seat behind those that are left is at the table, and holds nothing
  pub next_left : (all left xs : List (Seat T W E)) (one other : Seat T W E) → left ≡ xs ++ other ∷ [] → AreLeft all left one → IsIdle other × (table_of other ≡ table_of one)
  next_left all left xs one other is old =
      let n : ℕ = length xs in
      let here : slice_get all n ≡ Some other = old.front n other (ap (λ (l : List (Seat T W E)). slice_get l n) is ∙ got_last xs other) in
      ((old.row.each n other here).idle, (old.at n other here).table)

  pub fits_left : (fit : W → T → Type 0) (all left : List (Seat T W E)) (one : Seat T W E) (value : T) → AreLeft all left one → fit (view_of one) value → FitsAll fit all value
  fits_left fit all left one value old fits i s e = subst (λ w. fit w value) (sym (old.at i s e).view) fits

  pub keeps_left : (entries : T → ℕ → List E) (all left : List (Seat T W E)) (one : Seat T W E) (value : T) → length left ≡ 0 → AreLeft all left one → KeepsLists entries one value → AreDistinct (lists_of one) → KeepsEach entries all value
  keeps_left entries all left one value none old keeps distinct i s e = keeps i (let w = slice_get_within all i s e in let c = old.count in omega arith) ∙ old.lists distinct i s (omega arith) e
