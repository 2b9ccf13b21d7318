-- Adding a call to the log.
use Rattle.std.proofs.Common.{◌≡◌, ◌≢◌, ℕ, ◌<◌, Bool, true, false, cond, eq-eqb, ne_eqb, List, [], ◌∷◌, ◌++◌, length, take, Some, sym, refl, ap, ◌∙◌, subst, arith, append-nil, length-append}
use mathlib.Core.Logic.{dite}
use native.Mathlib.Decide.{ℕ_discrete}
use Rattle.std.specs.Prelude.{◌==◌, if◌then◌else◌, slice_get, slice_index_or}
use Rattle.std.proofs.Math.Seq.{take-append_seam}
use Rattle.std.proofs.lemmas.Option.{slice_get_within, get_or_from_slice_get, slice_get-get_or}
use Rattle.view_cells.specs.declared.board.Listing.{Listing}
use Rattle.view_cells.specs.declared.seat.Seat.{Seat}
use Rattle.view_cells.specs.Lists.{names}
use Rattle.view_cells.specs.Seats.{StartsWith, lists_of, IsSole, IsSameSeat, HasJoined, AreSeats}
use Rattle.view_cells.specs.Closing.{AllIdle}
use Rattle.table_rows.specs.SeatTrials.{Adds, EachWorked, IsBelow, done_by, ArePair, Worked}
use Rattle.view_cells.proofs.Closing.{got_last, got_before}
use Rattle.view_cells.proofs.Numbers.{named_left, named_right}

below_one_more : (most : ℕ) (cs : List (ℕ × ℕ)) (c : ℕ × ℕ) → IsBelow most cs → c.1 < most → IsBelow most (cs ++ c ∷ [])
below_one_more most [] c all less = (less, tt)
below_one_more most (x ∷ xs) c all less = (all.0, below_one_more most xs c all.1 less)

done_own : (cs : List (ℕ × ℕ)) (n x : ℕ) → done_by n (cs ++ (n, x) ∷ []) ≡ done_by n cs ++ x ∷ []
done_own [] n x = rw (eq-eqb n n refl) refl
done_own (c ∷ cs) n x = dite (ℕ_discrete c.0 n)
    (λ e. rw (eq-eqb c.0 n e) (ap (λ l. c.1 ∷ l) (done_own cs n x)))
    (λ ne. rw (ne_eqb c.0 n ne) (done_own cs n x))

done_other : (cs : List (ℕ × ℕ)) (n m x : ℕ) → m ≢ n → done_by m (cs ++ (n, x) ∷ []) ≡ done_by m cs
done_other [] n m x other = rw (ne_eqb n m (λ e. other (sym e))) refl
done_other (c ∷ cs) n m x other = ap (λ l. if c.0 == m then c.1 ∷ l else l) (done_other cs n m x other)

pub added_below : (b : Bool) (cs : List (ℕ × ℕ)) (n x : ℕ) (new : List (ℕ × ℕ)) (most : ℕ) → Adds b cs n x new → IsBelow most cs → x < most → IsBelow most new
added_below true cs n x new most e all less = subst (IsBelow most) (sym e) (below_one_more most cs (n, x) all less)
added_below false cs n x new most e all less = subst (IsBelow most) (sym e) all

pub added_other : (b : Bool) (cs : List (ℕ × ℕ)) (n x : ℕ) (new : List (ℕ × ℕ)) (m : ℕ) → Adds b cs n x new → m ≢ n → done_by m new ≡ done_by m cs
added_other true cs n x new m e other = ap (done_by m) e ∙ done_other cs n m x other
added_other false cs n x new m e other = ap (done_by m) e

added_own : (b : Bool) (cs : List (ℕ × ℕ)) (n x : ℕ) (new : List (ℕ × ℕ)) → Adds b cs n x new → done_by n new ≡ cond b (done_by n cs ++ x ∷ []) (done_by n cs)
added_own true cs n x new e = ap (done_by n) e ∙ done_own cs n x
added_own false cs n x new e = ap (done_by n) e

pub goes_on : (b : Bool) (old new : List ℕ) (x : ℕ) → new ≡ cond b (old ++ x ∷ []) old → StartsWith new old
goes_on true old new x e = (x ∷ [], e)
goes_on false old new x e = ([], e ∙ sym (append-nil old))

pub listed : (b : Bool) (cs : List (ℕ × ℕ)) (number n x : ℕ) (new : List (ℕ × ℕ)) (own : List ℕ) → Adds b cs number x new → number ≡ n → done_by n cs ≡ own
    → done_by n new ≡ cond b (own ++ x ∷ []) own
listed b cs number n x new own adds is had =
    ap (λ k. done_by k new) (sym is) ∙ added_own b cs number x new adds ∙ ap (λ k. cond b (done_by k cs ++ x ∷ []) (done_by k cs)) is ∙ ap (λ l. cond b (l ++ x ∷ []) l) had

module _ {T W E : Type 0} where
  -- new seats hold nothing
  new_idle : (view : W) (count : ℕ) (seats : List (Seat T W E)) → AreSeats view count seats → length seats ≡ count → AllIdle seats
  new_idle view count seats new full = record {
    each = λ i s e. let n = new.each i s e in record { idle = n.idle; number = n.number; count = n.count ∙ sym full };
    together = λ i j s t e f. record { table = new.one_table i j s t e f; view = (new.each i s e).view ∙ sym (new.each j t f).view };
  }

  -- all seats have worked
  all_worked : (old new all : List (Seat T W E)) → AllIdle old → length new ≡ length old
      → EachWorked old new → all ≡ new → AllIdle all
  all_worked old new all idle long each is =
      let Now : ℕ → Seat T W E → Type 0 = λ i s. Worked (slice_index_or old i s) s × (slice_get old i ≡ Some (slice_index_or old i s)) in
      let now : (i : ℕ) (s : Seat T W E) → slice_get new i ≡ Some s → Now i s = λ i s e.
      let within : i < length old = (let l = slice_get_within new i s e in omega arith) in
      (subst (λ (t : Seat T W E). Worked (slice_index_or old i s) t) (get_or_from_slice_get new i s s e) (each i s within), slice_get-get_or old i s within) in
      subst (λ (l : List (Seat T W E)). AllIdle l) (sym is) record {
        each = λ i s e. let n = now i s e in let o = idle.each i (slice_index_or old i s) n.1 in record { idle = n.0.idle; number = n.0.seat.number ∙ o.number; count = n.0.seat.count ∙ o.count ∙ sym long };
        together = λ i j s t e f. let n = now i s e in let m = now j t f in
            let k = idle.together i j (slice_index_or old i s) (slice_index_or old j t) n.1 m.1 in
            record { table = n.0.seat.table ∙ k.table ∙ sym m.0.seat.table; view = n.0.seat.view ∙ k.view ∙ sym m.0.seat.view };
      }

  -- the last two of two seats
  pub pair : (all xs ys : List (Seat T W E)) (one first : Seat T W E) → all ≡ xs ++ one ∷ [] → xs ≡ ys ++ first ∷ [] → AllIdle all → length all ≡ 2 → ArePair first one
  pair all xs ys one first is is' idle two =
      let whole : AllIdle (xs ++ one ∷ []) = subst (λ (l : List (Seat T W E)). AllIdle l) is idle in
      let long : length xs ≡ 1 = (let a = ap length is in let b = length-append xs (one ∷ []) in omega arith) in
      let none : length ys ≡ 0 = (let a = ap length is' in let b = length-append ys (first ∷ []) in omega arith) in
      let o = got_last xs one in
      let z = got_before xs (one ∷ []) (length ys) first (ap (λ l. slice_get l (length ys)) is' ∙ got_last ys first) in
      let one' = whole.each (length xs) one o in
      let zero' = whole.each (length ys) first z in
      record {
        first = (zero'.idle, zero'.number ∙ none);
        second = (one'.idle, one'.number ∙ long, one'.count ∙ sym (ap length is) ∙ two);
        table = (whole.together (length ys) (length xs) first one z o).table;
      }

  -- of two seats, one of which was joined into the other
  pub sole_of_two : (first one z o t : Seat T W E) → ArePair first one → IsSameSeat first z → IsSameSeat one o → HasJoined o z t → IsSole t
  sole_of_two first one z o t pair same_z same_o joined n few =
      let two : n < 2 = (let a = joined.seat.count in let b = same_o.count in let c = pair.second.2 in omega arith) in
      let zero' : z.number ≡ 0 = same_z.number ∙ pair.first.1 in
      let one' : o.number ≡ 1 = same_o.number ∙ pair.second.1 in
      ap (λ (ls : List (Listing E)). names n ls) joined.lists ∙ dite (ℕ_discrete n 0)
      (λ e. named_right n (lists_of o) (lists_of z) (ap (λ k. names k (lists_of z)) (e ∙ sym zero') ∙ z.named))
      (λ ne. let is : n ≡ 1 = omega arith in named_left n (lists_of o) (lists_of z) (ap (λ k. names k (lists_of o)) (is ∙ sym one') ∙ o.named))

  pub same_trans : {s t u : Seat T W E} → IsSameSeat s t → IsSameSeat t u → IsSameSeat s u
  same_trans a b = record { table = b.table ∙ a.table; view = b.view ∙ a.view; count = b.count ∙ a.count; number = b.number ∙ a.number }

  -- the seats of a row, after each has worked
  pub worked_row : (view : W) (count n : ℕ) (made old new rest : List (Seat T W E)) → AreSeats view count made → length made ≡ count → old ≡ made → n ≡ length made → length new ≡ length old
      → EachWorked old new → AllIdle (take n (new ++ rest))
  worked_row view count n made old new rest seats full same len long each =
      let all : n ≡ length new = len ∙ sym (ap length same) ∙ sym long in
      all_worked old new (take n (new ++ rest)) (subst (λ (l : List (Seat T W E)). AllIdle l) (sym same) (new_idle view count made seats full)) long each
      (ap (λ k. take k (new ++ rest)) all ∙ take-append_seam new rest)
