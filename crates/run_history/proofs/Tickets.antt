-- The tickets that the rows tell are those of the history.
use Rattle.std.proofs.Common.{◌≡◌, ℕ, suc, ◌+◌, ◌<◌, ◌++◌, length, map, Bool, true, false, cond, ◌==◌, count_by, filter_map, Option, Some, None, IfSome, refl, sym, ap, ap₂, subst, ◌∙◌, arith}
use Rattle.std.proofs.lemmas.List.{take_all}
use Rattle.std.proofs.lemmas.Option.{same_Some, none-some, slice_get_within}
use Rattle.std.specs.List.{AllByRecursion}
use Rattle.registry_machine.specs.Entries.{acquires, ticket_of}
use Rattle.registry_machine.specs.Machine.{start}
use Rattle.registry_machine.specs.Legal.{state_of}
use Rattle.registry_machine.specs.Places.{Stands}
use Rattle.registry_machine.proofs.Lists.{same_test, test_same}
use Rattle.registry_machine.proofs.Runs.{state_at}
use Rattle.registry_machine.proofs.Tellings.{acquired_from}
use Rattle.registry_machine.proofs.Indices.{acquires_at, acquired_at_rises, acquired_once, ticket_given}
use Rattle.run_laws.specs.Acquires.{pin_of}
use Rattle.run_laws.specs.Lawful.{CountsOff, tickets_of}
use Rattle.run_history.specs.Tellings.{Telling, Life, tells_at, warmed_at, is_index}
use Rattle.run_history.specs.Agreement.{IsFrom}
use Rattle.run_history.proofs.Elements.{In, all_in, all_from, all_append, all_map, all_filter_map, all_range}
use Rattle.run_history.proofs.Counts.{count_append, count_same, count_map, count_filter_map, passes, counts_length}
use Rattle.run_history.proofs.Run.{Run, pin_index, told_index, life_is}
use Rattle.run_history.proofs.Betweens.{if_some}
use Rattle.run_history.proofs.Views.{index_from}
use Rattle.run_history.proofs.Places.{same_bools, index_own}

-- the ticket of a pin on a generation
abbrev pub ticket_in : ℕ → ℕ × ℕ → Option ℕ
ticket_in g pin = cond (pin.0 == g) (Some pin.1) None

ticket_is : (g k : ℕ) (pin : ℕ × ℕ) → passes (λ x. x == k) (ticket_in g pin) ≡ true → (pin.0 ≡ g) × (pin.1 ≡ k)
ticket_is g k pin e = by_test (pin.0 == g) refl e
  where
    by_test : (b : Bool) → (pin.0 == g) ≡ b → passes (λ x. x == k) (cond b (Some pin.1) None) ≡ true → (pin.0 ≡ g) × (pin.1 ≡ k)
    by_test true t e = (test_same pin.0 g t, test_same pin.1 k e)
    by_test false t e = absurd (grind arith)

ticket_own : (g k : ℕ) → passes (λ x. x == k) (ticket_in g (g, k)) ≡ true
ticket_own g k = subst (λ b. passes (λ x. x == k) (cond b (Some k) None) ≡ true) (sym (same_test g)) (same_test k)

ticket_some : (g : ℕ) (pin : ℕ × ℕ) (k : ℕ) → ticket_in g pin ≡ Some k → (pin.0 ≡ g) × (pin.1 ≡ k)
ticket_some g pin k e = by_test (pin.0 == g) refl e
  where
    by_test : (b : Bool) → (pin.0 == g) ≡ b → cond b (Some pin.1) None ≡ Some k → (pin.0 ≡ g) × (pin.1 ≡ k)
    by_test true t e = (test_same pin.0 g t, same_Some pin.1 k e)
    by_test false t e = absurd (none-some k e)

passes_from : {A : Type 0} (q : A → Bool) (o : Option A) → passes q o ≡ true → (x : A) × (o ≡ Some x) × (q x ≡ true)
passes_from q None e = absurd (grind arith)
passes_from q (Some x) e = (x, refl, e)

module _ {U D L : Type 0} (f : Run U D L) where
  from_of : (s : Life) → In s f.lives → IsFrom f.history s.row.from s.warmed
  from_of s i = all_in (λ x. IsFrom f.history x.row.from x.warmed) f.lives f.agrees.once.froms s i

  -- a row that tells whence its searcher was warmed tells an acquire
  pub from_index : (s : Life) (pin : ℕ × ℕ) → In s f.lives → s.row.from ≡ Some pin → (n : ℕ) × (s.warmed ≡ Some n) × Stands acquires f.history n pin
  from_index s pin i e = out s.warmed refl (from_of s i)
    where
      out : (w : Option ℕ) → s.warmed ≡ w → IsFrom f.history s.row.from w → (n : ℕ) × (s.warmed ≡ Some n) × Stands acquires f.history n pin
      out None w k = absurd (none-some pin (sym k ∙ e))
      out (Some n) w k = (n, w, subst (Stands acquires f.history n) (same_Some k.0 pin (sym k.1 ∙ e)) k.2)

  pub index_from_of : (s : Life) (n : ℕ) → In s f.lives → s.warmed ≡ Some n → (pin : ℕ × ℕ) × (s.row.from ≡ Some pin) × Stands acquires f.history n pin
  index_from_of s n i e = out s.warmed refl (from_of s i)
    where
      out : (w : Option ℕ) → s.warmed ≡ w → IsFrom f.history s.row.from w → (pin : ℕ × ℕ) × (s.row.from ≡ Some pin) × Stands acquires f.history n pin
      out None w k = absurd (none-some n (sym w ∙ e))
      out (Some m) w k = (k.0, k.1, subst (λ x. Stands acquires f.history x k.0) (same_Some m n (sym w ∙ e)) k.2)

  at_end : (g : ℕ) → (state_at f.limits f.history (length f.history)).acquired g ≡ length (filter_map (ticket_of g) f.history)
  at_end g =
      let a : (state_at f.limits f.history (length f.history)).acquired g ≡ (state_of f.limits f.history).acquired g = ap (λ h. (state_of f.limits h).acquired g) (take_all (length f.history) f.history (omega arith)) in
      let b : (state_of f.limits f.history).acquired g ≡ 0 + length (filter_map (ticket_of g) f.history) = acquired_from (start f.limits) f.history g in
      omega (arith, a, b)

  ticket_below : (n g k : ℕ) → Stands acquires f.history n (g, k) → k < length (filter_map (ticket_of g) f.history)
  ticket_below n g k a =
      let m = (acquires_at f.limits f.history f.legal n g k a).more in
      let lt = slice_get_within f.history n a.entry a.at in
      let r = acquired_at_rises f.limits f.history f.legal g (suc n) (length f.history) lt in
      let e = at_end g in
      omega (arith, m, r, e)

  same_acquire : (n : ℕ) (x y : ℕ × ℕ) → Stands acquires f.history n x → Stands acquires f.history n y → x ≡ y
  same_acquire n x y a b = same_Some x y (sym a.told ∙ (ap acquires (same_Some a.entry b.entry (sym a.at ∙ b.at)) ∙ b.told))

  module _ (g : ℕ) where
    row_below : (t : Telling) → In t f.rows → IfSome (pin_of t.told) (λ pin. IfSome (ticket_in g pin) (λ k. k < length (filter_map (ticket_of g) f.history)))
    row_below t i = if_some (λ pin. IfSome (ticket_in g pin) (λ k. k < length (filter_map (ticket_of g) f.history))) (pin_of t.told) (λ pin e. if_some (λ k. k < length (filter_map (ticket_of g) f.history)) (ticket_in g pin) (λ k h.
        let x = pin_index f t pin i e in
        let y = ticket_some g pin k h in
        ticket_below x.0 g k (subst (Stands acquires f.history x.0) (ap₂ (λ a b. (a, b)) y.0 y.1) x.2)))

    life_below : (s : Life) → In s f.lives → IfSome s.row.from (λ pin. IfSome (ticket_in g pin) (λ k. k < length (filter_map (ticket_of g) f.history)))
    life_below s i = if_some (λ pin. IfSome (ticket_in g pin) (λ k. k < length (filter_map (ticket_of g) f.history))) s.row.from (λ pin e. if_some (λ k. k < length (filter_map (ticket_of g) f.history)) (ticket_in g pin) (λ k h.
        let x = from_index s pin i e in
        let y = ticket_some g pin k h in
        ticket_below x.0 g k (subst (Stands acquires f.history x.0) (ap₂ (λ a b. (a, b)) y.0 y.1) x.2)))

    all_below : AllByRecursion (λ k. k < length (filter_map (ticket_of g) f.history)) (tickets_of g (map (λ t. t.told) f.rows) (map (λ s. s.row) f.lives))
    all_below =
        all_filter_map (ticket_in g) (λ k. k < length (filter_map (ticket_of g) f.history)) (filter_map pin_of (map (λ t. t.told) f.rows) ++ filter_map (λ s. s.from) (map (λ s. s.row) f.lives))
        (all_append (λ pin. IfSome (ticket_in g pin) (λ k. k < length (filter_map (ticket_of g) f.history))) (filter_map pin_of (map (λ t. t.told) f.rows)) (filter_map (λ s. s.from) (map (λ s. s.row) f.lives))
        (all_filter_map pin_of (λ pin. IfSome (ticket_in g pin) (λ k. k < length (filter_map (ticket_of g) f.history))) (map (λ t. t.told) f.rows) (all_map (λ t. t.told) (λ t. IfSome (pin_of t) (λ pin. IfSome (ticket_in g pin) (λ k. k < length (filter_map (ticket_of g) f.history)))) f.rows (all_from (λ t. IfSome (pin_of t.told) (λ pin. IfSome (ticket_in g pin) (λ k. k < length (filter_map (ticket_of g) f.history)))) f.rows row_below)))
        (all_filter_map (λ s. s.from) (λ pin. IfSome (ticket_in g pin) (λ k. k < length (filter_map (ticket_of g) f.history))) (map (λ s. s.row) f.lives) (all_map (λ s. s.row) (λ s. IfSome s.from (λ pin. IfSome (ticket_in g pin) (λ k. k < length (filter_map (ticket_of g) f.history)))) f.lives (all_from (λ s. IfSome s.row.from (λ pin. IfSome (ticket_in g pin) (λ k. k < length (filter_map (ticket_of g) f.history)))) f.lives life_below))))

    row_tells : (n k : ℕ) → Stands acquires f.history n (g, k) → (t : Telling) → In t f.rows → passes (λ pin. passes (λ x. x == k) (ticket_in g pin)) (pin_of t.told) ≡ tells_at n t
    row_tells n k a t i =
        same_bools (passes (λ pin. passes (λ x. x == k) (ticket_in g pin)) (pin_of t.told)) (tells_at n t)
        (λ h.
        let p = passes_from (λ pin. passes (λ x. x == k) (ticket_in g pin)) (pin_of t.told) h in
        let y = ticket_is g k p.0 p.2 in
        let x = pin_index f t p.0 i p.1 in
        index_own n t.index (x.1 ∙ ap Some (acquired_once f.limits f.history f.legal x.0 n g k (subst (Stands acquires f.history x.0) (ap₂ (λ u v. (u, v)) y.0 y.1) x.2) a)))
        (λ h.
        let m = told_index f t n i (index_from n t h) in
        let pin : pin_of t.told ≡ Some (g, k) = m.says.pin ∙ (ap acquires (same_Some m.entry a.entry (sym m.at ∙ a.at)) ∙ a.told) in
        subst (λ o. passes (λ p. passes (λ x. x == k) (ticket_in g p)) o ≡ true) (sym pin) (ticket_own g k))

    life_tells : (n k : ℕ) → Stands acquires f.history n (g, k) → (s : Life) → In s f.lives → passes (λ pin. passes (λ x. x == k) (ticket_in g pin)) s.row.from ≡ warmed_at n s
    life_tells n k a s i =
        same_bools (passes (λ pin. passes (λ x. x == k) (ticket_in g pin)) s.row.from) (warmed_at n s)
        (λ h.
        let p = passes_from (λ pin. passes (λ x. x == k) (ticket_in g pin)) s.row.from h in
        let y = ticket_is g k p.0 p.2 in
        let x = from_index s p.0 i p.1 in
        index_own n s.warmed (x.1 ∙ ap Some (acquired_once f.limits f.history f.legal x.0 n g k (subst (Stands acquires f.history x.0) (ap₂ (λ u v. (u, v)) y.0 y.1) x.2) a)))
        (λ h.
        let x = index_from_of s n i (warmed_index n s h) in
        let pin : s.row.from ≡ Some (g, k) = x.1 ∙ ap Some (same_acquire n x.0 (g, k) x.2 a) in
        subst (λ o. passes (λ p. passes (λ x. x == k) (ticket_in g p)) o ≡ true) (sym pin) (ticket_own g k))
      where
        warmed_index : (n : ℕ) (s : Life) → warmed_at n s ≡ true → s.warmed ≡ Some n
        warmed_index n s e = out s.warmed e
          where
            out : (o : Option ℕ) → is_index n o ≡ true → o ≡ Some n
            out None e = absurd (grind arith)
            out (Some m) e = ap Some (test_same m n e)

    one_each : (k : ℕ) → k < length (filter_map (ticket_of g) f.history) → count_by (λ x. x == k) (tickets_of g (map (λ t. t.told) f.rows) (map (λ s. s.row) f.lives)) ≡ 1
    one_each k lt =
        let given = ticket_given f.limits f.history f.legal (length f.history) g k (let e = at_end g in omega (arith, e, lt)) in
        let n = given.0 in
        let a : Stands acquires f.history n (g, k) = given.2 in
        let q : ℕ × ℕ → Bool = λ pin. passes (λ x. x == k) (ticket_in g pin) in
        let A = filter_map pin_of (map (λ t. t.told) f.rows) in
        let B = filter_map (λ s. s.from) (map (λ s. s.row) f.lives) in
        let whole : count_by (λ x. x == k) (filter_map (ticket_in g) (A ++ B)) ≡ count_by q (A ++ B) = count_filter_map (ticket_in g) (λ x. x == k) (A ++ B) in
        let parts : count_by q (A ++ B) ≡ count_by q A + count_by q B = count_append q A B in
        let first : count_by q A ≡ count_by (tells_at n) f.rows = count_filter_map pin_of q (map (λ t. t.told) f.rows) ∙ (count_map (λ t. t.told) (λ t. passes q (pin_of t)) f.rows ∙ count_same (λ t. passes q (pin_of t.told)) (tells_at n) f.rows (row_tells n k a)) in
        let second : count_by q B ≡ count_by (warmed_at n) f.lives = count_filter_map (λ s. s.from) q (map (λ s. s.row) f.lives) ∙ (count_map (λ s. s.row) (λ s. passes q s.from) f.lives ∙ count_same (λ s. passes q s.row.from) (warmed_at n) f.lives (life_tells n k a)) in
        let once = f.agrees.once.acquired n g k a in
        omega (arith, whole, parts, first, second, once)

  -- the tickets of a searcher count its acquires
  pub counts_tickets : (s : Life) → In s f.lives → CountsOff s.row.acquired (tickets_of s.row.generation (map (λ t. t.told) f.rows) (map (λ x. x.row) f.lives))
  counts_tickets s i =
      let g = s.row.generation in
      let a = (life_is f s i).acquired in
      let xs = tickets_of g (map (λ t. t.told) f.rows) (map (λ x. x.row) f.lives) in
      (counts_length (length (filter_map (ticket_of g) f.history)) xs (all_below g) (one_each g) ∙ sym a, all_range (λ k. count_by (λ x. x == k) xs ≡ 1) 0 s.row.acquired (λ k le lt. one_each g k (omega (arith, a, lt))))
