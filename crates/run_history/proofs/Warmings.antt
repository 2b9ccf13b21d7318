-- What the rows say is warming at a place is warming there in the history.
use Rattle.std.proofs.Common.{◌≡◌, ℕ, zero, suc, ◌+◌, ◌<◌, ◌≤◌, List, [], ◌∷◌, length, map, filter, Bool, true, false, cond, ◌&&◌, ◌||◌, ◌==◌, nat_lt, Some, None, refl, sym, ap, ap₂, subst, ◌∙◌, inl, inr, arith, slice_get}
use Rattle.std.proofs.lemmas.Bool.Decides.{nat_tests}
use Rattle.std.proofs.lemmas.Option.{same_Some, none-some}
use Rattle.std.specs.List.{AllByRecursion, range_with_len}
use Rattle.registry_machine.specs.declared.entry.Entry.{Entry}
use Rattle.registry_machine.specs.Entries.{has_place, opens, ends}
use Rattle.registry_machine.specs.Machine.{is_in}
use Rattle.registry_machine.specs.Places.{rank}
use Rattle.registry_machine.specs.Orders.{Ascends}
use Rattle.registry_machine.proofs.Lists.{not_both, same_test, test_same}
use Rattle.registry_machine.proofs.Runs.{state_at}
use Rattle.registry_machine.proofs.Ranks.{rank_rises, rank_rises_over}
use Rattle.registry_machine.proofs.Indices.{sound_at, warming_between, ended_after, opened_before}
use Rattle.run_laws.specs.Rows.{SearcherRow}
use Rattle.run_laws.specs.Places.{warming}
use Rattle.run_history.specs.Tellings.{Life}
use Rattle.run_history.proofs.Elements.{In, all_in}
use Rattle.run_history.proofs.Run.{Run, life_is, life_of, generations_are, opens_placed}

pub in_is : (g : ℕ) (xs : List ℕ) → is_in g xs ≡ true → In g xs
in_is g [] e = grind arith
in_is g (x ∷ xs) e = by_test (x == g) refl e (in_is g xs)
  where
    by_test : (b : Bool) → (x == g) ≡ b → (x == g || is_in g xs) ≡ true → (is_in g xs ≡ true → In g xs) → In g (x ∷ xs)
    by_test true t e rest = inl (test_same x g t)
    by_test false t e rest = inr (rest (subst (λ b. (b || is_in g xs) ≡ true) t e))

pub is_in_from : (g : ℕ) (xs : List ℕ) → In g xs → is_in g xs ≡ true
is_in_from g [] i = absurd i
is_in_from g (x ∷ xs) (inl e) = let s = same_test g in let t : (x == g) ≡ true = subst (λ y. (y == g) ≡ true) (sym e) s in grind (arith, t)
is_in_from g (x ∷ xs) (inr i) = let k = is_in_from g xs i in grind (arith, k)

-- two ascending lists with the same members are the same
pub same_ascending : (xs ys : List ℕ) → Ascends xs → Ascends ys → ((g : ℕ) → In g xs → In g ys) → ((g : ℕ) → In g ys → In g xs) → xs ≡ ys
same_ascending [] [] a b to from = refl
same_ascending [] (y ∷ ys) a b to from = absurd (from y (inl refl))
same_ascending (x ∷ xs) [] a b to from = absurd (to x (inl refl))
same_ascending (x ∷ xs) (y ∷ ys) a b to from =
    let heads : x ≡ y = head (to x (inl refl)) (from y (inl refl)) in
    ap₂ (λ z zs. z ∷ zs) heads (same_ascending xs ys a.1 b.1 (λ g i. rest g (all_in (λ z. x < z) xs a.0 g i) heads (to g (inr i))) (λ g i. rest' g (all_in (λ z. y < z) ys b.0 g i) heads (from g (inr i))))
  where
    head : In x (y ∷ ys) → In y (x ∷ xs) → x ≡ y
    head (inl e) j = sym e
    head (inr i) (inl e) = e
    head (inr i) (inr j) = absurd (let p = all_in (λ z. y < z) ys b.0 x i in let q = all_in (λ z. x < z) xs a.0 y j in omega (arith, p, q))

    rest : (g : ℕ) → x < g → x ≡ y → In g (y ∷ ys) → In g ys
    rest g lt e (inl s) = absurd (omega (arith, lt, e, s))
    rest g lt e (inr i) = i

    rest' : (g : ℕ) → y < g → x ≡ y → In g (x ∷ xs) → In g xs
    rest' g lt e (inl s) = absurd (omega (arith, lt, e, s))
    rest' g lt e (inr i) = i

pub ascends_range : (a n : ℕ) → Ascends (range_with_len a n)
ascends_range a zero = tt
ascends_range a (suc n) = (above (a + 1) n (omega arith), ascends_range (a + 1) n)
  where
    above : (m k : ℕ) → a < m → AllByRecursion (λ y. a < y) (range_with_len m k)
    above m zero lt = tt
    above m (suc k) lt = (lt, above (m + 1) k (omega (arith, lt)))

all_picked : (P : ℕ → Type 0) (q : SearcherRow → Bool) (ls : List Life) → AllByRecursion P (map (λ s. s.row.generation) ls) → AllByRecursion P (map (λ s. s.generation) (filter q (map (λ s. s.row) ls)))
all_picked P q [] h = tt
all_picked P q (s ∷ ls) h = by_test (q s.row) (all_picked P q ls h.1)
  where
    by_test : (b : Bool) → AllByRecursion P (map (λ x. x.generation) (filter q (map (λ x. x.row) ls))) → AllByRecursion P (map (λ x. x.generation) (cond b (s.row ∷ filter q (map (λ x. x.row) ls)) (filter q (map (λ x. x.row) ls))))
    by_test true k = (h.0, k)
    by_test false k = k

ascends_picked : (q : SearcherRow → Bool) (ls : List Life) → Ascends (map (λ s. s.row.generation) ls) → Ascends (map (λ s. s.generation) (filter q (map (λ s. s.row) ls)))
ascends_picked q [] a = tt
ascends_picked q (s ∷ ls) a = by_test (q s.row) (ascends_picked q ls a.1)
  where
    by_test : (b : Bool) → Ascends (map (λ x. x.generation) (filter q (map (λ x. x.row) ls))) → Ascends (map (λ x. x.generation) (cond b (s.row ∷ filter q (map (λ x. x.row) ls)) (filter q (map (λ x. x.row) ls))))
    by_test true k = (all_picked (λ y. s.row.generation < y) q ls a.0, k)
    by_test false k = k

-- which generations pass a test of their rows
picked : (q : SearcherRow → Bool) (ls : List Life) (g : ℕ) → In g (map (λ s. s.generation) (filter q (map (λ s. s.row) ls))) → (s : Life) × In s ls × (s.row.generation ≡ g) × (q s.row ≡ true)
picked q [] g i = absurd i
picked q (s ∷ ls) g i = by_test (q s.row) refl i (picked q ls g)
  where
    by_test : (b : Bool) → q s.row ≡ b → In g (map (λ x. x.generation) (cond b (s.row ∷ filter q (map (λ x. x.row) ls)) (filter q (map (λ x. x.row) ls)))) → (In g (map (λ x. x.generation) (filter q (map (λ x. x.row) ls))) → (x : Life) × In x ls × (x.row.generation ≡ g) × (q x.row ≡ true)) → (x : Life) × In x (s ∷ ls) × (x.row.generation ≡ g) × (q x.row ≡ true)
    by_test true t (inl e) rest = (s, inl refl, e, t)
    by_test true t (inr i) rest = let k = rest i in (k.0, inr k.1, k.2, k.3)
    by_test false t i rest = let k = rest i in (k.0, inr k.1, k.2, k.3)

pick : (q : SearcherRow → Bool) (ls : List Life) (s : Life) → In s ls → q s.row ≡ true → In s.row.generation (map (λ x. x.generation) (filter q (map (λ x. x.row) ls)))
pick q [] s i t = absurd i
pick q (x ∷ ls) s i t = by_test (q x.row) refl i (λ j. pick q ls s j t)
  where
    by_test : (b : Bool) → q x.row ≡ b → In s (x ∷ ls) → (In s ls → In s.row.generation (map (λ y. y.generation) (filter q (map (λ y. y.row) ls)))) → In s.row.generation (map (λ y. y.generation) (cond b (x.row ∷ filter q (map (λ y. y.row) ls)) (filter q (map (λ y. y.row) ls))))
    by_test true e (inl same) rest = inl (ap (λ y. y.row.generation) same)
    by_test true e (inr j) rest = inr (rest j)
    by_test false e (inl same) rest = absurd (not_both (q x.row) e (subst (λ y. q y.row ≡ true) (sym same) t))
    by_test false e (inr j) rest = rest j

between_test : (a p b : ℕ) → a < p → p < b → (nat_lt a p && nat_lt p b) ≡ true
between_test a p b x y = grind (arith, nat_tests)

test_between : (a p b : ℕ) → (nat_lt a p && nat_lt p b) ≡ true → (a < p) × (p < b)
test_between a p b e = grind (arith, nat_tests)

module _ {U D L : Type 0} (f : Run U D L) where
  -- before an entry with a place that is no end, the rows' warming generations are the history's
  pub warming_found : (n : ℕ) (e : Entry U D L) → n ≤ length f.history → slice_get f.history n ≡ Some e → has_place e ≡ true → ends e ≡ None → warming (rank f.history n) (map (λ s. s.row) f.lives) ≡ (state_at f.limits f.history n).warming
  warming_found n e within at placed no_end =
      same_ascending (warming (rank f.history n) (map (λ s. s.row) f.lives)) (state_at f.limits f.history n).warming
      (ascends_picked (λ s. nat_lt s.opened (rank f.history n) && nat_lt (rank f.history n) s.ended) f.lives (subst Ascends (sym (generations_are f)) (ascends_range 1 (length (Rattle.std.specs.List.filter_map opens f.history)))))
      (sound_at f.limits f.history f.legal n).ascending to from
    where
      q : SearcherRow → Bool
      q s = nat_lt s.opened (rank f.history n) && nat_lt (rank f.history n) s.ended

      to : (g : ℕ) → In g (warming (rank f.history n) (map (λ s. s.row) f.lives)) → In g (state_at f.limits f.history n).warming
      to g i =
          let k = picked (λ s. nat_lt s.opened (rank f.history n) && nat_lt (rank f.history n) s.ended) f.lives g i in
          let s = k.0 in
          let m = life_is f s k.1 in
          let b = test_between s.row.opened (rank f.history n) s.row.ended k.3 in
          let lt : s.opened < n = (let no : n ≤ s.opened → ⊥ = λ ge. let r = rank_rises f.history n s.opened ge in omega (arith, r, m.opened, b.0) in grind (arith, no)) in
          let le : n ≤ s.ended = (let no : s.ended < n → ⊥ = λ l'. let r = rank_rises f.history s.ended n (omega arith) in omega (arith, r, m.ended, b.1) in grind (arith, no)) in
          subst (λ x. In x (state_at f.limits f.history n).warming) k.2 (in_is s.row.generation (state_at f.limits f.history n).warming (warming_between f.limits f.history f.legal s.opened n s.ended s.row.generation m.opening m.end lt le))

      from : (g : ℕ) → In g (state_at f.limits f.history n).warming → In g (warming (rank f.history n) (map (λ s. s.row) f.lives))
      from g i =
          let w : is_in g (state_at f.limits f.history n).warming ≡ true = is_in_from g (state_at f.limits f.history n).warming i in
          let o = (sound_at f.limits f.history f.legal n).warming_opened g w in
          let l = life_of f g n (omega (arith, o.0, f.first)) within o.1 in
          let s = l.0 in
          let m = life_is f s l.1 in
          let lt = opened_before f.limits f.history f.legal s.opened n s.row.generation m.opening (omega (arith, o.1, l.2)) in
          let le = ended_after f.limits f.history f.legal s.ended n s.row.generation m.end (subst (λ x. is_in x (state_at f.limits f.history n).warming ≡ true) (sym l.2) w) in
          let other : n ≡ s.ended → ⊥ = λ same. none-some s.row.generation (sym no_end ∙ (ap ends (same_Some e m.end.entry (sym at ∙ (ap (slice_get f.history) same ∙ m.end.at))) ∙ m.end.told)) in
          let lt' : n < s.ended = grind (arith, le, other) in
          let a = rank_rises_over f.history s.opened n m.opening.entry m.opening.at (opens_placed m.opening.entry s.row.generation m.opening.told) lt in
          let b = rank_rises_over f.history n s.ended e at placed lt' in
          subst (λ x. In x (warming (rank f.history n) (map (λ y. y.row) f.lives))) l.2 (pick (λ y. nat_lt y.opened (rank f.history n) && nat_lt (rank f.history n) y.ended) f.lives s l.1 (between_test s.row.opened (rank f.history n) s.row.ended (omega (arith, a, m.opened)) (omega (arith, b, m.ended))))
