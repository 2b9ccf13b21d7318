-- A row's bounds lie around the place of what it tells.
use Rattle.std.proofs.Common.{◌≡◌, ◌⊎◌, ℕ, suc, ◌<◌, ◌≤◌, List, [], ◌∷◌, ◌++◌, map, Bool, true, false, cond, ◌||◌, ◌==◌, nat_lt, flat_map, filter_map, Option, Some, None, IfSome, refl, sym, ap, subst, ◌∙◌, inl, inr, arith}
use Rattle.std.proofs.lemmas.Bool.Decides.{nat_tests}
use Rattle.std.proofs.lemmas.Option.{same_Some, none-some}
use Rattle.std.specs.List.{AllByRecursion}
use Rattle.std.specs.Option.{option_to_list, option_and_then}
use Rattle.registry_machine.specs.Entries.{has_place}
use Rattle.registry_machine.specs.Places.{rank}
use Rattle.registry_machine.proofs.Lists.{test_same}
use Rattle.registry_machine.proofs.Ranks.{rank_rises, rank_rises_over}
use Rattle.run_laws.specs.Places.{ended_of}
use Rattle.run_laws.specs.Bounds.{opened_by, end_opened_by, waits, sets_below, sets_above, low, high}
use Rattle.run_history.specs.Tellings.{Telling, Life}
use Rattle.run_history.specs.Agreement.{ComesBefore, EndsBefore, StandsBefore}
use Rattle.run_history.proofs.Elements.{In, all_in, all_from, in_left, in_right, in_middle, all_append, all_map, all_flat_map, all_filter_map, all_option, fold_max_below, fold_min_above}
use Rattle.run_history.proofs.Run.{Run, IsToldAt, place_index, told_rank, life_is, ends_placed}

pub ended_found : (g p : ℕ) (ls : List Life) → ended_of g (map (λ s. s.row) ls) ≡ Some p → (s : Life) × In s ls × (s.row.generation ≡ g) × (s.row.ended ≡ p)
ended_found g p [] e = absurd (none-some p e)
ended_found g p (s ∷ ls) e = by_test (g == s.row.generation) refl e (ended_found g p ls)
  where
    by_test : (b : Bool) → (g == s.row.generation) ≡ b → cond b (Some s.row.ended) (ended_of g (map (λ x. x.row) ls)) ≡ Some p → (ended_of g (map (λ x. x.row) ls) ≡ Some p → (x : Life) × In x ls × (x.row.generation ≡ g) × (x.row.ended ≡ p)) → (x : Life) × In x (s ∷ ls) × (x.row.generation ≡ g) × (x.row.ended ≡ p)
    by_test true t e rest = (s, inl refl, sym (test_same g s.row.generation t), same_Some s.row.ended p e)
    by_test false t e rest = let k = rest e in (k.0, inr k.1, k.2, k.3)

pub lt_true : (a b : ℕ) → nat_lt a b ≡ true → a < b
lt_true a b e = grind (arith, nat_tests)

pub or_true : (x y : Bool) → (x || y) ≡ true → (x ≡ true) ⊎ (y ≡ true)
or_true true y e = inl refl
or_true false y e = inr e

pub if_some : {A : Type 0} (P : A → Type 0) (o : Option A) → ((x : A) → o ≡ Some x → P x) → IfSome o P
if_some P None h = tt
if_some P (Some x) h = h x refl

and_then_some : {A B : Type 0} (g : A → Option B) (o : Option A) (y : B) → option_and_then g o ≡ Some y → (x : A) × (o ≡ Some x) × (g x ≡ Some y)
and_then_some g None y e = absurd (none-some y e)
and_then_some g (Some x) y e = (x, refl, e)

module _ {U D L : Type 0} (f : Run U D L) (front : List Telling) (t : Telling) (back : List Telling) (joined : f.rows ≡ front ++ t ∷ back) where
  pub here_in : In t f.rows
  here_in = subst (In t) (sym joined) (in_middle t front back)

  pub front_in : (e : Telling) → In e front → In e f.rows
  front_in e i = subst (In e) (sym joined) (in_left e front (t ∷ back) i)

  pub back_in : (e : Telling) → In e back → In e f.rows
  back_in e i = subst (In e) (sym joined) (in_right e front (t ∷ back) (inr i))

  pub in_order : (e x : Telling) → In e f.rows → In x f.rows → StandsBefore f.lives e x
  in_order e x i j = all_in (StandsBefore f.lives e) f.rows (all_in (λ y. AllByRecursion (StandsBefore f.lives y) f.rows) f.rows f.agrees.order e i) x j

  module _ (n : ℕ) (told : IsToldAt f t n) where
    place_below : (e : Telling) → In e front → ComesBefore e.told.call t.told.call → IfSome e.told.row.place (λ x. x < rank f.history n)
    place_below e i before = if_some (λ x. x < rank f.history n) e.told.row.place (λ p h.
        let k = place_index f e p (front_in e i) h in
        let lt = (in_order e t (front_in e i) here_in).told before k.n n k.told.index told.index in
        let r = rank_rises_over f.history k.n n k.told.entry k.told.at k.placed lt in omega (arith, r, k.place))

    end_below : (e : Telling) → In e front → EndsBefore e.told t.told.call → IfSome (end_opened_by (map (λ s. s.row) f.lives) e.told) (λ x. x < rank f.history n)
    end_below e i before = if_some (λ x. x < rank f.history n) (end_opened_by (map (λ s. s.row) f.lives) e.told) (λ p h.
        let o = and_then_some (λ g. ended_of g (map (λ s. s.row) f.lives)) (opened_by e.told) p h in
        let s = ended_found o.0 p f.lives o.2 in
        let lt = all_in (λ x. opened_by e.told ≡ Some x.row.generation → (m : ℕ) → t.index ≡ Some m → x.ended < m) f.lives ((in_order e t (front_in e i) here_in).ended before) s.0 s.1 (o.1 ∙ ap Some (sym s.2)) n told.index in
        let k = life_is f s.0 s.1 in
        let r = rank_rises_over f.history s.0.ended n k.end.entry k.end.at (ends_placed k.end.entry s.0.row.generation k.end.told) lt in omega (arith, r, k.ended, s.3))

    below : (before : AllByRecursion (λ e. e.told.call.line < t.told.call.line) front) (e : Telling) → In e front → AllByRecursion (λ x. x < rank f.history n) (sets_below (map (λ s. s.row) f.lives) t.told e.told)
    below before e i = by_phase (nat_lt e.told.call.phase t.told.call.phase) refl
      where
        line : e.told.call.line < t.told.call.line
        line = all_in (λ x. x.told.call.line < t.told.call.line) front before e i

        A : List ℕ
        A = option_to_list e.told.row.place

        own : ComesBefore e.told.call t.told.call → AllByRecursion (λ x. x < rank f.history n) (option_to_list e.told.row.place)
        own c = all_option (λ x. x < rank f.history n) e.told.row.place (place_below e i c)

        end : EndsBefore e.told t.told.call → AllByRecursion (λ x. x < rank f.history n) (option_to_list (end_opened_by (map (λ s. s.row) f.lives) e.told))
        end c = all_option (λ x. x < rank f.history n) (end_opened_by (map (λ s. s.row) f.lives) e.told) (end_below e i c)

        by_wait : (b : Bool) → waits e.told ≡ b → e.told.call.client ≡ t.told.call.client → AllByRecursion (λ x. x < rank f.history n) (cond b (option_to_list (end_opened_by (map (λ s. s.row) f.lives) e.told)) [])
        by_wait true w c = end (inr (c, line, w))
        by_wait false w c = tt

        by_client : (b : Bool) → (e.told.call.client == t.told.call.client) ≡ b → AllByRecursion (λ x. x < rank f.history n) (cond b (option_to_list e.told.row.place ++ cond (waits e.told) (option_to_list (end_opened_by (map (λ s. s.row) f.lives) e.told)) []) [])
        by_client true c =
            let same = test_same e.told.call.client t.told.call.client c in
            all_append (λ x. x < rank f.history n) (option_to_list e.told.row.place) (cond (waits e.told) (option_to_list (end_opened_by (map (λ s. s.row) f.lives) e.told)) []) (own (inr (same, line))) (by_wait (waits e.told) refl same)
        by_client false c = tt

        by_phase : (b : Bool) → nat_lt e.told.call.phase t.told.call.phase ≡ b → AllByRecursion (λ x. x < rank f.history n) (cond b (option_to_list e.told.row.place ++ option_to_list (end_opened_by (map (λ s. s.row) f.lives) e.told)) (cond (e.told.call.client == t.told.call.client) (option_to_list e.told.row.place ++ cond (waits e.told) (option_to_list (end_opened_by (map (λ s. s.row) f.lives) e.told)) []) []))
        by_phase true p =
            let lt = lt_true e.told.call.phase t.told.call.phase p in
            all_append (λ x. x < rank f.history n) (option_to_list e.told.row.place) (option_to_list (end_opened_by (map (λ s. s.row) f.lives) e.told)) (own (inl lt)) (end (inl lt))
        by_phase false p = by_client (e.told.call.client == t.told.call.client) refl

    -- the greatest place below the row lies below that of its entry
    pub low_below : AllByRecursion (λ e. e.told.call.line < t.told.call.line) front → low (map (λ s. s.row) f.lives) (map (λ e. e.told) front) t.told < rank f.history n
    low_below before =
        fold_max_below (rank f.history n) 1 (flat_map (sets_below (map (λ s. s.row) f.lives) t.told) (map (λ e. e.told) front)) (told_rank f t n here_in told)
        (all_flat_map (sets_below (map (λ s. s.row) f.lives) t.told) (λ x. x < rank f.history n) (map (λ e. e.told) front) (all_map (λ e. e.told) (λ e. AllByRecursion (λ x. x < rank f.history n) (sets_below (map (λ s. s.row) f.lives) t.told e)) front (all_from (λ e. AllByRecursion (λ x. x < rank f.history n) (sets_below (map (λ s. s.row) f.lives) t.told e.told)) front (below before))))

    above : (m : ℕ) → ((k : ℕ) → n < k → m ≤ rank f.history k) → AllByRecursion (λ e. t.told.call.line < e.told.call.line) back → (e : Telling) → In e back → IfSome (sets_above t.told e.told) (λ x. m ≤ x)
    above m rises behind e i = by_test (nat_lt t.told.call.phase e.told.call.phase || e.told.call.client == t.told.call.client) refl
      where
        line : t.told.call.line < e.told.call.line
        line = all_in (λ x. t.told.call.line < x.told.call.line) back behind e i

        comes : (nat_lt t.told.call.phase e.told.call.phase ≡ true) ⊎ ((e.told.call.client == t.told.call.client) ≡ true) → ComesBefore t.told.call e.told.call
        comes (inl p) = inl (lt_true t.told.call.phase e.told.call.phase p)
        comes (inr c) = inr (sym (test_same e.told.call.client t.told.call.client c), line)

        by_test : (b : Bool) → (nat_lt t.told.call.phase e.told.call.phase || e.told.call.client == t.told.call.client) ≡ b → IfSome (cond b e.told.row.place None) (λ x. m ≤ x)
        by_test true b = if_some (λ x. m ≤ x) e.told.row.place (λ p h.
            let k = place_index f e p (back_in e i) h in
            let lt = (in_order t e here_in (back_in e i)).told (comes (or_true (nat_lt t.told.call.phase e.told.call.phase) (e.told.call.client == t.told.call.client) b)) n k.n told.index k.told.index in
            let r = rises k.n lt in omega (arith, r, k.place))
        by_test false b = tt

    above_all : (m count : ℕ) → m ≤ count → ((k : ℕ) → n < k → m ≤ rank f.history k) → AllByRecursion (λ e. t.told.call.line < e.told.call.line) back → m ≤ high count t.told (map (λ e. e.told) back)
    above_all m count le rises behind =
        fold_min_above m count (filter_map (sets_above t.told) (map (λ e. e.told) back)) le
        (all_filter_map (sets_above t.told) (λ x. m ≤ x) (map (λ e. e.told) back) (all_map (λ e. e.told) (λ e. IfSome (sets_above t.told e) (λ x. m ≤ x)) back (all_from (λ e. IfSome (sets_above t.told e.told) (λ x. m ≤ x)) back (above m rises behind))))

    -- the least place above the row is not below that of its entry
    pub high_above : (count : ℕ) → rank f.history n ≤ count → AllByRecursion (λ e. t.told.call.line < e.told.call.line) back → rank f.history n ≤ high count t.told (map (λ e. e.told) back)
    high_above count le behind = above_all (rank f.history n) count le (λ k lt. rank_rises f.history n k (omega (arith, lt))) behind

    -- and above it, where it has one
    pub high_above_placed : (count : ℕ) → rank f.history n < count → has_place told.entry ≡ true → AllByRecursion (λ e. t.told.call.line < e.told.call.line) back → rank f.history n < high count t.told (map (λ e. e.told) back)
    high_above_placed count lt placed behind = above_all (suc (rank f.history n)) count lt (λ k lt'. rank_rises_over f.history n k told.entry told.at placed lt') behind
