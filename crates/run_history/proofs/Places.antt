-- Each place of the history is told once.
use Rattle.std.proofs.Common.{◌≡◌, ◌≢◌, ◌⊎◌, ℕ, zero, suc, ◌+◌, ◌<◌, ◌≤◌, List, [], ◌∷◌, ◌++◌, length, take, drop, map, Bool, true, false, cond, ◌&&◌, ◌==◌, count_by, filter_map, Option, Some, None, IsSome, IfSome, refl, sym, ap, subst, ◌∙◌, inl, inr, arith, slice_get}
use Rattle.std.proofs.lemmas.Option.{same_Some, none-some, slice_get_within}
use Rattle.std.specs.List.{AllByRecursion, range_with_len}
use Rattle.registry_machine.specs.declared.entry.Entry.{Entry}
use Rattle.registry_machine.specs.declared.entry.Entry.TheVariants.{Open, TooMany, GenerationsSpent, Update, Finish, Superseded}
use Rattle.registry_machine.specs.Entries.{caller_of, has_place, opens, ends}
use Rattle.registry_machine.specs.Places.{rank, Stands}
use Rattle.registry_machine.proofs.Lists.{same_test, test_same, other_test}
use Rattle.registry_machine.proofs.Ranks.{rank_rises_over, one_index, has_index, rank_next}
use Rattle.registry_machine.proofs.Indices.{opens_at, opened_in_order, opened_by_then, sound_at}
use Rattle.run_laws.specs.Rows.{Output}
use Rattle.run_laws.specs.Places.{is_some_of, places, place_count}
use Rattle.run_laws.specs.Bounds.{is_commit}
use Rattle.run_laws.specs.Lawful.{CountsOff, IsOpenedOnce, BeginsWithFirst, Ascends, IsOneHistory}
use Rattle.run_laws.specs.Lawful as law
use Rattle.run_history.specs.Tellings.{Telling, Life, tells_at, is_index}
use Rattle.run_history.specs.Agreement.{IsLife}
use Rattle.run_history.proofs.Elements.{In, all_in, all_from, all_append, all_map, all_unmap, all_filter_map, all_range}
use Rattle.run_history.proofs.Counts.{count_cons, count_append, count_same, count_none, count_map, count_filter_map, passes, counts_length}
use Rattle.run_history.proofs.Run.{Run, place_index, told_index, opened_index, life_is, life_of, life_count, life_bounds, generations_are, opened_before_end, opens_placed, ends_placed}
use Rattle.run_history.proofs.Betweens.{if_some}
use Rattle.run_history.proofs.Views.{index_from}
use Rattle.run_history.proofs.Warmings.{ascends_range}
use Rattle.registry_machine.specs.Machine.{start}
use Rattle.registry_machine.proofs.Stands.{registered_ends}

pub same_bools : (x y : Bool) → (x ≡ true → y ≡ true) → (y ≡ true → x ≡ true) → x ≡ y
same_bools true true a b = refl
same_bools true false a b = sym (a refl)
same_bools false true a b = b refl
same_bools false false a b = refl

not_true : (b : Bool) → (b ≡ true → ⊥) → b ≡ false
not_true true h = absurd (h refl)
not_true false h = refl

passes_some : (p : ℕ) (o : Option ℕ) → passes (λ x. x == p) o ≡ true → o ≡ Some p
passes_some p None e = absurd (grind arith)
passes_some p (Some m) e = ap Some (test_same m p e)

passes_own : (p : ℕ) (o : Option ℕ) → o ≡ Some p → passes (λ x. x == p) o ≡ true
passes_own p o e = subst (λ x. passes (λ y. y == p) x ≡ true) (sym e) (same_test p)

some_of : (p : ℕ) (o : Option ℕ) → is_some_of p o ≡ true → o ≡ Some p
some_of p None e = absurd (grind arith)
some_of p (Some m) e = ap Some (sym (test_same p m e))

own_of : (p : ℕ) (o : Option ℕ) → o ≡ Some p → is_some_of p o ≡ true
own_of p o e = subst (λ x. is_some_of p x ≡ true) (sym e) (same_test p)

pub index_own : (n : ℕ) (o : Option ℕ) → o ≡ Some n → is_index n o ≡ true
index_own n o e = subst (λ x. is_index n x ≡ true) (sym e) (same_test n)

and_both : (x y : Bool) → (x && y) ≡ true → (x ≡ true) × (y ≡ true)
and_both true true e = (refl, refl)
and_both true false e = absurd (grind arith)
and_both false y e = absurd (grind arith)

both_and : (x y : Bool) → x ≡ true → y ≡ true → (x && y) ≡ true
both_and x y a b = grind arith

-- a placed entry names a caller, or ends a warming
placed_cases : {U D L : Type 0} (e : Entry U D L) → has_place e ≡ true → (IsSome (caller_of e) × (ends e ≡ None)) ⊎ ((g : ℕ) × (ends e ≡ Some g))
placed_cases (Open c u g s d) p = inl (refl, refl)
placed_cases (TooMany c u gs) p = inl (refl, refl)
placed_cases (GenerationsSpent c u) p = inl (refl, refl)
placed_cases (Update c u) p = inl (refl, refl)
placed_cases (Finish g l) p = inr (g, refl)
placed_cases (Superseded g b l) p = inr (g, refl)
placed_cases _ p = absurd (grind arith)

opens_named : {U D L : Type 0} (e : Entry U D L) (g : ℕ) → opens e ≡ Some g → IsSome (caller_of e)
opens_named (Open c u x s d) g k = refl
opens_named _ g k = absurd (none-some g k)

commit_opens : (b : Bool) (g : ℕ) (o : Option ℕ) → (b && is_some_of g o) ≡ true → cond b o None ≡ Some g
commit_opens true g o e = some_of g o e
commit_opens false g o e = absurd (grind arith)

opens_commit : (b : Bool) (g : ℕ) (o : Option ℕ) → cond b o None ≡ Some g → (b && is_some_of g o) ≡ true
opens_commit true g o e = own_of g o e
opens_commit false g o e = absurd (none-some g e)

-- the output of the rows
abbrev pub output_of : List Telling → List Life → Output
output_of ts ls = record { requests = map (λ t. t.told.row) ts; searchers = map (λ s. s.row) ls }

module _ {U D L : Type 0} (f : Run U D L) where
  -- the searchers begin with generation 1
  pub record FirstLife : Type 0 where
    pub life : Life
    pub rest : List Life
    pub joined : f.lives ≡ life ∷ rest
    pub one : life.row.generation ≡ 1
    pub others : map (λ s. s.row.generation) rest ≡ range_with_len 2 (length rest)

  first_of_lives : (ls : List Life) (n : ℕ) → f.lives ≡ ls → 1 ≤ n → map (λ s. s.row.generation) ls ≡ range_with_len 1 n → FirstLife
  first_of_lives [] (suc n) e le g = absurd (grind arith)
  first_of_lives ls zero e le g = absurd (omega (arith, le))
  first_of_lives (s ∷ ls) (suc n) e le g =
      let tail : map (λ x. x.row.generation) ls ≡ range_with_len 2 n = cc in
      record { life = s; rest = ls; joined = e; one = cc; others = tail ∙ ap (range_with_len 2) (sym (same_length ls n tail)) }
    where
      same_length : (ls : List Life) (n : ℕ) → map (λ x. x.row.generation) ls ≡ range_with_len 2 n → length ls ≡ n
      same_length ls n t = sym (length_mapped ls) ∙ (ap length t ∙ length_range 2 n)
        where
          length_mapped : (ls : List Life) → length (map (λ x. x.row.generation) ls) ≡ length ls
          length_mapped [] = refl
          length_mapped (x ∷ ls) = ap suc (length_mapped ls)

          length_range : (a n : ℕ) → length (range_with_len a n) ≡ n
          length_range a zero = refl
          length_range a (suc n) = ap suc (length_range (a + 1) n)

  pub first_life : FirstLife
  first_life =
      let b = f.agrees.once.begins.opened in
      let o = opens_at f.limits f.history f.legal 0 1 b in
      let l = life_of f 1 1 (omega arith) (slice_get_within f.history 0 b.entry b.at) (omega (arith, o.last)) in
      let bounds = life_bounds f l.0 l.1 in
      first_of_lives f.lives (length (filter_map opens f.history)) refl (omega (arith, bounds)) (generations_are f)

  -- the first row is that of the opening at index 0
  pub first_opened : (s : Life) → In s f.lives → s.row.generation ≡ 1 → s.opened ≡ 0
  first_opened s i e =
      let b = f.agrees.once.begins.opened in
      let k = life_is f s i in
      let same : s.opened < 0 ⊎ ((s.opened ≡ 0) ⊎ (0 < s.opened)) = grind arith in
      out same k b
    where
      out : s.opened < 0 ⊎ ((s.opened ≡ 0) ⊎ (0 < s.opened)) → IsLife f.history s → Stands opens f.history 0 1 → s.opened ≡ 0
      out (inl lt) k b = absurd (omega (arith, lt))
      out (inr (inl e')) k b = e'
      out (inr (inr lt)) k b = absurd (let g = opened_in_order f.limits f.history f.legal 0 s.opened 1 s.row.generation b k.opening lt in omega (arith, g, e))

  pub not_first_opened : (s : Life) → In s f.lives → 1 < s.row.generation → 0 < s.opened
  not_first_opened s i lt = positive s.opened refl
    where
      positive : (n : ℕ) → s.opened ≡ n → 0 < n
      positive zero e =
          let b = f.agrees.once.begins.opened in
          let k = life_is f s i in
          let same : k.opening.entry ≡ b.entry = same_Some k.opening.entry b.entry (sym k.opening.at ∙ (ap (slice_get f.history) e ∙ b.at)) in
          let g : s.row.generation ≡ 1 = same_Some s.row.generation 1 (sym k.opening.told ∙ (ap opens same ∙ b.told)) in
          absurd (omega (arith, g, lt))
      positive (suc n) e = omega arith

  -- a place below that of an index
  pub below_total : (n : ℕ) (e : Entry U D L) → slice_get f.history n ≡ Some e → has_place e ≡ true → rank f.history n < rank f.history (length f.history)
  below_total n e at placed = rank_rises_over f.history n (length f.history) e at placed (slice_get_within f.history n e at)

  pub life_below : (s : Life) → In s f.lives → s.row.ended < rank f.history (length f.history)
  life_below s i = let k = life_is f s i in let b = below_total s.ended k.end.entry k.end.at (ends_placed k.end.entry s.row.generation k.end.told) in omega (arith, k.ended, b)

  pub row_below : (t : Telling) (p : ℕ) → In t f.rows → t.told.row.place ≡ Some p → p < rank f.history (length f.history)
  row_below t p i h = let k = place_index f t p i h in let b = below_total k.n k.told.entry k.told.at k.placed in omega (arith, k.place, b)

  -- ---- which rows have the place of an entry

  row_at : (n : ℕ) (e : Entry U D L) → slice_get f.history n ≡ Some e → has_place e ≡ true → (t : Telling) → In t f.rows → t.told.row.place ≡ Some (rank f.history n) → t.index ≡ Some n
  row_at n e at placed t i h =
      let k = place_index f t (rank f.history n) i h in
      k.told.index ∙ ap Some (one_index f.history k.n n k.told.entry e k.told.at k.placed at placed k.place)

  row_from : (n : ℕ) (e : Entry U D L) → slice_get f.history n ≡ Some e → has_place e ≡ true → (t : Telling) → In t f.rows → t.index ≡ Some n → t.told.row.place ≡ Some (rank f.history n)
  row_from n e at placed t i h =
      let k = told_index f t n i h in
      k.says.place (subst (λ x. has_place x ≡ true) (same_Some e k.entry (sym at ∙ k.at)) placed)

  life_at : (n : ℕ) (e : Entry U D L) → slice_get f.history n ≡ Some e → has_place e ≡ true → (s : Life) → In s f.lives → s.row.ended ≡ rank f.history n → s.ended ≡ n
  life_at n e at placed s i h =
      let k = life_is f s i in
      one_index f.history s.ended n k.end.entry e k.end.at (ends_placed k.end.entry s.row.generation k.end.told) at placed (sym k.ended ∙ h)

  -- ---- how often each place is told: by the first opening, by ends, by requests

  opening_count : (p : ℕ) → count_by (λ x. x == p) (take 1 (map (λ s. s.opened) (map (λ s. s.row) f.lives))) ≡ cond (0 == p) 1 0
  opening_count p =
      let k = first_life in
      let i : In k.life f.lives = subst (In k.life) (sym k.joined) (inl refl) in
      let o : k.life.row.opened ≡ 0 = (life_is f k.life i).opened ∙ ap (rank f.history) (first_opened k.life i k.one) in
      ap (λ ls. count_by (λ x. x == p) (take 1 (map (λ s. s.opened) (map (λ s. s.row) ls)))) k.joined ∙ (count_cons (λ x. x == p) k.life.row.opened [] ∙ (ap (λ x. cond (x == p) 1 0 + 0) o ∙ omega arith))

  end_count : (p : ℕ) → count_by (λ x. x == p) (map (λ s. s.ended) (map (λ s. s.row) f.lives)) ≡ count_by (λ s. s.row.ended == p) f.lives
  end_count p = count_map (λ s. s.ended) (λ x. x == p) (map (λ s. s.row) f.lives) ∙ count_map (λ s. s.row) (λ s. s.ended == p) f.lives

  row_count : (p : ℕ) → count_by (λ x. x == p) (filter_map (λ r. r.place) (map (λ t. t.told.row) f.rows)) ≡ count_by (λ t. passes (λ x. x == p) t.told.row.place) f.rows
  row_count p = count_filter_map (λ r. r.place) (λ x. x == p) (map (λ t. t.told.row) f.rows) ∙ count_map (λ t. t.told.row) (λ r. passes (λ x. x == p) r.place) f.rows

  no_rows : (n : ℕ) (e : Entry U D L) → slice_get f.history n ≡ Some e → has_place e ≡ true → ((t : Telling) → In t f.rows → t.index ≡ Some n → ⊥) → count_by (λ t. passes (λ x. x == rank f.history n) t.told.row.place) f.rows ≡ 0
  no_rows n e at placed none = count_none (λ t. passes (λ x. x == rank f.history n) t.told.row.place) f.rows (λ t i. not_true (passes (λ x. x == rank f.history n) t.told.row.place) (λ h. none t i (row_at n e at placed t i (passes_some (rank f.history n) t.told.row.place h))))

  one_row : (n : ℕ) (e : Entry U D L) → slice_get f.history n ≡ Some e → has_place e ≡ true → IsSome (caller_of e) → 0 < n → count_by (λ t. passes (λ x. x == rank f.history n) t.told.row.place) f.rows ≡ 1
  one_row n e at placed named above =
      count_same (λ t. passes (λ x. x == rank f.history n) t.told.row.place) (tells_at n) f.rows (λ t i.
      same_bools (passes (λ x. x == rank f.history n) t.told.row.place) (tells_at n t)
      (λ h. index_own n t.index (row_at n e at placed t i (passes_some (rank f.history n) t.told.row.place h)))
      (λ h. passes_own (rank f.history n) t.told.row.place (row_from n e at placed t i (index_from n t h)))) ∙ f.agrees.once.placed n e at placed named above

  no_ends : (n : ℕ) (e : Entry U D L) → slice_get f.history n ≡ Some e → has_place e ≡ true → ends e ≡ None → count_by (λ s. s.row.ended == rank f.history n) f.lives ≡ 0
  no_ends n e at placed none = count_none (λ s. s.row.ended == rank f.history n) f.lives (λ s i. not_true (s.row.ended == rank f.history n) (λ h.
      let same = life_at n e at placed s i (test_same s.row.ended (rank f.history n) h) in
      let k = life_is f s i in
      none-some s.row.generation (sym none ∙ (ap ends (same_Some e k.end.entry (sym at ∙ (ap (slice_get f.history) (sym same) ∙ k.end.at))) ∙ k.end.told))))

  one_end : (n : ℕ) (e : Entry U D L) (g : ℕ) → slice_get f.history n ≡ Some e → ends e ≡ Some g → count_by (λ s. s.row.ended == rank f.history n) f.lives ≡ 1
  one_end n e g at end =
      let stands : Stands ends f.history n g = record { entry = e; at = at; told = end } in
      let w = Rattle.registry_machine.proofs.Indices.ends_at f.limits f.history f.legal n g stands in
      let o = (sound_at f.limits f.history f.legal n).warming_opened g w.warming in
      let l = life_of f g n (omega (arith, o.0, f.first)) (let lt = slice_get_within f.history n e at in omega (arith, lt)) o.1 in
      let placed = ends_placed e g end in
      let ended : (s : Life) → In s f.lives → s.row.generation ≡ g → s.ended ≡ n = λ s i same. Rattle.registry_machine.proofs.Indices.ended_once f.limits f.history f.legal s.ended n g (subst (Stands ends f.history s.ended) same (life_is f s i).end) stands in
      count_same (λ s. s.row.ended == rank f.history n) (λ s. s.row.generation == l.0.row.generation) f.lives (λ s i.
      same_bools (s.row.ended == rank f.history n) (s.row.generation == l.0.row.generation)
      (λ h.
      let same = life_at n e at placed s i (test_same s.row.ended (rank f.history n) h) in
      let k = life_is f s i in
      let gen : s.row.generation ≡ g = same_Some s.row.generation g (sym k.end.told ∙ (ap ends (same_Some k.end.entry e (sym k.end.at ∙ (ap (slice_get f.history) same ∙ at))) ∙ end)) in
      subst (λ x. (s.row.generation == x) ≡ true) (gen ∙ sym l.2) (same_test s.row.generation))
      (λ h.
      let same = ended s i (test_same s.row.generation l.0.row.generation h ∙ l.2) in
      subst (λ x. (s.row.ended == x) ≡ true) ((life_is f s i).ended ∙ ap (rank f.history) same) (same_test s.row.ended))) ∙ life_count f l.0 l.1

  count_of : (p : ℕ) → count_by (λ x. x == p) (places (output_of f.rows f.lives)) ≡ cond (0 == p) 1 0 + count_by (λ s. s.row.ended == p) f.lives + count_by (λ t. passes (λ x. x == p) t.told.row.place) f.rows
  count_of p =
      let A = take 1 (map (λ s. s.opened) (map (λ s. s.row) f.lives)) in
      let B = map (λ s. s.ended) (map (λ s. s.row) f.lives) in
      let C = filter_map (λ r. r.place) (map (λ t. t.told.row) f.rows) in
      let a : count_by (λ x. x == p) (A ++ B ++ C) ≡ count_by (λ x. x == p) (A ++ B) + count_by (λ x. x == p) C = count_append (λ x. x == p) (A ++ B) C in
      let b : count_by (λ x. x == p) (A ++ B) ≡ count_by (λ x. x == p) A + count_by (λ x. x == p) B = count_append (λ x. x == p) A B in
      let d = opening_count p in
      let e = end_count p in
      let r = row_count p in
      omega (arith, a, b, d, e, r)

  one_each : (n : ℕ) (e : Entry U D L) → slice_get f.history n ≡ Some e → has_place e ≡ true → count_by (λ x. x == rank f.history n) (places (output_of f.rows f.lives)) ≡ 1
  one_each zero e at placed =
      let b = f.agrees.once.begins.opened in
      let same : e ≡ b.entry = same_Some e b.entry (sym at ∙ b.at) in
      let named : ends e ≡ None = ap ends same ∙ unended b.entry b.told in
      let c = count_of 0 in
      let r = no_rows 0 e at placed (λ t i h. all_in (λ x. x.index ≢ Some 0) f.rows f.agrees.once.first t i h) in
      let d = no_ends 0 e at placed named in
      omega (arith, c, r, d)
    where
      unended : (x : Entry U D L) → opens x ≡ Some 1 → ends x ≡ None
      unended (Open c u g s d) k = refl
      unended _ k = absurd (none-some 1 k)
  one_each (suc n) e at placed =
      let c = count_of (rank f.history (suc n)) in
      let b = f.agrees.once.begins.opened in
      let above : 0 < rank f.history (suc n) = rank_rises_over f.history 0 (suc n) b.entry b.at (opens_placed b.entry 1 b.told) (omega arith) in
      let zero_not : (0 == rank f.history (suc n)) ≡ false = other_test 0 (rank f.history (suc n)) (λ z. omega (arith, z, above)) in
      let z : cond (0 == rank f.history (suc n)) 1 0 ≡ 0 = ap (λ x. cond x 1 0) zero_not in
      out (placed_cases e placed) c z
    where
      out : (IsSome (caller_of e) × (ends e ≡ None)) ⊎ ((g : ℕ) × (ends e ≡ Some g)) → count_by (λ x. x == rank f.history (suc n)) (places (output_of f.rows f.lives)) ≡ cond (0 == rank f.history (suc n)) 1 0 + count_by (λ s. s.row.ended == rank f.history (suc n)) f.lives + count_by (λ t. passes (λ x. x == rank f.history (suc n)) t.told.row.place) f.rows → ◌≡◌ {A = ℕ} (cond (0 == rank f.history (suc n)) 1 0) 0 → count_by (λ x. x == rank f.history (suc n)) (places (output_of f.rows f.lives)) ≡ 1
      out (inl k) c z = let a = no_ends (suc n) e at placed k.1 in let b = one_row (suc n) e at placed k.0 (omega arith) in omega (arith, c, z, a, b)
      out (inr k) c z =
          let a = one_end (suc n) e k.0 at k.1 in
          let b = no_rows (suc n) e at placed (λ t i h. let m = told_index f t (suc n) i h in none-some k.0 (sym m.says.no_end ∙ (ap ends (same_Some m.entry e (sym m.at ∙ at)) ∙ k.1))) in
          omega (arith, c, z, a, b)

  all_below : AllByRecursion (λ x. x < rank f.history (length f.history)) (places (output_of f.rows f.lives))
  all_below =
      all_append (λ x. x < rank f.history (length f.history)) (take 1 (map (λ s. s.opened) (map (λ s. s.row) f.lives)) ++ map (λ s. s.ended) (map (λ s. s.row) f.lives)) (filter_map (λ r. r.place) (map (λ t. t.told.row) f.rows))
      (all_append (λ x. x < rank f.history (length f.history)) (take 1 (map (λ s. s.opened) (map (λ s. s.row) f.lives))) (map (λ s. s.ended) (map (λ s. s.row) f.lives)) first_below
      (all_map (λ s. s.ended) (λ x. x < rank f.history (length f.history)) (map (λ s. s.row) f.lives) (all_map (λ s. s.row) (λ s. s.ended < rank f.history (length f.history)) f.lives (all_from (λ s. s.row.ended < rank f.history (length f.history)) f.lives life_below))))
      (all_filter_map (λ r. r.place) (λ x. x < rank f.history (length f.history)) (map (λ t. t.told.row) f.rows) (all_map (λ t. t.told.row) (λ r. IfSome r.place (λ x. x < rank f.history (length f.history))) f.rows (all_from (λ t. IfSome t.told.row.place (λ x. x < rank f.history (length f.history))) f.rows (λ t i. if_some (λ x. x < rank f.history (length f.history)) t.told.row.place (λ p h. row_below t p i h)))))
    where
      first_below : AllByRecursion (λ x. x < rank f.history (length f.history)) (take 1 (map (λ s. s.opened) (map (λ s. s.row) f.lives)))
      first_below =
          let k = first_life in
          let i : In k.life f.lives = subst (In k.life) (sym k.joined) (inl refl) in
          let m = life_is f k.life i in
          let b = below_total k.life.opened m.opening.entry m.opening.at (opens_placed m.opening.entry k.life.row.generation m.opening.told) in
          let lt : k.life.row.opened < rank f.history (length f.history) = omega (arith, m.opened, b) in
          subst (λ ls. AllByRecursion (λ x. x < rank f.history (length f.history)) (take 1 (map (λ s. s.opened) (map (λ s. s.row) ls)))) (sym k.joined) (lt, tt)

  place_once : (p : ℕ) → p < rank f.history (length f.history) → count_by (λ x. x == p) (places (output_of f.rows f.lives)) ≡ 1
  place_once p lt = let k = has_index f.history p lt in subst (λ x. count_by (λ y. y == x) (places (output_of f.rows f.lives)) ≡ 1) k.4 (one_each k.0 k.1 k.2 k.3)

  -- the number of places is that of the history
  pub count_found : place_count (output_of f.rows f.lives) ≡ rank f.history (length f.history)
  count_found = counts_length (rank f.history (length f.history)) (places (output_of f.rows f.lives)) all_below place_once

  pub places_counted : CountsOff (place_count (output_of f.rows f.lives)) (places (output_of f.rows f.lives))
  places_counted = (refl, all_range (λ k. count_by (λ x. x == k) (places (output_of f.rows f.lives)) ≡ 1) 0 (place_count (output_of f.rows f.lives)) (λ k le lt. place_once k (let c = count_found in omega (arith, lt, c))))

  -- ---- openings

  opens_at_index : (s : Life) → In s f.lives → (t : Telling) → In t f.rows → law.opens s.row.generation t.told ≡ tells_at s.opened t
  opens_at_index s i t j =
      same_bools (law.opens s.row.generation t.told) (tells_at s.opened t)
      (λ h.
      let o = opened_index f t s.row.generation j (commit_opens (is_commit t.told.call.verb) s.row.generation t.told.row.generation h) in
      index_own s.opened t.index (o.1 ∙ ap Some (Rattle.registry_machine.proofs.Indices.opened_once f.limits f.history f.legal o.0 s.opened s.row.generation o.2 (life_is f s i).opening)))
      (λ h.
      let k = told_index f t s.opened j (index_from s.opened t h) in
      let m = life_is f s i in
      opens_commit (is_commit t.told.call.verb) s.row.generation t.told.row.generation (k.says.opened ∙ (ap opens (same_Some k.entry m.opening.entry (sym k.at ∙ m.opening.at)) ∙ m.opening.told)))

  opened_by_one : (s : Life) → In s f.lives → 1 < s.row.generation → count_by (tells_at s.opened) f.rows ≡ 1
  opened_by_one s i lt =
      let m = life_is f s i in
      f.agrees.once.placed s.opened m.opening.entry m.opening.at (opens_placed m.opening.entry s.row.generation m.opening.told) (opens_named m.opening.entry s.row.generation m.opening.told) (not_first_opened s i lt)

  is_opened_once : (s : Life) → In s f.lives → 1 < s.row.generation → IsOpenedOnce (map (λ t. t.told) f.rows) s.row
  is_opened_once s i lt =
      let m = life_is f s i in
      record {
        once = count_map (λ t. t.told) (law.opens s.row.generation) f.rows ∙ (count_same (λ t. law.opens s.row.generation t.told) (tells_at s.opened) f.rows (λ t j. opens_at_index s i t j) ∙ opened_by_one s i lt);
        place = count_map (λ t. t.told) (λ t. law.opens s.row.generation t && is_some_of s.row.opened t.row.place) f.rows ∙ (count_same (λ t. law.opens s.row.generation t.told && is_some_of s.row.opened t.told.row.place) (tells_at s.opened) f.rows (λ t j.
            same_bools (law.opens s.row.generation t.told && is_some_of s.row.opened t.told.row.place) (tells_at s.opened t)
            (λ h. sym (opens_at_index s i t j) ∙ (and_both (law.opens s.row.generation t.told) (is_some_of s.row.opened t.told.row.place) h).0)
            (λ h. both_and (law.opens s.row.generation t.told) (is_some_of s.row.opened t.told.row.place) (opens_at_index s i t j ∙ h) (own_of s.row.opened t.told.row.place (row_from s.opened m.opening.entry m.opening.at (opens_placed m.opening.entry s.row.generation m.opening.told) t j (index_from s.opened t h) ∙ ap Some (sym m.opened))))) ∙ opened_by_one s i lt);
        before = (let r = rank_rises_over f.history s.opened s.ended m.opening.entry m.opening.at (opens_placed m.opening.entry s.row.generation m.opening.told) (opened_before_end f s i) in omega (arith, m.opened, m.ended, r));
      }

  -- openings ascend with the generations
  opened_above : (s x : Life) → In s f.lives → In x f.lives → s.row.generation < x.row.generation → s.row.opened < x.row.opened
  opened_above s x i j lt =
      let k = life_is f s i in
      let m = life_is f x j in
      let back : x.opened < s.opened → ⊥ = λ b. let g = opened_in_order f.limits f.history f.legal x.opened s.opened x.row.generation s.row.generation m.opening k.opening b in omega (arith, g, lt) in
      let same : s.opened ≡ x.opened → ⊥ = λ e.
      let entry : k.opening.entry ≡ m.opening.entry = same_Some k.opening.entry m.opening.entry (sym k.opening.at ∙ (ap (slice_get f.history) e ∙ m.opening.at)) in
      let g : s.row.generation ≡ x.row.generation = same_Some s.row.generation x.row.generation (sym k.opening.told ∙ (ap opens entry ∙ m.opening.told)) in
      omega (arith, g, lt) in
      let first : s.opened < x.opened = grind (arith, back, same) in
      let r = rank_rises_over f.history s.opened x.opened k.opening.entry k.opening.at (opens_placed k.opening.entry s.row.generation k.opening.told) first in
      omega (arith, r, k.opened, m.opened)

  ascending_rows : (ls : List Life) → ((s : Life) → In s ls → In s f.lives) → Rattle.registry_machine.specs.Orders.Ascends (map (λ s. s.row.generation) ls) → Ascends (map (λ s. s.opened) (map (λ s. s.row) ls))
  ascending_rows [] inside a = tt
  ascending_rows (s ∷ ls) inside a =
      (all_map (λ x. x.opened) (λ q. s.row.opened < q) (map (λ x. x.row) ls) (all_map (λ x. x.row) (λ x. s.row.opened < x.opened) ls (all_from (λ x. s.row.opened < x.row.opened) ls (λ x i. opened_above s x (inside s (inl refl)) (inside x (inr i)) (all_in (λ y. s.row.generation < y.row.generation) ls (all_unmap (λ y. y.row.generation) (λ g. s.row.generation < g) ls a.0) x i)))), ascending_rows ls (λ x i. inside x (inr i)) a.1)

  -- each place is taken once, and each later searcher is opened by one commit
  pub one_history : IsOneHistory (map (λ t. t.told) f.rows) (output_of f.rows f.lives)
  one_history =
      let k = first_life in
      let i : In k.life f.lives = subst (In k.life) (sym k.joined) (inl refl) in
      let m = life_is f k.life i in
      record {
        places = places_counted;
        first = subst (λ ls. BeginsWithFirst (map (λ s. s.row) ls)) (sym k.joined) (k.one, m.opened ∙ ap (rank f.history) (first_opened k.life i k.one), m.ended ∙ (ap (rank f.history) (first_ended k.life i k.one) ∙ rank_1));
        opened = subst (λ ls. AllByRecursion (IsOpenedOnce (map (λ t. t.told) f.rows)) (drop 1 (map (λ s. s.row) ls))) (sym k.joined) (all_map (λ s. s.row) (IsOpenedOnce (map (λ t. t.told) f.rows)) k.rest (all_from (λ s. IsOpenedOnce (map (λ t. t.told) f.rows) s.row) k.rest (λ s j. is_opened_once s (rest_in k s j) (rest_above k s j))));
        ascending = ascending_rows f.lives (λ s j. j) (subst Rattle.registry_machine.specs.Orders.Ascends (sym (generations_are f)) (ascends_range 1 (length (filter_map opens f.history))));
      }
    where
      rank_1 : rank f.history 1 ≡ 1
      rank_1 = let b = f.agrees.once.begins.opened in let p : rank f.history 1 ≡ 0 + 1 = rank_next f.history 0 b.entry b.at ∙ ap (λ x. 0 + cond x 1 0) (opens_placed b.entry 1 b.told) in omega (arith, p)

      first_ended : (s : Life) → In s f.lives → s.row.generation ≡ 1 → s.ended ≡ 1
      first_ended s i e =
          let b = f.agrees.once.begins.registered in
          Rattle.registry_machine.proofs.Indices.ended_once f.limits f.history f.legal s.ended 1 1 (subst (Stands ends f.history s.ended) e (life_is f s i).end) (record { entry = b.entry; at = b.at; told = registered_ends f.limits (start f.limits) b.entry 1 b.told })

      rest_in : (k : FirstLife) (s : Life) → In s k.rest → In s f.lives
      rest_in k s j = subst (In s) (sym k.joined) (inr j)

      rest_above : (k : FirstLife) (s : Life) → In s k.rest → 1 < s.row.generation
      rest_above k s j = all_in (λ x. 1 < x.row.generation) k.rest (all_unmap (λ x. x.row.generation) (λ g. 1 < g) k.rest (subst (AllByRecursion (λ g. 1 < g)) (sym k.others) (all_range (λ g. 1 < g) 2 (length k.rest) (λ g le lt. omega (arith, le))))) s j
