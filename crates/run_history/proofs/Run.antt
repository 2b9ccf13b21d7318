-- Rows and searchers that agree with a legal history, and what follows for each of them alone.
use Rattle.std.proofs.Common.{◌≡◌, ◌≢◌, ◌⊎◌, ℕ, zero, suc, ◌+◌, ◌-◌, ◌<◌, ◌≤◌, List, [], ◌∷◌, length, map, Bool, true, false, cond, ◌==◌, filter_map, count_by, Option, Some, None, refl, sym, ap, subst, ◌∙◌, inl, inr, arith, slice_get}
use Rattle.std.proofs.lemmas.List.{take_all}
use Rattle.std.proofs.lemmas.Option.{same_Some, none-some}
use Rattle.std.specs.List.{range_with_len}
use Rattle.script_form.specs.declared.config.Config.{Config}
use Rattle.registry_machine.specs.declared.entry.Entry.{Entry}
use Rattle.registry_machine.specs.declared.entry.Entry.TheVariants.{Open, Finish, Superseded}
use Rattle.registry_machine.specs.Entries.{has_place, opens, ends, acquires}
use Rattle.registry_machine.specs.Machine.{Limits, start}
use Rattle.registry_machine.specs.Legal.{Legal, state_of}
use Rattle.registry_machine.specs.Places.{rank, Stands}
use Rattle.registry_machine.proofs.Lists.{test_same, test_other}
use Rattle.registry_machine.proofs.Runs.{state_at}
use Rattle.registry_machine.proofs.Ranks.{rank_next, rank_rises}
use Rattle.registry_machine.proofs.Stands.{registered_ends}
use Rattle.registry_machine.proofs.Tellings.{opened_from, last_from}
use Rattle.registry_machine.proofs.Indices.{ended_behind, last_at_rises}
use Rattle.run_laws.specs.Bounds.{opened_by}
use Rattle.run_laws.specs.Acquires.{pin_of}
use Rattle.run_laws.specs.Lawful.{IsIdle}
use Rattle.run_history.specs.Tellings.{Reading, Telling, Life, Tells}
use Rattle.run_history.specs.Agreement.{IsTellingAt, IsTelling, IsLife, Agrees}
use Rattle.run_history.proofs.Elements.{In, all_in}
use Rattle.run_history.proofs.Counts.{count_map, count_range}
use Rattle.run_history.proofs.Told.{Tellings, tellings, idle_pin, idle_opened}

pub record Run (U D L : Type 0) : Type 0 where
  pub reading : Reading U D
  pub limits : Limits
  pub config : Config
  pub history : List (Entry U D L)
  pub rows : List Telling
  pub lives : List Life
  pub first : limits.first_generation ≡ 1
  pub room : limits.max_warming ≡ config.max_warming
  pub legal : Legal limits history
  pub agrees : Agrees reading limits config history rows lives

-- an entry that opens, ends or acquires has a place or none
pub opens_placed : {U D L : Type 0} (e : Entry U D L) (g : ℕ) → opens e ≡ Some g → has_place e ≡ true
opens_placed (Open c u x s d) g k = refl
opens_placed _ g k = absurd (none-some g k)

pub ends_placed : {U D L : Type 0} (e : Entry U D L) (g : ℕ) → ends e ≡ Some g → has_place e ≡ true
ends_placed (Finish x l) g k = refl
ends_placed (Superseded x b l) g k = refl
ends_placed _ g k = absurd (none-some g k)

-- the row tells the entry at index n
pub record IsToldAt {U D L : Type 0} (f : Run U D L) (t : Telling) (n : ℕ) : Type 0 where
  pub index : t.index ≡ Some n
  pub entry : Entry U D L
  pub at : slice_get f.history n ≡ Some entry
  pub tells : Tells f.reading f.config t.told (rank f.history n) entry
  pub says : Tellings f.reading f.config t.told (rank f.history n) entry

module _ {U D L : Type 0} (f : Run U D L) where
  same_entry : (n : ℕ) (d e : Entry U D L) → slice_get f.history n ≡ Some d → slice_get f.history n ≡ Some e → d ≡ e
  same_entry n d e a b = same_Some d e (sym a ∙ b)

  told_at : (t : Telling) (i : Option ℕ) → t.index ≡ i → IsTellingAt f.reading f.config f.history t.told i → (t.index ≡ None) × IsIdle t.told.row ⊎ ((n : ℕ) × IsToldAt f t n)
  told_at t None e k = inl (e, k)
  told_at t (Some n) e k = inr (n, record { index = e; entry = k.0; at = k.1; tells = k.2; says = tellings f.reading f.config t.told (rank f.history n) k.0 k.2 })

  -- each row is idle or tells an entry
  pub row_cases : (t : Telling) → In t f.rows → (t.index ≡ None) × IsIdle t.told.row ⊎ ((n : ℕ) × IsToldAt f t n)
  row_cases t i = told_at t t.index refl (all_in (IsTelling f.reading f.config f.history) f.rows f.agrees.rows t i)

  pub told_index : (t : Telling) (n : ℕ) → In t f.rows → t.index ≡ Some n → IsToldAt f t n
  told_index t n i e = out (row_cases t i)
    where
      out : (t.index ≡ None) × IsIdle t.told.row ⊎ ((m : ℕ) × IsToldAt f t m) → IsToldAt f t n
      out (inl k) = absurd (none-some n (sym k.0 ∙ e))
      out (inr k) = subst (IsToldAt f t) (same_Some k.0 n (sym k.1.index ∙ e)) k.1

  -- a row with a place tells the entry that has it
  pub record HasIndex (t : Telling) (p : ℕ) : Type 0 where
    pub n : ℕ
    pub told : IsToldAt f t n
    pub placed : has_place told.entry ≡ true
    pub place : rank f.history n ≡ p

  pub place_index : (t : Telling) (p : ℕ) → In t f.rows → t.told.row.place ≡ Some p → HasIndex t p
  place_index t p i e = out (row_cases t i)
    where
      by_test : (n : ℕ) (k : IsToldAt f t n) (b : Bool) → has_place k.entry ≡ b → HasIndex t p
      by_test n k true b = record { n = n; told = k; placed = b; place = same_Some (rank f.history n) p (sym (k.says.place b) ∙ e) }
      by_test n k false b = absurd (none-some p (sym (k.says.no_place b) ∙ e))

      out : (t.index ≡ None) × IsIdle t.told.row ⊎ ((m : ℕ) × IsToldAt f t m) → HasIndex t p
      out (inl k) = absurd (none-some p (sym k.1.place ∙ e))
      out (inr k) = by_test k.0 k.1 (has_place k.1.entry) refl

  -- a row with a pin tells the acquire
  pub pin_index : (t : Telling) (x : ℕ × ℕ) → In t f.rows → pin_of t.told ≡ Some x → (n : ℕ) × (t.index ≡ Some n) × Stands acquires f.history n x
  pin_index t x i e = out (row_cases t i)
    where
      out : (t.index ≡ None) × IsIdle t.told.row ⊎ ((m : ℕ) × IsToldAt f t m) → (n : ℕ) × (t.index ≡ Some n) × Stands acquires f.history n x
      out (inl k) = absurd (none-some x (sym (idle_pin t.told k.1) ∙ e))
      out (inr k) = (k.0, k.1.index, record { entry = k.1.entry; at = k.1.at; told = sym k.1.says.pin ∙ e })

  -- a row that opened a generation tells its opening
  pub opened_index : (t : Telling) (g : ℕ) → In t f.rows → opened_by t.told ≡ Some g → (n : ℕ) × (t.index ≡ Some n) × Stands opens f.history n g
  opened_index t g i e = out (row_cases t i)
    where
      out : (t.index ≡ None) × IsIdle t.told.row ⊎ ((m : ℕ) × IsToldAt f t m) → (n : ℕ) × (t.index ≡ Some n) × Stands opens f.history n g
      out (inl k) = absurd (none-some g (sym (idle_opened t.told k.1) ∙ e))
      out (inr k) = (k.0, k.1.index, record { entry = k.1.entry; at = k.1.at; told = sym k.1.says.opened ∙ e })

  -- ---- the beginning

  pub rank_2 : rank f.history 2 ≡ 2
  rank_2 =
      let a = f.agrees.once.begins.opened in
      let b = f.agrees.once.begins.registered in
      let p : rank f.history 1 ≡ 0 + 1 = rank_next f.history 0 a.entry a.at ∙ ap (λ x. 0 + cond x 1 0) (opens_placed a.entry 1 a.told) in
      let q : rank f.history 2 ≡ rank f.history 1 + 1 = rank_next f.history 1 b.entry b.at ∙ ap (λ x. rank f.history 1 + cond x 1 0) (ends_placed b.entry 1 (registered_ends f.limits (start f.limits) b.entry 1 b.told)) in
      omega (arith, p, q)

  -- what a row tells stands behind the first two entries
  pub told_behind : (t : Telling) (n : ℕ) → In t f.rows → IsToldAt f t n → 2 ≤ n
  told_behind t n i k =
      let not_0 : n ≡ 0 → ⊥ = λ e. all_in (λ x. x.index ≢ Some 0) f.rows f.agrees.once.first t i (k.index ∙ ap Some e) in
      let b = f.agrees.once.begins.registered in
      let not_1 : n ≡ 1 → ⊥ = λ e.
      let at_1 : slice_get f.history 1 ≡ Some k.entry = subst (λ m. slice_get f.history m ≡ Some k.entry) e k.at in
      let same : k.entry ≡ b.entry = same_entry 1 k.entry b.entry at_1 b.at in
      none-some 1 (sym k.says.no_end ∙ (ap ends same ∙ registered_ends f.limits (start f.limits) b.entry 1 b.told)) in
      grind (arith, not_0, not_1)

  pub told_rank : (t : Telling) (n : ℕ) → In t f.rows → IsToldAt f t n → 1 < rank f.history n
  told_rank t n i k = let a = rank_rises f.history 2 n (told_behind t n i k) in let b = rank_2 in omega (arith, a, b)

  -- ---- searchers

  pub life_is : (s : Life) → In s f.lives → IsLife f.history s
  life_is s i = all_in (IsLife f.history) f.lives f.agrees.searchers.each s i

  pub generations_are : map (λ s. s.row.generation) f.lives ≡ range_with_len 1 (length (filter_map opens f.history))
  generations_are =
      let a : filter_map opens f.history ≡ range_with_len (f.limits.first_generation - 1 + 1) (length (filter_map opens f.history)) = opened_from f.limits (start f.limits) f.history f.legal in
      let b : f.limits.first_generation - 1 + 1 ≡ 1 = omega (arith, f.first) in
      f.agrees.searchers.generations ∙ (a ∙ ap (λ n. range_with_len n (length (filter_map opens f.history))) b)

  last_at_end : (state_of f.limits f.history).last_opened ≡ length (filter_map opens f.history)
  last_at_end =
      let a : (state_of f.limits f.history).last_opened ≡ f.limits.first_generation - 1 + length (filter_map opens f.history) = last_from f.limits (start f.limits) f.history f.legal in
      omega (arith, f.first, a)

  in_range : (k a n : ℕ) → a ≤ k → k < a + n → In k (range_with_len a n)
  in_range k a zero le lt = absurd (omega arith)
  in_range k a (suc n) le lt = by_test (a == k) refl (λ other. in_range k (a + 1) n (omega (arith, other)) (omega arith))
    where
      by_test : (b : Bool) → (a == k) ≡ b → (a ≢ k → In k (range_with_len (a + 1) n)) → In k (range_with_len a (suc n))
      by_test true e rest = inl (test_same a k e)
      by_test false e rest = inr (rest (test_other a k e))

  in_mapped : (g : ℕ) (ls : List Life) → In g (map (λ s. s.row.generation) ls) → (s : Life) × In s ls × (s.row.generation ≡ g)
  in_mapped g [] i = absurd i
  in_mapped g (s ∷ ls) (inl e) = (s, inl refl, e)
  in_mapped g (s ∷ ls) (inr i) = let k = in_mapped g ls i in (k.0, inr k.1, k.2)

  -- each generation that was opened has its row
  pub life_of : (g n : ℕ) → 1 ≤ g → n ≤ length f.history → g ≤ (state_at f.limits f.history n).last_opened → (s : Life) × In s f.lives × (s.row.generation ≡ g)
  life_of g n one within le =
      let rises = last_at_rises f.limits f.history f.legal n (length f.history) within in
      let whole : (state_at f.limits f.history (length f.history)).last_opened ≡ (state_of f.limits f.history).last_opened = ap (λ h. (state_of f.limits h).last_opened) (take_all (length f.history) f.history (omega arith)) in
      let end = last_at_end in
      in_mapped g f.lives (subst (In g) (sym generations_are) (in_range g 1 (length (filter_map opens f.history)) one (omega (arith, rises, whole, end, le))))

  range_bounds : (k a n : ℕ) → In k (range_with_len a n) → (a ≤ k) × (k < a + n)
  range_bounds k a zero i = absurd i
  range_bounds k a (suc n) (inl e) = (omega (arith, e), omega (arith, e))
  range_bounds k a (suc n) (inr i) = let r = range_bounds k (a + 1) n i in (omega (arith, r.0), omega (arith, r.1))

  mapped_in : (s : Life) (ls : List Life) → In s ls → In s.row.generation (map (λ x. x.row.generation) ls)
  mapped_in s [] i = absurd i
  mapped_in s (x ∷ ls) (inl e) = inl (ap (λ y. y.row.generation) e)
  mapped_in s (x ∷ ls) (inr i) = inr (mapped_in s ls i)

  pub life_bounds : (s : Life) → In s f.lives → (1 ≤ s.row.generation) × (s.row.generation < 1 + length (filter_map opens f.history))
  life_bounds s i = range_bounds s.row.generation 1 (length (filter_map opens f.history)) (subst (In s.row.generation) generations_are (mapped_in s f.lives i))

  -- and one row alone
  pub life_count : (s : Life) → In s f.lives → count_by (λ x. x.row.generation == s.row.generation) f.lives ≡ 1
  life_count s i =
      let b = life_bounds s i in
      sym (count_map (λ x. x.row.generation) (λ x. x == s.row.generation) f.lives) ∙ (ap (count_by (λ x. x == s.row.generation)) generations_are ∙ count_range s.row.generation 1 (length (filter_map opens f.history)) b.0 b.1)

  pub opened_before_end : (s : Life) → In s f.lives → s.opened < s.ended
  opened_before_end s i = ended_behind f.limits f.history f.legal s.opened s.ended s.row.generation (life_is s i).opening (life_is s i).end
