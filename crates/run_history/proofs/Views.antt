-- What the rows say a searcher sees is what its opening carries.
use Rattle.std.proofs.Common.{◌≡◌, ◌⊎◌, ℕ, zero, suc, ◌+◌, ◌<◌, List, [], ◌∷◌, ◌++◌, length, take, drop, map, filter, Bool, true, false, cond, ◌==◌, count_by, Option, Some, None, IsSome, refl, sym, ap, ap₂, subst, ◌∙◌, inl, inr, arith, slice_get, append_assoc}
use Rattle.std.proofs.lemmas.List.{map-append, take_at, take-append-drop, length-map}
use Rattle.std.proofs.lemmas.List.Elements.{filter-append}
use Rattle.std.proofs.lemmas.List.Sums.{length-filter}
use Rattle.std.proofs.lemmas.Option.{same_Some, none-some, slice_get_within}
use Rattle.std.specs.List.{range_with_len}
use Rattle.std.specs.Option.{option_map_or}
use Rattle.search_model.specs.Live.{Change, nothing, live, view_at}
use Rattle.script_form.specs.declared.config.Config.{Config}
use Rattle.registry_machine.specs.declared.entry.Entry.{Entry}
use Rattle.registry_machine.specs.declared.entry.Entry.TheVariants.{Open, Update}
use Rattle.registry_machine.specs.Entries.{caller_of, has_place, opens}
use Rattle.registry_machine.specs.Places.{rank, Stands}
use Rattle.registry_machine.proofs.Lists.{not_both, same_test, test_same}
use Rattle.registry_machine.proofs.Ranks.{one_index}
use Rattle.registry_machine.proofs.Indices.{opens_at, sound_at, opened_once}
use Rattle.run_laws.specs.Rows.{Output}
use Rattle.run_laws.specs.Places.{is_some_of, place_count, opened_of, change_of, change_at, journal, view_of}
use Rattle.run_history.specs.Tellings.{Reading, Telling, Life, tells_at, is_index}
use Rattle.run_history.specs.Agreement.{change_told, changes}
use Rattle.run_history.proofs.Elements.{In}
use Rattle.run_history.proofs.Counts.{count_cons, count_append, count_found}
use Rattle.run_history.proofs.Run.{Run, place_index, told_index, life_is, life_of}

-- the change at a place is that of the rows that have it, or none where no row has it
change_at_is : (c : Config) (p : ℕ) (x : Change) (ts : List Telling) → ((t : Telling) → In t ts → t.told.row.place ≡ Some p → change_of c t.told ≡ x) → (x ≡ nothing) ⊎ ((t : Telling) × In t ts × (t.told.row.place ≡ Some p)) → change_at c p (map (λ t. t.told) ts) ≡ x
change_at_is c p x [] each (inl e) = sym e
change_at_is c p x [] each (inr k) = absurd k.1
change_at_is c p x (t ∷ ts) each some = by_test t.told.row.place refl (change_at_is c p x ts (λ y i. each y (inr i)))
  where
    rest : (t.told.row.place ≡ Some p → ⊥) → (x ≡ nothing) ⊎ ((y : Telling) × In y (t ∷ ts) × (y.told.row.place ≡ Some p)) → (x ≡ nothing) ⊎ ((y : Telling) × In y ts × (y.told.row.place ≡ Some p))
    rest other (inl e) = inl e
    rest other (inr k) = out k.0 k.1 k.2
      where
        out : (y : Telling) → In y (t ∷ ts) → y.told.row.place ≡ Some p → (x ≡ nothing) ⊎ ((z : Telling) × In z ts × (z.told.row.place ≡ Some p))
        out y (inl e) h = absurd (other (ap (λ z. z.told.row.place) e ∙ h))
        out y (inr i) h = inr (y, i, h)

    by_eq : (m : ℕ) → t.told.row.place ≡ Some m → (b : Bool) → (p == m) ≡ b → ((x ≡ nothing) ⊎ ((y : Telling) × In y ts × (y.told.row.place ≡ Some p)) → change_at c p (map (λ y. y.told) ts) ≡ x) → cond b (change_of c t.told) (change_at c p (map (λ y. y.told) ts)) ≡ x
    by_eq m e true t' go = each t (inl refl) (e ∙ ap Some (sym (test_same p m t')))
    by_eq m e false t' go = go (rest (λ h. not_both (p == m) t' (subst (λ y. (p == y) ≡ true) (same_Some p m (sym h ∙ e)) (same_test p))) some)

    by_test : (o : Option ℕ) → t.told.row.place ≡ o → ((x ≡ nothing) ⊎ ((y : Telling) × In y ts × (y.told.row.place ≡ Some p)) → change_at c p (map (λ y. y.told) ts) ≡ x) → cond (is_some_of p t.told.row.place) (change_of c t.told) (change_at c p (map (λ y. y.told) ts)) ≡ x
    by_test None e go = subst (λ o. cond (is_some_of p o) (change_of c t.told) (change_at c p (map (λ y. y.told) ts)) ≡ x) (sym e) (go (rest (λ h. none-some p (sym e ∙ h)) some))
    by_test (Some m) e go = subst (λ o. cond (is_some_of p o) (change_of c t.told) (change_at c p (map (λ y. y.told) ts)) ≡ x) (sym e) (by_eq m e (p == m) refl go)

index_is : (n : ℕ) (o : Option ℕ) → is_index n o ≡ true → o ≡ Some n
index_is n None e = absurd (grind arith)
index_is n (Some m) e = ap Some (test_same m n e)

pub index_from : (n : ℕ) (t : Telling) → tells_at n t ≡ true → t.index ≡ Some n
index_from n t e = index_is n t.index e

get_behind : {A : Type 0} (xs : List A) (y : A) (ys : List A) → slice_get (xs ++ y ∷ ys) (length xs) ≡ Some y
get_behind [] y ys = refl
get_behind (x ∷ xs) y ys = get_behind xs y ys

module _ {U D L : Type 0} (r : Reading U D) where
  pub changes_append : (h more : List (Entry U D L)) → changes r (h ++ more) ≡ changes r h ++ changes r more
  changes_append h more = ap (map (change_told r)) (filter-append has_place h more) ∙ map-append (change_told r) (filter has_place h) (filter has_place more)

  pub length_changes : (h : List (Entry U D L)) → length (changes r h) ≡ count_by has_place h
  length_changes h = length-map (filter has_place h) (change_told r) ∙ length-filter has_place h

  -- the changes below a place are those of the entries before its index
  pub changes_below : (h : List (Entry U D L)) (n : ℕ) → take (rank h n) (changes r h) ≡ changes r (take n h)
  changes_below h n =
      ap (λ x. take (rank h n) (changes r x)) (sym (take-append-drop n h)) ∙ (ap (take (rank h n)) (changes_append (take n h) (drop n h)) ∙ take_at (changes r (take n h)) (changes r (drop n h)) (rank h n) (length_changes (take n h)))

  -- places are numbered along the history
  numbered : (k : ℕ → Change) (pre suf : List (Entry U D L)) → ((n : ℕ) (e : Entry U D L) → slice_get (pre ++ suf) n ≡ Some e → has_place e ≡ true → k (rank (pre ++ suf) n) ≡ change_told r e) → map k (range_with_len (count_by has_place pre) (count_by has_place suf)) ≡ changes r suf
  numbered k pre [] each = refl
  numbered k pre (e ∷ es) each = by_test (has_place e) refl (numbered k (pre ++ e ∷ []) es each')
    where
      same : (pre ++ e ∷ []) ++ es ≡ pre ++ e ∷ es
      same = append_assoc pre (e ∷ []) es

      each' : (n : ℕ) (x : Entry U D L) → slice_get ((pre ++ e ∷ []) ++ es) n ≡ Some x → has_place x ≡ true → k (rank ((pre ++ e ∷ []) ++ es) n) ≡ change_told r x
      each' = subst (λ h. (n : ℕ) (x : Entry U D L) → slice_get h n ≡ Some x → has_place x ≡ true → k (rank h n) ≡ change_told r x) (sym same) each

      here : has_place e ≡ true → k (count_by has_place pre) ≡ change_told r e
      here placed = ap (λ x. k (count_by has_place x)) (sym (take_at pre (e ∷ es) (length pre) refl)) ∙ each (length pre) e (get_behind pre e es) placed

      by_test : (b : Bool) → has_place e ≡ b → map k (range_with_len (count_by has_place (pre ++ e ∷ [])) (count_by has_place es)) ≡ changes r es → map k (range_with_len (count_by has_place pre) (count_by has_place (e ∷ es))) ≡ map (change_told r) (cond (has_place e) (e ∷ filter has_place es) (filter has_place es))
      by_test true placed rest =
          let a : count_by has_place (e ∷ es) ≡ 1 + count_by has_place es = count_cons has_place e es ∙ ap (λ b. cond b 1 0 + count_by has_place es) placed in
          let b : count_by has_place (e ∷ es) ≡ suc (count_by has_place es) = omega (arith, a) in
          let p : count_by has_place (pre ++ e ∷ []) ≡ count_by has_place pre + count_by has_place (e ∷ []) = count_append has_place pre (e ∷ []) in
          let q : count_by has_place (e ∷ []) ≡ 1 + 0 = count_cons has_place e [] ∙ ap (λ b. cond b 1 0 + 0) placed in
          let s : count_by has_place (pre ++ e ∷ []) ≡ count_by has_place pre + 1 = omega (arith, p, q) in
          subst (λ m. map k (range_with_len (count_by has_place pre) m) ≡ map (change_told r) (cond (has_place e) (e ∷ filter has_place es) (filter has_place es))) (sym b)
          (subst (λ b. k (count_by has_place pre) ∷ map k (range_with_len (count_by has_place pre + 1) (count_by has_place es)) ≡ map (change_told r) (cond b (e ∷ filter has_place es) (filter has_place es))) (sym placed)
          (ap₂ (λ y ys. y ∷ ys) (here placed) (subst (λ m. map k (range_with_len m (count_by has_place es)) ≡ changes r es) s rest)))
      by_test false placed rest =
          let a : count_by has_place (e ∷ es) ≡ 0 + count_by has_place es = count_cons has_place e es ∙ ap (λ b. cond b 1 0 + count_by has_place es) placed in
          let b : count_by has_place (e ∷ es) ≡ count_by has_place es = omega (arith, a) in
          let p : count_by has_place (pre ++ e ∷ []) ≡ count_by has_place pre + count_by has_place (e ∷ []) = count_append has_place pre (e ∷ []) in
          let q : count_by has_place (e ∷ []) ≡ 0 + 0 = count_cons has_place e [] ∙ ap (λ b. cond b 1 0 + 0) placed in
          let s : count_by has_place (pre ++ e ∷ []) ≡ count_by has_place pre = omega (arith, p, q) in
          subst (λ m. map k (range_with_len (count_by has_place pre) m) ≡ map (change_told r) (cond (has_place e) (e ∷ filter has_place es) (filter has_place es))) (sym b)
          (subst (λ b. map k (range_with_len (count_by has_place pre) (count_by has_place es)) ≡ map (change_told r) (cond b (e ∷ filter has_place es) (filter has_place es))) (sym placed)
          (subst (λ m. map k (range_with_len m (count_by has_place es)) ≡ changes r es) s rest))

-- where the rows of a generation tell its opening
pub opened_found : (g : ℕ) (ls : List Life) (s : Life) → In s ls → s.row.generation ≡ g → (x : Life) × In x ls × (x.row.generation ≡ g) × (opened_of g (map (λ y. y.row) ls) ≡ Some x.row.opened)
opened_found g [] s i e = absurd i
opened_found g (x ∷ ls) s i e = by_test (g == x.row.generation) refl i (λ j. opened_found g ls s j e)
  where
    by_test : (b : Bool) → (g == x.row.generation) ≡ b → In s (x ∷ ls) → (In s ls → (y : Life) × In y ls × (y.row.generation ≡ g) × (opened_of g (map (λ z. z.row) ls) ≡ Some y.row.opened)) → (y : Life) × In y (x ∷ ls) × (y.row.generation ≡ g) × (cond (g == x.row.generation) (Some x.row.opened) (opened_of g (map (λ z. z.row) ls)) ≡ Some y.row.opened)
    by_test true t i rest = (x, inl refl, sym (test_same g x.row.generation t), ap (λ b. cond b (Some x.row.opened) (opened_of g (map (λ z. z.row) ls))) t)
    by_test false t (inl same) rest = absurd (not_both (g == x.row.generation) t (subst (λ y. (g == y) ≡ true) (sym (ap (λ z. z.row.generation) same ∙ e)) (same_test g)))
    by_test false t (inr j) rest = let k = rest j in (k.0, inr k.1, k.2, ap (λ b. cond b (Some x.row.opened) (opened_of g (map (λ z. z.row) ls))) t ∙ k.3)

module _ {U D L : Type 0} (f : Run U D L) where
  told_change : (n : ℕ) (e : Entry U D L) → slice_get f.history n ≡ Some e → has_place e ≡ true → (t : Telling) → In t f.rows → t.told.row.place ≡ Some (rank f.history n) → change_of f.config t.told ≡ change_told f.reading e
  told_change n e at placed t i h =
      let k = place_index f t (rank f.history n) i h in
      let same : k.n ≡ n = one_index f.history k.n n k.told.entry e k.told.at k.placed at placed k.place in
      let entry : k.told.entry ≡ e = same_Some k.told.entry e (sym k.told.at ∙ (ap (slice_get f.history) same ∙ at)) in
      k.told.says.changed k.placed ∙ ap (change_told f.reading) entry

  not_first : (n : ℕ) (e : Entry U D L) → slice_get f.history n ≡ Some e → opens e ≡ None → 0 < n
  not_first zero e at none = let b = f.agrees.once.begins.opened in absurd (none-some 1 (sym none ∙ (ap opens (same_Some e b.entry (sym at ∙ b.at)) ∙ b.told)))
  not_first (suc n) e at none = omega arith

  -- the row that tells a placed entry of a caller
  pub teller : (n : ℕ) (e : Entry U D L) → slice_get f.history n ≡ Some e → has_place e ≡ true → IsSome (caller_of e) → 0 < n → (t : Telling) × In t f.rows × (t.told.row.place ≡ Some (rank f.history n))
  teller n e at placed named above =
      let c = f.agrees.once.placed n e at placed named above in
      let k = count_found (tells_at n) f.rows (omega (arith, c)) in
      let told = told_index f k.0 n k.1 (index_from n k.0 k.2) in
      (k.0, k.1, told.says.place (subst (λ x. has_place x ≡ true) (same_Some e told.entry (sym at ∙ told.at)) placed))

  some_change : (n : ℕ) (e : Entry U D L) → slice_get f.history n ≡ Some e → (change_told f.reading e ≡ nothing) ⊎ ((t : Telling) × In t f.rows × (t.told.row.place ≡ Some (rank f.history n)))
  some_change n (Update caller u) at = inr (teller n (Update caller u) at refl refl (not_first n (Update caller u) at refl))
  some_change n _ at = inl refl

  -- the change at a place is that of the entry there
  pub change_found : (n : ℕ) (e : Entry U D L) → slice_get f.history n ≡ Some e → has_place e ≡ true → change_at f.config (rank f.history n) (map (λ t. t.told) f.rows) ≡ change_told f.reading e
  change_found n e at placed = change_at_is f.config (rank f.history n) (change_told f.reading e) f.rows (told_change n e at placed) (some_change n e at)

  pub journal_found : (o : Output) → place_count o ≡ count_by has_place f.history → journal f.config (map (λ t. t.told) f.rows) o ≡ changes f.reading f.history
  journal_found o count = ap (λ n. map (λ p. change_at f.config p (map (λ t. t.told) f.rows)) (range_with_len 0 n)) count ∙ numbered f.reading (λ p. change_at f.config p (map (λ t. t.told) f.rows)) [] f.history change_found

  -- the rows tell the place of an opening
  pub where_opened : (n g : ℕ) → Stands opens f.history n g → opened_of g (map (λ s. s.row) f.lives) ≡ Some (rank f.history n)
  where_opened n g stands =
      let os = opens_at f.limits f.history f.legal n g stands in
      let sound = (sound_at f.limits f.history f.legal n).from_first in
      let l = life_of f g (suc n) (omega (arith, os.next)) (slice_get_within f.history n stands.entry stands.at) (omega (arith, os.last)) in
      let x = opened_found g f.lives l.0 l.1 l.2 in
      let k = life_is f x.0 x.1 in
      let same : x.0.opened ≡ n = opened_once f.limits f.history f.legal x.0.opened n g (subst (Stands opens f.history x.0.opened) x.2 k.opening) stands in
      x.3 ∙ ap Some (k.opened ∙ ap (rank f.history) same)

  -- the rows' view of a generation is what its opening carries
  pub view_found : (o : Output) → place_count o ≡ count_by has_place f.history → o.searchers ≡ map (λ s. s.row) f.lives → (n caller : ℕ) (u : U) (g slot : ℕ) (d : D) → slice_get f.history n ≡ Some (Open caller u g slot d) → view_of f.config (map (λ t. t.told) f.rows) o g ≡ f.reading.docs d
  view_found o count searchers n caller u g slot d at =
      let stands : Stands opens f.history n g = record { entry = Open caller u g slot d; at = at; told = refl } in
      let place : opened_of g o.searchers ≡ Some (rank f.history n) = ap (opened_of g) searchers ∙ where_opened n g stands in
      ap (λ p. option_map_or (view_at (journal f.config (map (λ t. t.told) f.rows) o)) p []) place ∙
      (ap (λ j. live (take (rank f.history n) j)) (journal_found o count) ∙
      (ap live (changes_below f.reading f.history n) ∙ sym (f.agrees.views n caller u g slot d at)))
