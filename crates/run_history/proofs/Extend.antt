-- Rows and searchers that agree with a history go on to agree where it goes on by what one row tells.
use Rattle.std.proofs.Common.{◌≡◌, ◌≢◌, ◌⊎◌, ℕ, ◌+◌, ◌<◌, ◌≤◌, List, [], ◌∷◌, ◌++◌, length, take, map, true, false, cond, count_by, filter_map, Option, Some, None, IsSome, refl, sym, ap, ap₂, subst, ◌∙◌, inl, inr, arith, slice_get}
use Rattle.std.proofs.lemmas.List.{take-append-le, map-append}
use Rattle.std.proofs.lemmas.List.Elements.{filter_map-append}
use Rattle.std.proofs.lemmas.Option.{same_Some, none-some, slice_get_within}
use Rattle.std.specs.List.{AllByRecursion, cons_option}
use Rattle.search_model.specs.Live.{live}
use Rattle.search_model.specs.Answer.{Asked}
use Rattle.script_form.specs.declared.config.Config.{Config}
use Rattle.registry_machine.specs.declared.entry.Entry.{Entry}
use Rattle.registry_machine.specs.declared.entry.Entry.TheVariants.{Open, TooMany, Update, Acquire}
use Rattle.registry_machine.specs.Entries.{caller_of, has_place, opens, registers, ends, acquires, ticket_of}
use Rattle.registry_machine.specs.Machine.{Limits}
use Rattle.registry_machine.specs.Legal.{Legal}
use Rattle.registry_machine.specs.Places.{rank, Stands}
use Rattle.registry_machine.proofs.Lists.{same_test, other_test}
use Rattle.registry_machine.proofs.Indices.{opened_once}
use Rattle.run_laws.specs.Rows.{RequestRow}
use Rattle.run_laws.specs.Calls.{Call, Told}
use Rattle.run_laws.specs.Bounds.{opened_by}
use Rattle.run_history.specs.Tellings.{Reading, Telling, Life, Tells, tells_at, warmed_at, is_index}
use Rattle.run_history.specs.Agreement.{IsTellingAt, IsTelling, BeginsOpened, IsFrom, TellsOnce, IsLife, AreSearchers, ComesBefore, EndsBefore, StandsBefore, StandInOrder, IsWarmedWithin, AreWarmed, changes, CarryViews, IsReplied, RepliesTo, HasReplyAt, HasReply, IsReleased, Agrees}
use Rattle.run_history.specs.Serial.{ComesLast}
use Rattle.run_history.proofs.Elements.{In, all_in, all_from, all_append, all_map}
use Rattle.run_history.proofs.Counts.{count_cons, count_append, count_map, count_none}
use Rattle.run_history.proofs.Told.{tellings, idle_opened}
use Rattle.run_history.proofs.Indexed.{EachAt, each_at, IsAcquiredOnce, CarriesView}
use Rattle.run_history.proofs.Longer.{get_left, get_cases, rank_left, stands_left, stands_cases, stands_within}

-- the same row of a searcher, with the acquires of a history
abbrev pub recounted : {U D L : Type 0} → List (Entry U D L) → Life → Life
recounted h s = record s { row = record s.row { acquired = length (filter_map (ticket_of s.row.generation) h) } }

pub no_order : (q : Call) → ComesBefore q q → ⊥
no_order q (inl lt) = omega (arith, lt)
no_order q (inr k) = let lt = k.1 in omega (arith, lt)

pub ends_order : (e : Told) (q : Call) → EndsBefore e q → ComesBefore e.call q
ends_order e q (inl lt) = inl lt
ends_order e q (inr k) = inr (k.0, k.1)

other_index : (n m : ℕ) → n ≢ m → is_index n (Some m) ≡ false
other_index n m other = other_test m n (λ e. other (sym e))

module _ {U D L : Type 0} (r : Reading U D) (l : Limits) (c : Config) (h more : List (Entry U D L)) where
  -- ---- rows of the history before

  longer_telling : (t : Telling) → IsTelling r c h t → IsTelling r c (h ++ more) t
  longer_telling t k = out t.index k
    where
      out : (i : Option ℕ) → IsTellingAt r c h t.told i → IsTellingAt r c (h ++ more) t.told i
      out None k = k
      out (Some n) k =
          let same : rank (h ++ more) n ≡ rank h n = rank_left h more n (let lt = slice_get_within h n k.0 k.1 in omega (arith, lt)) in
          (k.0, get_left h more n k.0 k.1, subst (λ p. Tells r c t.told p k.0) (sym same) k.2)

  longer_reply : (row : RequestRow) (g : ℕ) (asked : Asked) → IsReplied r c h row g asked → IsReplied r c (h ++ more) row g asked
  longer_reply row g asked (inl k) = inl (k.0, k.1, k.2, k.3, k.4, get_left h more k.0 (Open k.1 k.2 g k.3 k.4) k.5, k.6)
  longer_reply row g asked (inr k) = inr k

  longer_replies : (t : Told) (e : Entry U D L) → RepliesTo r c h t e → RepliesTo r c (h ++ more) t e
  longer_replies t (Update caller u) k = k
  longer_replies t (Open caller u g slot d) k = k
  longer_replies t (TooMany caller u gs) k = k
  longer_replies t (Acquire caller g i) k = λ asked e. longer_reply t.row g asked (k asked e)
  longer_replies t _ k = tt

  index_within : (t : Telling) (n : ℕ) → IsTelling r c h t → t.index ≡ Some n → n < length h
  index_within t n k e = out t.index e k
    where
      out : (i : Option ℕ) → i ≡ Some n → IsTellingAt r c h t.told i → n < length h
      out None e k = absurd (none-some n e)
      out (Some m) e k = let same = same_Some m n e in let lt = slice_get_within h m k.0 k.1 in omega (arith, lt, same)

  longer_has_reply : (t : Telling) → IsTelling r c h t → HasReply r c h t → HasReply r c (h ++ more) t
  longer_has_reply t told k = out t.index told k
    where
      out : (i : Option ℕ) → IsTellingAt r c h t.told i → HasReplyAt r c h t.told i → HasReplyAt r c (h ++ more) t.told i
      out None told k = k
      out (Some n) told k = λ e at. longer_replies t.told e (k e (told.1 ∙ ap Some (same_Some told.0 e (sym (get_left h more n told.0 told.1) ∙ at))))

  -- ---- searchers of the history before

  longer_life : (s : Life) → IsLife h s → IsLife (h ++ more) (recounted (h ++ more) s)
  longer_life s k = record {
    opening = stands_left opens h more s.opened s.row.generation k.opening;
    opened = k.opened ∙ sym (rank_left h more s.opened (let lt = stands_within opens h s.opened s.row.generation k.opening in omega (arith, lt)));
    end = record { entry = k.end.entry; at = get_left h more s.ended k.end.entry k.end.at; told = k.end.told };
    ended = k.ended ∙ sym (rank_left h more s.ended (let lt = stands_within ends h s.ended s.row.generation k.end in omega (arith, lt)));
    registered = k.registered;
    acquired = refl;
  }

  longer_from : (from : Option (ℕ × ℕ)) (w : Option ℕ) → IsFrom h from w → IsFrom (h ++ more) from w
  longer_from from None k = k
  longer_from from (Some n) k = (k.0, k.1, stands_left acquires h more n k.0 k.2)

  warmed_within : (s : Life) (n : ℕ) → IsFrom h s.row.from s.warmed → s.warmed ≡ Some n → n < length h
  warmed_within s n k e = out s.warmed e k
    where
      out : (w : Option ℕ) → w ≡ Some n → IsFrom h s.row.from w → n < length h
      out None e k = absurd (none-some n e)
      out (Some m) e k = let same = same_Some m n e in let lt = stands_within acquires h m k.0 k.2 in omega (arith, lt, same)

  -- what one row adds to the history, the rows and the searchers
  pub record Adds (ts : List Telling) (extra : List Life) (new : Telling) : Type 0 where
    pub index : new.index ≡ Some (length h)
    pub telling : IsTelling r c (h ++ more) new
    pub reply : HasReply r c (h ++ more) new
    pub covers : ComesLast new.told.call ts
    pub placed : EachAt (λ n e. has_place e ≡ true → IsSome (caller_of e) → n ≡ length h) (length h) more
    pub acquired : EachAt (IsAcquiredOnce (new ∷ []) extra) (length h) more
    pub generations : map (λ s. s.row.generation) extra ≡ filter_map opens more
    pub each : AllByRecursion (IsLife (h ++ more)) extra
    pub froms : AllByRecursion (λ s. IsFrom (h ++ more) s.row.from s.warmed) extra
    pub within : AllByRecursion IsWarmedWithin extra
    pub behind : AllByRecursion (λ s. (length h ≤ s.opened) × ((n : ℕ) → s.warmed ≡ Some n → length h ≤ n)) extra
    pub views : EachAt (CarriesView r (h ++ more)) (length h) more
    pub released : IsReleased l (h ++ more)

  module _ (ts : List Telling) (lives extra : List Life) (new : Telling) (old : Agrees r l c h ts lives) (adds : Adds ts extra new) (legal : Legal l (h ++ more)) where
    in_life : (s : Life) → In s (map (recounted (h ++ more)) lives ++ extra) → ((x : Life) × In x lives × (recounted (h ++ more) x ≡ s)) ⊎ In s extra
    in_life s i = out lives i
      where
        out : (ls : List Life) → In s (map (recounted (h ++ more)) ls ++ extra) → ((x : Life) × In x ls × (recounted (h ++ more) x ≡ s)) ⊎ In s extra
        out [] i = inr i
        out (x ∷ ls) (inl e) = inl (x, inl refl, e)
        out (x ∷ ls) (inr i) = elim (out ls i) [ inl k ↦ inl (k.0, inr k.1, k.2) | inr j ↦ inr j ]

    in_rows : (t : Telling) → In t (ts ++ new ∷ []) → In t ts ⊎ (new ≡ t)
    in_rows t i = out ts i
      where
        out : (xs : List Telling) → In t (xs ++ new ∷ []) → In t xs ⊎ (new ≡ t)
        out [] (inl e) = inr e
        out [] (inr i) = absurd i
        out (x ∷ xs) (inl e) = inl (inl e)
        out (x ∷ xs) (inr i) = elim (out xs i) [ inl j ↦ inl (inr j) | inr e ↦ inr e ]

    old_row : (t : Telling) → In t ts → IsTelling r c h t
    old_row t i = all_in (IsTelling r c h) ts old.rows t i

    old_life : (s : Life) → In s lives → IsLife h s
    old_life s i = all_in (IsLife h) lives old.searchers.each s i

    old_from : (s : Life) → In s lives → IsFrom h s.row.from s.warmed
    old_from s i = all_in (λ x. IsFrom h x.row.from x.warmed) lives old.once.froms s i

    -- ---- rows

    rows_kept : AllByRecursion (IsTelling r c (h ++ more)) (ts ++ new ∷ [])
    rows_kept = all_append (IsTelling r c (h ++ more)) ts (new ∷ []) (all_from (IsTelling r c (h ++ more)) ts (λ t i. longer_telling t (old_row t i))) (adds.telling, tt)

    replies_kept : AllByRecursion (HasReply r c (h ++ more)) (ts ++ new ∷ [])
    replies_kept = all_append (HasReply r c (h ++ more)) ts (new ∷ []) (all_from (HasReply r c (h ++ more)) ts (λ t i. longer_has_reply t (old_row t i) (all_in (HasReply r c h) ts old.replies t i))) (adds.reply, tt)

    -- ---- counts

    new_count : (n : ℕ) → count_by (tells_at n) (new ∷ []) ≡ cond (is_index n (Some (length h))) 1 0 + 0
    new_count n = count_cons (tells_at n) new [] ∙ ap (λ o. cond (is_index n o) 1 0 + 0) adds.index

    new_elsewhere : (n : ℕ) → n < length h → count_by (tells_at n) (new ∷ []) ≡ 0
    new_elsewhere n lt = new_count n ∙ (ap (λ b. cond b 1 0 + 0) (other_index n (length h) (λ e. omega (arith, e, lt))) ∙ omega arith)

    new_here : count_by (tells_at (length h)) (new ∷ []) ≡ 1
    new_here = new_count (length h) ∙ (ap (λ b. cond b 1 0 + 0) (same_test (length h)) ∙ omega arith)

    rows_count : (n : ℕ) → count_by (tells_at n) (ts ++ new ∷ []) ≡ count_by (tells_at n) ts + count_by (tells_at n) (new ∷ [])
    rows_count n = count_append (tells_at n) ts (new ∷ [])

    no_old_row : (n : ℕ) → length h ≤ n → count_by (tells_at n) ts ≡ 0
    no_old_row n le = count_none (tells_at n) ts (λ t i. out t t.index refl (index_within t) (old_row t i))
      where
        out : (t : Telling) (o : Option ℕ) → t.index ≡ o → ((m : ℕ) → IsTelling r c h t → t.index ≡ Some m → m < length h) → IsTelling r c h t → is_index n t.index ≡ false
        out t None e k told = ap (is_index n) e
        out t (Some m) e k told = ap (is_index n) e ∙ other_index n m (λ same. let lt = k m told e in omega (arith, lt, le, same))

    lives_count : (n : ℕ) → count_by (warmed_at n) (map (recounted (h ++ more)) lives ++ extra) ≡ count_by (warmed_at n) lives + count_by (warmed_at n) extra
    lives_count n = count_append (warmed_at n) (map (recounted (h ++ more)) lives) extra ∙ ap (λ m. m + count_by (warmed_at n) extra) (count_map (recounted (h ++ more)) (warmed_at n) lives)

    no_old_life : (n : ℕ) → length h ≤ n → count_by (warmed_at n) lives ≡ 0
    no_old_life n le = count_none (warmed_at n) lives (λ s i. out s s.warmed refl (λ m e. warmed_within s m (old_from s i) e))
      where
        out : (s : Life) (o : Option ℕ) → s.warmed ≡ o → ((m : ℕ) → s.warmed ≡ Some m → m < length h) → is_index n s.warmed ≡ false
        out s None e k = ap (is_index n) e
        out s (Some m) e k = ap (is_index n) e ∙ other_index n m (λ same. let lt = k m e in omega (arith, lt, le, same))

    no_extra : (n : ℕ) → n < length h → count_by (warmed_at n) extra ≡ 0
    no_extra n lt = count_none (warmed_at n) extra (λ s i. out s s.warmed refl (all_in (λ x. (length h ≤ x.opened) × ((m : ℕ) → x.warmed ≡ Some m → length h ≤ m)) extra adds.behind s i).1)
      where
        out : (s : Life) (o : Option ℕ) → s.warmed ≡ o → ((m : ℕ) → s.warmed ≡ Some m → length h ≤ m) → is_index n s.warmed ≡ false
        out s None e k = ap (is_index n) e
        out s (Some m) e k = ap (is_index n) e ∙ other_index n m (λ same. let le = k m e in omega (arith, lt, le, same))

    placed_kept : (n : ℕ) (e : Entry U D L) → slice_get (h ++ more) n ≡ Some e → has_place e ≡ true → IsSome (caller_of e) → 0 < n → count_by (tells_at n) (ts ++ new ∷ []) ≡ 1
    placed_kept n e at placed named above = out (get_cases h more n e at)
      where
        out : (slice_get h n ≡ Some e) ⊎ ((i : ℕ) × (n ≡ length h + i) × (slice_get more i ≡ Some e)) → count_by (tells_at n) (ts ++ new ∷ []) ≡ 1
        out (inl k) =
            let a = rows_count n in
            let b = old.once.placed n e k placed named above in
            let d = new_elsewhere n (slice_get_within h n e k) in omega (arith, a, b, d)
        out (inr k) =
            let z = each_at (λ m x. has_place x ≡ true → IsSome (caller_of x) → m ≡ length h) (length h) more adds.placed k.0 e k.2 placed named in
            let here : n ≡ length h = omega (arith, k.1, z) in
            let a = rows_count (length h) in
            let b = no_old_row (length h) (omega arith) in
            let d = new_here in
            subst (λ m. count_by (tells_at m) (ts ++ new ∷ []) ≡ 1) (sym here) (omega (arith, a, b, d))

    acquired_kept : (n g k : ℕ) → Stands acquires (h ++ more) n (g, k) → count_by (tells_at n) (ts ++ new ∷ []) + count_by (warmed_at n) (map (recounted (h ++ more)) lives ++ extra) ≡ 1
    acquired_kept n g k a = out (stands_cases acquires h more n (g, k) a)
      where
        out : Stands acquires h n (g, k) ⊎ ((i : ℕ) × (n ≡ length h + i) × Stands acquires more i (g, k)) → count_by (tells_at n) (ts ++ new ∷ []) + count_by (warmed_at n) (map (recounted (h ++ more)) lives ++ extra) ≡ 1
        out (inl b) =
            let lt = stands_within acquires h n (g, k) b in
            let o = old.once.acquired n g k b in
            let p = rows_count n in
            let q = lives_count n in
            let u = new_elsewhere n lt in
            let v = no_extra n lt in omega (arith, o, p, q, u, v)
        out (inr b) =
            let o = each_at (IsAcquiredOnce (new ∷ []) extra) (length h) more adds.acquired b.0 b.2.entry b.2.at (g, k) b.2.told in
            let p = rows_count (length h + b.0) in
            let q = lives_count (length h + b.0) in
            let u = no_old_row (length h + b.0) (omega arith) in
            let v = no_old_life (length h + b.0) (omega arith) in
            subst (λ m. count_by (tells_at m) (ts ++ new ∷ []) + count_by (warmed_at m) (map (recounted (h ++ more)) lives ++ extra) ≡ 1) (sym b.1) (omega (arith, o, p, q, u, v))

    begins_kept : BeginsOpened (h ++ more)
    begins_kept = record { opened = stands_left opens h more 0 1 old.once.begins.opened; registered = stands_left registers h more 1 1 old.once.begins.registered }

    positive : 0 < length h
    positive = stands_within opens h 0 1 old.once.begins.opened

    once_kept : TellsOnce (h ++ more) (ts ++ new ∷ []) (map (recounted (h ++ more)) lives ++ extra)
    once_kept = record {
      begins = begins_kept;
      first = all_append (λ t. t.index ≢ Some 0) ts (new ∷ []) old.once.first ((λ e. let same = same_Some (length h) 0 (sym adds.index ∙ e) in let p = positive in omega (arith, same, p)), tt);
      placed = placed_kept;
      froms = all_append (λ s. IsFrom (h ++ more) s.row.from s.warmed) (map (recounted (h ++ more)) lives) extra (all_map (recounted (h ++ more)) (λ s. IsFrom (h ++ more) s.row.from s.warmed) lives (all_from (λ s. IsFrom (h ++ more) s.row.from s.warmed) lives (λ s i. longer_from s.row.from s.warmed (old_from s i)))) adds.froms;
      acquired = acquired_kept;
    }

    -- ---- searchers

    same_generations : (ls : List Life) → map (λ s. s.row.generation) (map (recounted (h ++ more)) ls) ≡ map (λ s. s.row.generation) ls
    same_generations [] = refl
    same_generations (s ∷ ls) = ap (λ zs. s.row.generation ∷ zs) (same_generations ls)

    searchers_kept : AreSearchers (h ++ more) (map (recounted (h ++ more)) lives ++ extra)
    searchers_kept = record {
      generations = map-append (λ s. s.row.generation) (map (recounted (h ++ more)) lives) extra ∙ (ap₂ (λ a b. a ++ b) (same_generations lives ∙ old.searchers.generations) adds.generations ∙ sym (filter_map-append opens h more));
      each = all_append (IsLife (h ++ more)) (map (recounted (h ++ more)) lives) extra (all_map (recounted (h ++ more)) (IsLife (h ++ more)) lives (all_from (λ s. IsLife (h ++ more) (recounted (h ++ more) s)) lives (λ s i. longer_life s (old_life s i)))) adds.each;
    }

    -- ---- order

    -- an earlier row opened none of the new searchers
    not_opened : (e : Telling) → In e ts → (s : Life) → In s extra → opened_by e.told ≡ Some s.row.generation → ⊥
    not_opened e i s j opened = out e.index refl (old_row e i)
      where
        out : (o : Option ℕ) → e.index ≡ o → IsTellingAt r c h e.told o → ⊥
        out None x k = none-some s.row.generation (sym (idle_opened e.told k) ∙ opened)
        out (Some n) x k =
            let says = tellings r c e.told (rank h n) k.0 k.2 in
            let there : Stands opens (h ++ more) n s.row.generation = record { entry = k.0; at = get_left h more n k.0 k.1; told = sym says.opened ∙ opened } in
            let life = all_in (IsLife (h ++ more)) extra adds.each s j in
            let same = opened_once l (h ++ more) legal n s.opened s.row.generation there life.opening in
            let lt = slice_get_within h n k.0 k.1 in
            let le = (all_in (λ x. (length h ≤ x.opened) × ((m : ℕ) → x.warmed ≡ Some m → length h ≤ m)) extra adds.behind s j).0 in
            omega (arith, same, lt, le)

    ends_kept : (e t : Telling) → In e ts → In t ts → EndsBefore e.told t.told.call → (s : Life) → In s (map (recounted (h ++ more)) lives ++ extra) → opened_by e.told ≡ Some s.row.generation → (n : ℕ) → t.index ≡ Some n → s.ended < n
    ends_kept e t i j before s k opened n index = out (in_life s k)
      where
        order : StandsBefore lives e t
        order = all_in (StandsBefore lives e) ts (all_in (λ x. AllByRecursion (StandsBefore lives x) ts) ts old.order e i) t j

        out : ((x : Life) × In x lives × (recounted (h ++ more) x ≡ s)) ⊎ In s extra → s.ended < n
        out (inl x) = let lt = all_in (λ y. opened_by e.told ≡ Some y.row.generation → (m : ℕ) → t.index ≡ Some m → y.ended < m) lives (order.ended before) x.0 x.1 (opened ∙ ap (λ y. Some y.row.generation) (sym x.2)) n index in let same : x.0.ended ≡ s.ended = ap (λ y. y.ended) x.2 in omega (arith, lt, same)
        out (inr x) = absurd (not_opened e i s x opened)

    ends_before_new : (e : Telling) → In e ts → (s : Life) → In s (map (recounted (h ++ more)) lives ++ extra) → opened_by e.told ≡ Some s.row.generation → s.ended < length h
    ends_before_new e i s k opened = out (in_life s k)
      where
        out : ((x : Life) × In x lives × (recounted (h ++ more) x ≡ s)) ⊎ In s extra → s.ended < length h
        out (inl x) = let lt = stands_within ends h x.0.ended x.0.row.generation (old_life x.0 x.1).end in let same : x.0.ended ≡ s.ended = ap (λ y. y.ended) x.2 in omega (arith, lt, same)
        out (inr x) = absurd (not_opened e i s x opened)

    stands_before : (e t : Telling) → In e ts ⊎ (new ≡ e) → In t ts ⊎ (new ≡ t) → StandsBefore (map (recounted (h ++ more)) lives ++ extra) e t
    stands_before e t (inl i) (inl j) = record {
      told = (all_in (StandsBefore lives e) ts (all_in (λ x. AllByRecursion (StandsBefore lives x) ts) ts old.order e i) t j).told;
      ended = λ before. all_from (λ s. opened_by e.told ≡ Some s.row.generation → (n : ℕ) → t.index ≡ Some n → s.ended < n) (map (recounted (h ++ more)) lives ++ extra) (λ s k opened n index. ends_kept e t i j before s k opened n index);
    }
    stands_before e t (inl i) (inr same) = record {
      told = λ before m n a b. let lt = index_within e m (old_row e i) a in let here = same_Some (length h) n (sym adds.index ∙ (ap (λ x. x.index) same ∙ b)) in omega (arith, lt, here);
      ended = λ before. all_from (λ s. opened_by e.told ≡ Some s.row.generation → (n : ℕ) → t.index ≡ Some n → s.ended < n) (map (recounted (h ++ more)) lives ++ extra) (λ s k opened n index. let lt = ends_before_new e i s k opened in let here = same_Some (length h) n (sym adds.index ∙ (ap (λ x. x.index) same ∙ index)) in omega (arith, lt, here));
    }
    stands_before e t (inr same) (inl j) =
        let never : ComesBefore e.told.call t.told.call → ⊥ = λ b. all_in (λ x. ComesBefore new.told.call x.told.call → ⊥) ts adds.covers t j (subst (λ x. ComesBefore x.told.call t.told.call) (sym same) b) in
        record { told = λ before m n a b. absurd (never before); ended = λ before. absurd (never (ends_order e.told t.told.call before)) }
    stands_before e t (inr same) (inr same') =
        let never : ComesBefore e.told.call t.told.call → ⊥ = λ b. no_order new.told.call (subst (λ x. ComesBefore new.told.call x.told.call) (sym same') (subst (λ x. ComesBefore x.told.call t.told.call) (sym same) b)) in
        record { told = λ before m n a b. absurd (never before); ended = λ before. absurd (never (ends_order e.told t.told.call before)) }

    order_kept : StandInOrder (ts ++ new ∷ []) (map (recounted (h ++ more)) lives ++ extra)
    order_kept = all_from (λ e. AllByRecursion (StandsBefore (map (recounted (h ++ more)) lives ++ extra) e) (ts ++ new ∷ [])) (ts ++ new ∷ []) (λ e i. all_from (StandsBefore (map (recounted (h ++ more)) lives ++ extra) e) (ts ++ new ∷ []) (λ t j. stands_before e t (in_rows e i) (in_rows t j)))

    -- ---- warmings and views

    warmings_kept : AreWarmed c (map (recounted (h ++ more)) lives ++ extra)
    warmings_kept = out lives refl old.warmings
      where
        opened_first : (xs : List (Entry U D L)) (e : Entry U D L) → slice_get xs 0 ≡ Some e → opens e ≡ Some 1 → filter_map opens xs ≡ [] → ⊥
        opened_first [] e at told none = none-some e at
        opened_first (x ∷ xs) e at told none =
            let o : opens x ≡ Some 1 = ap opens (same_Some x e at) ∙ told in
            let k : cons_option (Some 1) (filter_map opens xs) ≡ [] = subst (λ y. cons_option y (filter_map opens xs) ≡ []) o none in
            grind arith

        out : (ls : List Life) → lives ≡ ls → AreWarmed c ls → AreWarmed c (map (recounted (h ++ more)) ls ++ extra)
        out [] e w = absurd (let b = old.once.begins.opened in opened_first h b.entry b.at b.told (sym old.searchers.generations ∙ ap (map (λ s. s.row.generation)) e))
        out (s ∷ ls) e w = (w.0, all_append IsWarmedWithin (map (recounted (h ++ more)) ls) extra (all_map (recounted (h ++ more)) IsWarmedWithin ls (all_from (λ x. IsWarmedWithin (recounted (h ++ more) x)) ls (λ x i. all_in IsWarmedWithin ls w.1 x i))) adds.within)

    views_kept : CarryViews r (h ++ more)
    views_kept n caller u g slot d at = out (get_cases h more n (Open caller u g slot d) at)
      where
        out : (slice_get h n ≡ Some (Open caller u g slot d)) ⊎ ((i : ℕ) × (n ≡ length h + i) × (slice_get more i ≡ Some (Open caller u g slot d))) → r.docs d ≡ live (changes r (take n (h ++ more)))
        out (inl k) = old.views n caller u g slot d k ∙ ap (λ x. live (changes r x)) (sym (take-append-le n h more (let lt = slice_get_within h n (Open caller u g slot d) k in omega (arith, lt))))
        out (inr k) = each_at (CarriesView r (h ++ more)) (length h) more adds.views k.0 (Open caller u g slot d) k.2 caller u g slot d refl ∙ ap (λ m. live (changes r (take m (h ++ more)))) (sym k.1)

    -- the rows with the new one, and the searchers with the new ones, agree with the longer history
    pub extended : Agrees r l c (h ++ more) (ts ++ new ∷ []) (map (recounted (h ++ more)) lives ++ extra)
    extended = record {
      rows = rows_kept;
      once = once_kept;
      searchers = searchers_kept;
      order = order_kept;
      warmings = warmings_kept;
      views = views_kept;
      replies = replies_kept;
      released = adds.released;
    }
