-- The slots of documents, as a document takes the place of the one with its unique key.
use Rattle.std.proofs.Common.{◌≡◌, ◌<◌, ℕ, suc, zero, Bool, true, false, cond, List, [], ◌∷◌, ◌++◌, length, get_or, take, Option, Some, None, filter, refl, ap, sym, ◌∙◌, arith, ⊎_elim}
use Rattle.std.specs.Prelude.{◌⊎◌, ◌+◌, ◌≤◌, ◌&&◌, not, slice_set, slice_get, IfSome}
use Rattle.std.specs.Arc.{arc_value}
use Rattle.std.specs.declared.sync.Arc.{Arc}
use Rattle.std.specs.Cmp.Lexicographic.{texts_ties}
use Rattle.std.specs.BTreeMap.{BTreeMap, get, Updates}
use Rattle.std.proofs.lemmas.Bool.{true≢false}
use Rattle.std.proofs.lemmas.Option.{none-some, same_Some, slice_get_read}
use Rattle.std.proofs.lemmas.List.{length-set, set-append_left, take_more, append-nil}
use Rattle.std.proofs.lemmas.List.Elements.{filter-append}
use mathlib.Core.Logic.{inl, inr}
use Rattle.field_schema.specs.Bytes.{bytes_eq, bytes_cmp}
use Rattle.field_schema.specs.Laws.{bytes_eq-Decides, bytes_eq-same}
use Rattle.doc_model.specs.Document.{Document}
use Rattle.search_model.specs.Live.{has_id, after, added}
use Rattle.served_index.specs.Pendings.{emptied, documents, id_in, id_of, IsPlaced}

-- ---- lists of id

pub same_id : (xs ys : List ℕ) → bytes_eq xs ys ≡ true → xs ≡ ys
same_id xs ys = bytes_eq-same xs ys

pub equal_id : (xs ys : List ℕ) → xs ≡ ys → bytes_eq xs ys ≡ true
equal_id xs ys = (bytes_eq-Decides xs ys).1

pub other_id : (xs ys : List ℕ) → (xs ≡ ys → ⊥) → bytes_eq xs ys ≡ false
other_id xs ys apart = by (bytes_eq xs ys) (same_id xs ys)
  where
    by : (b : Bool) → (b ≡ true → xs ≡ ys) → b ≡ false
    by true same = absurd (apart (same refl))
    by false same = refl

-- two lists of id are one, or tell themselves apart
pub cases_id : (xs ys : List ℕ) → (xs ≡ ys) ⊎ (xs ≡ ys → ⊥)
cases_id xs ys = by (bytes_eq xs ys) (same_id xs ys) (equal_id xs ys)
  where
    by : (b : Bool) → (b ≡ true → xs ≡ ys) → (xs ≡ ys → b ≡ true) → (xs ≡ ys) ⊎ (xs ≡ ys → ⊥)
    by true same equal = inl (same refl)
    by false same equal = inr (λ e. absurd (true≢false (sym (equal e))))

-- two tests of documents, in either order
filter_twice : (p q : Document → Bool) (ds : List Document) → filter q (filter p ds) ≡ filter (λ d. p d && q d) ds
filter_twice p q [] = refl
filter_twice p q (d ∷ ds) =
    elim (p d) as (λ b. filter q (cond b (d ∷ filter p ds) (filter p ds)) ≡ cond (b && q d) (d ∷ filter (λ e. p e && q e) ds) (filter (λ e. p e && q e) ds)) [
      | true ↦ ap (λ es. cond (q d) (d ∷ es) es) (filter_twice p q ds)
      | false ↦ filter_twice p q ds
    ]

swapped : (a b : Bool) → (a && b) ≡ (b && a)
swapped true true = refl
swapped true false = refl
swapped false true = refl
swapped false false = refl

filters_swap : (p q : Document → Bool) (ds : List Document) → filter p (filter q ds) ≡ filter q (filter p ds)
filters_swap p q ds = filter_twice q p ds ∙ (λ j. filter (λ d. swapped (q d) (p d) j) ds) ∙ sym (filter_twice p q ds)

module _ {Z : Type 0} where
  -- ---- the unique id in slots

  pub id_in-within : (slots : List (Option (Arc Document Z))) (i : ℕ) (id : List ℕ) → id_in slots i ≡ Some id → i < length slots
  id_in-within [] i id h = absurd (none-some id h)
  id_in-within (s ∷ slots) zero id h = omega arith
  id_in-within (s ∷ slots) (suc i) id h =
      let below : i < length slots = id_in-within slots i id h in
      omega arith

  pub id_in-push : (slots : List (Option (Arc Document Z))) (s : Option (Arc Document Z)) (i : ℕ) (id : List ℕ) → id_in slots i ≡ Some id → id_in (slots ++ s ∷ []) i ≡ Some id
  id_in-push [] s i id h = absurd (none-some id h)
  id_in-push (x ∷ slots) s zero id h = h
  id_in-push (x ∷ slots) s (suc i) id h = id_in-push slots s i id h

  pub id_in-last : (slots : List (Option (Arc Document Z))) (a : Arc Document Z) (n : ℕ) → n ≡ length slots → id_in (slots ++ Some a ∷ []) n ≡ Some (id_of a)
  id_in-last [] a zero at_end = refl
  id_in-last [] a (suc n) at_end = absurd (omega arith)
  id_in-last (x ∷ slots) a zero at_end = absurd (omega arith)
  id_in-last (x ∷ slots) a (suc n) at_end = id_in-last slots a n (omega arith)

  pub id_in-pushed : (slots : List (Option (Arc Document Z))) (a : Arc Document Z) (i : ℕ) (id : List ℕ) → id_in (slots ++ Some a ∷ []) i ≡ Some id
      → (id_in slots i ≡ Some id) ⊎ ((i ≡ length slots) × (id_of a ≡ id))
  id_in-pushed [] a zero id h = inr (refl, same_Some _ _ h)
  id_in-pushed [] a (suc i) id h = absurd (none-some id h)
  id_in-pushed (x ∷ slots) a zero id h = inl h
  id_in-pushed (x ∷ slots) a (suc i) id h =
      ⊎_elim (λ left. inl left) (λ right. let at_end : i ≡ length slots = right.0 in inr (omega arith, right.1)) (id_in-pushed slots a i id h)

  pub id_in-emptied : (slots : List (Option (Arc Document Z))) (p i : ℕ) (id : List ℕ) → id_in (slice_set slots p None) i ≡ Some id → (id_in slots i ≡ Some id) × (i ≡ p → ⊥)
  id_in-emptied [] p i id h = absurd (none-some id h)
  id_in-emptied (x ∷ slots) zero zero id h = absurd (none-some id h)
  id_in-emptied (x ∷ slots) zero (suc i) id h = (h, λ e. absurd (omega arith))
  id_in-emptied (x ∷ slots) (suc p) zero id h = (h, λ e. absurd (omega arith))
  id_in-emptied (x ∷ slots) (suc p) (suc i) id h =
      let r : (id_in slots i ≡ Some id) × (i ≡ p → ⊥) = id_in-emptied slots p i id h in
      (r.0, λ e. r.1 (omega arith))

  pub id_in-not_emptied : (slots : List (Option (Arc Document Z))) (p i : ℕ) (id : List ℕ) → id_in slots i ≡ Some id → (i ≡ p → ⊥) → id_in (slice_set slots p None) i ≡ Some id
  id_in-not_emptied [] p i id h apart = absurd (none-some id h)
  id_in-not_emptied (x ∷ slots) zero zero id h apart = absurd (apart refl)
  id_in-not_emptied (x ∷ slots) zero (suc i) id h apart = h
  id_in-not_emptied (x ∷ slots) (suc p) zero id h apart = h
  id_in-not_emptied (x ∷ slots) (suc p) (suc i) id h apart = id_in-not_emptied slots p i id h (λ e. apart (omega arith))

  -- ---- the documents, without the one that has these id

  pub documents-pushed_none : (slots : List (Option (Arc Document Z))) → documents (slots ++ None ∷ []) ≡ documents slots
  documents-pushed_none [] = refl
  documents-pushed_none (None ∷ slots) = documents-pushed_none slots
  documents-pushed_none (Some a ∷ slots) = ap (λ ds. arc_value a ∷ ds) (documents-pushed_none slots)

  pub documents-push : (slots : List (Option (Arc Document Z))) (a : Arc Document Z) → documents (slots ++ Some a ∷ []) ≡ documents slots ++ arc_value a ∷ []
  documents-push [] a = refl
  documents-push (None ∷ slots) a = documents-push slots a
  documents-push (Some b ∷ slots) a = ap (λ ds. arc_value b ∷ ds) (documents-push slots a)

  pub none_dropped : (id : List ℕ) (slots : List (Option (Arc Document Z))) → ((i : ℕ) → id_in slots i ≡ Some id → ⊥)
      → documents slots ≡ filter (λ e. not (has_id id e)) (documents slots)
  none_dropped id [] apart = refl
  none_dropped id (None ∷ slots) apart = none_dropped id slots (λ i. apart (suc i))
  none_dropped id (Some a ∷ slots) apart =
      let differs : bytes_eq id (id_of a) ≡ false = other_id id (id_of a) (λ e. apart 0 (ap Some (sym e))) in
      rw differs (ap (λ ds. arc_value a ∷ ds) (none_dropped id slots (λ i. apart (suc i))))

  pub one_dropped : (id : List ℕ) (slots : List (Option (Arc Document Z))) (p : ℕ) → id_in slots p ≡ Some id → ((i : ℕ) → id_in slots i ≡ Some id → i ≡ p)
      → documents (slice_set slots p None) ≡ filter (λ e. not (has_id id e)) (documents slots)
  one_dropped id [] p here only = absurd (none-some id here)
  one_dropped id (None ∷ slots) zero here only = absurd (none-some id here)
  one_dropped id (Some a ∷ slots) zero here only =
      let same : bytes_eq id (id_of a) ≡ true = equal_id id (id_of a) (sym (same_Some _ _ here)) in
      rw same (none_dropped id slots (λ i h. let e : suc i ≡ 0 = only (suc i) h in absurd (omega arith)))
  one_dropped id (None ∷ slots) (suc p) here only =
      one_dropped id slots p here (λ i h. let e : suc i ≡ suc p = only (suc i) h in omega arith)
  one_dropped id (Some a ∷ slots) (suc p) here only =
      let differs : bytes_eq id (id_of a) ≡ false = other_id id (id_of a) (λ s. let e : 0 ≡ suc p = only 0 (ap Some (sym s)) in absurd (omega arith)) in
      rw differs (ap (λ ds. arc_value a ∷ ds) (one_dropped id slots p here (λ i h. let e : suc i ≡ suc p = only (suc i) h in omega arith)))

  -- the slots ys are those of slots but for the document with these id, whose slot is empty
  pub record IsWithout (id : List ℕ) (slots ys : List (Option (Arc Document Z))) : Type 0 where
    pub len : length ys ≡ length slots
    pub from : (i : ℕ) (k : List ℕ) → id_in ys i ≡ Some k → (id_in slots i ≡ Some k) × (k ≡ id → ⊥)
    pub into : (i : ℕ) (k : List ℕ) → id_in slots i ≡ Some k → (k ≡ id → ⊥) → id_in ys i ≡ Some k
    pub docs : documents ys ≡ filter (λ e. not (has_id id e)) (documents slots)

  pub emptied-IsWithout : (id : List ℕ) (slots : List (Option (Arc Document Z))) (m : BTreeMap (List ℕ) ℕ) (older : Option ℕ) → IsPlaced slots m → older ≡ get bytes_cmp m id
      → IsWithout id slots (emptied older slots)
  emptied-IsWithout id slots m None placed old =
      let nowhere : (i : ℕ) → id_in slots i ≡ Some id → ⊥ = λ i h. none-some i (old ∙ placed.found id i h) in
      record {
        len = refl;
        from = λ i k h. (h, λ e. nowhere i (h ∙ ap Some e));
        into = λ i k h apart. h;
        docs = none_dropped id slots nowhere;
      }
  emptied-IsWithout id slots m (Some p) placed old =
      let here : id_in slots p ≡ Some id = placed.leads id p (sym old) in
      let only : (i : ℕ) → id_in slots i ≡ Some id → i ≡ p = λ i h. sym (same_Some p i (old ∙ placed.found id i h)) in
      record {
        len = length-set slots p None;
        from = λ i k h. let r : (id_in slots i ≡ Some k) × (i ≡ p → ⊥) = id_in-emptied slots p i k h in (r.0, λ e. r.1 (only i (r.0 ∙ ap Some e)));
        into = λ i k h apart. id_in-not_emptied slots p i k h (λ e. apart (same_Some k id (sym h ∙ ap (id_in slots) e ∙ here)));
        docs = one_dropped id slots p here only;
      }

  -- ---- the map and the slots after a document is added

  pub IsPlaced-put : (id : List ℕ) (slots ys : List (Option (Arc Document Z))) (a : Arc Document Z) (m n : BTreeMap (List ℕ) ℕ) (last : ℕ)
      → IsPlaced slots m → IsWithout id slots ys → id ≡ id_of a → last ≡ length slots → Updates bytes_cmp m n id (Some last)
      → IsPlaced (ys ++ Some a ∷ []) n
  IsPlaced-put id slots ys a m n last placed without of_doc at_end updates = record { leads = leads; found = found }
    where
      here : get bytes_cmp n id ≡ Some last
      here = updates.1

      apart : (k : List ℕ) → (id ≡ k → ⊥) → get bytes_cmp n k ≡ get bytes_cmp m k
      apart k differs = updates.2 k (sym (texts_ties id k) ∙ other_id id k differs)

      end : last ≡ length ys
      end = at_end ∙ sym without.len

      leads : (k : List ℕ) (i : ℕ) → get bytes_cmp n k ≡ Some i → id_in (ys ++ Some a ∷ []) i ≡ Some k
      leads k i h =
          ⊎_elim (λ e. id_in-last ys a i (sym (same_Some last i (sym here ∙ ap (get bytes_cmp n) e ∙ h)) ∙ end) ∙ ap Some (sym of_doc ∙ e))
          (λ differs. id_in-push ys (Some a) i k (without.into i k (placed.leads k i (sym (apart k differs) ∙ h)) (λ e. differs (sym e))))
          (cases_id id k)

      found : (k : List ℕ) (i : ℕ) → id_in (ys ++ Some a ∷ []) i ≡ Some k → get bytes_cmp n k ≡ Some i
      found k i h =
          ⊎_elim (λ inside. let r : (id_in slots i ≡ Some k) × (k ≡ id → ⊥) = without.from i k inside in apart k (λ e. r.1 (sym e)) ∙ placed.found k i r.0)
          (λ new. ap (get bytes_cmp n) (sym new.1 ∙ sym of_doc) ∙ here ∙ ap Some (end ∙ sym new.0))
          (id_in-pushed ys a i k h)

  pub emptied-pushed : (slots : List (Option (Arc Document Z))) (older : Option ℕ) (s : Option (Arc Document Z)) → ((p : ℕ) → older ≡ Some p → p < length slots)
      → emptied older (slots ++ s ∷ []) ≡ emptied older slots ++ s ∷ []
  emptied-pushed slots None s within = refl
  emptied-pushed slots (Some p) s within = set-append_left slots (s ∷ []) p None (within p refl)

  pub documents-put : (id : List ℕ) (slots ys : List (Option (Arc Document Z))) (a : Arc Document Z) → IsWithout id slots ys → id ≡ id_of a
      → documents (ys ++ Some a ∷ []) ≡ after (documents slots) (added (arc_value a))
  documents-put id slots ys a without of_doc =
      documents-push ys a ∙ ap (λ ds. ds ++ arc_value a ∷ []) (without.docs ∙ ap (λ k. filter (λ e. not (has_id k e)) (documents slots)) of_doc)

  pub older-within : (id : List ℕ) (slots : List (Option (Arc Document Z))) (m : BTreeMap (List ℕ) ℕ) (older : Option ℕ) → IsPlaced slots m → older ≡ get bytes_cmp m id
      → (p : ℕ) → older ≡ Some p → p < length slots
  older-within id slots m older placed old p some = id_in-within slots p id (placed.leads id p (sym old ∙ some))

  -- a document that stands further on has id that none before it has
  pub documents-distinct : (slots : List (Option (Arc Document Z))) (m : BTreeMap (List ℕ) ℕ) (i : ℕ) (a : Arc Document Z) → IsPlaced slots m → slice_get slots i ≡ Some (Some a)
      → documents (take i slots) ≡ filter (λ e. not (has_id (id_of a) e)) (documents (take i slots))
  documents-distinct slots m i a placed here = none_dropped (id_of a) (take i slots) (λ j h. let e : i ≡ j = same j (before slots i j h) in let below : j < i = within slots i j h in absurd (omega arith))
    where
      at_i : (slots' : List (Option (Arc Document Z))) (i' : ℕ) → slice_get slots' i' ≡ Some (Some a) → id_in slots' i' ≡ Some (id_of a)
      at_i slots' i' h = rw h refl

      same : (j : ℕ) → id_in slots j ≡ Some (id_of a) → i ≡ j
      same j h = same_Some i j (sym (placed.found (id_of a) i (at_i slots i here)) ∙ placed.found (id_of a) j h)

      before : (slots' : List (Option (Arc Document Z))) (i' j : ℕ) → id_in (take i' slots') j ≡ Some (id_of a) → id_in slots' j ≡ Some (id_of a)
      before [] zero j h = h
      before [] (suc i') j h = h
      before (x ∷ xs) zero j h = absurd (none-some _ h)
      before (x ∷ xs) (suc i') zero h = h
      before (x ∷ xs) (suc i') (suc j) h = before xs i' j h

      within : (slots' : List (Option (Arc Document Z))) (i' j : ℕ) → id_in (take i' slots') j ≡ Some (id_of a) → j < i'
      within [] zero j h = absurd (none-some _ h)
      within [] (suc i') j h = absurd (none-some _ h)
      within (x ∷ xs) zero j h = absurd (none-some _ h)
      within (x ∷ xs) (suc i') zero h = omega arith
      within (x ∷ xs) (suc i') (suc j) h = let below : j < i' = within xs i' j h in omega arith

  -- ---- one slot more

  pub documents-more_some : (slots : List (Option (Arc Document Z))) (i : ℕ) (s : Option (Arc Document Z)) (a : Arc Document Z) → i < length slots → s ≡ get_or slots i s → s ≡ Some a
      → documents (take (i + 1) slots) ≡ documents (take i slots) ++ arc_value a ∷ []
  documents-more_some slots i s a within item some =
      ap documents (take_more slots i s within ∙ ap (λ t. take i slots ++ t ∷ []) (sym item ∙ some)) ∙ documents-push (take i slots) a

  pub documents-more_none : (slots : List (Option (Arc Document Z))) (i : ℕ) (s : Option (Arc Document Z)) → i < length slots → s ≡ get_or slots i s → s ≡ None
      → documents (take (i + 1) slots) ≡ documents (take i slots)
  documents-more_none slots i s within item none =
      ap documents (take_more slots i s within ∙ ap (λ t. take i slots ++ t ∷ []) (sym item ∙ none)) ∙ documents-pushed_none (take i slots)

  -- ---- a document that goes

  pub older_below : (id : List ℕ) (slots : List (Option (Arc Document Z))) (n : ℕ) (m : BTreeMap (List ℕ) ℕ) (older : Option ℕ) → IsPlaced slots m → older ≡ get bytes_cmp m id
      → length slots ≤ n → IfSome older (λ p. p < n)
  older_below id slots n m None placed old long = tt
  older_below id slots n m (Some p) placed old long =
      let low : p < length slots = older-within id slots m (Some p) placed old p refl in
      omega (arith, low, long)

  pub IsPlaced-removed : (id : List ℕ) (slots ys : List (Option (Arc Document Z))) (m n : BTreeMap (List ℕ) ℕ) → IsPlaced slots m → IsWithout id slots ys
      → Updates bytes_cmp m n id None → IsPlaced ys n
  IsPlaced-removed id slots ys m n placed without updates = record { leads = leads; found = found }
    where
      apart : (k : List ℕ) → (id ≡ k → ⊥) → get bytes_cmp n k ≡ get bytes_cmp m k
      apart k differs = updates.2 k (sym (texts_ties id k) ∙ other_id id k differs)

      leads : (k : List ℕ) (i : ℕ) → get bytes_cmp n k ≡ Some i → id_in ys i ≡ Some k
      leads k i h =
          ⊎_elim (λ e. absurd (none-some i (sym updates.1 ∙ ap (get bytes_cmp n) e ∙ h)))
          (λ differs. without.into i k (placed.leads k i (sym (apart k differs) ∙ h)) (λ e. differs (sym e)))
          (cases_id id k)

      found : (k : List ℕ) (i : ℕ) → id_in ys i ≡ Some k → get bytes_cmp n k ≡ Some i
      found k i h = let r : (id_in slots i ≡ Some k) × (k ≡ id → ⊥) = without.from i k h in apart k (λ e. r.1 (sym e)) ∙ placed.found k i r.0

  pub documents-few : (slots : List (Option (Arc Document Z))) → length (documents slots) ≤ length slots
  documents-few [] = omega arith
  documents-few (None ∷ slots) = let rest = documents-few slots in omega (arith, rest)
  documents-few (Some a ∷ slots) = let rest = documents-few slots in omega (arith, rest)

  -- ---- the documents that do not match

  pub without-kept : (p : Document → Bool) (slots : List (Option (Arc Document Z))) (m : BTreeMap (List ℕ) ℕ) (i : ℕ) (s : Option (Arc Document Z)) (a : Arc Document Z) (d : Document) (docs more : List Document)
      → IsPlaced slots m → i < length slots → s ≡ get_or slots i s → s ≡ Some a → d ≡ arc_value a → p (arc_value a) ≡ false → docs ≡ filter (λ e. not (p e)) (documents (take i slots))
      → more ≡ after docs (added d) → more ≡ filter (λ e. not (p e)) (documents (take (i + 1) slots))
  without-kept p slots m i s a d docs more placed within item some same kept before is =
      let distinct = documents-distinct slots m i a placed (slice_get_read slots (length slots) i s refl within item ∙ ap Some some) in
      is
      ∙ ap (λ e. after docs (added e)) same
      ∙ ap (λ ds. after ds (added (arc_value a))) before
      ∙ ap (λ ds. ds ++ arc_value a ∷ []) (filters_swap (λ e. not (has_id (id_of a) e)) (λ e. not (p e)) (documents (take i slots)) ∙ ap (filter (λ e. not (p e))) (sym distinct))
      ∙ ap (λ b. filter (λ e. not (p e)) (documents (take i slots)) ++ cond (not b) (arc_value a ∷ []) []) (sym kept)
      ∙ sym (filter-append (λ e. not (p e)) (documents (take i slots)) (arc_value a ∷ []))
      ∙ ap (filter (λ e. not (p e))) (sym (documents-more_some slots i s a within item some))

  pub without-dropped : (p : Document → Bool) (slots : List (Option (Arc Document Z))) (i : ℕ) (s : Option (Arc Document Z)) (a : Arc Document Z) (docs : List Document)
      → i < length slots → s ≡ get_or slots i s → s ≡ Some a → p (arc_value a) ≡ true → docs ≡ filter (λ e. not (p e)) (documents (take i slots))
      → docs ≡ filter (λ e. not (p e)) (documents (take (i + 1) slots))
  without-dropped p slots i s a docs within item some gone before =
      before ∙ sym (append-nil (filter (λ e. not (p e)) (documents (take i slots))))
      ∙ ap (λ b. filter (λ e. not (p e)) (documents (take i slots)) ++ cond (not b) (arc_value a ∷ []) []) (sym gone)
      ∙ sym (filter-append (λ e. not (p e)) (documents (take i slots)) (arc_value a ∷ []))
      ∙ ap (filter (λ e. not (p e))) (sym (documents-more_some slots i s a within item some))

  -- one slot more, whose document is kept unless it matches
  pub without-more : (p : Document → Bool) (slots : List (Option (Arc Document Z))) (m : BTreeMap (List ℕ) ℕ) (i : ℕ) (s : Option (Arc Document Z)) (a : Arc Document Z) (docs more : List Document)
      → IsPlaced slots m → i < length slots → s ≡ get_or slots i s → s ≡ Some a → docs ≡ filter (λ e. not (p e)) (documents (take i slots))
      → more ≡ cond (p (arc_value a)) docs (after docs (added (arc_value a))) → more ≡ filter (λ e. not (p e)) (documents (take (i + 1) slots))
  without-more p slots m i s a docs more placed within item some before is = by (p (arc_value a)) refl
    where
      by : (b : Bool) → p (arc_value a) ≡ b → more ≡ filter (λ e. not (p e)) (documents (take (i + 1) slots))
      by true e = is ∙ ap (λ b. cond b docs (after docs (added (arc_value a)))) e ∙ without-dropped p slots i s a docs within item some e before
      by false e =
          without-kept p slots m i s a (arc_value a) docs more placed within item some refl e before
          (is ∙ ap (λ b. cond b docs (after docs (added (arc_value a)))) e)
