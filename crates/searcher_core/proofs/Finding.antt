-- What a request finds, by the numbers of its documents.
use Rattle.std.proofs.Common.{◌≡◌, ℕ, suc, ◌+◌, ◌<◌, ◌≤◌, Bool, true, false, cond, List, [], ◌∷◌, ◌++◌, length, get_or, map, filter, find, take, drop, nat_eq, refl, sym, ap, subst, ◌∙◌, arith, All, Some, IsSome}
use Rattle.std.specs.List.{cons_option, drop-map, enumerate_from, range_with_len}
use Rattle.std.specs.List.Sorted.{IsStrictlySortedBy}
use Rattle.std.specs.Ordering.{nat_cmp}
use Rattle.std.specs.Option.{option_map}
use Rattle.std.specs.FinSet.{contains, from_list, len, contains-from_list_nat}
use Rattle.std.proofs.Common.{eq-eqb}
use Rattle.std.proofs.lemmas.Bool.{ne_eqb}
use Rattle.std.proofs.lemmas.List.{length-map, take-map, take_more, drop-take}
use Rattle.std.proofs.lemmas.List.Sorted.{All-permutation, length_permutation}
use Rattle.std.proofs.lemmas.Map.Keys.{sorted_from_strictly_increasing, IsStrictlyIncreasing-from_sorted}
use Rattle.std.proofs.lemmas.List.Elements.{filter_map-append, All-cons, All-head, All-tail, All-filter, All-take, All-drop}
use Rattle.doc_model.specs.Document.{Document}
use Rattle.doc_sets.specs.Sets.{Numbers, Rises, IsListing, is_in, members}
use Rattle.doc_sets.specs.declared.TheConstants.{MAX_DOCS}
use Rattle.doc_sets.proofs.Rising.{Rises-higher, Rises-lower, Rises-range, Rises-apart, place_of}
use Rattle.doc_sets.proofs.Members.{all_documents}
use Rattle.doc_sets.proofs.SetsOf.{len_of, members_of}
use Rattle.query_tree.specs.declared.sort.SortKey.{SortKey}
use Rattle.segment_postings.specs.Numbered.{Numbered, docs, numbers, doc_at, IsNumbered, IsLive}
use Rattle.sort_order.specs.Order.{Entry, comes_before, in_order}
use Rattle.sort_order.proofs.Placing.{sorted-same}
use Rattle.sort_order.proofs.Renumbered.{order_of_numbers_counts}
use Rattle.sort_window.specs.First.{AreLive, among, first_numbers}
use Rattle.sort_window.proofs.Among.{members_among, length-among}
use Rattle.search_model.specs.Answer.{entries}
use Rattle.query_eval.specs.Found.{numbers_where}
use Rattle.searcher_core.specs.Meeting.{docs_at}

where_rises : (p : Document → Bool) (low high : ℕ) (es : List (ℕ × Document)) → Rises low high (map (λ e. e.0) es) → Rises low high (numbers_where p es)
where_rises p low high [] r = tt
where_rises p low high (e ∷ es) r =
    let rest : Rises (suc e.0) high (numbers_where p es) = where_rises p (suc e.0) high es r.2 in
    elim (p e.1) as (λ b. Rises low high (map (λ f. f.0) (cond b (e ∷ filter (λ f. p f.1) es) (filter (λ f. p f.1) es)))) [
      | true ↦ (r.0, r.1, rest)
      | false ↦ Rises-lower low (suc e.0) high (numbers_where p es) (omega (arith, r.0)) rest
    ]

enumerated : {X : Type 0} (n : ℕ) (xs : List X) → map (λ e. e.1) (enumerate_from n xs) ≡ xs
enumerated n [] = refl
enumerated n (x ∷ xs) = ap (λ ys. x ∷ ys) (enumerated (n + 1) xs)

-- ---- the documents of numbers

-- each document stands at its own number
own_at : (low high : ℕ) (es : List (ℕ × Document)) → Rises low high (map (λ e. e.0) es) → All (λ e. find (λ f. nat_eq f.0 e.0) es ≡ Some e) es
own_at low high [] r = λ k d l. absurd (omega arith)
own_at low high (e ∷ es) r =
    All-cons (λ f. find (λ g. nat_eq g.0 f.0) (e ∷ es) ≡ Some f) e es
    (ap (λ b. cond b (Some e) (find (λ g. nat_eq g.0 e.0) es)) (eq-eqb e.0 e.0 refl))
    (λ k d l. ap (λ b. cond b (Some e) (find (λ g. nat_eq g.0 (get_or es k d).0) es)) (ne_eqb e.0 (get_or es k d).0 (λ same. let low' = above (suc e.0) high es r.2 k d l in omega (arith, same, low')))
    ∙ own_at (suc e.0) high es r.2 k d l)
  where
    above : (low high : ℕ) (es : List (ℕ × Document)) → Rises low high (map (λ e. e.0) es) → All (λ e. low ≤ e.0) es
    above low high [] r = λ k d l. absurd (omega arith)
    above low high (e ∷ es) r =
        All-cons (λ f. low ≤ f.0) e es r.0 (λ k d l. let rest = above (suc e.0) high es r.2 k d l in omega (arith, r.0, rest))

IsAt : Numbered → ℕ × Document → Type 0
IsAt v e = doc_at v e.0 ≡ Some e.1

all_at : (v : Numbered) → IsNumbered v → All (IsAt v) v.list
unfolding IsAt
all_at v is = λ k d l. ap (option_map (λ e. e.1)) (own_at 0 v.size v.list is.rising k d l)

docs_of_numbers : (v : Numbered) (es : List (ℕ × Document)) → All (IsAt v) es → docs_at v (map (λ e. e.0) es) ≡ map (λ e. e.1) es
unfolding IsAt
docs_of_numbers v [] h = refl
docs_of_numbers v (e ∷ es) h =
    ap (λ o. cons_option o (docs_at v (map (λ f. f.0) es))) (All-head (λ f. doc_at v f.0 ≡ Some f.1) e es h)
    ∙ ap (λ ds. e.1 ∷ ds) (docs_of_numbers v es (All-tail (λ f. doc_at v f.0 ≡ Some f.1) e es h))

live_of_numbers : (v : Numbered) (es : List (ℕ × Document)) → All (IsAt v) es → All (IsLive v) (map (λ e. e.0) es)
unfolding IsAt
live_of_numbers v [] h = λ k d l. absurd (omega arith)
live_of_numbers v (e ∷ es) h =
    All-cons (IsLive v) e.0 (map (λ f. f.0) es) (subst IsSome (sym (All-head (λ f. doc_at v f.0 ≡ Some f.1) e es h)) refl)
    (live_of_numbers v es (All-tail (λ f. doc_at v f.0 ≡ Some f.1) e es h))

-- ---- the page

pub filter-map : {A B : Type 0} (f : A → B) (p : B → Bool) (xs : List A) → filter p (map f xs) ≡ map f (filter (λ x. p (f x)) xs)
filter-map f p [] = refl
filter-map f p (x ∷ xs) =
    elim (p (f x)) as (λ b. cond b (f x ∷ filter p (map f xs)) (filter p (map f xs)) ≡ map f (cond b (x ∷ filter (λ y. p (f y)) xs) (filter (λ y. p (f y)) xs))) [
      | true ↦ ap (λ ys. f x ∷ ys) (filter-map f p xs)
      | false ↦ filter-map f p xs
    ]

numbers_of-enumerated : (n : ℕ) (ds : List Document) → map (λ e. e.0) (enumerate_from n ds) ≡ range_with_len n (length ds)
numbers_of-enumerated n [] = refl
numbers_of-enumerated n (d ∷ ds) = ap (λ ns. n ∷ ns) (numbers_of-enumerated (n + 1) ds)

entries_rise : (ds : List Document) → Rises 0 (length ds) (map (λ e. e.0) (entries ds))
entries_rise ds =
    let whole : 0 + length ds ≡ length ds = omega arith in
    subst (Rises 0 (length ds)) (sym (numbers_of-enumerated 0 ds)) (subst (λ n. Rises 0 n (range_with_len 0 (length ds))) whole (Rises-range 0 (length ds)))

sorted_rising : (low high : ℕ) (xs : List ℕ) → Rises low high xs → IsStrictlySortedBy nat_cmp xs
sorted_rising low high xs up =
    sorted_from_strictly_increasing xs (λ k within. Rises-apart low high k (k + 1) xs up (omega arith) within)

module _ (v : Numbered) (p : Document → Bool) (sort : List SortKey) (found : Numbers) (is : IsNumbered v) (at : found ≡ from_list (numbers_where p v.list)) where
  met : List Entry
  met = filter (λ e. p e.1) v.list

  met_rise : Rises 0 v.size (map (λ e. e.0) met)
  unfolding met
  met_rise = where_rises p 0 v.size v.list is.rising

  met_at : All (IsAt v) met
  unfolding met
  met_at = All-filter (λ e. p e.1) (IsAt v) v.list (all_at v is)

  -- each number of the set is that of a live document
  pub are_live : AreLive found v
  unfolding met
  are_live n h =
      let k = place_of (numbers_where p v.list) n (sym (ap (λ s. contains s n) at ∙ contains-from_list_nat (numbers_where p v.list) n) ∙ h) in
      subst (IsLive v) k.2 (live_of_numbers v met met_at k.0 0 k.1)

  members_are : members found ≡ map (λ e. e.0) met
  unfolding met
  members_are = ap members at ∙ members_of (numbers_where p v.list) (Rises-higher 0 v.size MAX_DOCS (numbers_where p v.list) is.most met_rise)

  -- the set's members are its numbers
  listing : IsListing found (members found)
  unfolding met
  listing =
      let up : Rises 0 MAX_DOCS (numbers_where p v.list) = Rises-higher 0 v.size MAX_DOCS (numbers_where p v.list) is.most met_rise in
      subst (IsListing found) (sym members_are) (record {
        rising = IsStrictlyIncreasing-from_sorted (numbers_where p v.list) (sorted_rising 0 MAX_DOCS (numbers_where p v.list) up);
        documents = all_documents (numbers_where p v.list) up;
        same = λ n. sym (ap (λ s. contains s n) at ∙ contains-from_list_nat (numbers_where p v.list) n);
      })

  among_numbers : map (λ e. e.0) (among found v) ≡ map (λ e. e.0) met
  among_numbers = sym (members_among found v is are_live listing) ∙ members_are

  among_at : All (IsAt v) (among found v)
  among_at = All-filter (λ e. contains found e.0) (IsAt v) v.list (all_at v is)

  -- the documents of the set are those that pass
  among_docs : map (λ e. e.1) (among found v) ≡ filter p (docs v)
  unfolding met
  among_docs =
      sym (docs_of_numbers v (among found v) among_at) ∙ ap (docs_at v) among_numbers ∙ docs_of_numbers v met met_at
      ∙ sym (filter-map (λ e. e.1) p v.list)

  -- numbered by the view or by their places, they stand in one order
  one_order : map (λ e. e.1) (in_order sort (among found v)) ≡ map (λ e. e.1) (in_order sort (filter (λ e. p e.1) (entries (docs v))))
  one_order =
      let ds : List Document = docs v in
      let es : List Entry = filter (λ e. p e.1) (entries ds) in
      let same : map (λ e. e.1) (among found v) ≡ map (λ e. e.1) es =
      among_docs ∙ ap (filter p) (sym (enumerated 0 ds)) ∙ filter-map (λ e. e.1) p (entries ds) in
      order_of_numbers_counts sort (among found v)
      (subst (IsStrictlySortedBy nat_cmp) (sym among_numbers) (sorted_rising 0 v.size (map (λ e. e.0) met) met_rise))
      ∙ ap (λ xs. map (λ e. e.1) (in_order sort (enumerate_from 0 xs))) same
      ∙ sym (order_of_numbers_counts sort es (sorted_rising 0 (length ds) (map (λ e. e.0) es) (where_rises p 0 (length ds) (entries ds) (entries_rise ds))))

  pub count_is : length (members found) ≡ length (map (λ e. e.1) (in_order sort (filter (λ e. p e.1) (entries (docs v)))))
  count_is =
      sym (length-among found v is are_live listing)
      ∙ sym (length_permutation (among found v) (in_order sort (among found v)) (sorted-same (comes_before sort) (among found v)))
      ∙ sym (length-map (in_order sort (among found v)) (λ e. e.1)) ∙ ap length one_order

  counted : len found ≡ length (members found)
  unfolding met
  counted =
      ap len at ∙ len_of 0 MAX_DOCS (numbers_where p v.list) (Rises-higher 0 v.size MAX_DOCS (numbers_where p v.list) is.most met_rise)
      ∙ sym (ap length members_are)

  pub len_is : len found ≡ length (map (λ e. e.1) (in_order sort (filter (λ e. p e.1) (entries (docs v)))))
  len_is = counted ∙ count_is

  pub ordered_count : len found ≡ length (in_order sort (among found v))
  ordered_count =
      counted ∙ sym (length-among found v is are_live listing)
      ∙ sym (length_permutation (among found v) (in_order sort (among found v)) (sorted-same (comes_before sort) (among found v)))

  ordered_at : All (IsAt v) (in_order sort (among found v))
  ordered_at = All-permutation (IsAt v) (among found v) (in_order sort (among found v)) (sorted-same (comes_before sort) (among found v)) among_at

  module _ (start rows : ℕ) (ns : List ℕ) (first : ns ≡ drop start (first_numbers (start + rows) sort found v)) where
    page : List Entry
    page = drop start (take (start + rows) (in_order sort (among found v)))

    page_at : All (IsAt v) page
    unfolding page
    page_at =
        All-drop (IsAt v) start (take (start + rows) (in_order sort (among found v)))
        (All-take (IsAt v) (start + rows) (in_order sort (among found v)) ordered_at)

    page_numbers : ns ≡ map (λ e. e.0) page
    unfolding page
    page_numbers = first ∙ drop-map (λ e. e.0) start (take (start + rows) (in_order sort (among found v)))

    pub page_live : All (IsLive v) ns
    page_live = subst (All (IsLive v)) (sym page_numbers) (live_of_numbers v page page_at)

    pub page_is : docs_at v ns ≡ take rows (drop start (map (λ e. e.1) (in_order sort (filter (λ e. p e.1) (entries (docs v))))))
    unfolding page
    page_is =
        ap (docs_at v) page_numbers ∙ docs_of_numbers v page page_at
        ∙ ap (map (λ e. e.1)) (drop-take start rows (in_order sort (among found v)))
        ∙ sym (take-map (λ e. e.1) rows (drop start (in_order sort (among found v))))
        ∙ ap (take rows) (sym (drop-map (λ e. e.1) start (in_order sort (among found v))))
        ∙ ap (λ ds. take rows (drop start ds)) one_order

-- ---- the loops

-- the documents of one number more
pub docs_at-more : (v : Numbered) (numbers : List ℕ) (i n : ℕ) (d : Document) (old new : List Document) → i < length numbers → n ≡ get_or numbers i 0 → doc_at v n ≡ Some d
    → old ≡ docs_at v (take i numbers) → new ≡ old ++ d ∷ [] → new ≡ docs_at v (take (i + 1) numbers)
docs_at-more v numbers i n d old new within item here before is =
    is ∙ ap (λ ds. ds ++ d ∷ []) before
    ∙ ap (λ o. docs_at v (take i numbers) ++ cons_option o []) (sym here)
    ∙ sym (filter_map-append (doc_at v) (take i numbers) (n ∷ []))
    ∙ ap (docs_at v) (ap (λ t. take i numbers ++ t ∷ []) item ∙ sym (take_more numbers i 0 within))
