-- Postings gathered from occurrences are those of the live documents with the key.
use Rattle.std.proofs.Common.{◌≡◌, ℕ, ◌+◌, ◌<◌, ◌≤◌, Bool, true, false, cond, not, ◌&&◌, ◌||◌, List, [], ◌∷◌, ◌++◌, length, take, get_or, map, filter, fold, nat_eq, refl, sym, ap, subst, ◌∙◌, append_assoc, arith, Some, None}
use Rattle.std.specs.List.{enumerate_from, flat_map, filter_map, list_any, cons_option}
use Rattle.std.specs.FinSet.{contains}
use Rattle.std.proofs.lemmas.List.{append-nil, map-append, take_more, get_or_default}
use Rattle.std.proofs.lemmas.List.Elements.{filter-append, filter_map-append}
use Rattle.std.proofs.lemmas.List.Sums.{fold-append}
use Rattle.std.proofs.lemmas.Bool.{ne_eqb}
use Rattle.std.proofs.Common.{eq-eqb}
use Rattle.query_tree.specs.Matches.{is_empty}
use Rattle.segment_postings.specs.declared.occurrence.Place.{Place}
use Rattle.field_schema.specs.declared.key.Key.{Key}
use Rattle.field_schema.specs.declared.key.Key.TheVariants as key
use Rattle.field_schema.specs.Keys.{key_eq}
use Rattle.field_schema.specs.Values.{values_at}
use Rattle.doc_model.specs.Document.{Document}
use Rattle.doc_sets.specs.Sets.{Numbers}
use Rattle.query_tree.specs.KeysOfDocs.{keys_of_value}
use Rattle.segment_postings.specs.declared.posting.Posting.{Posting}
use Rattle.segment_postings.specs.declared.occurrence.Occurrence.{Occurrence}
use Rattle.segment_postings.specs.Postings.{indices_of, places_in, places_of, has_key_at, posting_of}
use Rattle.segment_postings.specs.Segments.{occurrence, of_value, of_doc, with_key}
use Rattle.segment_postings.specs.Groups.{EndsBefore, has_places, put_place, gather_one, gathered}

-- ---- adding a place

nat_eq-refl : (n : ℕ) → nat_eq n n ≡ true
nat_eq-refl n = eq-eqb n n refl

-- to the last posting
pub put_same : (ps : List Posting) (doc : ℕ) (old places : List (ℕ × ℕ)) → put_place (ps ++ record { doc = doc; places = old } ∷ []) doc places ≡ ps ++ record { doc = doc; places = old ++ places } ∷ []
put_same [] doc old places = ap (λ b. cond b (record { doc = doc; places = old ++ places } ∷ []) (record { doc = doc; places = old } ∷ record { doc = doc; places = places } ∷ [])) (nat_eq-refl doc)
put_same (p ∷ []) doc old places = ap (λ qs. p ∷ qs) (put_same [] doc old places)
put_same (p ∷ q ∷ ps) doc old places = ap (λ qs. p ∷ qs) (put_same (q ∷ ps) doc old places)

-- behind the last posting
pub put_new : (ps : List Posting) (doc : ℕ) (places : List (ℕ × ℕ)) → EndsBefore doc ps → put_place ps doc places ≡ ps ++ record { doc = doc; places = places } ∷ []
put_new [] doc places h = refl
put_new (p ∷ []) doc places h =
    ap (λ b. cond b (record { doc = p.doc; places = p.places ++ places } ∷ []) (p ∷ record { doc = doc; places = places } ∷ [])) (ne_eqb p.doc doc (λ e. omega arith))
put_new (p ∷ q ∷ ps) doc places h = ap (λ qs. p ∷ qs) (put_new (q ∷ ps) doc places h)

cond_false : {A : Type 0} (b : Bool) (x y : A) → b ≡ false → cond b x y ≡ y
cond_false b x y e = ap (λ t. cond t x y) e

-- where the last posting is of the document
pub put_to_last : (old ps : List Posting) (p : Posting) (doc : ℕ) (more : List (ℕ × ℕ)) → old ≡ ps ++ p ∷ [] → p.doc ≡ doc → put_place old doc more ≡ ps ++ record { doc = p.doc; places = p.places ++ more } ∷ []
put_to_last old ps p doc more is same = ap (λ qs. put_place qs doc more) is ∙ ap (λ d. put_place (ps ++ p ∷ []) d more) (sym same) ∙ put_same ps p.doc p.places more

last_differs : (ps : List Posting) (p : Posting) (doc : ℕ) (more : List (ℕ × ℕ)) → nat_eq p.doc doc ≡ false → put_place (ps ++ p ∷ []) doc more ≡ (ps ++ p ∷ []) ++ record { doc = doc; places = more } ∷ []
last_differs [] p doc more e = cond_false (nat_eq p.doc doc) (record { doc = p.doc; places = p.places ++ more } ∷ []) (p ∷ record { doc = doc; places = more } ∷ []) e
last_differs (q ∷ []) p doc more e = ap (λ qs. q ∷ qs) (last_differs [] p doc more e)
last_differs (q ∷ r ∷ ps) p doc more e = ap (λ qs. q ∷ qs) (last_differs (r ∷ ps) p doc more e)

-- and where it is of another
pub put_past_last : (old ps new : List Posting) (p : Posting) (doc : ℕ) (more : List (ℕ × ℕ)) → old ≡ ps ++ p ∷ [] → new ≡ ps ++ p ∷ [] → (p.doc ≡ doc → ⊥) → put_place old doc more ≡ new ++ record { doc = doc; places = more } ∷ []
put_past_last old ps new p doc more is now other = ap (λ qs. put_place qs doc more) is ∙ last_differs ps p doc more (ne_eqb p.doc doc other) ∙ ap (λ qs. qs ++ record { doc = doc; places = more } ∷ []) (sym now)

-- a step of the loop
gathered_more : (live : Numbers) (base : ℕ) (t : Bool) (new found init : List Posting) (os : List Place) (i : ℕ) (o : Place) → i < length os → o ≡ get_or os i o → new ≡ gather_one live base t found o → found ≡ gathered live base t init (take i os) → new ≡ gathered live base t init (take (i + 1) os)
gathered_more live base t new found init os i o h e here so_far =
    here ∙ ap (λ ps. gather_one live base t ps o) so_far
    ∙ sym (fold-append (gather_one live base t) init (take i os) (o ∷ []))
    ∙ ap (λ xs. gathered live base t init xs) (ap (λ x. take i os ++ x ∷ []) e ∙ sym (take_more os i o h))

pub gathered_place : (live : Numbers) (base : ℕ) (t : Bool) (new found init : List Posting) (os : List Place) (i : ℕ) (d : Place) → i < length os → new ≡ gather_one live base t found (get_or os i d) → found ≡ gathered live base t init (take i os) → new ≡ gathered live base t init (take (i + 1) os)
gathered_place live base t new found init os i d h here so_far =
    gathered_more live base t new found init os i (get_or os i d) h (get_or_default os i d (get_or os i d) h) here so_far

pub EndsBefore-push : (ps : List Posting) (n : ℕ) (p : Posting) → p.doc < n → EndsBefore n (ps ++ p ∷ [])
EndsBefore-push [] n p h = h
EndsBefore-push (q ∷ []) n p h = h
EndsBefore-push (q ∷ r ∷ ps) n p h = EndsBefore-push (r ∷ ps) n p h

pub EndsBefore-more : (ps : List Posting) (m n : ℕ) → m ≤ n → EndsBefore m ps → EndsBefore n ps
EndsBefore-more [] m n le h = tt
EndsBefore-more (q ∷ []) m n le h = omega arith
EndsBefore-more (q ∷ r ∷ ps) m n le h = EndsBefore-more (r ∷ ps) m n le h

-- ---- the places of a document

abbrev pub at : ℕ → ℕ × ℕ → Place
at n q = record { doc = n; value = q.0; token = q.1 }

abbrev told : Bool → ℕ × ℕ → List (ℕ × ℕ)
told t q = cond t ((q.0, q.1) ∷ []) []

of_keys : (k : Key) (n i : ℕ) (es : List (ℕ × Key)) → map (λ o. o.place) (with_key k (map (occurrence n i) es)) ≡ map (at n) (map (λ j. (i, j)) (map (λ e. e.0) (filter (λ e. key_eq k e.1) es)))
of_keys k n i [] = refl
of_keys k n i (e ∷ es) =
    elim (key_eq k e.1) as (λ b. map (λ o. o.place) (cond b (occurrence n i e ∷ with_key k (map (occurrence n i) es)) (with_key k (map (occurrence n i) es))) ≡ map (at n) (map (λ j. (i, j)) (map (λ e. e.0) (cond b (e ∷ filter (λ e. key_eq k e.1) es) (filter (λ e. key_eq k e.1) es))))) [
      | true ↦ ap (λ ps. at n (i, e.0) ∷ ps) (of_keys k n i es)
      | false ↦ of_keys k n i es
    ]

pub of_values : (k : Key) (n : ℕ) (vs : List (ℕ × Key)) → map (λ o. o.place) (with_key k (flat_map (of_value n) vs)) ≡ map (at n) (flat_map (λ e. map (λ j. (e.0, j)) (indices_of k (keys_of_value e.1))) vs)
of_values k n [] = refl
of_values k n (v ∷ vs) =
    ap (map (λ o. o.place)) (filter-append (λ o. key_eq k o.key) (of_value n v) (flat_map (of_value n) vs))
    ∙ map-append (λ o. o.place) (with_key k (of_value n v)) (with_key k (flat_map (of_value n) vs))
    ∙ (λ j. of_keys k n v.0 (enumerate_from 0 (keys_of_value v.1)) j ++ of_values k n vs j)
    ∙ sym (map-append (at n) (map (λ j. (v.0, j)) (indices_of k (keys_of_value v.1))) _)

-- ---- whether there are any

pub empty-append : {A : Type 0} (xs ys : List A) → is_empty (xs ++ ys) ≡ (is_empty xs && is_empty ys)
empty-append [] ys = refl
empty-append (x ∷ xs) ys = refl

any-append : (k : Key) (xs ys : List Key) → list_any (key_eq k) (xs ++ ys) ≡ (list_any (key_eq k) xs || list_any (key_eq k) ys)
any-append k [] ys = refl
any-append k (x ∷ xs) ys =
    ap (λ b. key_eq k x || b) (any-append k xs ys)
    ∙ (elim (key_eq k x) as (λ b. (b || (list_any (key_eq k) xs || list_any (key_eq k) ys)) ≡ ((b || list_any (key_eq k) xs) || list_any (key_eq k) ys)) [ true ↦ refl | false ↦ refl ])

pub or-not : (a b : Bool) → (not a || not b) ≡ not (a && b)
or-not true b = refl
or-not false b = refl

any_key : (k : Key) (i m : ℕ) (keys : List Key) → list_any (key_eq k) keys ≡ not (is_empty {A = ℕ × ℕ} (map (λ j. (i, j)) (map (λ e. e.0) (filter (λ e. key_eq k e.1) (enumerate_from m keys)))))
any_key k i m [] = refl
any_key k i m (x ∷ keys) =
    elim (key_eq k x) as (λ b. (b || list_any (key_eq k) keys) ≡ not (is_empty {A = ℕ × ℕ} (map (λ j. (i, j)) (map (λ e. e.0) (cond b ((m, x) ∷ filter (λ e. key_eq k e.1) (enumerate_from (m + 1) keys)) (filter (λ e. key_eq k e.1) (enumerate_from (m + 1) keys))))))) [
      | true ↦ refl
      | false ↦ any_key k i (m + 1) keys
    ]

pub any_place : (k : Key) (m : ℕ) (vs : List Key) → list_any (key_eq k) (flat_map keys_of_value vs) ≡ not (is_empty {A = ℕ × ℕ} (flat_map (λ e. map (λ j. (e.0, j)) (indices_of k (keys_of_value e.1))) (enumerate_from m vs)))
any_place k m [] = refl
any_place k m (v ∷ vs) =
    any-append k (keys_of_value v) (flat_map keys_of_value vs)
    ∙ (λ j. any_key k m 0 (keys_of_value v) j || any_place k (m + 1) vs j)
    ∙ or-not (is_empty {A = ℕ × ℕ} (map (λ j. (m, j)) (indices_of k (keys_of_value v)))) _
    ∙ ap not (sym (empty-append (map (λ j. (m, j)) (indices_of k (keys_of_value v))) _))

all_told : (qs : List (ℕ × ℕ)) → flat_map (told true) qs ≡ qs
all_told [] = refl
all_told (q ∷ qs) = ap (λ ps. q ∷ ps) (all_told qs)

none_told : (qs : List (ℕ × ℕ)) → flat_map (told false) qs ≡ []
none_told [] = refl
none_told (q ∷ qs) = none_told qs

told_of : (k : Key) (vs : List Key) → flat_map (told (has_places k)) (places_in k vs) ≡ places_of k vs
told_of (key.Str text) vs = none_told (places_in (key.Str text) vs)
told_of (key.Long number) vs = none_told (places_in (key.Long number) vs)
told_of (key.Bool truth) vs = none_told (places_in (key.Bool truth) vs)
told_of (key.Token text) vs = all_told (places_in (key.Token text) vs)

-- ---- gathering

module _ (live : Numbers) (base : ℕ) (t : Bool) where
  abbrev step : List Posting → Place → List Posting
  step ps p = cond (contains live (base + p.doc)) (put_place ps (base + p.doc) (told t (p.value, p.token))) ps

  run_dead : (ps : List Posting) (n : ℕ) (qs : List (ℕ × ℕ)) → contains live (base + n) ≡ false → fold step ps (map (at n) qs) ≡ ps
  run_dead ps n [] dead = refl
  run_dead ps n (q ∷ qs) dead = ap (λ b. fold step (cond b (put_place ps (base + n) (told t q)) ps) (map (at n) qs)) dead ∙ run_dead ps n qs dead

  run_same : (ps : List Posting) (n : ℕ) (acc qs : List (ℕ × ℕ)) → contains live (base + n) ≡ true →
      fold step (ps ++ record { doc = base + n; places = acc } ∷ []) (map (at n) qs) ≡ ps ++ record { doc = base + n; places = acc ++ flat_map (told t) qs } ∷ []
  run_same ps n acc [] alive = ap (λ a. ps ++ record { doc = base + n; places = a } ∷ []) (sym (append-nil acc))
  run_same ps n acc (q ∷ qs) alive =
      let all : List Posting = ps ++ record { doc = base + n; places = acc } ∷ [] in
      ap (λ b. fold step (cond b (put_place all (base + n) (told t q)) all) (map (at n) qs)) alive
      ∙ ap (λ xs. fold step xs (map (at n) qs)) (put_same ps (base + n) acc (told t q))
      ∙ run_same ps n (acc ++ told t q) qs alive
      ∙ ap (λ a. ps ++ record { doc = base + n; places = a } ∷ []) (append_assoc acc (told t q) (flat_map (told t) qs))

  run_new : (ps : List Posting) (n : ℕ) (qs : List (ℕ × ℕ)) → contains live (base + n) ≡ true → EndsBefore (base + n) ps →
      fold step ps (map (at n) qs) ≡ ps ++ cond (not (is_empty qs)) (record { doc = base + n; places = flat_map (told t) qs } ∷ []) []
  run_new ps n [] alive before = sym (append-nil ps)
  run_new ps n (q ∷ qs) alive before =
      ap (λ b. fold step (cond b (put_place ps (base + n) (told t q)) ps) (map (at n) qs)) alive
      ∙ ap (λ xs. fold step xs (map (at n) qs)) (put_new ps (base + n) (told t q) before)
      ∙ run_same ps n (told t q) qs alive

  module _ (k : Key) (field : ℕ) (is : t ≡ has_places k) where
    -- what one document adds
    piece : ℕ → Document → List Posting
    piece n d = filter_map (posting_of field k) (filter (λ e. contains live e.0) ((base + n, d) ∷ []))

    shown : (n : ℕ) (d : Document) →
        cond (not (is_empty (places_in k (values_at d.values field)))) (record { doc = base + n; places = flat_map (told t) (places_in k (values_at d.values field)) } ∷ []) [] ≡ cons_option (posting_of field k (base + n, d)) []
    shown n d =
        let one : Posting = record { doc = base + n; places = places_of k (values_at d.values field) } in
        (λ j. cond (sym (any_place k 0 (values_at d.values field)) j) (record { doc = base + n; places = flat_map (told (is j)) (places_in k (values_at d.values field)) } ∷ []) [])
        ∙ ap (λ ps. cond (has_key_at field k d) (record { doc = base + n; places = ps } ∷ []) []) (told_of k (values_at d.values field))
        ∙ (elim (has_key_at field k d) as (λ b. cond b (one ∷ []) [] ≡ cons_option (cond b (Some one) None) []) [ true ↦ refl | false ↦ refl ])

    doc_gathered : (ps : List Posting) (n : ℕ) (d : Document) → EndsBefore (base + n) ps → fold step ps (map (at n) (places_in k (values_at d.values field))) ≡ ps ++ piece n d
    unfolding piece
    doc_gathered ps n d before =
        elim (contains live (base + n)) as (λ b. contains live (base + n) ≡ b → fold step ps (map (at n) (places_in k (values_at d.values field))) ≡ ps ++ filter_map (posting_of field k) (cond b ((base + n, d) ∷ []) [])) [
          | true ↦ λ alive. run_new ps n (places_in k (values_at d.values field)) alive before ∙ ap (λ xs. ps ++ xs) (shown n d)
          | false ↦ λ dead. run_dead ps n (places_in k (values_at d.values field)) dead ∙ sym (append-nil ps)
        ] refl

    piece_before : (ps : List Posting) (n : ℕ) (d : Document) → EndsBefore (base + n) ps → EndsBefore (base + (n + 1)) (ps ++ piece n d)
    unfolding piece
    piece_before ps n d before =
        let more : EndsBefore (base + (n + 1)) ps = EndsBefore-more ps (base + n) (base + (n + 1)) (omega arith) before in
        let one : Posting = record { doc = base + n; places = places_of k (values_at d.values field) } in
        elim (contains live (base + n)) as (λ b. EndsBefore (base + (n + 1)) (ps ++ filter_map (posting_of field k) (cond b ((base + n, d) ∷ []) []))) [
          | true ↦ elim (has_key_at field k d) as (λ b. EndsBefore (base + (n + 1)) (ps ++ cons_option (cond b (Some one) None) [])) [
            | true ↦ EndsBefore-push ps (base + (n + 1)) one (omega arith)
            | false ↦ subst (EndsBefore (base + (n + 1))) (sym (append-nil ps)) more
          ]
          | false ↦ subst (EndsBefore (base + (n + 1))) (sym (append-nil ps)) more
        ]

    joined_piece : (n : ℕ) (d : Document) (es : List (ℕ × Document)) → filter_map (posting_of field k) (filter (λ e. contains live e.0) ((base + n, d) ∷ es)) ≡ piece n d ++ filter_map (posting_of field k) (filter (λ e. contains live e.0) es)
    unfolding piece
    joined_piece n d es =
        ap (filter_map (posting_of field k)) (filter-append (λ e. contains live e.0) ((base + n, d) ∷ []) es)
        ∙ filter_map-append (posting_of field k) (filter (λ e. contains live e.0) ((base + n, d) ∷ [])) (filter (λ e. contains live e.0) es)

    -- the occurrences of the key in documents give the postings of those that are live
    pub gathered_docs : (ps : List Posting) (n : ℕ) (ds : List Document) → EndsBefore (base + n) ps →
        gathered live base t ps (map (λ o. o.place) (with_key k (flat_map (of_doc field) (enumerate_from n ds)))) ≡ ps ++ filter_map (posting_of field k) (filter (λ e. contains live e.0) (enumerate_from (base + n) ds))
    gathered_docs ps n [] before = sym (append-nil ps)
    gathered_docs ps n (d ∷ ds) before =
        let place = λ (o : Occurrence). o.place in
        let first : List Occurrence = with_key k (of_doc field (n, d)) in
        let rest : List Occurrence = with_key k (flat_map (of_doc field) (enumerate_from (n + 1) ds)) in
        let next : base + (n + 1) ≡ base + n + 1 = omega arith in
        ap (λ os. gathered live base t ps (map place os)) (filter-append (λ o. key_eq k o.key) (of_doc field (n, d)) (flat_map (of_doc field) (enumerate_from (n + 1) ds)))
        ∙ ap (gathered live base t ps) (map-append place first rest)
        ∙ fold-append (gather_one live base t) ps (map place first) (map place rest)
        ∙ ap (λ s. fold (gather_one live base t) s (map place rest)) (ap (fold step ps) (of_values k n (enumerate_from 0 (values_at d.values field))) ∙ doc_gathered ps n d before)
        ∙ gathered_docs (ps ++ piece n d) (n + 1) ds (piece_before ps n d before)
        ∙ ap (λ m. (ps ++ piece n d) ++ filter_map (posting_of field k) (filter (λ e. contains live e.0) (enumerate_from m ds))) next
        ∙ append_assoc ps (piece n d) _
        ∙ ap (λ xs. ps ++ xs) (sym (joined_piece n d (enumerate_from (base + n + 1) ds)))
