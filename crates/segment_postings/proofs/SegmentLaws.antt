-- A segment's occurrences tell of its documents.
use Rattle.std.proofs.Common.{◌≡◌, ℕ, zero, suc, ◌+◌, ◌<◌, ◌≤◌, Bool, true, false, not, ◌||◌, cond, List, [], ◌∷◌, ◌++◌, length, get_or, map, filter, refl, sym, ap, subst, ◌∙◌, arith, All}
use Rattle.std.specs.List.{enumerate_from, flat_map, filter_map, list_any}
use Rattle.std.specs.FinSet.{contains}
use Rattle.std.proofs.lemmas.List.Elements.{All-filter, All-map, All-append, All-head, All-tail, filter-append, All-cons}
use Rattle.std.proofs.lemmas.Bool.Decides.{eqb_tells, leb_tells}
use Rattle.std.proofs.Common.{inl, inr}
use Rattle.field_schema.specs.declared.key.Key.{Key}
use Rattle.field_schema.specs.Keys.{key_eq}
use Rattle.field_schema.specs.Values.{values_at}
use Rattle.doc_model.specs.Document.{Document}
use Rattle.doc_sets.specs.Sets.{Numbers}
use Rattle.doc_sets.specs.declared.TheConstants.{MAX_DOCS}
use Rattle.query_tree.specs.Matches.{is_empty}
use Rattle.segment_postings.specs.declared.posting.Posting.{Posting}
use Rattle.segment_postings.specs.declared.occurrence.Occurrence.{Occurrence}
use Rattle.segment_postings.specs.Postings.{has_key_at, posting_of, places_in}
use Rattle.segment_postings.specs.Segments.{occurrence, of_value, of_doc, occurrences, with_key, IsIndex, field_at, AreIndexes, IsPart}
use Rattle.segment_postings.specs.Terms.{is_among}
use Rattle.segment_postings.specs.Groups.{EndsBefore, has_places, gathered}
use Rattle.segment_postings.proofs.PostingsGathered.{gathered_docs, any_place, of_values, empty-append, or-not, at}

-- ---- fields without values

pub past_end : {A : Type 0} (xs : List A) (i : ℕ) (d : A) → length xs ≤ i → get_or xs i d ≡ d
past_end [] i d h = refl
past_end (x ∷ xs) zero d h = absurd (omega arith)
past_end (x ∷ xs) (suc i) d h = past_end xs i d (omega arith)

none_occur : (field n : ℕ) (ds : List Document) → All (λ d. length d.values ≤ field) ds → flat_map (of_doc field) (enumerate_from n ds) ≡ []
none_occur field n [] few = refl
none_occur field n (d ∷ ds) few =
    (λ j. flat_map (of_value n) (enumerate_from 0 (past_end d.values field [] (All-head (λ d. length d.values ≤ field) d ds few) j)) ++ flat_map (of_doc field) (enumerate_from (n + 1) ds))
    ∙ none_occur field (n + 1) ds (All-tail (λ d. length d.values ≤ field) d ds few)

-- ---- the fields, one after another

-- of the first n fields each is as P says
pub record FieldsUpTo (P : ℕ → List Occurrence → Type 0) (n : ℕ) (fs : List (List Occurrence)) : Type 0 where
  pub len : length fs ≡ n
  pub below : (f : ℕ) → f < n → P f (field_at fs f)

at_last : {A : Type 0} (xs : List A) (x d : A) → get_or (xs ++ x ∷ []) (length xs) d ≡ x
at_last [] x d = refl
at_last (y ∷ xs) x d = at_last xs x d

at_earlier : {A : Type 0} (xs : List A) (x d : A) (i : ℕ) → i < length xs → get_or (xs ++ x ∷ []) i d ≡ get_or xs i d
at_earlier [] x d i h = absurd (omega arith)
at_earlier (y ∷ xs) x d zero h = refl
at_earlier (y ∷ xs) x d (suc i) h = at_earlier xs x d i (omega arith)

length-push : {A : Type 0} (xs : List A) (x : A) → length (xs ++ x ∷ []) ≡ length xs + 1
length-push [] x = refl
length-push (y ∷ xs) x = let rest = length-push xs x in omega arith

pub one_field_more : (P : ℕ → List Occurrence → Type 0) (n : ℕ) (fs : List (List Occurrence)) (os : List Occurrence) → FieldsUpTo P n fs → P n os → FieldsUpTo P (n + 1) (fs ++ os ∷ [])
one_field_more P n fs os up is =
    let len : length fs ≡ n = up.len in
    record {
      len = length-push fs os ∙ ap (λ m. m + 1) up.len;
      below = λ f h. elim (eqb_tells f n) [
        | inl t ↦ subst (λ m. P m (get_or (fs ++ os ∷ []) m [])) (sym t.1) (subst (P n) (sym (ap (λ m. get_or (fs ++ os ∷ []) m []) (sym len) ∙ at_last fs os [])) is)
        | inr t ↦ let earlier : f < n = omega (arith, t.1) in subst (P f) (sym (at_earlier fs os [] f (omega arith))) (up.below f earlier)
      ];
    }

-- all fields, where there is nothing past them
pub every_field : (P : ℕ → List Occurrence → Type 0) (n : ℕ) (fs : List (List Occurrence)) → FieldsUpTo P n fs → ((f : ℕ) → n ≤ f → P f []) → (f : ℕ) → P f (field_at fs f)
every_field P n fs up past f = elim (leb_tells n f) [
  | inl t ↦ let far : n ≤ f = t.1 in subst (P f) (sym (past_end fs f [] (omega (arith, up.len)))) (past f far)
  | inr t ↦ up.below f (omega (arith, t.1))
]

-- where no document has more fields
pub all_fields : (ds : List Document) (n : ℕ) (fs : List (List Occurrence)) → FieldsUpTo (IsIndex ds) n fs → All (λ d. length d.values ≤ n) ds → AreIndexes ds fs
all_fields ds n fs up few = every_field (IsIndex ds) n fs up (λ f past. record {
  same = λ k. ap (with_key k) (sym (none_occur f 0 ds (λ i d l. omega (arith, few i d l))));
})

pub mapped_at : {A B : Type 0} (f : A → B) (xs : List A) (i : ℕ) (d : B) (e : A) → i < length xs → get_or (map f xs) i d ≡ f (get_or xs i e)
mapped_at f [] i d e h = absurd (omega arith)
mapped_at f (x ∷ xs) zero d e h = refl
mapped_at f (x ∷ xs) (suc i) d e h = mapped_at f xs i d e (omega arith)

-- ---- the keys of a part

empty-map : {A B : Type 0} (f : A → B) (xs : List A) → is_empty (map f xs) ≡ is_empty xs
empty-map f [] = refl
empty-map f (x ∷ xs) = refl

any_of_doc : (k : Key) (field n : ℕ) (d : Document) → has_key_at field k d ≡ not (is_empty (with_key k (of_doc field (n, d))))
any_of_doc k field n d =
    any_place k 0 (values_at d.values field)
    ∙ ap not (sym (empty-map (at n) (places_in k (values_at d.values field))) ∙ ap is_empty (sym (of_values k n (enumerate_from 0 (values_at d.values field)))) ∙ empty-map (λ (o : Occurrence). o.place) (with_key k (of_doc field (n, d))))

any_of_docs : (k : Key) (field n : ℕ) (ds : List Document) → list_any (has_key_at field k) ds ≡ not (is_empty (with_key k (flat_map (of_doc field) (enumerate_from n ds))))
any_of_docs k field n [] = refl
any_of_docs k field n (d ∷ ds) =
    (λ j. any_of_doc k field n d j || any_of_docs k field (n + 1) ds j)
    ∙ or-not (is_empty (with_key k (of_doc field (n, d)))) (is_empty (with_key k (flat_map (of_doc field) (enumerate_from (n + 1) ds))))
    ∙ ap not (sym (empty-append (with_key k (of_doc field (n, d))) (with_key k (flat_map (of_doc field) (enumerate_from (n + 1) ds)))) ∙ ap is_empty (sym (filter-append (λ o. key_eq k o.key) (of_doc field (n, d)) (flat_map (of_doc field) (enumerate_from (n + 1) ds)))))

any_among : (k : Key) (os : List Occurrence) → is_among k (map (λ o. o.key) os) ≡ not (is_empty (with_key k os))
any_among k [] = refl
any_among k (o ∷ os) =
    elim (key_eq k o.key) as (λ b. (b || is_among k (map (λ o. o.key) os)) ≡ not (is_empty (cond b (o ∷ with_key k os) (with_key k os)))) [
      | true ↦ refl
      | false ↦ any_among k os
    ]

pub keys_at : (fs : List (List Occurrence)) (field : ℕ) → values_at (map (map (λ o. o.key)) fs) field ≡ map (λ o. o.key) (field_at fs field)
keys_at [] field = refl
keys_at (os ∷ fs) zero = refl
keys_at (os ∷ fs) (suc field) = keys_at fs field

pub part_lawful : (ds : List Document) (fs : List (List Occurrence)) → AreIndexes ds fs → IsPart (record { docs = ds; keys = map (map (λ o. o.key)) fs })
part_lawful ds fs is field k has =
    ap (is_among k) (keys_at fs field) ∙ any_among k (field_at fs field) ∙ ap (λ os. not (is_empty os)) ((is field).same k) ∙ sym (any_of_docs k field 0 ds) ∙ has

-- ---- postings of a part

value_below : (k : Key) (n i : ℕ) (es : List (ℕ × Key)) (m : ℕ) → n < m → All (λ o. o.place.doc < m) (map (occurrence n i) es)
value_below k n i [] m h = λ j d l. absurd (omega arith)
value_below k n i (e ∷ es) m h = All-cons (λ o. o.place.doc < m) (occurrence n i e) (map (occurrence n i) es) h (value_below k n i es m h)

doc_below : (k : Key) (n m : ℕ) (vs : List (ℕ × Key)) → n < m → All (λ o. o.place.doc < m) (flat_map (of_value n) vs)
doc_below k n m [] h = λ j d l. absurd (omega arith)
doc_below k n m (v ∷ vs) h = All-append (λ o. o.place.doc < m) (of_value n v) (flat_map (of_value n) vs) (value_below k n v.0 _ m h) (doc_below k n m vs h)

pub docs_below : (k : Key) (field n m : ℕ) (ds : List Document) → n + length ds ≤ m → All (λ o. o.place.doc < m) (flat_map (of_doc field) (enumerate_from n ds))
docs_below k field n m [] h = λ j d l. absurd (omega arith)
docs_below k field n m (d ∷ ds) h =
    All-append (λ o. o.place.doc < m) (of_doc field (n, d)) (flat_map (of_doc field) (enumerate_from (n + 1) ds)) (doc_below k n m (enumerate_from 0 (values_at d.values field)) (omega arith)) (docs_below k field (n + 1) m ds (omega arith))

pub key_below : (ds : List Document) (fs : List (List Occurrence)) (field base : ℕ) (k : Key) → AreIndexes ds fs → base + length ds ≤ MAX_DOCS → All (λ p. base + p.doc < MAX_DOCS) (map (λ o. o.place) (with_key k (field_at fs field)))
key_below ds fs field base k is most =
    let below = docs_below k field 0 (length ds) ds (omega arith) in
    subst (λ os. All (λ p. base + p.doc < MAX_DOCS) (map (λ o. o.place) os)) (sym ((is field).same k))
    (All-map (λ p. base + p.doc < MAX_DOCS) (λ o. o.place) (with_key k (occurrences field ds))
    (All-filter (λ o. key_eq k o.key) (λ o. base + o.place.doc < MAX_DOCS) (occurrences field ds) (λ j d l. omega (arith, below j d l))))

pub part_gathers : (ds : List Document) (fs : List (List Occurrence)) (field base : ℕ) (k : Key) (live : Numbers) (found : List Posting) → AreIndexes ds fs → EndsBefore base found →
    gathered live base (has_places k) found (map (λ o. o.place) (with_key k (field_at fs field))) ≡ found ++ filter_map (posting_of field k) (filter (λ e. contains live e.0) (enumerate_from base ds))
part_gathers ds fs field base k live found is before =
    let start : base + 0 ≡ base = omega arith in
    ap (λ os. gathered live base (has_places k) found (map (λ o. o.place) os)) ((is field).same k)
    ∙ gathered_docs live base (has_places k) k field refl found 0 ds (subst (λ m. EndsBefore m found) (sym start) before)
    ∙ ap (λ m. found ++ filter_map (posting_of field k) (filter (λ e. contains live e.0) (enumerate_from m ds))) start

-- ---- terms of a part

pub filter-map : {A B : Type 0} (f : A → B) (p : B → Bool) (xs : List A) → filter p (map f xs) ≡ map f (filter (λ x. p (f x)) xs)
filter-map f p [] = refl
filter-map f p (x ∷ xs) =
    elim (p (f x)) as (λ b. cond b (f x ∷ filter p (map f xs)) (filter p (map f xs)) ≡ map f (cond b (x ∷ filter (λ x. p (f x)) xs) (filter (λ x. p (f x)) xs))) [
      | true ↦ ap (λ ys. f x ∷ ys) (filter-map f p xs)
      | false ↦ filter-map f p xs
    ]
