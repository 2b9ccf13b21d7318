-- The numbers at the places of the keys that a test takes are those of the documents that have one.
use Rattle.std.proofs.Common.{◌≡◌, ℕ, ◌+◌, ◌<◌, ◌≤◌, Bool, true, false, cond, ◌&&◌, ◌||◌, List, [], ◌∷◌, ◌++◌, length, get_or, take, map, filter, nat_eq, refl, sym, ap, ◌∙◌, arith, All, inl, inr, eq-eqb, length-append}
use Rattle.std.specs.Ordering.{nat_cmp, eq_by_cmp}
use Rattle.std.specs.Cmp.{nat_cmp_total}
use Rattle.std.specs.List.{list_any, enumerate_from, flat_map}
use Rattle.std.specs.FinSet.{contains, empty, from_list, insert, intersection, union, contains-empty, contains-from_list_nat, contains-insert, contains-intersection, contains-union, same_set, nat_cmp-IsAntisymmetric}
use Rattle.std.proofs.lemmas.Bool.{and_parts, and_from, cases_Bool, eqb-true}
use Rattle.std.proofs.lemmas.List.{map-append, take_more}
use Rattle.std.proofs.lemmas.List.Elements.{filter-append, All-map, All-filter}
use Rattle.std.proofs.lemmas.List.Folds.{list_any-append, list_any_at, Any-from_list_any}
use Rattle.field_schema.specs.declared.key.Key.{Key}
use Rattle.field_schema.specs.Keys.{key_eq}
use Rattle.field_schema.specs.Laws.{key_eq-refl}
use Rattle.field_schema.specs.Values.{values_at}
use Rattle.doc_model.specs.Document.{Document}
use Rattle.doc_sets.specs.Sets.{Numbers}
use Rattle.doc_sets.specs.declared.TheConstants.{MAX_DOCS}
use Rattle.query_tree.specs.KeysOfDocs.{keys_of_value}
use Rattle.query_tree.specs.Matches.{has_key}
use Rattle.segment_postings.specs.declared.occurrence.Occurrence.{Occurrence}
use Rattle.segment_postings.specs.declared.occurrence.Place.{Place}
use Rattle.segment_postings.specs.Segments.{Part, occurrence, of_value, of_doc, occurrences, with_key, field_at, AreIndexes}
use Rattle.segment_postings.specs.Spans.{numbers_with, numbers_among, numbers_within}
use Rattle.segment_postings.specs.Views.{all_docs, numbered}
use Rattle.segment_postings.proofs.SegmentLaws.{docs_below}
use Rattle.segment_postings.proofs.ViewLaws.{enumerate-append}
use Rattle.segment_postings.proofs.ViewLoops.{docs_more}

-- ---- unions

or_assoc : (a b c : Bool) → ((a || b) || c) ≡ (a || (b || c))
or_assoc true b c = refl
or_assoc false b c = refl

or_false : (b : Bool) → (b || false) ≡ b
or_false true = refl
or_false false = refl

pub union_assoc : (s t u : Numbers) → union (union s t) u ≡ union s (union t u)
union_assoc s t u = same_set nat_cmp_total nat_cmp-IsAntisymmetric _ _ (λ n.
    contains-union nat_cmp_total (union s t) u n
    ∙ ap (λ b. b || contains u n) (contains-union nat_cmp_total s t n)
    ∙ or_assoc (contains s n) (contains t n) (contains u n)
    ∙ sym (contains-union nat_cmp_total s (union t u) n ∙ ap (λ b. contains s n || b) (contains-union nat_cmp_total t u n)))

pub from_append : (xs ys : List ℕ) → from_list {R = nat_cmp} (xs ++ ys) ≡ union (from_list xs) (from_list ys)
from_append xs ys = same_set nat_cmp_total nat_cmp-IsAntisymmetric _ _ (λ n.
    contains-from_list_nat (xs ++ ys) n
    ∙ list_any-append (λ y. nat_eq y n) xs ys
    ∙ sym (contains-union nat_cmp_total (from_list xs) (from_list ys) n ∙ (λ i. contains-from_list_nat xs n i || contains-from_list_nat ys n i)))

inserted : (s : Numbers) (x : ℕ) → insert s x ≡ union s (from_list (x ∷ []))
inserted s x = same_set nat_cmp_total nat_cmp-IsAntisymmetric _ _ (λ n.
    contains-insert nat_cmp_total s x n
    ∙ turned (eq_by_cmp nat_cmp n x) (contains s n)
    ∙ sym (contains-union nat_cmp_total s (from_list (x ∷ [])) n
    ∙ ap (λ b. contains s n || b) (contains-insert nat_cmp_total empty x n ∙ ap (λ b. eq_by_cmp nat_cmp n x || b) (contains-empty nat_cmp n))))
  where
    turned : (a b : Bool) → (a || b) ≡ (b || (a || false))
    turned true true = refl
    turned true false = refl
    turned false true = refl
    turned false false = refl

-- ---- the numbers at places

-- the numbers of the documents that places stand in
abbrev pub numbers_of_places : ℕ → List Place → List ℕ
numbers_of_places base ps = map (λ p. base + p.doc) ps

pub no_places : (base : ℕ) (init : Numbers) → init ≡ union init (from_list (numbers_of_places base []))
no_places base init = sym (same_set nat_cmp_total nat_cmp-IsAntisymmetric _ _ (λ n.
    contains-union nat_cmp_total init (from_list []) n ∙ ap (λ b. contains init n || b) (contains-from_list_nat [] n) ∙ or_false (contains init n)))

pub place_more : (base : ℕ) (init found new : Numbers) (ps : List Place) (i : ℕ) (d : Place) → i < length ps → found ≡ union init (from_list (numbers_of_places base (take i ps))) → new ≡ insert found (base + ((get_or ps i d).doc)) →
    new ≡ union init (from_list (numbers_of_places base (take (i + 1) ps)))
place_more base init found new ps i d h so_far e =
    let p : Place = get_or ps i d in
    let list : numbers_of_places base (take (i + 1) ps) ≡ numbers_of_places base (take i ps) ++ (base + p.doc) ∷ [] =
    ap (numbers_of_places base) (take_more ps i d h) ∙ map-append (λ (q : Place). base + q.doc) (take i ps) (p ∷ []) in
    e ∙ ap (λ s. insert s (base + p.doc)) so_far
    ∙ inserted (union init (from_list (numbers_of_places base (take i ps)))) (base + p.doc)
    ∙ union_assoc init (from_list (numbers_of_places base (take i ps))) (from_list ((base + p.doc) ∷ []))
    ∙ ap (union init) (sym (from_append (numbers_of_places base (take i ps)) ((base + p.doc) ∷ [])) ∙ ap (λ ns. from_list {R = nat_cmp} ns) (sym list))

-- ---- what some occurrence says

any_kept : {A : Type 0} (p q : A → Bool) (xs : List A) → list_any p (filter q xs) ≡ list_any (λ x. q x && p x) xs
any_kept p q [] = refl
any_kept p q (x ∷ xs) = elim (q x) as (λ b. list_any p (cond b (x ∷ filter q xs) (filter q xs)) ≡ ((b && p x) || list_any (λ x. q x && p x) xs)) [
  | true ↦ ap (λ b. p x || b) (any_kept p q xs)
  | false ↦ any_kept p q xs
]

any_map : {A B : Type 0} (p : B → Bool) (f : A → B) (xs : List A) → list_any p (map f xs) ≡ list_any (λ x. p (f x)) xs
any_map p f [] = refl
any_map p f (x ∷ xs) = ap (λ b. p (f x) || b) (any_map p f xs)

same_tests : (a b : Bool) → (a ≡ true → b ≡ true) → (b ≡ true → a ≡ true) → a ≡ b
same_tests true b h k = sym (h refl)
same_tests false true h k = k refl
same_tests false false h k = refl

-- where each key has the same occurrences in two lists, some occurrence passes in both or in none
one_way : (q : Occurrence → Bool) (xs ys : List Occurrence) → ((k : Key) → with_key k xs ≡ with_key k ys) → list_any q xs ≡ true → list_any q ys ≡ true
one_way q xs ys same h =
    let some = Any-from_list_any q xs h in
    let k : Key = some.1.key in
    let here : list_any q (with_key k xs) ≡ true =
    any_kept q (λ o. key_eq k o.key) xs ∙ list_any_at (λ o. key_eq k o.key && q o) xs some.0 some.1 some.2
    (ap (λ (o : Occurrence). key_eq k o.key && q o) some.3 ∙ and_from (key_eq k k) (q some.1) (key_eq-refl k) some.4) in
    let there = Any-from_list_any (λ o. key_eq k o.key && q o) ys (sym (any_kept q (λ o. key_eq k o.key) ys) ∙ sym (ap (list_any q) (same k)) ∙ here) in
    let parts = and_parts (key_eq k there.1.key) (q there.1) there.4 in
    list_any_at q ys there.0 there.1 there.2 (ap q there.3 ∙ parts.1)

pub any_same : (q : Occurrence → Bool) (xs ys : List Occurrence) → ((k : Key) → with_key k xs ≡ with_key k ys) → list_any q xs ≡ list_any q ys
any_same q xs ys same = same_tests _ _ (one_way q xs ys same) (one_way q ys xs (λ k. sym (same k)))

-- ---- documents with a key that is taken

module _ (p : Key → Bool) (field base n : ℕ) where
  abbrev taken : Occurrence → Bool
  taken o = p o.key && nat_eq (base + o.place.doc) n

  at_keys : (m v i : ℕ) (ks : List Key) → list_any taken (map (occurrence m v) (enumerate_from i ks)) ≡ (nat_eq (base + m) n && list_any p ks)
  at_keys m v i [] = sym (and_false (nat_eq (base + m) n))
    where
      and_false : (b : Bool) → (b && false) ≡ false
      and_false true = refl
      and_false false = refl
  at_keys m v i (k ∷ ks) = ap (λ b. (p k && nat_eq (base + m) n) || b) (at_keys m v (i + 1) ks) ∙ shared (p k) (nat_eq (base + m) n) (list_any p ks)
    where
      shared : (a c x : Bool) → ((a && c) || (c && x)) ≡ (c && (a || x))
      shared true true x = refl
      shared true false x = refl
      shared false true x = refl
      shared false false x = refl

  at_values : (m i : ℕ) (vs : List Key) → list_any taken (flat_map (of_value m) (enumerate_from i vs)) ≡ (nat_eq (base + m) n && list_any p (flat_map keys_of_value vs))
  at_values m i [] = sym (and_false (nat_eq (base + m) n))
    where
      and_false : (b : Bool) → (b && false) ≡ false
      and_false true = refl
      and_false false = refl
  at_values m i (v ∷ vs) =
      list_any-append taken (of_value m (i, v)) (flat_map (of_value m) (enumerate_from (i + 1) vs))
      ∙ (λ j. at_keys m i 0 (keys_of_value v) j || at_values m (i + 1) vs j)
      ∙ joined (nat_eq (base + m) n) (list_any p (keys_of_value v)) (list_any p (flat_map keys_of_value vs))
      ∙ ap (λ b. nat_eq (base + m) n && b) (sym (list_any-append p (keys_of_value v) (flat_map keys_of_value vs)))
    where
      joined : (c x y : Bool) → ((c && x) || (c && y)) ≡ (c && (x || y))
      joined true x y = refl
      joined false x y = refl

  at_docs : (m : ℕ) (ds : List Document) → list_any taken (flat_map (of_doc field) (enumerate_from m ds)) ≡ list_any (λ e. nat_eq e.0 n && has_key e.1.values field p) (enumerate_from (base + m) ds)
  at_docs m [] = refl
  at_docs m (d ∷ ds) =
      let next : base + (m + 1) ≡ base + m + 1 = omega arith in
      list_any-append taken (of_doc field (m, d)) (flat_map (of_doc field) (enumerate_from (m + 1) ds))
      ∙ (λ j. at_values m 0 (values_at d.values field) j || (at_docs (m + 1) ds ∙ ap (λ k. list_any (λ e. nat_eq e.0 n && has_key e.1.values field p) (enumerate_from k ds)) next) j)

-- ---- the numbers of a part

abbrev among : List ℕ → ℕ → Bool
among ns n = list_any (λ y. nat_eq y n) ns

among_with : (live : Numbers) (field : ℕ) (p : Key → Bool) (es : List (ℕ × Document)) (n : ℕ) → among (numbers_with field p (filter (λ e. contains live e.0) es)) n ≡ (contains live n && list_any (λ e. nat_eq e.0 n && has_key e.1.values field p) es)
among_with live field p es n =
    any_map (λ y. nat_eq y n) (λ (e : ℕ × Document). e.0) (filter (λ e. has_key e.1.values field p) (filter (λ e. contains live e.0) es))
    ∙ any_kept (λ (e : ℕ × Document). nat_eq e.0 n) (λ e. has_key e.1.values field p) (filter (λ e. contains live e.0) es)
    ∙ any_kept (λ (e : ℕ × Document). has_key e.1.values field p && nat_eq e.0 n) (λ e. contains live e.0) es
    ∙ pulled es
  where
    at_one : (e : ℕ × Document) → (contains live e.0 && (has_key e.1.values field p && nat_eq e.0 n)) ≡ (contains live n && (nat_eq e.0 n && has_key e.1.values field p))
    at_one e = elim (cases_Bool (nat_eq e.0 n)) [
      | inl same ↦
          let is : e.0 ≡ n = eqb-true e.0 n same in
          (λ j. contains live (is j) && (has_key e.1.values field p && same j))
          ∙ ap (λ b. contains live n && b) (and_true (has_key e.1.values field p))
          ∙ sym (λ j. contains live n && (same j && has_key e.1.values field p))
      | inr other ↦
          (λ j. contains live e.0 && (has_key e.1.values field p && other j))
          ∙ ap (λ b. contains live e.0 && b) (and_false (has_key e.1.values field p)) ∙ and_false (contains live e.0)
          ∙ sym ((λ j. contains live n && (other j && has_key e.1.values field p)) ∙ and_false (contains live n))
    ]
      where
        and_true : (b : Bool) → (b && true) ≡ b
        and_true true = refl
        and_true false = refl

        and_false : (b : Bool) → (b && false) ≡ false
        and_false true = refl
        and_false false = refl

    pulled : (xs : List (ℕ × Document)) → list_any (λ e. contains live e.0 && (has_key e.1.values field p && nat_eq e.0 n)) xs ≡ (contains live n && list_any (λ e. nat_eq e.0 n && has_key e.1.values field p) xs)
    pulled [] = sym (and_none (contains live n))
      where
        and_none : (b : Bool) → (b && false) ≡ false
        and_none true = refl
        and_none false = refl
    pulled (e ∷ xs) =
        (λ j. at_one e j || pulled xs j) ∙ joined (contains live n) (nat_eq e.0 n && has_key e.1.values field p) (list_any (λ e. nat_eq e.0 n && has_key e.1.values field p) xs)
      where
        joined : (c x y : Bool) → ((c && x) || (c && y)) ≡ (c && (x || y))
        joined true x y = refl
        joined false x y = refl

any_turned : (p q : ℕ × Document → Bool) (xs : List (ℕ × Document)) → list_any (λ e. p e && q e) xs ≡ list_any (λ e. q e && p e) xs
any_turned p q [] = refl
any_turned p q (e ∷ xs) = (λ j. and_turned (p e) (q e) j || any_turned p q xs j)
  where
    and_turned : (a b : Bool) → (a && b) ≡ (b && a)
    and_turned true true = refl
    and_turned true false = refl
    and_turned false true = refl
    and_turned false false = refl

-- the number is that of a document with a key that is taken
among_all : (base field : ℕ) (p : Key → Bool) (ds : List Document) (n : ℕ) → contains (numbers_among base field p ds) n ≡ list_any (λ e. nat_eq e.0 n && has_key e.1.values field p) (enumerate_from base ds)
unfolding numbers_among
among_all base field p ds n =
    contains-from_list_nat (numbers_with field p (enumerate_from base ds)) n
    ∙ any_map (λ y. nat_eq y n) (λ (e : ℕ × Document). e.0) (filter (λ e. has_key e.1.values field p) (enumerate_from base ds))
    ∙ any_kept (λ (e : ℕ × Document). nat_eq e.0 n) (λ e. has_key e.1.values field p) (enumerate_from base ds)
    ∙ any_turned (λ e. has_key e.1.values field p) (λ e. nat_eq e.0 n) (enumerate_from base ds)

-- the places of the keys that are taken
abbrev pub places_taken : (Key → Bool) → List Occurrence → List Place
places_taken p os = map (λ o. o.place) (filter (λ o. p o.key) os)

part_set : (ds : List Document) (fs : List (List Occurrence)) (field base : ℕ) (p : Key → Bool) → AreIndexes ds fs → from_list {R = nat_cmp} (numbers_of_places base (places_taken p (field_at fs field))) ≡ numbers_among base field p ds
part_set ds fs field base p is = same_set nat_cmp_total nat_cmp-IsAntisymmetric _ _ (λ n.
    let start : base + 0 ≡ base = omega arith in
    contains-from_list_nat (numbers_of_places base (places_taken p (field_at fs field))) n
    ∙ any_map (λ y. nat_eq y n) (λ (q : Place). base + q.doc) (places_taken p (field_at fs field))
    ∙ any_map (λ (q : Place). nat_eq (base + q.doc) n) (λ (o : Occurrence). o.place) (filter (λ o. p o.key) (field_at fs field))
    ∙ any_kept (λ (o : Occurrence). nat_eq (base + o.place.doc) n) (λ o. p o.key) (field_at fs field)
    ∙ any_same (λ o. p o.key && nat_eq (base + o.place.doc) n) (field_at fs field) (occurrences field ds) ((is field).same)
    ∙ at_docs p field base n 0 ds
    ∙ ap (λ m. list_any (λ e. nat_eq e.0 n && has_key e.1.values field p) (enumerate_from m ds)) start
    ∙ sym (among_all base field p ds n))

-- what is added at the places of a part
pub adds_part : (ds : List Document) (fs : List (List Occurrence)) (field base : ℕ) (p : Key → Bool) (old new : Numbers) (ps : List Place) → AreIndexes ds fs → ps ≡ places_taken p (field_at fs field) → new ≡ union old (from_list (numbers_of_places base ps)) → new ≡ union old (numbers_among base field p ds)
adds_part ds fs field base p old new ps is same e =
    e ∙ ap (λ qs. union old (from_list (numbers_of_places base qs))) same ∙ ap (union old) (part_set ds fs field base p is)

-- the documents of the places are among those that there are
pub taken_below : (ds : List Document) (fs : List (List Occurrence)) (field base : ℕ) (p : Key → Bool) → AreIndexes ds fs → base + length ds ≤ MAX_DOCS → All (λ q. base + q.doc < MAX_DOCS) (places_taken p (field_at fs field))
taken_below ds fs field base p is most =
    let os : List Occurrence = field_at fs field in
    All-map (λ q. base + q.doc < MAX_DOCS) (λ o. o.place) (filter (λ o. p o.key) os)
    (All-filter (λ o. p o.key) (λ o. base + o.place.doc < MAX_DOCS) os (λ i d l.
    let here = Any-from_list_any (λ o. nat_eq o.place.doc ((get_or os i d).place.doc)) (occurrences field ds)
    (sym (any_same (λ o. nat_eq o.place.doc ((get_or os i d).place.doc)) os (occurrences field ds) ((is field).same))
    ∙ list_any_at (λ o. nat_eq o.place.doc ((get_or os i d).place.doc)) os i d l (itself ((get_or os i d).place.doc))) in
    let same : here.1.place.doc ≡ (get_or os i d).place.doc = eqb-true _ _ here.4 in
    let there : get_or (occurrences field ds) here.0 here.1 ≡ here.1 = here.3 in
    let below = docs_below (here.1.key) field 0 (length ds) ds (omega arith) here.0 here.1 here.2 in
    omega (arith, below, same, ap (λ (o : Occurrence). o.place.doc) there, most)))
  where
    itself : (n : ℕ) → nat_eq n n ≡ true
    itself n = eq-eqb n n refl

-- ---- the loop over parts

among_both : (base field : ℕ) (p : Key → Bool) (xs ys : List Document) → numbers_among base field p (xs ++ ys) ≡ union (numbers_among base field p xs) (numbers_among (base + length xs) field p ys)
unfolding numbers_among
among_both base field p xs ys =
    let one : List (ℕ × Document) = enumerate_from base xs in
    let two : List (ℕ × Document) = enumerate_from (base + length xs) ys in
    ap (λ es. from_list {R = nat_cmp} (numbers_with field p es)) (enumerate-append base xs ys)
    ∙ ap (λ es. from_list {R = nat_cmp} (map (λ e. e.0) es)) (filter-append (λ e. has_key e.1.values field p) one two)
    ∙ ap (λ ns. from_list {R = nat_cmp} ns) (map-append (λ (e : ℕ × Document). e.0) (filter (λ e. has_key e.1.values field p) one) (filter (λ e. has_key e.1.values field p) two))
    ∙ from_append (numbers_with field p one) (numbers_with field p two)

-- the numbers of the documents of some parts, and how many documents these have
pub record PartSets (field : ℕ) (p : Key → Bool) (ps : List Part) (base : ℕ) (found : Numbers) : Type 0 where
  pub start : base ≡ length (all_docs ps)
  pub is : found ≡ numbers_among 0 field p (all_docs ps)

pub no_part_sets : (field : ℕ) (p : Key → Bool) (found : Numbers) → found ≡ empty → PartSets field p [] 0 found
unfolding numbers_among
no_part_sets field p found e = record { start = refl; is = e }

pub set_of_part : (field : ℕ) (p : Key → Bool) (ps : List Part) (q : Part) (base : ℕ) (found new : Numbers) → PartSets field p ps base found → new ≡ union found (numbers_among base field p q.docs) → PartSets field p (ps ++ q ∷ []) (base + length q.docs) new
set_of_part field p ps q base found new so_far e =
    let at : base ≡ 0 + length (all_docs ps) = omega (arith, so_far.start) in
    record {
      start = ap (λ n. n + length q.docs) so_far.start ∙ sym (length-append (all_docs ps) q.docs) ∙ ap length (sym (docs_more ps q));
      is =
          e
          ∙ (λ j. union (so_far.is j) (numbers_among (at j) field p q.docs))
          ∙ sym (among_both 0 field p (all_docs ps) q.docs) ∙ ap (numbers_among 0 field p) (sym (docs_more ps q));
    }

-- those that are live
pub live_numbers : (live : Numbers) (ds : List Document) (field : ℕ) (p : Key → Bool) → intersection (numbers_among 0 field p ds) live ≡ numbers_within (numbered live ds) field p
unfolding numbers_within
live_numbers live ds field p = same_set nat_cmp_total nat_cmp-IsAntisymmetric _ _ (λ n.
    contains-intersection nat_cmp_total (numbers_among 0 field p ds) live n
    ∙ ap (λ b. b && contains live n) (among_all 0 field p ds n)
    ∙ and_turned (list_any (λ e. nat_eq e.0 n && has_key e.1.values field p) (enumerate_from 0 ds)) (contains live n)
    ∙ sym (contains-from_list_nat (numbers_with field p (filter (λ e. contains live e.0) (enumerate_from 0 ds))) n ∙ among_with live field p (enumerate_from 0 ds) n))
  where
    and_turned : (a b : Bool) → (a && b) ≡ (b && a)
    and_turned true true = refl
    and_turned true false = refl
    and_turned false true = refl
    and_turned false false = refl
