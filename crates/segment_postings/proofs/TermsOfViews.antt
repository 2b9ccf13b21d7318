-- The terms of a view have the keys of its live documents.
use Rattle.std.proofs.Common.{◌≡◌, ℕ, ◌+◌, Bool, true, false, ◌||◌, cond, List, [], ◌∷◌, ◌++◌, map, filter, fold, take, not, refl, sym, ap, ◌∙◌, All}
use Rattle.std.specs.List.{enumerate_from, flat_map, list_any}
use Rattle.std.specs.FinSet.{contains}
use Rattle.std.specs.Ordering.{is_lt, is_eq, match_ordering, ordering_reverse}
use Rattle.std.specs.declared.cmp.Ordering.TheVariants.{Less, Equal, Greater}
use Rattle.std.proofs.lemmas.List.Elements.{All-head, All-tail, filter-append}
use Rattle.field_schema.specs.declared.key.Key.{Key}
use Rattle.field_schema.specs.Keys.{key_eq, key_cmp}
use Rattle.field_schema.specs.Laws.{key_cmp_total, key_cmp_ties, key_eq-same}
use Rattle.field_schema.specs.Values.{values_at}
use Rattle.doc_model.specs.Document.{Document}
use Rattle.doc_sets.specs.Sets.{Numbers}
use Rattle.segment_postings.specs.Postings.{has_key_at}
use Rattle.segment_postings.specs.Segments.{Part, IsPart}
use Rattle.segment_postings.specs.Terms.{is_before, is_among, put_key, AreTerms, terms_from}
use Rattle.segment_postings.specs.Views.{all_docs, numbered, terms_of}
use Rattle.segment_postings.proofs.Joining.{Ascending-fold, less_is}
use Rattle.segment_postings.proofs.KeyOrder.{turned}
use Rattle.segment_postings.proofs.ViewLoops.{late}

swap_or : (a b c : Bool) → (a || (b || c)) ≡ (b || (a || c))
swap_or true true c = refl
swap_or true false c = refl
swap_or false b c = refl

or_assoc : (a b c : Bool) → ((a || b) || c) ≡ (a || (b || c))
or_assoc true b c = refl
or_assoc false b c = refl

or_same : (a c : Bool) → (a || c) ≡ (a || (a || c))
or_same true c = refl
or_same false c = refl

among_put : (k j : Key) (xs : List Key) → is_among k (put_key xs j) ≡ (key_eq k j || is_among k xs)
among_put k j [] = refl
among_put k j (x ∷ xs) =
    elim (key_cmp j x) as (λ o. key_cmp j x ≡ o → is_among k (match_ordering o (j ∷ x ∷ xs) (x ∷ xs) (x ∷ put_key xs j)) ≡ (key_eq k j || is_among k (x ∷ xs))) [
      | Less ↦ λ _. refl
      | Equal ↦ λ e. let same : j ≡ x = key_eq-same j x (key_cmp_ties j x ∙ ap is_eq e) in or_same (key_eq k x) (is_among k xs) ∙ ap (λ i. key_eq k i || is_among k (x ∷ xs)) (sym same)
      | Greater ↦ λ _. ap (λ b. key_eq k x || b) (among_put k j xs) ∙ swap_or (key_eq k x) (key_eq k j) (is_among k xs)
    ] refl

among_fold : (k : Key) (xs ks : List Key) → is_among k (fold put_key xs ks) ≡ (is_among k ks || is_among k xs)
among_fold k xs [] = refl
among_fold k xs (j ∷ ks) = among_fold k (put_key xs j) ks ∙ ap (λ b. is_among k ks || b) (among_put k j xs) ∙ swap_or (is_among k ks) (key_eq k j) (is_among k xs) ∙ sym (or_assoc (key_eq k j) (is_among k ks) (is_among k xs))

any-append : {A : Type 0} (p : A → Bool) (xs ys : List A) → list_any p (xs ++ ys) ≡ (list_any p xs || list_any p ys)
any-append p [] ys = refl
any-append p (x ∷ xs) ys = ap (λ b. p x || b) (any-append p xs ys) ∙ sym (or_assoc (p x) (list_any p xs) (list_any p ys))

or_right : (a b : Bool) → b ≡ true → (a || b) ≡ true
or_right true b e = refl
or_right false b e = e

any_live : (h : Document → Bool) (p : ℕ → Bool) (n : ℕ) (ds : List Document) → list_any (λ e. h e.1) (filter (λ e. p e.0) (enumerate_from n ds)) ≡ true → list_any h ds ≡ true
any_live h p n [] some = some
any_live h p n (d ∷ ds) some =
    elim (p n) as (λ b. list_any (λ e. h e.1) (cond b ((n, d) ∷ filter (λ e. p e.0) (enumerate_from (n + 1) ds)) (filter (λ e. p e.0) (enumerate_from (n + 1) ds))) ≡ true → (h d || list_any h ds) ≡ true) [
      | true ↦ elim (h d) as (λ b. (b || list_any (λ e. h e.1) (filter (λ e. p e.0) (enumerate_from (n + 1) ds))) ≡ true → (b || list_any h ds) ≡ true) [
        | true ↦ λ _. refl
        | false ↦ λ rest. any_live h p (n + 1) ds rest
      ]
      | false ↦ λ rest. or_right (h d) (list_any h ds) (any_live h p (n + 1) ds rest)
    ] some

among_parts : (field : ℕ) (k : Key) (parts : List Part) → All IsPart parts → list_any (has_key_at field k) (all_docs parts) ≡ true → is_among k (flat_map (λ p. values_at p.keys field) parts) ≡ true
among_parts field k [] lawful some = some
among_parts field k (p ∷ parts) lawful some =
    any-append (key_eq k) (values_at p.keys field) (flat_map (λ q. values_at q.keys field) parts)
    ∙ (elim (list_any (has_key_at field k) p.docs) as (λ b. list_any (has_key_at field k) p.docs ≡ b → (b || list_any (has_key_at field k) (all_docs parts)) ≡ true → (is_among k (values_at p.keys field) || is_among k (flat_map (λ q. values_at q.keys field) parts)) ≡ true) [
      | true ↦ λ e _. ap (λ b. b || is_among k (flat_map (λ q. values_at q.keys field) parts)) (All-head IsPart p parts lawful field k e)
      | false ↦ λ _ rest. or_right (is_among k (values_at p.keys field)) _ (among_parts field k parts (All-tail IsPart p parts lawful) rest)
    ] refl (sym (any-append (has_key_at field k) p.docs (all_docs parts)) ∙ some))

of_keys : (field : ℕ) (parts : List Part) → flat_map (λ part. values_at part field) (map (λ (p : Part). p.keys) parts) ≡ flat_map (λ (p : Part). values_at p.keys field) parts
of_keys field [] = refl
of_keys field (p ∷ parts) = ap (λ ks. values_at p.keys field ++ ks) (of_keys field parts)

or_nil : (b : Bool) → (b || false) ≡ b
or_nil true = refl
or_nil false = refl

pub terms_are : (live : Numbers) (parts : List Part) → All IsPart parts → AreTerms (numbered live (all_docs parts)) (terms_of (map (λ p. p.keys) parts))
terms_are live parts lawful = record {
  ascending = λ field. Ascending-fold [] (flat_map (λ part. values_at part field) (map (λ p. p.keys) parts)) tt;
  covering = λ field k some.
      among_fold k [] (flat_map (λ part. values_at part field) (map (λ p. p.keys) parts))
      ∙ or_nil _
      ∙ ap (is_among k) (of_keys field parts)
      ∙ among_parts field k parts lawful (any_live (has_key_at field k) (contains live) 0 (all_docs parts) some);
}

-- ---- the terms at or after a key

late_up : (from a b : Key) → is_before a b ≡ true → late from a ≡ true → late from b ≡ true
late_up from a b before behind =
    elim (is_before b from) as (λ r. is_before b from ≡ r → not r ≡ true) [
      | true ↦ λ e.
          let far : is_before a from ≡ true = ap is_lt (key_cmp_total.trans a b from (less_is (key_cmp a b) before) (less_is (key_cmp b from) e)) in
          let here : late from a ≡ false = ap not far in
          absurd (cc)
      | false ↦ λ _. refl
    ] refl

-- what is put among keys, of those at or after `from`
late_put : (from k : Key) (xs : List Key) → filter (late from) (put_key xs k) ≡ cond (late from k) (put_key (filter (late from) xs) k) (filter (late from) xs)
late_put from k [] = refl
late_put from k (x ∷ xs) =
    let F : List Key = filter (late from) xs in
    elim (key_cmp k x) as (λ o. key_cmp k x ≡ o → filter (late from) (match_ordering o (k ∷ x ∷ xs) (x ∷ xs) (x ∷ put_key xs k)) ≡ cond (late from k) (put_key (cond (late from x) (x ∷ F) F) k) (cond (late from x) (x ∷ F) F)) [
      | Less ↦ λ e.
          elim (late from k) as (λ b. late from k ≡ b → cond b (k ∷ cond (late from x) (x ∷ F) F) (cond (late from x) (x ∷ F) F) ≡ cond b (put_key (cond (late from x) (x ∷ F) F) k) (cond (late from x) (x ∷ F) F)) [
            | true ↦ λ behind.
                let up : late from x ≡ true = late_up from k x (ap is_lt e) behind in
                ap (λ b. k ∷ cond b (x ∷ F) F) up ∙ sym (ap (λ b. put_key (cond b (x ∷ F) F) k) up ∙ ap (λ o. match_ordering o (k ∷ x ∷ F) (x ∷ F) (x ∷ put_key F k)) e)
            | false ↦ λ _. refl
          ] refl
      | Equal ↦ λ e.
          let same : k ≡ x = key_eq-same k x (key_cmp_ties k x ∙ ap is_eq e) in
          (elim (late from x) as (λ b. cond b (x ∷ F) F ≡ cond b (put_key (cond b (x ∷ F) F) k) (cond b (x ∷ F) F)) [
            | true ↦ sym (ap (λ o. match_ordering o (k ∷ x ∷ F) (x ∷ F) (x ∷ put_key F k)) e)
            | false ↦ refl
          ]) ∙ ap (λ y. cond (late from y) (put_key (cond (late from x) (x ∷ F) F) k) (cond (late from x) (x ∷ F) F)) (sym same)
      | Greater ↦ λ e.
          ap (λ ys. cond (late from x) (x ∷ ys) ys) (late_put from k xs)
          ∙ (elim (late from x) as (λ b. late from x ≡ b → cond b (x ∷ cond (late from k) (put_key F k) F) (cond (late from k) (put_key F k) F) ≡ cond (late from k) (put_key (cond b (x ∷ F) F) k) (cond b (x ∷ F) F)) [
            | true ↦ λ behind.
                let up : late from k ≡ true = late_up from x k (ap is_lt (turned x k ∙ ap ordering_reverse e)) behind in
                ap (λ b. x ∷ cond b (put_key F k) F) up ∙ sym (ap (λ b. cond b (put_key (x ∷ F) k) (x ∷ F)) up ∙ ap (λ o. match_ordering o (k ∷ x ∷ F) (x ∷ F) (x ∷ put_key F k)) e)
            | false ↦ λ _. refl
          ] refl)
    ] refl

late_fold : (from : Key) (xs ks : List Key) → filter (late from) (fold put_key xs ks) ≡ fold put_key (filter (late from) xs) (filter (late from) ks)
late_fold from xs [] = refl
late_fold from xs (k ∷ ks) =
    late_fold from (put_key xs k) ks
    ∙ ap (λ ys. fold put_key ys (filter (late from) ks)) (late_put from k xs)
    ∙ (elim (late from k) as (λ b. fold put_key (cond b (put_key (filter (late from) xs) k) (filter (late from) xs)) (filter (late from) ks) ≡ fold put_key (filter (late from) xs) (cond b (k ∷ filter (late from) ks) (filter (late from) ks))) [ true ↦ refl | false ↦ refl ])

filter_each : (p : Key → Bool) (f : Part → List Key) (parts : List Part) → filter p (flat_map f parts) ≡ flat_map (λ q. filter p (f q)) parts
filter_each p f [] = refl
filter_each p f (q ∷ parts) = filter-append p (f q) (flat_map f parts) ∙ ap (λ ks. filter p (f q) ++ ks) (filter_each p f parts)

-- the first terms at or after a key are the first of those of all parts
pub first_terms : (field : ℕ) (from : Key) (most : ℕ) (parts : List Part) → take most (fold put_key [] (flat_map (λ p. filter (late from) (values_at p.keys field)) parts)) ≡ terms_from (terms_of (map (λ p. p.keys) parts) field) from most
first_terms field from most parts =
    ap (take most) (ap (fold put_key []) (sym (filter_each (late from) (λ p. values_at p.keys field) parts) ∙ ap (filter (late from)) (sym (of_keys field parts)))
    ∙ sym (late_fold from [] (flat_map (λ part. values_at part field) (map (λ p. p.keys) parts))))
