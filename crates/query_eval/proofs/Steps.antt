-- The last steps of functions.
use Rattle.std.proofs.Common.{Bor, ◌≡◌, ℕ, ◌+◌, ◌<◌, Bool, true, false, ◌&&◌, ◌||◌, List, [], ◌∷◌, ◌++◌, length, get_or, take, drop, map, nat_eq, refl, sym, ap, subst, ◌∙◌, arith}
use Rattle.std.specs.List.{list_any, list_all, starts_with}
use Rattle.std.specs.Cmp.{nat_cmp_total}
use Rattle.std.specs.FinSet.{contains, from_list, intersection, difference, union, contains-intersection, contains-from_list_nat}
use Rattle.std.proofs.lemmas.List.Folds.{list_all_more, Any-from_list_any}
use Rattle.std.proofs.lemmas.Bool.{eqb-true, true≢false}
use Rattle.doc_model.specs.Document.{Document}
use Rattle.field_schema.specs.declared.key.Key.{Key}
use Rattle.field_schema.specs.declared.key.Key.TheVariants as key
use Rattle.query_tree.specs.KeysOfDocs.{keys_in}
use Rattle.query_tree.specs.Matches.{has_key, has_prefix, is_empty, is_negative, matches}
use Rattle.query_tree.specs.declared.query.Query.{Query}
use Rattle.query_tree.specs.declared.query.Query.TheViews as query
use Rattle.doc_sets.specs.Sets.{Numbers, AreDocuments}
use Rattle.doc_sets.specs.declared.TheConstants.{MAX_DOCS}
use Rattle.doc_sets.proofs.Members.{all_documents}
use Rattle.segment_postings.specs.Numbered.{Numbered, IsNumbered, numbers}
use Rattle.segment_postings.specs.declared.span.Span.TheVariants.{Strings, Tokens}
use Rattle.segment_postings.specs.Spans.{takes, numbers_within}
use Rattle.query_eval.specs.Found.{numbers_where, found, part, answer}
use Rattle.query_eval.specs.Many.{IsUnion, IsCommon}
use Rattle.query_eval.proofs.Ascents.{ascending_where}
use Rattle.query_eval.proofs.Loops.{joined}
use Rattle.query_eval.proofs.Verdicts.{or_false, found_or, found_alike, found_all, found_some, found_every}
use Rattle.query_eval.proofs.KindsOfQueries.{part_should, part_must, answer_negative}

-- ---- the sets so far

pub common_more : (sets : List Numbers) (i : ℕ) (x first so_far more : Numbers) (n : ℕ) → i < length sets → x ≡ get_or sets i x → more ≡ intersection so_far x → contains so_far n ≡ (contains first n && list_all (λ t. contains t n) (take i sets)) → contains more n ≡ (contains first n && list_all (λ t. contains t n) (take (i + 1) sets))
common_more sets i x first so_far more n within is both same =
    ap (λ s. contains s n) both
    ∙ contains-intersection nat_cmp_total so_far x n
    ∙ (λ j. same j && contains (is j) n)
    ∙ assoc (contains first n) (list_all (λ t. contains t n) (take i sets)) (contains (get_or sets i x) n)
    ∙ ap (λ b. contains first n && b) (sym (list_all_more (λ t. contains t n) sets i x within))
  where
    assoc : (a b c : Bool) → ((a && b) && c) ≡ (a && (b && c))
    assoc true b c = refl
    assoc false b c = refl

-- ---- numbers of documents that pass

pub found_documents : (p : Document → Bool) (v : Numbered) → IsNumbered v → AreDocuments (found p v)
unfolding found
found_documents p v sound = λ n h.
    let some = Any-from_list_any (λ x. nat_eq x n) (numbers_where p v.list) (sym (contains-from_list_nat (numbers_where p v.list) n) ∙ h) in
    let same : some.1 ≡ n = eqb-true some.1 n some.4 in
    subst (λ (m : ℕ). m < MAX_DOCS) (some.3 ∙ same) (all_documents _ (ascending_where p v sound) some.0 some.1 some.2)

-- ---- two sets become one

pub joined_step : (before middle rest after : List Numbers) (a b all : Numbers) (n : ℕ) → before ≡ a ∷ middle → middle ≡ b ∷ rest → after ≡ rest ++ all ∷ [] → all ≡ union a b → list_any (λ t. contains t n) after ≡ list_any (λ t. contains t n) before
joined_step before middle rest after a b all n first second put both =
    ap (list_any (λ t. contains t n)) put
    ∙ ap (λ s. list_any (λ t. contains t n) (rest ++ s ∷ [])) both
    ∙ joined a b rest n
    ∙ sym (ap (list_any (λ t. contains t n)) (first ∙ ap (λ ss. a ∷ ss) second))

-- a queue that loses its first and stays as it was is empty
pub nothing_left : (xs ys : List Numbers) → xs ≡ ys → ys ≡ drop 1 xs → xs ≡ []
nothing_left [] ys e r = refl
nothing_left (x ∷ xs) ys e r = absurd (omega (arith, ap length (e ∙ r)))

-- ---- the numbers of documents with a key of some

pub found_within : (field : ℕ) (p : Key → Bool) (v : Numbered) → numbers_within v field p ≡ found (λ d. has_key d.values field p) v
unfolding numbers_within found
found_within field p v = refl

-- ---- texts that begin with another

any_or : {A : Type 0} (p q : A → Bool) (xs : List A) → (list_any p xs || list_any q xs) ≡ list_any (λ x. p x || q x) xs
any_or p q [] = refl
any_or p q (x ∷ xs) = turned (p x) (q x) (list_any p xs) (list_any q xs) ∙ ap (λ b. (p x || q x) || b) (any_or p q xs)
  where
    turned : (a b c d : Bool) → ((a || c) || (b || d)) ≡ ((a || b) || (c || d))
    turned true b c d = refl
    turned false true true d = refl
    turned false true false d = refl
    turned false false c d = refl

pub either_prefix : (p : Bor (List ℕ)) (k : Key) → (takes (Strings p) k || takes (Tokens p) k) ≡ has_prefix p.now k
either_prefix p (key.Str t) = or_false (starts_with nat_eq t p.now)
either_prefix p (key.Token t) = refl
either_prefix p (key.Long n) = refl
either_prefix p (key.Bool b) = refl

prefix_found : (p : Bor (List ℕ)) (field : ℕ) (v : Numbered) → IsNumbered v → union (found (λ d. has_key d.values field (takes (Strings p))) v) (found (λ d. has_key d.values field (takes (Tokens p))) v) ≡ found (λ d. has_key d.values field (has_prefix p.now)) v
prefix_found p field v sound =
    found_or (λ d. has_key d.values field (takes (Strings p))) (λ d. has_key d.values field (takes (Tokens p))) v sound
    ∙ found_alike _ _ v (λ d.
    any_or (takes (Strings p)) (takes (Tokens p)) (keys_in d.values field)
    ∙ (λ i. list_any (λ k. either_prefix p k i) (keys_in d.values field)))

pub both_prefixes : (p : Bor (List ℕ)) (field : ℕ) (v : Numbered) → IsNumbered v → union (numbers_within v field (takes (Strings p))) (numbers_within v field (takes (Tokens p))) ≡ found (λ d. has_key d.values field (has_prefix p.now)) v
both_prefixes p field v sound = (λ i. union (found_within field (takes (Strings p)) v i) (found_within field (takes (Tokens p)) v i)) ∙ prefix_found p field v sound

-- ---- queries of parts

module _ (v : Numbered) (q : Query) (must should not_ : List Query) (e : q ≡ query.Bool must should not_) (sound : IsNumbered v) where
  some_of : (rs : List Query) (sets : List Numbers) (s : Numbers) → sets ≡ map (λ r. part r v) rs → IsUnion sets s → s ≡ found (λ d. list_any (λ r. matches d.values r) rs) v
  some_of rs sets s are union = found_some (λ r d. matches d.values r) rs v sets s sound are union

  pub found_should : is_empty must ≡ true → (sets gones : List Numbers) (f g s : Numbers) → sets ≡ map (λ r. part r v) should → IsUnion sets f → gones ≡ map (λ r. part r v) not_ → IsUnion gones g → s ≡ difference f g → s ≡ part q v
  found_should none sets gones f g s a u b w k =
      k ∙ (λ i. difference (some_of should sets f a u i) (some_of not_ gones g b w i)) ∙ part_should v q must should not_ e sound none

  pub found_must : is_empty must ≡ false → (sets gones : List Numbers) (f g s : Numbers) → sets ≡ map (λ r. part r v) must → IsCommon sets f → gones ≡ map (λ r. part r v) not_ → IsUnion gones g → s ≡ difference f g → s ≡ part q v
  found_must some sets gones f g s a u b w k =
      k
      ∙ (λ i. difference (found_every (λ r d. matches d.values r) must v sets f (not_empty must some) sound a u i) (some_of not_ gones g b w i))
      ∙ part_must v q must should not_ e sound some
    where
      not_empty : (rs : List Query) → is_empty rs ≡ false → 0 < length rs
      not_empty [] h = absurd (true≢false h)
      not_empty (r ∷ rs) h = omega arith

  pub found_others : is_negative must should not_ ≡ true → (w : Numbered) (gones : List Numbers) (l g s : Numbers) → l ≡ from_list (numbers w) → w ≡ v → gones ≡ map (λ r. part r v) not_ → IsUnion gones g → s ≡ difference l g → s ≡ answer q v
  found_others negative w gones l g s live same b u k =
      k
      ∙ (λ i. difference ((live ∙ ap (λ (x : Numbered). from_list (numbers x)) same ∙ found_all v) i) (some_of not_ gones g b u i))
      ∙ answer_negative v q must should not_ e sound negative
