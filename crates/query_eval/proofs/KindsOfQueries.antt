-- What a query of each kind finds, by the sets of its parts.
use Rattle.std.proofs.Common.{◌≡◌, ℕ, Bool, true, false, not, ◌&&◌, ◌||◌, List, [], ◌∷◌, refl, sym, ap, ◌∙◌}
use Rattle.std.specs.List.{list_any, list_all}
use Rattle.std.specs.FinSet.{difference}
use Rattle.std.proofs.lemmas.Bool.{false≢true}
use Rattle.field_schema.specs.declared.key.Key.{Key}
use Rattle.field_schema.specs.Values.{values_at}
use Rattle.doc_model.specs.Document.{Document}
use Rattle.query_tree.specs.declared.query.End.{End}
use Rattle.query_tree.specs.declared.query.Query.{Query}
use Rattle.query_tree.specs.declared.query.Query.TheViews as query
use Rattle.query_tree.specs.Matches.{has_key, has_prefix, has_words, is_above, is_below, is_empty, is_negative, matches, top}
use Rattle.query_tree.proofs.Matching.{matches_All, matches_Exists, matches_Term, matches_Words, matches_Prefix, matches_Range, matches_Bool, top_Bool, boolean_by}
use Rattle.segment_postings.specs.Numbered.{Numbered, IsNumbered}
use Rattle.segment_postings.specs.Postings.{has_key_at}
use Rattle.query_eval.specs.Found.{found, answer, part}
use Rattle.query_eval.proofs.Verdicts.{and_true, or_false, found_alike, found_minus}

module _ (v : Numbered) (q : Query) where
  -- a test that says what the query says finds what it finds
  by : (p : Document → Bool) → ((d : Document) → matches d.values q ≡ p d) → found p v ≡ part q v
  by p same = found_alike p (λ d. matches d.values q) v (λ d. sym (same d))

  pub part_All : q ≡ query.made-All → found (λ d. true) v ≡ part q v
  part_All e = by (λ d. true) (λ d. ap (matches d.values) e ∙ matches_All d.values)

  pub part_Exists : (field : ℕ) → q ≡ query.made-Exists field → found (λ d. has_key d.values field (λ k. true)) v ≡ part q v
  part_Exists field e = by (λ d. has_key d.values field (λ k. true)) (λ d. ap (matches d.values) e ∙ matches_Exists d.values field)

  pub part_Term : (field : ℕ) (k : Key) → q ≡ query.made-Term field k → found (has_key_at field k) v ≡ part q v
  part_Term field k e = by (has_key_at field k) (λ d. ap (matches d.values) e ∙ matches_Term d.values field k)

  pub part_Words : (field : ℕ) (ws : List (List ℕ)) → q ≡ query.made-Words field ws → found (λ d. not (is_empty ws) && list_any (has_words ws) (values_at d.values field)) v ≡ part q v
  part_Words field ws e = by (λ d. not (is_empty ws) && list_any (has_words ws) (values_at d.values field)) (λ d. ap (matches d.values) e ∙ matches_Words d.values field ws)

  pub part_Prefix : (field : ℕ) (p : List ℕ) → q ≡ query.made-Prefix field p → found (λ d. has_key d.values field (has_prefix p)) v ≡ part q v
  part_Prefix field p e = by (λ d. has_key d.values field (has_prefix p)) (λ d. ap (matches d.values) e ∙ matches_Prefix d.values field p)

  pub part_Range : (field : ℕ) (a b : End) → q ≡ query.made-Range field a b → found (λ d. has_key d.values field (λ k. is_above a k && is_below b k)) v ≡ part q v
  part_Range field a b e = by (λ d. has_key d.values field (λ k. is_above a k && is_below b k)) (λ d. ap (matches d.values) e ∙ matches_Range d.values field a b)

  module _ (must should not_ : List Query) (e : q ≡ query.Bool must should not_) (sound : IsNumbered v) where
    -- of no required parts, some optional one and no prohibited one
    pub part_should : is_empty must ≡ true → difference (found (λ d. list_any (λ r. matches d.values r) should) v) (found (λ d. list_any (λ r. matches d.values r) not_) v) ≡ part q v
    part_should none =
        found_minus (λ d. list_any (λ r. matches d.values r) should) (λ d. list_any (λ r. matches d.values r) not_) v sound
        ∙ by _ (λ d. ap (matches d.values) e ∙ matches_Bool d.values must should not_ ∙ without_must must none d)
      where
        turned : (s n : Bool) → ((true && not n) && (not true || s)) ≡ (s && not n)
        turned true true = refl
        turned true false = refl
        turned false true = refl
        turned false false = refl

        without_must : (qs : List Query) → is_empty qs ≡ true → (d : Document) → boolean_by (matches d.values) qs should not_ ≡ (list_any (λ r. matches d.values r) should && not (list_any (λ r. matches d.values r) not_))
        without_must [] h d = turned (list_any (matches d.values) should) (list_any (matches d.values) not_)
        without_must (r ∷ rs) h d = absurd (false≢true h)

    -- of required parts, all of them and no prohibited one
    pub part_must : is_empty must ≡ false → difference (found (λ d. list_all (λ r. matches d.values r) must) v) (found (λ d. list_any (λ r. matches d.values r) not_) v) ≡ part q v
    part_must some_required =
        found_minus (λ d. list_all (λ r. matches d.values r) must) (λ d. list_any (λ r. matches d.values r) not_) v sound
        ∙ by _ (λ d. ap (matches d.values) e ∙ matches_Bool d.values must should not_
        ∙ ap (λ b. (list_all (matches d.values) must && not (list_any (matches d.values) not_)) && (not b || list_any (matches d.values) should)) some_required
        ∙ and_true (list_all (matches d.values) must && not (list_any (matches d.values) not_)))

    -- of prohibited parts alone, all that none of them matches
    pub answer_negative : is_negative must should not_ ≡ true → difference (found (λ d. true) v) (found (λ d. list_any (λ r. matches d.values r) not_) v) ≡ answer q v
    answer_negative negative =
        found_minus (λ d. true) (λ d. list_any (λ r. matches d.values r) not_) v sound
        ∙ found_alike _ _ v (λ d. sym (ap (top d.values) e ∙ top_Bool d.values must should not_ ∙ others must should negative (list_any (matches d.values) not_) (matches d.values)))
      where
        settled : (n : Bool) → (((true && not n) && (not true || false)) || (true && not n)) ≡ not n
        settled true = refl
        settled false = refl

        others : (ms ss : List Query) → is_negative ms ss not_ ≡ true → (n : Bool) (p : Query → Bool) → (((list_all p ms && not n) && (not (is_empty ms) || list_any p ss)) || (is_negative ms ss not_ && not n)) ≡ not n
        others [] [] h n p = ap (λ b. ((true && not n) && (not true || false)) || (b && not n)) h ∙ settled n
        others [] (s ∷ ss) h n p = absurd (false≢true h)
        others (m ∷ ms) ss h n p = absurd (false≢true h)

    -- of others, what it finds inside another
    pub answer_other : is_negative must should not_ ≡ false → part q v ≡ answer q v
    answer_other other = found_alike _ _ v (λ d.
        ap (matches d.values) e ∙ matches_Bool d.values must should not_
        ∙ sym (ap (top d.values) e ∙ top_Bool d.values must should not_
        ∙ ap (λ b. boolean_by (matches d.values) must should not_ || (b && not (list_any (matches d.values) not_))) other
        ∙ or_false (boolean_by (matches d.values) must should not_)))
