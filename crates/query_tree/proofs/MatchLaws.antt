-- The laws of matching, from its equations.
use Rattle.std.proofs.Common.{◌≡◌, ℕ, List, [], ◌∷◌, Bool, true, false, not, ◌&&◌, ◌||◌, refl, ap, sym, ◌∙◌, codes}
use Rattle.std.specs.List.{list_any}
use Rattle.std.specs.declared.cmp.Ordering.{Ordering}
use Rattle.std.specs.declared.cmp.Ordering.TheVariants.{Less, Equal, Greater}
use Rattle.std.specs.Ordering.{ordering_reverse, is_lt, is_eq}
use Rattle.field_schema.specs.declared.key.Key.{Key}
use Rattle.field_schema.specs.declared.key.Key.TheVariants as key
use Rattle.field_schema.specs.Keys.{key_eq, key_cmp}
use Rattle.field_schema.specs.Laws.{key_cmp_total, key_cmp_ties}
use Rattle.query_tree.specs.declared.query.End.TheVariants as end
use Rattle.query_tree.specs.declared.query.Query.{Query}
use Rattle.query_tree.specs.declared.query.Query.TheViews as query
use Rattle.query_tree.specs.KeysOfDocs.{keys_in}
use Rattle.query_tree.specs.Matches.{has_prefix, is_above, is_below, matches}
use Rattle.query_tree.specs.MatchLaws.{NestedNegativeAddsNothing, TopNegativeMatches, TopNegativeMatchesOthers, NestedNegativeMatchesNothing, PhraseWithinText, PhraseAcrossTexts, EmptyPhraseMatchesNothing, EmptyBoolMatchesNothing, EmptyRangeMatchesNothing, PointRangeIsTerm, EmptyPrefixMatchesTexts, none_of, two_texts, has_text}
use Rattle.query_tree.proofs.Matching.{matches_Term, matches_Bool, top_Bool, top_Words, top_Range, top_Term, top_Prefix}

and_false : (b : Bool) → (b && false) ≡ false
and_false true = refl
and_false false = refl

none_pass : {A : Type 0} (p : A → Bool) → ((x : A) → p x ≡ false) → (xs : List A) → list_any p xs ≡ false
none_pass p fails [] = refl
none_pass p fails (x ∷ xs) = (λ i. fails x i || none_pass p fails xs i)

-- a document without the field has no key there
no_term : (doc : List (List Key)) (cat : ℕ) (x : Key) → keys_in doc cat ≡ [] → matches doc (query.made-Term cat x) ≡ false
no_term doc cat x none = matches_Term doc cat x ∙ ap (list_any (key_eq x)) none

pub nested_negative : NestedNegativeMatchesNothing
nested_negative doc parts = matches_Bool doc [] [] parts ∙ and_false (true && not (list_any (matches doc) parts))

pub top_negative : TopNegativeMatches
top_negative doc cat x none =
    top_Bool doc [] [] (query.made-Term cat x ∷ [])
    ∙ ap (λ b. ((true && not (b || false)) && (not true || false)) || (true && not (b || false))) (no_term doc cat x none)

others : (b : Bool) → (((true && not b) && (not true || false)) || (true && not b)) ≡ not b
others true = refl
others false = refl

pub top_others : TopNegativeMatchesOthers
top_others doc part parts =
    top_Bool doc [] [] (part ∷ parts)
    ∙ others (list_any (matches doc) (part ∷ parts))

pub beside_negative : NestedNegativeAddsNothing
beside_negative doc cat x y none =
    let inner : Query = none_of (query.made-Term cat x ∷ []) in
    top_Bool doc [] (query.made-Term cat y ∷ inner ∷ []) []
    ∙ (λ i. ((true && not false) && (not true || (no_term doc cat y none i || (nested_negative doc (query.made-Term cat x ∷ []) i || false)))) || (false && not false))

pub phrase_within : PhraseWithinText
phrase_within = top_Words two_texts 0 (codes "blue" ∷ codes "bus" ∷ [])

pub phrase_across : PhraseAcrossTexts
phrase_across = top_Words two_texts 0 (codes "car" ∷ codes "blue" ∷ [])

pub empty_phrase : EmptyPhraseMatchesNothing
empty_phrase doc field = top_Words doc field []

pub empty_bool : EmptyBoolMatchesNothing
empty_bool doc = top_Bool doc [] [] []

-- a key is not both above and below another
apart : (o r : Ordering) → r ≡ ordering_reverse o → ((is_lt o || (false && is_eq o)) && (is_lt r || (false && is_eq r))) ≡ false
apart Less r e = ap (λ s. is_lt s || (false && is_eq s)) e
apart Equal r e = refl
apart Greater r e = refl

-- a key that is neither above nor below another ties with it
between : (o r : Ordering) → r ≡ ordering_reverse o → ((is_lt o || (true && is_eq o)) && (is_lt r || (true && is_eq r))) ≡ is_eq o
between Less r e = ap (λ s. is_lt s || (true && is_eq s)) e
between Equal r e = ap (λ s. is_lt s || (true && is_eq s)) e
between Greater r e = refl

pub empty_range : EmptyRangeMatchesNothing
empty_range doc field k =
    top_Range doc field (end.At k false) (end.At k false)
    ∙ none_pass (λ x. is_above (end.At k false) x && is_below (end.At k false) x) (λ x. apart (key_cmp k x) (key_cmp x k) (key_cmp_total.antisymm x k)) (keys_in doc field)

pub point_range : PointRangeIsTerm
point_range doc field k =
    top_Range doc field (end.At k true) (end.At k true)
    ∙ (λ i. list_any (λ x. (between (key_cmp k x) (key_cmp x k) (key_cmp_total.antisymm x k) ∙ sym (key_cmp_ties k x)) i) (keys_in doc field))
    ∙ sym (top_Term doc field k)

begins_with_nothing : (k : Key) → has_prefix [] k ≡ has_text k
begins_with_nothing (key.Str text) = refl
begins_with_nothing (key.Long z) = refl
begins_with_nothing (key.Bool b) = refl
begins_with_nothing (key.Token text) = refl

pub empty_prefix : EmptyPrefixMatchesTexts
empty_prefix doc field = top_Prefix doc field [] ∙ (λ i. list_any (λ k. begins_with_nothing k i) (keys_in doc field))
