-- What matching comes to at each kind of query.
use Rattle.std.proofs.Common.{◌≡◌, ℕ, List, [], ◌∷◌, map, Bool, true, not, ◌&&◌, ◌||◌, refl, ap, ◌∙◌}
use Rattle.std.specs.List.{list_all, list_any}
use Rattle.std.proofs.lemmas.List.Folds.{list_all-map}
use Rattle.field_schema.specs.declared.key.Key.{Key}
use Rattle.field_schema.specs.Keys.{key_eq}
use Rattle.query_tree.specs.declared.query.End.{End}
use Rattle.query_tree.specs.declared.query.Query.{Query, Query-F, fold_out-Query, out-Query}
use Rattle.query_tree.specs.declared.query.Query.TheFolds.{map-Query}
use Rattle.query_tree.specs.declared.query.Query.TheOpen as node
use Rattle.query_tree.specs.declared.query.Query.TheViews as query
use Rattle.field_schema.specs.Values.{values_at}
use Rattle.query_tree.specs.Matches.{has_words, has_prefix, is_above, is_below, has_key, is_empty, boolean, says, matches, is_negative, top_says, top}

-- ---- lists of answers

module _ {A : Type 0} (p : A → Bool) where
  pub list_any-map : {B : Type 0} (f : B → A) (xs : List B) → list_any p (map f xs) ≡ list_any (λ x. p (f x)) xs
  list_any-map f [] = refl
  list_any-map f (x ∷ xs) = ap (λ b. p (f x) || b) (list_any-map f xs)

pub is_empty-map : {A B : Type 0} (f : A → B) (xs : List A) → is_empty (map f xs) ≡ is_empty xs
is_empty-map f [] = refl
is_empty-map f (x ∷ xs) = refl

-- what a Boolean query says, by a test of its parts
abbrev pub boolean_by : {A : Type 0} → (A → Bool) → List A → List A → List A → Bool
boolean_by p must should not_ = list_all p must && not (list_any p not_) && (not (is_empty must) || list_any p should)

pub boolean-map : {A : Type 0} (p : A → Bool) (must should not_ : List A) → boolean (map p must) (map p should) (map p not_) ≡ boolean_by p must should not_
boolean-map p must should not_ = λ i. list_all-map (λ b. b) p must i && not (list_any-map (λ b. b) p not_ i) && (not (is_empty-map p must i) || list_any-map (λ b. b) p should i)

-- ---- the equations

module _ (doc : List (List Key)) where
  -- by the query's outermost layer
  pub matches_out : (q : Query) → matches doc q ≡ says doc (map-Query Query Bool (matches doc) (out-Query q))
  matches_out q = fold_out-Query Bool (says doc) q

  along : (q : Query) (layer : Query-F Query) → out-Query q ≡ layer → matches doc q ≡ says doc (map-Query Query Bool (matches doc) layer)
  along q layer e = matches_out q ∙ ap (λ x. says doc (map-Query Query Bool (matches doc) x)) e

  pub matches_All : matches doc query.made-All ≡ true
  matches_All = along query.made-All node.All query.outs-All

  pub matches_Exists : (field : ℕ) → matches doc (query.made-Exists field) ≡ has_key doc field (λ k. true)
  matches_Exists field = along (query.made-Exists field) (node.Exists field) (query.outs-Exists field)

  pub matches_Term : (field : ℕ) (k : Key) → matches doc (query.made-Term field k) ≡ has_key doc field (key_eq k)
  matches_Term field k = along (query.made-Term field k) (node.Term field k) (query.outs-Term field k)

  pub matches_Words : (field : ℕ) (ws : List (List ℕ)) → matches doc (query.made-Words field ws) ≡ (not (is_empty ws) && list_any (has_words ws) (values_at doc field))
  matches_Words field ws = along (query.made-Words field ws) (node.Words field ws) (query.outs-Words field ws)

  pub matches_Prefix : (field : ℕ) (p : List ℕ) → matches doc (query.made-Prefix field p) ≡ has_key doc field (has_prefix p)
  matches_Prefix field p = along (query.made-Prefix field p) (node.Prefix field p) (query.outs-Prefix field p)

  pub matches_Range : (field : ℕ) (a b : End) → matches doc (query.made-Range field a b) ≡ has_key doc field (λ k. is_above a k && is_below b k)
  matches_Range field a b = along (query.made-Range field a b) (node.Range field a b) (query.outs-Range field a b)

  pub matches_Bool : (must should not_ : List Query) → matches doc (query.Bool must should not_) ≡ boolean_by (matches doc) must should not_
  matches_Bool must should not_ =
      along (query.Bool must should not_) (node.Bool must should not_) (query.outs-Bool must should not_)
      ∙ boolean-map (matches doc) must should not_

  -- ---- the same at the top level

  top_along : (q : Query) (layer : Query-F Query) → out-Query q ≡ layer → top doc q ≡ top_says doc q layer
  top_along q layer e = ap (top_says doc q) e

  pub top_All : top doc query.made-All ≡ true
  top_All = top_along query.made-All node.All query.outs-All ∙ matches_All

  pub top_Exists : (field : ℕ) → top doc (query.made-Exists field) ≡ has_key doc field (λ k. true)
  top_Exists field = top_along (query.made-Exists field) (node.Exists field) (query.outs-Exists field) ∙ matches_Exists field

  pub top_Term : (field : ℕ) (k : Key) → top doc (query.made-Term field k) ≡ has_key doc field (key_eq k)
  top_Term field k = top_along (query.made-Term field k) (node.Term field k) (query.outs-Term field k) ∙ matches_Term field k

  pub top_Words : (field : ℕ) (ws : List (List ℕ)) → top doc (query.made-Words field ws) ≡ (not (is_empty ws) && list_any (has_words ws) (values_at doc field))
  top_Words field ws = top_along (query.made-Words field ws) (node.Words field ws) (query.outs-Words field ws) ∙ matches_Words field ws

  pub top_Prefix : (field : ℕ) (p : List ℕ) → top doc (query.made-Prefix field p) ≡ has_key doc field (has_prefix p)
  top_Prefix field p = top_along (query.made-Prefix field p) (node.Prefix field p) (query.outs-Prefix field p) ∙ matches_Prefix field p

  pub top_Range : (field : ℕ) (a b : End) → top doc (query.made-Range field a b) ≡ has_key doc field (λ k. is_above a k && is_below b k)
  top_Range field a b = top_along (query.made-Range field a b) (node.Range field a b) (query.outs-Range field a b) ∙ matches_Range field a b

  pub top_Bool : (must should not_ : List Query) → top doc (query.Bool must should not_) ≡ (boolean_by (matches doc) must should not_ || (is_negative must should not_ && not (list_any (matches doc) not_)))
  top_Bool must should not_ =
      top_along (query.Bool must should not_) (node.Bool must should not_) (query.outs-Bool must should not_)
      ∙ ap (λ b. b || (is_negative must should not_ && not (list_any (matches doc) not_))) (matches_Bool must should not_)
