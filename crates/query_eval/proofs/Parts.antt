-- What holds of a document by its values and a query's parts.
use Rattle.std.proofs.Common.{◌≡◌, ℕ, suc, Bool, true, false, not, ◌&&◌, ◌||◌, List, [], ◌∷◌, length, nat_eq, map, refl, sym, ap, ◌∙◌, arith}
use Rattle.std.specs.List.{list_any, list_all, flat_map, starts_with}
use Rattle.std.proofs.lemmas.Bool.{ne_eqb}
use Rattle.std.proofs.lemmas.List.Concat.{flat_map-cons}
use Rattle.std.proofs.lemmas.List.Folds.{list_any-append}
use Rattle.field_schema.specs.Bytes.{bytes_eq}
use Rattle.field_schema.specs.Tokens.{tokens}
use Rattle.field_schema.specs.Values.{values_at}
use Rattle.field_schema.specs.declared.key.Key.{Key}
use Rattle.field_schema.specs.declared.key.Key.TheVariants as key
use Rattle.query_tree.specs.KeysOfDocs.{keys_of_value}
use Rattle.query_tree.specs.Matches.{has_key, is_empty, matches, stand_in}
use Rattle.query_tree.specs.declared.query.Query.{Query}
use Rattle.query_tree.specs.declared.query.Query.TheViews as query
use Rattle.query_tree.proofs.Matching.{list_any-map, matches_Bool, boolean_by}

-- ---- words among tokens

pub stands_here : (ws ts : List (List ℕ)) → starts_with bytes_eq ts ws ≡ true → stand_in ws ts ≡ true
stands_here ws [] h = h
stands_here ws (t ∷ ts) h = ap (λ b. b || stand_in ws ts) h

-- ---- keys of values

pub map_same : {A : Type 0} (xs : List A) → map (λ x. x) xs ≡ xs
map_same [] = refl
map_same (x ∷ xs) = ap (λ ys. x ∷ ys) (map_same xs)

pub some_token : (p : Key → Bool) (value : Key) (text : List ℕ) (items : List (List ℕ)) → value ≡ key.Token text → items ≡ tokens text → list_any (λ t. p (key.Token t)) items ≡ list_any p (keys_of_value value)
some_token p value text items is all =
    ap (list_any (λ t. p (key.Token t))) all
    ∙ sym (list_any-map p key.Token (tokens text))
    ∙ ap (λ v. list_any p (keys_of_value v)) (sym is)

any_flat : {A B : Type 0} (p : B → Bool) (f : A → List B) (xs : List A) → list_any p (flat_map f xs) ≡ list_any (λ x. list_any p (f x)) xs
any_flat p f [] = refl
any_flat p f (x ∷ xs) =
    ap (list_any p) (flat_map-cons f x xs)
    ∙ list_any-append p (f x) (flat_map f xs)
    ∙ ap (λ b. list_any p (f x) || b) (any_flat p f xs)

pub by_values : (p : Key → Bool) (doc : List (List Key)) (field : ℕ) (values : List Key) → values ≡ values_at doc field → list_any (λ v. list_any p (keys_of_value v)) values ≡ has_key doc field p
by_values p doc field values e =
    ap (list_any (λ v. list_any p (keys_of_value v))) e ∙ sym (any_flat p keys_of_value (values_at doc field))

-- ---- a Boolean query

-- what a call told of a slice of the parts
pub told : {B : Type 0} (f : List Query → B) (slice qs : List Query) (b answer : B) → slice ≡ qs → b ≡ f slice → b ≡ answer → f qs ≡ answer
told f slice qs b answer e h k = ap f (sym e) ∙ sym h ∙ k

pub empty_is : (qs : List Query) → nat_eq (length qs) 0 ≡ is_empty qs
empty_is [] = refl
empty_is (q ∷ qs) = ne_eqb (suc (length qs)) 0 (λ e. absurd (omega (arith, e)))

pub told_empty : (slice qs : List Query) (b answer : Bool) → slice ≡ qs → b ≡ nat_eq (length slice) 0 → b ≡ answer → is_empty qs ≡ answer
told_empty slice qs b answer e h k = sym (empty_is qs) ∙ told (λ xs. nat_eq (length xs) 0) slice qs b answer e h k

module _ (doc : List (List Key)) (q : Query) (must should not_ : List Query) (is : q ≡ query.Bool must should not_) where
  parts : matches doc q ≡ boolean_by (matches doc) must should not_
  parts = ap (matches doc) is ∙ matches_Bool doc must should not_

  pub not_all : list_all (matches doc) must ≡ false → matches doc q ≡ false
  not_all h = parts ∙ ap (λ b. b && not (list_any (matches doc) not_) && (not (is_empty must) || list_any (matches doc) should)) h

  pub one_prohibited : list_all (matches doc) must ≡ true → list_any (matches doc) not_ ≡ true → matches doc q ≡ false
  one_prohibited h k = parts ∙ (λ i. h i && not (k i) && (not (is_empty must) || list_any (matches doc) should))

  pub by_optional : list_all (matches doc) must ≡ true → list_any (matches doc) not_ ≡ false → is_empty must ≡ true → matches doc q ≡ list_any (matches doc) should
  by_optional h k e = parts ∙ (λ i. h i && not (k i) && (not (e i) || list_any (matches doc) should))

  pub by_required : list_all (matches doc) must ≡ true → list_any (matches doc) not_ ≡ false → is_empty must ≡ false → matches doc q ≡ true
  by_required h k e = parts ∙ (λ i. h i && not (k i) && (not (e i) || list_any (matches doc) should))
