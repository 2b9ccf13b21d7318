-- When a document matches a query. A document is the list of each field's values.
use Rattle.std.specs.Prelude.{ℕ, List, [], ◌∷◌, Bool, true, false, not, ◌&&◌, ◌||◌, nat_eq}
use Rattle.std.specs.List.{list_all, list_any, starts_with}
use Rattle.std.specs.Ordering.{is_lt, is_eq}
use Rattle.field_schema.specs.declared.key.Key.{Key}
use Rattle.field_schema.specs.declared.key.Key.TheVariants as key
use Rattle.field_schema.specs.Tokens.{tokens}
use Rattle.field_schema.specs.Bytes.{bytes_eq}
use Rattle.field_schema.specs.Keys.{key_eq, key_cmp}
use Rattle.query_tree.specs.declared.query.End.{End}
use Rattle.query_tree.specs.declared.query.End.TheVariants as end
use Rattle.query_tree.specs.declared.query.Query.{Query, fold-Query, out-Query}
use Rattle.query_tree.specs.declared.query.Query.TheOpen.{Query-F}
use Rattle.query_tree.specs.declared.query.Query.TheOpen as node
use Rattle.query_tree.specs.KeysOfDocs.{keys_in}
use Rattle.field_schema.specs.Values.{values_at}

-- the words stand in turn somewhere among the tokens
abbrev pub stand_in : List (List ℕ) → List (List ℕ) → Bool
stand_in ws [] = starts_with bytes_eq [] ws
stand_in ws (t ∷ ts) = starts_with bytes_eq (t ∷ ts) ws || stand_in ws ts

-- the words stand in turn inside one text
abbrev pub has_words : List (List ℕ) → Key → Bool
has_words ws (key.Token text) = stand_in ws (tokens text)
has_words ws k = false

-- a string or a token that begins with p
abbrev pub has_prefix : List ℕ → Key → Bool
has_prefix p (key.Str text) = starts_with nat_eq text p
has_prefix p (key.Token text) = starts_with nat_eq text p
has_prefix p k = false

-- k lies above the lower end
abbrev pub is_above : End → Key → Bool
is_above end.Open k = true
is_above (end.At a inclusive) k = is_lt (key_cmp a k) || (inclusive && is_eq (key_cmp a k))

-- k lies below the upper end
abbrev pub is_below : End → Key → Bool
is_below end.Open k = true
is_below (end.At b inclusive) k = is_lt (key_cmp k b) || (inclusive && is_eq (key_cmp k b))

-- the document has a key of which p holds
abbrev pub has_key : List (List Key) → ℕ → (Key → Bool) → Bool
has_key doc field p = list_any p (keys_in doc field)

abbrev pub is_empty : {A : Type 0} → List A → Bool
is_empty [] = true
is_empty (x ∷ xs) = false

-- what all, some and none of a Boolean query's parts say
abbrev pub boolean : List Bool → List Bool → List Bool → Bool
boolean must should not_ = list_all (λ b. b) must && not (list_any (λ b. b) not_) && (not (is_empty must) || list_any (λ b. b) should)

-- what a query says of the document, given what its parts say
abbrev pub says : List (List Key) → Query-F Bool → Bool
says doc node.All = true
says doc (node.Exists field) = has_key doc field (λ k. true)
says doc (node.Term field k) = has_key doc field (key_eq k)
says doc (node.Words field ws) = not (is_empty ws) && list_any (has_words ws) (values_at doc field)
says doc (node.Prefix field p) = has_key doc field (has_prefix p)
says doc (node.Range field a b) = has_key doc field (λ k. is_above a k && is_below b k)
says doc (node.Bool must should not_) = boolean must should not_

-- the document matches the query where the query stands inside another
abbrev pub matches : List (List Key) → Query → Bool
matches doc = fold-Query Bool (says doc)

-- a query of nothing but prohibited parts
abbrev pub is_negative : List Query → List Query → List Query → Bool
is_negative must should not_ = is_empty must && is_empty should && not (is_empty not_)

-- at the top level a purely negative query matches all documents that no part matches
abbrev pub top_says : List (List Key) → Query → Query-F Query → Bool
top_says doc q (node.Bool must should not_) = matches doc q || (is_negative must should not_ && not (list_any (matches doc) not_))
top_says doc q layer = matches doc q

-- the document matches the query
abbrev pub top : List (List Key) → Query → Bool
top doc q = top_says doc q (out-Query q)
