-- Keys that stand side by side in the order of keys, and the documents that have one of some keys.
use Rattle.std.specs.Prelude.{ℕ, List, Bool, false, not, ◌&&◌, nat_eq, map, filter}
use Rattle.std.specs.List.{enumerate_from, starts_with}
use Rattle.std.specs.FinSet.{from_list}
use Rattle.field_schema.specs.declared.key.Key.{Key}
use Rattle.field_schema.specs.declared.key.Key.TheVariants as key
use Rattle.doc_model.specs.Document.{Document}
use Rattle.doc_sets.specs.Sets.{Numbers}
use Rattle.query_tree.specs.declared.query.End.{End}
use Rattle.query_tree.specs.Matches.{has_key, is_above, is_below}
use Rattle.segment_postings.specs.declared.span.Span.{Span}
use Rattle.segment_postings.specs.declared.span.Span.TheVariants.{Between, Strings, Tokens}
use Rattle.segment_postings.specs.Numbered.{Numbered}
use Rattle.segment_postings.specs.Terms.{is_before}

-- the key lies between two ends
abbrev pub is_within : End → End → Key → Bool
is_within low high k = is_above low k && is_below high k

-- the span takes the key
abbrev pub takes : Span → Key → Bool
takes (Between low high) k = is_within low.now high.now k
takes (Strings p) (key.Str text) = starts_with nat_eq text p.now
takes (Strings p) k = false
takes (Tokens p) (key.Token text) = starts_with nat_eq text p.now
takes (Tokens p) k = false

-- the key stands before all that the span takes
abbrev pub begins_behind : Span → Key → Bool
begins_behind (Between low high) k = not (is_above low.now k)
begins_behind (Strings p) k = is_before k (key.Str p.now)
begins_behind (Tokens p) k = is_before k (key.Token p.now)

-- the numbers of those documents that have a key in the field of which p holds
abbrev pub numbers_with : ℕ → (Key → Bool) → List (ℕ × Document) → List ℕ
numbers_with field p list = map (λ e. e.0) (filter (λ e. has_key e.1.values field p) list)

-- the set of them, of the documents of a view
unfoldable pub numbers_within : Numbered → ℕ → (Key → Bool) → Numbers
numbers_within v field p = from_list (numbers_with field p v.list)

-- the same of documents that are numbered from `base` on
unfoldable pub numbers_among : ℕ → ℕ → (Key → Bool) → List Document → Numbers
numbers_among base field p docs = from_list (numbers_with field p (enumerate_from base docs))
