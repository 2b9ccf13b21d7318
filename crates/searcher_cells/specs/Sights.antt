-- What the caches of a searcher are about, and when an entry fits that.
use Rattle.std.specs.Prelude.{◌≡◌, ℕ, length, nat_le, Bool, true, Option, Some}
use Rattle.std.specs.FinSet.{len}
use Rattle.doc_sets.specs.Sets.{Numbers}
use Rattle.query_tree.specs.declared.query.Query.{Query}
use Rattle.doc_model.specs.Document.{Document, value_count}
use Rattle.cache_cells.specs.Within.{within}
use Rattle.segment_postings.specs.Numbered.{Numbered, doc_at}
use Rattle.search_model.specs.Answer.{is_hit}
use Rattle.sort_window.specs.First.{first_numbers}
use Rattle.query_eval.specs.Found.{found, answer}
use Rattle.result_cache.specs.declared.key.ResultKey.{ResultKey}
use Rattle.result_cache.specs.declared.entry.Entry.{Entry}
use Rattle.searcher_cells.specs.declared.result_entry.ResultNumbers.{ResultNumbers}

-- the searcher's numbered live documents, the most entries of the cache, and its seats
pub record Sight : Type 0 where
  pub view : Numbered
  pub size : ℕ
  pub seats : ℕ

-- ---- filters

-- the set is that of the documents that the filter matches
abbrev pub FilterFits : Sight → Query → Numbers → Type 0
FilterFits v q s = s ≡ answer q v.view

-- a filter is told by the size of its set, and always kept
abbrev pub size_of : Numbers → ℕ
size_of s = len s

abbrev pub any_size : ℕ → Bool
any_size n = true

-- ---- results

-- the documents that match the key's query and all its filters
abbrev pub set_of_key : Numbered → ResultKey → Numbers
set_of_key v key = found (is_hit key.q key.filters) v

-- the entry counts them, and lists the first of them in the order of the key's sort
pub record ResultFits (v : Sight) (key : ResultKey) (e : Entry) : Type 0 where
  pub counts : e.found ≡ len (set_of_key v.view key)
  pub lists : e.ids ≡ first_numbers (length e.ids) key.sort (set_of_key v.view key) v.view

abbrev pub numbers_of : ℕ → Entry → ResultNumbers
numbers_of most e = record { ids = length e.ids; found = e.found; most = most }

-- a result is kept where it lists few enough
abbrev pub is_kept : ResultNumbers → Bool
is_kept n = nat_le n.ids n.most

-- ---- documents

-- the document is the view's of that number
abbrev pub DocumentFits : Sight → ℕ → Document → Type 0
DocumentFits v n d = doc_at v.view n ≡ Some d

-- a document is told by the number of its values, if that is below 2^64, and always kept
abbrev pub values_of : Document → Option ℕ
values_of d = within 18446744073709551615 (value_count d)

abbrev pub any_count : Option ℕ → Bool
any_count n = true
