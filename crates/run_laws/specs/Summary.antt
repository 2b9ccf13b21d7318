-- The summary of an output: one JSON object of whole numbers, counted off its rows.
use Rattle.std.specs.Prelude.{ℕ, ◌-◌, ◌^◌, ◌∷◌, ◌++◌, [], List, length, count_by, sum_by, min, Bool, true, false, not, ◌&&◌, ◌||◌, ◌==◌, Option, Some, None, codes}
use Rattle.serde_json.specs.Data.{Data, number, unsigned, object, member, no_members}
use Rattle.serde_json.specs.Written.{compact_text}
use Rattle.search_model.specs.declared.notes.Note.{Note}
use Rattle.search_model.specs.declared.notes.Note.TheVariants.{Hit, Bypassed}
use Rattle.run_laws.specs.Rows.{Verb, add, delete, query, commit, RequestRow, Output}
use Rattle.run_laws.specs.Bounds.{is_commit, is_query}

-- what an output has in all
pub record Totals : Type 0 where
  pub commits : ℕ
  pub updates : ℕ
  pub queries : ℕ
  pub refused400 : ℕ
  pub refused500 : ℕ
  pub refused503 : ℕ
  pub searchers : ℕ
  pub found : ℕ
  pub result_lookups : ℕ
  pub result_hits : ℕ
  pub filter_lookups : ℕ
  pub filter_hits : ℕ
  pub document_lookups : ℕ
  pub document_hits : ℕ

abbrev pub is_update : Verb → Bool
is_update add = true
is_update delete = true
is_update _ = false

-- accepted requests of a kind, and those refused with a code
abbrev pub accepted_as : (Verb → Bool) → RequestRow → Bool
accepted_as kind r = (r.code == 0) && kind r.verb

abbrev pub refused_with : ℕ → RequestRow → Bool
refused_with code r = r.code == code

-- a cache was asked, and had the entry
abbrev pub is_lookup : Note → Bool
is_lookup Bypassed = false
is_lookup _ = true

abbrev pub is_hit : Note → Bool
is_hit Hit = true
is_hit _ = false

abbrev pub of_result : (Note → Bool) → RequestRow → Bool
of_result kind r = holds r.result
  where
    holds : Option Note → Bool
    holds None = false
    holds (Some note) = kind note

-- the sum of a number of each row, at most the greatest of 64 bits
abbrev pub sum_of : (RequestRow → ℕ) → List RequestRow → ℕ
sum_of n rows = min (sum_by n rows) (2 ^ 64 - 1)

abbrev pub filters_as : (Note → Bool) → RequestRow → ℕ
filters_as kind r = count_by kind r.filters

abbrev pub totals_of : Output → Totals
totals_of o = record {
  commits = count_by (accepted_as is_commit) o.requests;
  updates = count_by (accepted_as is_update) o.requests;
  queries = count_by (accepted_as is_query) o.requests;
  refused400 = count_by (refused_with 400) o.requests;
  refused500 = count_by (refused_with 500) o.requests;
  refused503 = count_by (refused_with 503) o.requests;
  searchers = length o.searchers;
  found = sum_of (λ r. r.found) o.requests;
  result_lookups = count_by (of_result is_lookup) o.requests;
  result_hits = count_by (of_result is_hit) o.requests;
  filter_lookups = sum_of (filters_as is_lookup) o.requests;
  filter_hits = sum_of (filters_as is_hit) o.requests;
  document_lookups = sum_of (λ r. r.docs) o.requests;
  document_hits = sum_of (λ r. r.doc_hits) o.requests;
}

abbrev pub whole : ℕ → Data
whole n = number (unsigned n)

-- the totals as JSON, their names in the order of their bytes
abbrev pub totals_data : Totals → Data
totals_data t =
    object (
    member (codes "commits") (whole t.commits) (
    member (codes "documentHits") (whole t.document_hits) (
    member (codes "documentLookups") (whole t.document_lookups) (
    member (codes "filterHits") (whole t.filter_hits) (
    member (codes "filterLookups") (whole t.filter_lookups) (
    member (codes "found") (whole t.found) (
    member (codes "queries") (whole t.queries) (
    member (codes "refused400") (whole t.refused400) (
    member (codes "refused500") (whole t.refused500) (
    member (codes "refused503") (whole t.refused503) (
    member (codes "resultHits") (whole t.result_hits) (
    member (codes "resultLookups") (whole t.result_lookups) (
    member (codes "searchers") (whole t.searchers) (
    member (codes "updates") (whole t.updates) no_members))))))))))))))

-- the line that tells them
unfoldable pub totals_line : Totals → List ℕ
totals_line t = compact_text (totals_data t) ++ 10 ∷ []

-- the summary of an output
abbrev pub summary_text : Output → List ℕ
summary_text o = totals_line (totals_of o)
