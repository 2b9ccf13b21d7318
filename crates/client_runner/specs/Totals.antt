-- The totals of rows as the program keeps them.
use Rattle.std.specs.Prelude.{◌≡◌, ℕ, List, ◌++◌, Bool, codes, count_by, map}
use Rattle.run_laws.specs.Rows as plain
use Rattle.run_laws.specs.Bounds.{is_commit, is_query}
use Rattle.run_laws.specs.Summary as summary
use Rattle.client_runner.specs.declared.rows.RequestRow.{RequestRow}
use Rattle.client_runner.specs.declared.summary.Sums.{Sums}
use Rattle.client_runner.specs.declared.summary.Totals.{Totals}
use Rattle.client_runner.specs.OutputPieces.{number_piece}
use Rattle.client_runner.specs.Views.{request_view}

-- how many rows are such
abbrev pub counted : (plain.RequestRow → Bool) → List RequestRow → ℕ
counted p rows = count_by p (map request_view rows)

-- the sum of a number of each row
abbrev pub summed : (plain.RequestRow → ℕ) → List RequestRow → ℕ
summed n rows = summary.sum_of n (map request_view rows)

-- the sums are those of the rows
pub record AreSums (rows : List RequestRow) (s : Sums) : Type 0 where
  pub found : s.found ≡ summed (λ r. r.found) rows
  pub documents : s.documents ≡ summed (λ r. r.docs) rows
  pub document_hits : s.document_hits ≡ summed (λ r. r.doc_hits) rows
  pub filter_lookups : s.filter_lookups ≡ summed (summary.filters_as summary.is_lookup) rows
  pub filter_hits : s.filter_hits ≡ summed (summary.filters_as summary.is_hit) rows

abbrev pub totals_view : Totals → summary.Totals
totals_view t = record {
  commits = t.commits;
  updates = t.updates;
  queries = t.queries;
  refused400 = t.refused_400;
  refused500 = t.refused_500;
  refused503 = t.refused_503;
  searchers = t.searchers;
  found = t.found;
  result_lookups = t.result_lookups;
  result_hits = t.result_hits;
  filter_lookups = t.filter_lookups;
  filter_hits = t.filter_hits;
  document_lookups = t.document_lookups;
  document_hits = t.document_hits;
}

-- those of rows, with so many searchers
abbrev pub totals_at : List RequestRow → ℕ → summary.Totals
totals_at rows searchers = record {
  commits = counted (summary.accepted_as is_commit) rows;
  updates = counted (summary.accepted_as summary.is_update) rows;
  queries = counted (summary.accepted_as is_query) rows;
  refused400 = counted (summary.refused_with 400) rows;
  refused500 = counted (summary.refused_with 500) rows;
  refused503 = counted (summary.refused_with 503) rows;
  searchers = searchers;
  found = summed (λ r. r.found) rows;
  result_lookups = counted (summary.of_result summary.is_lookup) rows;
  result_hits = counted (summary.of_result summary.is_hit) rows;
  filter_lookups = summed (summary.filters_as summary.is_lookup) rows;
  filter_hits = summed (summary.filters_as summary.is_hit) rows;
  document_lookups = summed (λ r. r.docs) rows;
  document_hits = summed (λ r. r.doc_hits) rows;
}

-- ---- the line that tells them, piece by piece

abbrev pub first_pieces : summary.Totals → List ℕ
first_pieces t =
    number_piece (codes "{\"commits\":") t.commits ++
    (number_piece (codes ",\"documentHits\":") t.document_hits ++
    (number_piece (codes ",\"documentLookups\":") t.document_lookups ++
    (number_piece (codes ",\"filterHits\":") t.filter_hits ++
    (number_piece (codes ",\"filterLookups\":") t.filter_lookups ++
    (number_piece (codes ",\"found\":") t.found ++
    number_piece (codes ",\"queries\":") t.queries)))))

abbrev pub other_pieces : summary.Totals → List ℕ
other_pieces t =
    number_piece (codes ",\"refused400\":") t.refused400 ++
    (number_piece (codes ",\"refused500\":") t.refused500 ++
    (number_piece (codes ",\"refused503\":") t.refused503 ++
    (number_piece (codes ",\"resultHits\":") t.result_hits ++
    (number_piece (codes ",\"resultLookups\":") t.result_lookups ++
    (number_piece (codes ",\"searchers\":") t.searchers ++
    (number_piece (codes ",\"updates\":") t.updates ++ codes "}\n"))))))
