-- The pieces of a line of totals make the text of its object.
use Rattle.std.proofs.Common.{◌≡◌, ◌∙◌, sym, ap, ℕ, List, [], ◌∷◌, ◌++◌, codes, false, true, append_assoc}
use Rattle.serde_json.specs.Data.{Members, no_members, member}
use Rattle.serde_json.specs.Written.{members_text}
use Rattle.serde_json.proofs.OnLiterals.{serde_json_on_literals}
use Rattle.run_laws.specs.Summary.{Totals, totals_line, whole}
use Rattle.client_runner.specs.OutputPieces.{number_piece}
use Rattle.client_runner.specs.Totals.{first_pieces, other_pieces}

abbrev others : Totals → Members
others t =
    member (codes "refused400") (whole t.refused400) (
    member (codes "refused500") (whole t.refused500) (
    member (codes "refused503") (whole t.refused503) (
    member (codes "resultHits") (whole t.result_hits) (
    member (codes "resultLookups") (whole t.result_lookups) (
    member (codes "searchers") (whole t.searchers) (
    member (codes "updates") (whole t.updates) no_members))))))

abbrev firsts : Totals → Members → Members
firsts t ms =
    member (codes "commits") (whole t.commits) (
    member (codes "documentHits") (whole t.document_hits) (
    member (codes "documentLookups") (whole t.document_lookups) (
    member (codes "filterHits") (whole t.filter_hits) (
    member (codes "filterLookups") (whole t.filter_lookups) (
    member (codes "found") (whole t.found) (
    member (codes "queries") (whole t.queries) ms))))))

seven : (a b c d e f g rest : List ℕ) → (a ++ (b ++ (c ++ (d ++ (e ++ (f ++ g)))))) ++ rest ≡ a ++ (b ++ (c ++ (d ++ (e ++ (f ++ (g ++ rest))))))
seven a b c d e f g rest = simp append_assoc

first_text : (t : Totals) (ms : Members) → first_pieces t ++ members_text true ms ≡ 123 ∷ members_text false (firsts t ms)
unfolding serde_json_on_literals
first_text t ms =
    seven (number_piece (codes "{\"commits\":") t.commits) (number_piece (codes ",\"documentHits\":") t.document_hits)
    (number_piece (codes ",\"documentLookups\":") t.document_lookups) (number_piece (codes ",\"filterHits\":") t.filter_hits)
    (number_piece (codes ",\"filterLookups\":") t.filter_lookups) (number_piece (codes ",\"found\":") t.found)
    (number_piece (codes ",\"queries\":") t.queries) (members_text true ms)
    ∙ simp append_assoc

other_text : (t : Totals) → other_pieces t ≡ members_text true (others t) ++ 10 ∷ []
unfolding serde_json_on_literals
other_text t = simp append_assoc

pub totals_text : (t : Totals) → first_pieces t ++ other_pieces t ≡ totals_line t
unfolding totals_line
totals_text t =
    ap (λ x. first_pieces t ++ x) (other_text t)
    ∙ sym (append_assoc (first_pieces t) (members_text true (others t)) (10 ∷ []))
    ∙ ap (λ x. x ++ 10 ∷ []) (first_text t (others t))
