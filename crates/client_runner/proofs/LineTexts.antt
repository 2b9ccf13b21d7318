-- The pieces of a line make the text of its object.
use Rattle.std.proofs.Common.{◌≡◌, refl, ℕ, List, [], ◌∷◌, ◌++◌, Bool, true, false, Option, Some, None, decimal, codes, not, append_assoc, ap, ◌∙◌, map}
use Rattle.std.specs.List.{flat_map}
use Rattle.serde_json.proofs.OnLiterals.{serde_json_on_literals}
use Rattle.run_laws.specs.Rows.{RequestRow, SearcherRow, Output}
use Rattle.run_laws.specs.OutputText.{object_line, request_members, searcher_members, output_text}
use Rattle.client_runner.specs.declared.rows.RequestRow.{RequestRow as Row}
use Rattle.client_runner.specs.declared.rows.SearcherRow.{SearcherRow as Life}
use Rattle.client_runner.specs.OutputPieces.{request_line, searcher_line, number_piece, end_piece}
use Rattle.client_runner.specs.Views.{request_view, searcher_view}

-- each line of a request, whichever of its members are there
pub request_text : (r : RequestRow) → request_line r ≡ object_line (request_members r)
unfolding serde_json_on_literals
request_text r = by r.generation r.place r.ticket
  where
    by : (g p k : Option ℕ) → request_line (record r { generation = g; place = p; ticket = k }) ≡ object_line (request_members (record r { generation = g; place = p; ticket = k }))
    by None None None = simp append_assoc
    by None None (Some k) = simp append_assoc
    by None (Some p) None = simp append_assoc
    by None (Some p) (Some k) = simp append_assoc
    by (Some g) None None = simp append_assoc
    by (Some g) None (Some k) = simp append_assoc
    by (Some g) (Some p) None = simp append_assoc
    by (Some g) (Some p) (Some k) = simp append_assoc

from_assoc : (a b c d rest : List ℕ) → ((a ++ b) ++ (c ++ d)) ++ rest ≡ a ++ (b ++ (c ++ (d ++ rest)))
from_assoc a b c d rest = simp append_assoc

pub searcher_text : (s : SearcherRow) → searcher_line s ≡ object_line (searcher_members s)
unfolding serde_json_on_literals
searcher_text s = by s.registered s.from
  where
    behind : Bool → List ℕ
    behind b =
        number_piece (codes ",\"generation\":") s.generation ++
        (number_piece (codes ",\"opened\":") s.opened ++
        (end_piece (not b) (codes ",\"superseded\":") s.ended ++ codes "}\n"))

    by : (b : Bool) (f : Option (ℕ × ℕ)) → searcher_line (record s { registered = b; from = f }) ≡ object_line (searcher_members (record s { registered = b; from = f }))
    by true None = simp append_assoc
    by true (Some pin) = ap (λ t. number_piece (codes "{\"acquired\":") s.acquired ++ (number_piece (codes ",\"finished\":") s.ended ++ t)) (from_assoc (codes ",\"from\":") (decimal pin.0) (codes ",\"fromTicket\":") (decimal pin.1) (behind true)) ∙ simp append_assoc
    by false None = simp append_assoc
    by false (Some pin) = ap (λ t. number_piece (codes "{\"acquired\":") s.acquired ++ t) (from_assoc (codes ",\"from\":") (decimal pin.0) (codes ",\"fromTicket\":") (decimal pin.1) (behind false)) ∙ simp append_assoc

pub lines_same : {A B : Type 0} (f : A → List ℕ) (g : B → List ℕ) (v : A → B) → ((x : A) → f x ≡ g (v x)) → (xs : List A) → flat_map f xs ≡ flat_map g (map v xs)
lines_same f g v same [] = refl
lines_same f g v same (x ∷ xs) = ap (λ t. t ++ flat_map f xs) (same x) ∙ ap (λ t. g (v x) ++ t) (lines_same f g v same xs)

pub whole_text : (rs : List Row) (ss : List Life) (o : Output) → map request_view rs ≡ o.requests → map searcher_view ss ≡ o.searchers →
    flat_map (λ r. request_line (request_view r)) rs ++ flat_map (λ s. searcher_line (searcher_view s)) ss ≡ output_text o
whole_text rs ss o e f =
    ap (λ t. t ++ flat_map (λ s. searcher_line (searcher_view s)) ss)
    (lines_same (λ r. request_line (request_view r)) (λ r. object_line (request_members r)) request_view (λ r. request_text (request_view r)) rs
    ∙ ap (flat_map (λ r. object_line (request_members r))) e)
    ∙ ap (λ t. flat_map (λ r. object_line (request_members r)) o.requests ++ t)
    (lines_same (λ s. searcher_line (searcher_view s)) (λ s. object_line (searcher_members s)) searcher_view (λ s. searcher_text (searcher_view s)) ss
    ∙ ap (flat_map (λ s. object_line (searcher_members s))) f)
