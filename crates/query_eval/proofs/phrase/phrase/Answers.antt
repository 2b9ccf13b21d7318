use Rattle.std.proofs.Common.{◌≡◌, ℕ, ◌<◌, ◌≤◌, List, ◌∷◌, [], length, get_or, ap, ◌∙◌, arith}
use Rattle.doc_model.specs.Document.{Document}
use Rattle.query_eval.specs.Found.{found}
use Rattle.query_eval.specs.Sought as sought
use Rattle.query_eval.proofs.phrase.phrase.Goals as goal

only_one : (words : List (List ℕ)) (w : List ℕ) → 1 ≤ length words → length words < 2 → w ≡ get_or words 0 w → w ∷ [] ≡ words
only_one [] w some few e = absurd (omega arith)
only_one (x ∷ []) w some few e = ap (λ y. y ∷ []) e
only_one (x ∷ y ∷ words) w some few e = absurd (omega arith)

pub returns-in_ok-found-in-len1-clause-found : goal.returns-in_ok-found-in-len1-clause-found
returns-in_ok-found-in-len1-clause-found g c =
    c.in_ok-found-in-len1.ensures.found
    ∙ ap (λ (ws : List (List ℕ)). found (λ (d : Document). sought.says_words d.values c.args.field ws) (g.P.Reads.view c.args.probe.now))
    (only_one c.args.words.now c.word-item.result c.in-len1.len_at_least c.in-len1.len_below c.word-item.is)
