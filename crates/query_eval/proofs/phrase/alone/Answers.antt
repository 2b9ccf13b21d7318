use Rattle.std.proofs.Common.{ℕ, List, ◌∷◌, [], ap, ◌∙◌}
use Rattle.field_schema.specs.declared.key.Key.TheVariants as key
use Rattle.doc_model.specs.Document.{Document}
use Rattle.segment_postings.specs.Postings.{has_key_at}
use Rattle.query_eval.specs.Found.{found}
use Rattle.query_eval.specs.Sought as sought
use Rattle.query_eval.proofs.Phrases.{word_alone}
use Rattle.query_eval.proofs.Verdicts.{found_alike}
use Rattle.query_eval.proofs.phrase.alone.Goals as goal

pub returns-clause-found : goal.returns-clause-found
returns-clause-found g c =
    let v = g.P.Reads.view c.args.probe.now in
    let w = c.args.word.now in
    c.in_ok-found.ensures.found
    ∙ ap (λ (x : List ℕ). found (has_key_at c.args.field (key.Token x)) v) c.in_ok-copy.ensures
    ∙ found_alike (has_key_at c.args.field (key.Token w)) (λ (d : Document). sought.says_words d.values c.args.field (w ∷ [])) v (word_alone c.args.field w)
