use Rattle.std.proofs.Common.{◌∙◌}
use Rattle.solr_cli.proofs.Made.{made_answered}
use Rattle.solr_cli.proofs.drill.run_made.Goals as goal

-- the text is that of the generator's script
pub returns-in-Ok : goal.returns-in-Ok
returns-in-Ok g c =
    made_answered c.args.n c.as_bytes.result.now c.answer.result c.requires.count (c.as_bytes.ensures.value ∙ c.get.ensures ∙ c.in-Ok.ensures) c.answer.ensures
