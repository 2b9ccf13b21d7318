use Rattle.std.proofs.Common.{subst, MatchResult}
use Rattle.client_runner.specs.Outputs.{output_view}
use Rattle.solr_cli.specs.Answering.{IsAnswer, IsRefusal}
use Rattle.solr_cli.proofs.Runs.{ran_over, refused_over}
use Rattle.solr_cli.proofs.top.run_input.Goals as goal

pub returns-in-Ok-clause-ran : goal.returns-in-Ok-clause-ran
returns-in-Ok-clause-ran g c =
    let answered : MatchResult c.answer.result (λ p. IsAnswer c.in-Ok.bytes.items p.0 (output_view p.1)) (IsRefusal c.in-Ok.bytes.items) =
    subst (λ t. MatchResult c.answer.result (λ p. IsAnswer t p.0 (output_view p.1)) (IsRefusal t)) c.deref.ensures.value c.answer.ensures in
    ran_over (g.S.Source.left c.args.input.now) (g.S.Source.left c.read_all.new.input) c.in-Ok.bytes.items c.answer.result c.in-Ok.ensures.taken c.in-Ok.ensures.whole answered

pub returns-in-Ok-clause-refused : goal.returns-in-Ok-clause-refused
returns-in-Ok-clause-refused g c =
    let answered : MatchResult c.answer.result (λ p. IsAnswer c.in-Ok.bytes.items p.0 (output_view p.1)) (IsRefusal c.in-Ok.bytes.items) =
    subst (λ t. MatchResult c.answer.result (λ p. IsAnswer t p.0 (output_view p.1)) (IsRefusal t)) c.deref.ensures.value c.answer.ensures in
    refused_over (λ p. IsAnswer c.in-Ok.bytes.items p.0 (output_view p.1)) (g.S.Source.left c.args.input.now) (g.S.Source.left c.read_all.new.input) c.in-Ok.bytes.items c.answer.result c.in-Ok.ensures.taken c.in-Ok.ensures.whole answered
