use Rattle.std.proofs.Common.{subst, MatchResult}
use Rattle.solr_cli.specs.Answering.{IsRefusal}
use Rattle.solr_cli.specs.InputRuns.{TellsCounts}
use Rattle.solr_cli.proofs.Runs.{counted_over, counts_line, refused_over}
use Rattle.solr_cli.proofs.check.count_input.Goals as goal

pub returns-in-Ok-clause-text : goal.returns-in-Ok-clause-text
returns-in-Ok-clause-text g c =
    let counted : MatchResult c.count_bytes.result (TellsCounts c.in-Ok.bytes.items) (IsRefusal c.in-Ok.bytes.items) =
    subst (λ t. MatchResult c.count_bytes.result (TellsCounts t) (IsRefusal t)) c.deref.ensures.value c.count_bytes.ensures in
    counts_line c.in-Ok.bytes.items c.count_bytes.result counted

pub returns-in-Ok-clause-counts : goal.returns-in-Ok-clause-counts
returns-in-Ok-clause-counts g c =
    let counted : MatchResult c.count_bytes.result (TellsCounts c.in-Ok.bytes.items) (IsRefusal c.in-Ok.bytes.items) =
    subst (λ t. MatchResult c.count_bytes.result (TellsCounts t) (IsRefusal t)) c.deref.ensures.value c.count_bytes.ensures in
    counted_over (g.S.Source.left c.args.input.now) (g.S.Source.left c.read_all.new.input) c.in-Ok.bytes.items c.count_bytes.result c.in-Ok.ensures.taken c.in-Ok.ensures.whole counted

pub returns-in-Ok-clause-refused : goal.returns-in-Ok-clause-refused
returns-in-Ok-clause-refused g c =
    let counted : MatchResult c.count_bytes.result (TellsCounts c.in-Ok.bytes.items) (IsRefusal c.in-Ok.bytes.items) =
    subst (λ t. MatchResult c.count_bytes.result (TellsCounts t) (IsRefusal t)) c.deref.ensures.value c.count_bytes.ensures in
    refused_over (TellsCounts c.in-Ok.bytes.items) (g.S.Source.left c.args.input.now) (g.S.Source.left c.read_all.new.input) c.in-Ok.bytes.items c.count_bytes.result c.in-Ok.ensures.taken c.in-Ok.ensures.whole counted
