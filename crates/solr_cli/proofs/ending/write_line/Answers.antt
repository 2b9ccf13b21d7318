use Rattle.std.proofs.Common.{codes}
use Rattle.solr_cli.proofs.Parts.{behind_text}
use Rattle.solr_cli.specs.Statuses.{named_line}
use Rattle.solr_cli.proofs.ending.write_line.Goals as goal

pub returns-in_ok-write_all-in-BadConfig-clause-ok : goal.returns-in_ok-write_all-in-BadConfig-clause-ok
returns-in_ok-write_all-in-BadConfig-clause-ok g c =
    rw (c.in-BadConfig.is, ← c.get.ensures)
    (behind_text c.write_named.result (g.E.Sink.held c.args.error.now) (g.E.Sink.held c.write_all-in-BadConfig.new.out) (g.E.Sink.held c.write_named.new.error)
    (codes "bad configuration: check ") (named_line c.in-BadConfig.at (codes ", ") c.get.result.now) c.in_ok-write_all-in-BadConfig.ensures.ok c.write_named.ensures.ok)

pub returns-in-TooLarge-clause-ok : goal.returns-in-TooLarge-clause-ok
returns-in-TooLarge-clause-ok g c = rw c.in-TooLarge.is c.write_all-in-TooLarge.ensures.ok
