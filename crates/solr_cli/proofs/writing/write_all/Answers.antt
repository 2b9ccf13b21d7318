use Rattle.std.proofs.Common.{◌++◌, ◌∙◌, take}
use Rattle.std.proofs.KnownBytes.{Appends-kept, Appends-trans}
use Rattle.solr_cli.proofs.Parts.{cause_behind, cause_of_err, front_more, on_err, part_of, written_tells}
use Rattle.solr_cli.proofs.writing.write_all.Goals as goal

-- the write failed: what was written before it is a front
pub returns-in_err-count-clause-err : goal.returns-in_err-count-clause-err
returns-in_err-count-clause-err g c =
    let front = c.loop-rest.invariant.front in
    on_err c.from_residual.result _
    (part_of (g.K.Sink.held c.args.out.now) (g.K.Sink.held c.write.new.self) c.args.text.now front.0 c.loop-rest.rest.now front.1
    (Appends-kept (g.K.Sink.held c.args.out.now) (g.K.Sink.held c.loop-rest.out) (g.K.Sink.held c.write.new.self) front.0 front.2 c.in_err-count.ensures.bytes))

-- the front is longer by what was taken
pub loop-rest-preserved : goal.loop-rest-preserved
loop-rest-preserved g c =
    let front = c.loop-rest.invariant.front in
    let count = c.in_ok-count.count in
    record {
      faults = c.in_ok-count.ensures.cause.kept ∙ c.loop-rest.invariant.faults;
      flushed = written_tells (g.K.Sink.flushed c.loop-rest.out) (g.K.Sink.flushed c.write.new.self) c.in_ok-count.ensures.flushed ∙ c.loop-rest.invariant.flushed;
      front = (
        front.0 ++ take count c.loop-rest.rest.now,
        rw c.split_at.ensures.back (front_more c.args.text.now front.0 c.loop-rest.rest.now count front.1),
        Appends-trans (g.K.Sink.held c.args.out.now) (g.K.Sink.held c.loop-rest.out) (g.K.Sink.held c.write.new.self) front.0 (take count c.loop-rest.rest.now) front.2 c.in_ok-count.ensures.bytes,
      );
    }

-- the write failed, and those before it did not
pub returns-in_err-count-clause-cause : goal.returns-in_err-count-clause-cause
returns-in_err-count-clause-cause g c =
    cause_behind (g.K.Sink.faults c.args.out.now) (g.K.Sink.faults c.loop-rest.out) (g.K.Sink.faults c.write.new.self) c.from_residual.result c.loop-rest.invariant.faults
    (cause_of_err (g.K.Sink.faults c.loop-rest.out) (g.K.Sink.faults c.write.new.self) c.from_residual.result c.from_residual.ensures.0 c.in_err-count.ensures.cause.later c.in_err-count.ensures.cause.failed)
