use Rattle.std.proofs.Common.{rules, of_calls}
use Rattle.std.proofs.lemmas.Fn.{always_returns_same}
use Rattle.segment_postings.specs.Terms.{is_before}
use Rattle.segment_postings.proofs.KeyOrder.{parted_before, front, back}
use Rattle.segment_postings.proofs.Joining.{sorted_from_ascending}
use Rattle.segment_postings.proofs.terms.position.Goals as goal

pub returns-clause-before : goal.returns-clause-before
returns-clause-before c =
    let found = c.args.found.now in
    front (λ x. is_before x c.args.key.now) found c.partition_point.result
    (c.partition_point.ensures.partitioned (λ x. is_before x c.args.key.now) (always_returns_same _ _ _ (λ a r f k. search (rules, of_calls)))
    (parted_before (λ x. x) found c.args.key.now (sorted_from_ascending found c.requires)))

pub returns-clause-behind : goal.returns-clause-behind
returns-clause-behind c =
    let found = c.args.found.now in
    back (λ x. is_before x c.args.key.now) found c.partition_point.result
    (c.partition_point.ensures.partitioned (λ x. is_before x c.args.key.now) (always_returns_same _ _ _ (λ a r f k. search (rules, of_calls)))
    (parted_before (λ x. x) found c.args.key.now (sorted_from_ascending found c.requires)))
