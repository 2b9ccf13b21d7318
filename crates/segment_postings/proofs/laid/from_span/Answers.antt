use Rattle.std.proofs.Common.{◌≡◌, ◌-◌, ◌++◌, length, take, drop, sym, ◌∙◌, rules, of_calls}
use Rattle.std.proofs.lemmas.Fn.{always_returns_same}
use Rattle.std.proofs.lemmas.List.{take-append-drop, take_rest}
use Rattle.segment_postings.specs.Spans.{begins_behind}
use Rattle.segment_postings.proofs.KeyOrder.{front, back}
use Rattle.segment_postings.proofs.SpanPlaces.{parted_behind}
use Rattle.segment_postings.proofs.laid.from_span.Goals as goal

pub returns : goal.returns
returns c =
    let ts = c.args.terms.now in
    let i = c.partition_point-start.result in
    let whole : take (length ts - i) (drop i ts) ≡ drop i ts = take_rest ts i in
    let point = c.partition_point-start.ensures.partitioned (λ t. begins_behind c.args.span.now t.key) (always_returns_same _ _ _ (λ a r f k. search (rules, of_calls)))
    (parted_behind c.args.span.now ts c.requires) in
    record {
      split = (λ j. sym (front (λ t. begins_behind c.args.span.now t.key) ts i point) j ++ whole j) ∙ take-append-drop i ts;
      behind = whole ∙ back (λ t. begins_behind c.args.span.now t.key) ts i point;
    }
