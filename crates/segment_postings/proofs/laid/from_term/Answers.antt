use Rattle.std.proofs.Common.{◌≡◌, ◌-◌, ◌++◌, length, take, drop, sym, ◌∙◌, rules, of_calls}
use Rattle.std.proofs.lemmas.Fn.{always_returns_same}
use Rattle.std.proofs.lemmas.List.{take-append-drop, take_rest}
use Rattle.std.specs.Ordering.{is_lt}
use Rattle.field_schema.specs.Keys.{key_cmp}
use Rattle.segment_postings.proofs.KeyOrder.{parted_before, front, back}
use Rattle.segment_postings.proofs.Laying.{terms_sorted}
use Rattle.segment_postings.proofs.laid.from_term.Goals as goal

pub returns : goal.returns
returns c =
    let ts = c.args.terms.now in
    let i = c.partition_point-start.result in
    let whole : take (length ts - i) (drop i ts) ≡ drop i ts = take_rest ts i in
    let point = c.partition_point-start.ensures.partitioned (λ t. is_lt (key_cmp t.key c.args.key.now)) (always_returns_same _ _ _ (λ a r f k. search (rules, of_calls)))
    (parted_before (λ t. t.key) ts c.args.key.now (terms_sorted ts c.requires)) in
    record {
      split = (λ j. sym (front (λ t. is_lt (key_cmp t.key c.args.key.now)) ts i point) j ++ whole j) ∙ take-append-drop i ts;
      behind = whole ∙ back (λ t. is_lt (key_cmp t.key c.args.key.now)) ts i point;
    }
