use Rattle.std.proofs.Common.{◌<◌, ◌≤◌, length, sym, ◌∙◌, arith}
use Rattle.std.specs.List.{list_any}
use Rattle.query_tree.specs.KeysOfDocs.{keys_of_value}
use Rattle.query_eval.specs.Sought.{seeks}
use Rattle.query_eval.proofs.Loops.{any_here, any_end}
use Rattle.query_eval.proofs.Parts.{by_values}
use Rattle.query_eval.proofs.matching.has.Goals as goal

pub returns-then-branch : goal.returns-then-branch
returns-then-branch c =
    let values = c.values-value-items.result.now in
    let within : c.loop-value.value-index < length values = omega arith in
    sym (any_here (λ v. list_any (seeks c.args.sought.now) (keys_of_value v)) values c.loop-value.value-index c.value-item.result within c.value-item.is (sym c.in_ok-value_has.ensures ∙ c.if-branch.true))
    ∙ by_values (seeks c.args.sought.now) c.args.doc.now.values c.args.field values c.values-value-items.ensures

pub returns : goal.returns
returns c =
    let values = c.values-value-items.result.now in
    let whole : length values ≤ c.loop-value.value-index = omega arith in
    sym (any_end (λ v. list_any (seeks c.args.sought.now) (keys_of_value v)) values c.loop-value.value-index whole c.loop-value.invariant)
    ∙ by_values (seeks c.args.sought.now) c.args.doc.now.values c.args.field values c.values-value-items.ensures
