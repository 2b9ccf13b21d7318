use Rattle.std.proofs.Common.{◌≡◌, ℕ, suc, ◌-◌, [], drop, Some, None, sym, ap, ◌∙◌, subst, arith}
use Rattle.std.specs.Prelude.{slice_get, slice_index_or}
use Rattle.serde_json.specs.View.{members_view}
use Rattle.doc_model.specs.DocJson.{doc_members}
use Rattle.doc_model.proofs.Shown.{with_field, members_from, is_there}
use Rattle.doc_model.proofs.json.doc_json.Goals as goal

pub loop-number-preserved-in-Continue-1 : goal.loop-number-preserved-in-Continue-1
loop-number-preserved-in-Continue-1 c =
    let n : ℕ = c.loop-number.number - 1 in
    let next : c.loop-number.number ≡ suc n = omega arith in
    let fields = c.args.fields.now in
    let f = c.in-Some.field.now in
    let here : slice_get c.args.schema.now.list n ≡ Some f = sym c.in-Some.ensures in
    let known = subst (λ (k : ℕ). members_view c.loop-number.members.entries ≡ doc_members fields (drop k c.args.schema.now.list) (drop k c.args.doc.now.values)) next c.loop-number.invariant in
    c.in_ok-add_member.ensures ∙ ap (λ values. with_field fields f values (members_view c.loop-number.members.entries)) c.values.ensures
    ∙ ap (with_field fields f (slice_index_or c.args.doc.now.values n [])) known ∙ sym (members_from fields c.args.schema.now.list c.args.doc.now.values n f here)

pub loop-number-preserved : goal.loop-number-preserved
loop-number-preserved c =
    let none : None ≡ slice_get c.args.schema.now.list (c.loop-number.number - 1) = c.in_default.ensures in
    absurd (is_there c.args.schema.now.list (c.loop-number.number - 1) (omega arith) none)
