use Rattle.std.proofs.Common.{◌≡◌, Some, ℤ, rules, sym, ap, ◌∙◌}
use Rattle.std.proofs.lemmas.Int.{to_z-of_z}
use mir.Syntax.{w64}
use mir.Val.{SFits}
use Rattle.serde_json.specs.Find.{as_i64}
use Rattle.serde_json.specs.View.{number_view}
use Rattle.field_schema.specs.declared.key.Key.TheVariants as key
use Rattle.field_schema.proofs.Numbers.{is_i64-Decides}
use Rattle.doc_model.proofs.WholeNumbers.{long_there, long_nowhere}
use Rattle.doc_model.proofs.value.whole_number.Goals as goal

pub returns-in-Some : goal.returns-in-Some
returns-in-Some c =
    let z : ℤ = c.in-Some.whole in
    let fits : SFits w64 z = search rules in
    let read : Some z ≡ as_i64 (number_view c.args.number.now) = sym c.in-Some.is ∙ c.as_i64.ensures in
    ap (λ (x : ℤ). Some (key.Long x)) (to_z-of_z w64 z fits) ∙ long_there (number_view c.args.number.now) z read ((is_i64-Decides z).1 fits)

pub returns-in-None : goal.returns-in-None
returns-in-None c = long_nowhere (number_view c.args.number.now) (sym c.in-None.is ∙ c.as_i64.ensures)
