use Rattle.std.proofs.Common.{rules, tests, is_some, ap, sym, ◌∙◌}
use Rattle.std.specs.List.{list_all}
use Rattle.std.proofs.lemmas.Iterator.Search.{all_from_yields_List}
use Rattle.std.proofs.lemmas.Iterator.{YieldsList-from_slice}
use Rattle.serde_json.specs.Find.{as_null}
use Rattle.serde_json.specs.View.{view, items_view}
use Rattle.serde_json.proofs.Views.{view-Array}
use Rattle.field_schema.specs.ReadSchema.{listed}
use Rattle.doc_model.specs.ReadDoc.{is_null, has_no_value}
use Rattle.doc_model.proofs.Values.{all_null}
use Rattle.doc_model.proofs.object.has_no_value.Goals as goal

pub returns-in-Array : goal.returns-in-Array
returns-in-Array c =
    let vs = c.deref.result.now in
    let called = all_from_yields_List (λ v. is_some (as_null (view v))) _ _ c.all.result c.all.ensures.ran (YieldsList-from_slice vs cc) (λ x b q k. search (rules, tests)) in
    called ∙ all_null vs ∙ ap (λ xs. list_all is_null (listed (items_view xs))) c.deref.ensures.value
    ∙ ap has_no_value (sym (ap view c.in-Array.is ∙ view-Array c.in-Array.values))
