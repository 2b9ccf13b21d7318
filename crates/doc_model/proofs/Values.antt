-- The values of a list, and what has no value.
use Rattle.std.proofs.Common.{◌≡◌, ◌&&◌, List, [], ◌∷◌, ◌++◌, map, Option, Some, None, option_map, is_some, refl, sym, ap, ap₂, Vec, Global, ◌∙◌, append_assoc, append-nil}
use Rattle.std.specs.List.{list_all}
use Rattle.serde_json.specs.Data.{Data, null, boolean, number, string, array, object}
use Rattle.serde_json.specs.Find.{as_null}
use Rattle.serde_json.specs.View.{view, items_of, items_view}
use Rattle.serde_json.specs.declared.value.Value.{Value, Array}
use Rattle.serde_json.proofs.Views.{view-Array}
use Rattle.field_schema.specs.ReadSchema.{listed}
use Rattle.field_schema.proofs.Shapes.{listed-items_of}
use Rattle.field_schema.specs.declared.field.FieldType.{FieldType}
use Rattle.field_schema.specs.declared.key.Key.{Key}
use Rattle.doc_model.specs.ReadDoc.{scalar_values, list_values, member_values, is_null}

-- values in front of those of the values that are left
abbrev pub onto : List Key → Option (List Key) → Option (List Key)
onto values left = option_map (λ more. values ++ more) left

pub onto_none : (left : Option (List Key)) → left ≡ onto [] left
onto_none None = refl
onto_none (Some more) = refl

onto_both : (values first : List Key) (left : Option (List Key)) → onto values (onto first left) ≡ onto (values ++ first) left
onto_both values first None = refl
onto_both values first (Some more) = ap Some (sym (append_assoc values first more))

pub list_values_on : (t : FieldType) (whole : Option (List Key)) (values first : List Key) (d : Data) (ds : List Data)
    → whole ≡ onto values (list_values t (d ∷ ds)) → scalar_values t d ≡ Some first → whole ≡ onto (values ++ first) (list_values t ds)
list_values_on t whole values first d ds h s = h ∙ rw s (onto_both values first (list_values t ds))

pub list_values_fail : (t : FieldType) (whole : Option (List Key)) (values : List Key) (d : Data) (ds : List Data)
    → whole ≡ onto values (list_values t (d ∷ ds)) → scalar_values t d ≡ None → whole ≡ None
list_values_fail t whole values d ds h s = h ∙ rw s refl

pub list_values_end : (t : FieldType) (whole : Option (List Key)) (values : List Key) → whole ≡ onto values (list_values t []) → whole ≡ Some values
list_values_end t whole values h = h ∙ ap Some (append-nil values)

pub is_null_same : (d : Data) → is_some (as_null d) ≡ is_null d
is_null_same null = refl
is_null_same (boolean b) = refl
is_null_same (number n) = refl
is_null_same (string s) = refl
is_null_same (array ds) = refl
is_null_same (object ms) = refl

pub all_null : (vs : List Value) → list_all (λ v. is_some (as_null (view v))) vs ≡ list_all is_null (listed (items_view vs))
all_null [] = refl
all_null (v ∷ vs) = ap₂ (λ a b. a && b) (is_null_same (view v)) (all_null vs)

pub member_values_array : (t : FieldType) (v : Value) (vs : Vec Value Global) → v ≡ Array vs → member_values t (view v) ≡ list_values t (map view vs.items)
member_values_array t v vs is = ap (λ x. member_values t (view x)) is ∙ ap (member_values t) (view-Array vs) ∙ ap (list_values t) (listed-items_of (map view vs.items))
