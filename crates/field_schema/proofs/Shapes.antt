-- The shape of a schema, met in a value.
use Rattle.std.proofs.Common.{◌≡◌, arith, lt-ltb, eqb-true, Bool, true, false, ◌&&◌, eqb, ltb, List, [], ◌∷◌, length, map, Option, Some, None, refl, sym, ap, subst, codes, if◌then◌else◌}
use Rattle.std.specs.List.{list_all}
use Rattle.std.proofs.lemmas.Bool.{true≢false}
use Rattle.std.proofs.lemmas.List.Folds.{list_all-map}
use Rattle.serde_json.specs.Data.{Data}
use Rattle.serde_json.specs.Find.{get, as_array}
use Rattle.serde_json.specs.View.{view, items_of}
use Rattle.serde_json.specs.declared.value.Value.{Value}
use Rattle.field_schema.specs.ReadSchema.{listed, has_shape, field_data, is_shaped}

-- the values of a JSON list, as a list
pub listed-items_of : (ds : List Data) → listed (items_of ds) ≡ ds
listed-items_of [] = refl
listed-items_of (d ∷ ds) = ap (λ es. d ∷ es) (listed-items_of ds)

-- the list that is found in the value
pub field_data_at : (d x : Data) (ds : List Data) → Some x ≡ get (codes "fields") d → Some (items_of ds) ≡ as_array x → ds ≡ field_data d
field_data_at d x ds found list = rw (sym found, sym list) (sym (listed-items_of ds))

-- what the function answers of a list
abbrev answer : List Data → Option (List Data)
answer ds = if ltb 0 (length ds) && list_all has_shape ds then Some ds else None

nonempty : (vs : List Value) → eqb (length vs) 0 ≡ false → ltb 0 (length (map view vs)) ≡ true
nonempty [] h = absurd (true≢false h)
nonempty (v ∷ vs) h = lt-ltb 0 (length (map view (v ∷ vs))) (omega arith)

pub shaped : (d : Data) (vs : List Value) → map view vs ≡ field_data d → eqb (length vs) 0 ≡ false → list_all (λ v. has_shape (view v)) vs ≡ true
    → Some (map view vs) ≡ (if is_shaped d then Some (field_data d) else None)
shaped d vs is filled good =
    let own : Some (map view vs) ≡ answer (map view vs) = rw (nonempty vs filled, list_all-map has_shape view vs, good) refl in
    subst (λ ds. Some (map view vs) ≡ answer ds) is own

pub unshaped_empty : (d : Data) (vs : List Value) → map view vs ≡ field_data d → eqb (length vs) 0 ≡ true → None ≡ (if is_shaped d then Some (field_data d) else None)
unshaped_empty d [] is empty = subst (λ ds. None ≡ answer ds) is refl
unshaped_empty d (v ∷ vs) is empty =
    let none : length (v ∷ vs) ≡ 0 = eqb-true (length (v ∷ vs)) 0 empty in absurd (omega arith)

and_false : (b : Bool) → (b && false) ≡ false
and_false true = refl
and_false false = refl

pub unshaped_bad : (d : Data) (vs : List Value) → map view vs ≡ field_data d → list_all (λ v. has_shape (view v)) vs ≡ false → None ≡ (if is_shaped d then Some (field_data d) else None)
unshaped_bad d vs is bad =
    let own : None ≡ answer (map view vs) = rw (list_all-map has_shape view vs, bad, and_false (ltb 0 (length (map view vs)))) refl in
    subst (λ ds. None ≡ answer ds) is own
