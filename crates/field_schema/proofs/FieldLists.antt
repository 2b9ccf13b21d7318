-- The fields read of a list of objects, one object after another.
use Rattle.std.specs.Prelude.{⊤}
use Rattle.std.proofs.Common.{◌≡◌, MatchBool, ℕ, ◌+◌, ◌<◌, List, [], ◌∷◌, ◌++◌, length, get_or, take, drop, map, Some, Ok, Err, refl, sym, ◌∙◌, ap, arith}
use Rattle.std.specs.List.{filter_map, cons_option}
use Rattle.std.proofs.lemmas.List.Elements.{filter_map-append}
use Rattle.std.proofs.lemmas.List.{take_more, drop_more, take_all, drop_all, map-append}
use Rattle.serde_json.specs.View.{view}
use Rattle.serde_json.specs.declared.value.Value.{Value}
use Rattle.field_schema.specs.declared.field.Field.{Field}
use Rattle.field_schema.specs.declared.schema.SchemaFault.{SchemaFault}
use Rattle.field_schema.specs.ReadSchema.{is_no_memory, field_of, field_fault, first_fault}
use Rattle.field_schema.specs.Readers.{field_or_fault, fields_or_fault}
use Rattle.field_schema.proofs.Readers.{or_none, or_some, ok_told, err_told, weaker}
use Rattle.field_schema.proofs.FieldFaults.{first_fault_on, first_fault_here}

-- the fields of the first objects, none of which has a fault
pub record HasRead (fields : List Field) (list : List Value) (i : ℕ) : Type 0 where
  pub faults : first_fault [] (map view list) ≡ first_fault (map view (take i list)) (map view (drop i list))
  pub read : fields ≡ filter_map field_of (map view (take i list))

pub has_read_none : (list : List Value) → HasRead [] list 0
has_read_none list = record { faults = refl; read = refl }

-- the rest begins with the object
rest_at : (list : List Value) (i : ℕ) (v : Value) → i < length list → v ≡ get_or list i v → map view (drop i list) ≡ view v ∷ map view (drop (i + 1) list)
rest_at list i v within read = ap (map view) (drop_more list i v within) ∙ ap (λ x. view x ∷ map view (drop (i + 1) list)) (sym read)

front_at : (list : List Value) (i : ℕ) (v : Value) → i < length list → v ≡ get_or list i v → map view (take (i + 1) list) ≡ map view (take i list) ++ view v ∷ []
front_at list i v within read =
    ap (map view) (take_more list i v within) ∙ map-append view (take i list) (get_or list i v ∷ []) ∙ ap (λ x. map view (take i list) ++ view x ∷ []) (sym read)

pub has_read_more : (fields : List Field) (list : List Value) (i : ℕ) (v : Value) (f : Field) → HasRead fields list i → i < length list → v ≡ get_or list i v
    → field_or_fault (map view (take i list)) (view v) ≡ Ok (Some f) → HasRead (fields ++ f ∷ []) list (i + 1)
has_read_more fields list i v f h within read told =
    let parts = ok_told _ _ (Some f) told in
    let none = parts.0 in
    let typed = parts.1 in
    record {
      faults =
          h.faults
          ∙ ap (first_fault (map view (take i list))) (rest_at list i v within read)
          ∙ first_fault_on (map view (take i list)) (view v) (map view (drop (i + 1) list)) none
          ∙ ap (λ front. first_fault front (map view (drop (i + 1) list))) (sym (front_at list i v within read));
      read =
          ap (λ l. l ++ f ∷ []) h.read
          ∙ ap (λ o. filter_map field_of (map view (take i list)) ++ cons_option o []) (sym typed)
          ∙ sym (filter_map-append field_of (map view (take i list)) (view v ∷ []))
          ∙ ap (filter_map field_of) (sym (front_at list i v within read));
    }

has_read_fault : (fields : List Field) (list : List Value) (i : ℕ) (v : Value) (e : SchemaFault) → HasRead fields list i → i < length list → v ≡ get_or list i v
    → field_fault (map view (take i list)) (view v) ≡ Some e → first_fault [] (map view list) ≡ Some e
has_read_fault fields list i v e h within read told =
    h.faults
    ∙ ap (first_fault (map view (take i list))) (rest_at list i v within read)
    ∙ first_fault_here (map view (take i list)) (view v) (map view (drop (i + 1) list)) e told

pub has_read_told : (fields : List Field) (list : List Value) (i : ℕ) (v : Value) (e : SchemaFault) → HasRead fields list i → i < length list → v ≡ get_or list i v
    → MatchBool (is_no_memory e) ⊤ (field_or_fault (map view (take i list)) (view v) ≡ Err e) → MatchBool (is_no_memory e) ⊤ (fields_or_fault (map view list) ≡ Err e)
has_read_told fields list i v e h within read told =
    weaker (is_no_memory e) (λ t. or_some _ _ e (has_read_fault fields list i v e h within read (err_told _ _ e t))) told

pub has_read_all : (fields : List Field) (list : List Value) (i : ℕ) → HasRead fields list i → i ≡ length list → fields_or_fault (map view list) ≡ Ok fields
has_read_all fields list i h end =
    or_none _ _ (h.faults ∙ ap (λ rest. first_fault (map view (take i list)) (map view rest)) (drop_all i list (omega arith)))
    ∙ ap Ok (sym (h.read ∙ ap (λ l. filter_map field_of (map view l)) (take_all i list (omega arith))))
