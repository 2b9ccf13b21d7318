-- What the faults of fields' objects say of their fields.
use Rattle.std.proofs.Common.{◌≡◌, ℕ, ◌+◌, zero-add, ◌<◌, ◌≤◌, Bool, true, false, not, ◌&&◌, ◌||◌, leb, leb-false, List, [], ◌∷◌, ◌++◌, length, get_or, map, slice_get, position, Option, Some, None, is_none, option_map, option_and_then, refl, sym, ◌∙◌, ap, subst, arith, IsTrue, IsSomeAnd, if◌then◌else◌, codes, Ok, Err, ok_or, MatchBool}
use Rattle.std.specs.Prelude.{⊤}
use Rattle.std.specs.Cmp.{second_so}
use Rattle.std.specs.List.{list_all, list_any, filter_map}
use Rattle.std.specs.Option.{option_map_or}
use Rattle.std.proofs.lemmas.Bool.{true≢false}
use Rattle.std.proofs.lemmas.List.{length_push, length-map}
use Rattle.std.proofs.lemmas.List.Folds.{list_any-append}
use Rattle.std.proofs.lemmas.List.Quantifiers.{position-Some}
use Rattle.std.proofs.lemmas.Option.{slice_get-get_or, option_and_then_some}
use Rattle.std.proofs.lemmas.Bool.Decides.{nat_tests}
use Rattle.serde_json.specs.Data.{Data}
use Rattle.serde_json.specs.View.{view}
use Rattle.serde_json.specs.declared.value.Value.{Value}
use Rattle.field_schema.specs.declared.field.Field.{Field}
use Rattle.field_schema.specs.declared.field.FieldType.{FieldType}
use Rattle.field_schema.specs.declared.schema.SchemaFault.{SchemaFault}
use Rattle.field_schema.specs.declared.schema.SchemaFault.TheVariants as fault
use Rattle.field_schema.specs.Bytes.{bytes_eq}
use Rattle.field_schema.specs.Laws.{bytes_eq-same, bytes_eq-refl}
use Rattle.field_schema.specs.Names.{is_field_name}
use Rattle.field_schema.specs.Schema.{IsSchema, names_differ, can_be_key}
use Rattle.field_schema.specs.ReadSchema.{is_no_memory, name_of, type_of, kind_named, flag_at, field_of, field_fault, first_fault, key_in, text_at}
use Rattle.field_schema.specs.Readers.{field_or_fault, fields_or_fault}
use Rattle.field_schema.proofs.Readers.{or_some, ok_told}

list_any-map : {X Y : Type 0} (p : X → Bool) (h : Y → X) (ys : List Y) → list_any p (map h ys) ≡ list_any (λ y. p (h y)) ys
list_any-map p h [] = refl
list_any-map p h (y ∷ ys) = ap (λ b. p (h y) || b) (list_any-map p h ys)

-- ---- one field

-- the fault by the four things that it looks at
abbrev fault_by : Bool → Bool → Option Field → Bool → List ℕ → Option SchemaFault
fault_by good late typed taken name =
    if not good || late then Some (fault.BadName name) else (if is_none typed then Some (fault.BadType name) else (if taken then Some (fault.Twice name) else None))

-- an earlier object has the name
abbrev pub is_taken : List Data → List ℕ → Bool
is_taken earlier name = list_any (λ e. bytes_eq (name_of e) name) earlier

-- what a field without a fault has
pub record Faultless (earlier : List Data) (d : Data) : Type 0 where
  pub good : is_field_name (name_of d) ≡ true
  pub early : leb 64 (length earlier) ≡ false
  pub typed : is_none (field_of d) ≡ false
  pub new : is_taken earlier (name_of d) ≡ false

faultless_by : (good late : Bool) (typed : Option Field) (taken : Bool) (name : List ℕ) → fault_by good late typed taken name ≡ None
    → (good ≡ true) × (late ≡ false) × (is_none typed ≡ false) × (taken ≡ false)
faultless_by true false (Some f) false name h = (refl, refl, refl, refl)
faultless_by true false (Some f) true name h = absurd (cc)
faultless_by true false None taken name h = absurd (cc)
faultless_by true true typed taken name h = absurd (cc)
faultless_by false late typed taken name h = absurd (cc)

pub faultless : (earlier : List Data) (d : Data) → field_fault earlier d ≡ None → Faultless earlier d
faultless earlier d h =
    let p = faultless_by (is_field_name (name_of d)) (leb 64 (length earlier)) (field_of d) (is_taken earlier (name_of d)) (name_of d) h in
    record { good = p.0; early = p.1; typed = p.2; new = p.3 }

some_field : (typed : Option Field) → is_none typed ≡ false → (f : Field) × (typed ≡ Some f)
some_field (Some f) h = (f, refl)
some_field None h = absurd (true≢false h)

made_name : (n : List ℕ) (kind : Option FieldType) (multi stored indexed : Option Bool) (f : Field)
    → option_and_then (λ k. option_and_then (λ m. option_and_then (λ s. option_map (λ i. record { name = n; kind = k; multi = m; stored = s; indexed = i }) indexed) stored) multi) kind ≡ Some f
    → f.name ≡ n
made_name n (Some k) (Some m) (Some s) (Some i) f h = sym (ap (λ o. option_map_or (λ g. g.name) o n) h)
made_name n (Some k) (Some m) (Some s) None f h = absurd (cc)
made_name n (Some k) (Some m) None indexed f h = absurd (cc)
made_name n (Some k) None stored indexed f h = absurd (cc)
made_name n None multi stored indexed f h = absurd (cc)

pub field_of-name : (d : Data) (f : Field) → field_of d ≡ Some f → f.name ≡ name_of d
field_of-name d f h =
    made_name (name_of d) (kind_named (type_of d)) (flag_at (codes "multiValued") false d) (flag_at (codes "stored") true d) (flag_at (codes "indexed") true d) f h

pub fault_type : (earlier : List Data) (d : Data) → is_field_name (name_of d) ≡ true → leb 64 (length earlier) ≡ false → field_of d ≡ None → field_fault earlier d ≡ Some (fault.BadType (name_of d))
fault_type earlier d good early typed = rw (good, early, typed) refl

pub fault_twice : (earlier : List Data) (d : Data) (f : Field) → is_field_name (name_of d) ≡ true → leb 64 (length earlier) ≡ false → field_of d ≡ Some f → is_taken earlier (name_of d) ≡ true → field_fault earlier d ≡ Some (fault.Twice (name_of d))
fault_twice earlier d f good early typed taken = rw (good, early, typed, taken) refl

pub fault_none : (earlier : List Data) (d : Data) (f : Field) → is_field_name (name_of d) ≡ true → leb 64 (length earlier) ≡ false → field_of d ≡ Some f → is_taken earlier (name_of d) ≡ false → field_fault earlier d ≡ None
fault_none earlier d f good early typed new = rw (good, early, typed, new) refl

ok_or-Err : {T E : Type 0} (o : Option T) (e x : E) → ok_or o e ≡ Err x → (o ≡ None) × (e ≡ x)
ok_or-Err None e x h = (refl, cc)
ok_or-Err (Some y) e x h = absurd (cc)

pub ok_or-Ok : {T E : Type 0} (o : Option T) (e : E) (y : T) → ok_or o e ≡ Ok y → o ≡ Some y
ok_or-Ok None e y h = absurd (cc)
ok_or-Ok (Some x) e y h = cc

-- what an object of a bad type is told
pub type_told : (earlier : List Data) (d : Data) (name : List ℕ) (e : SchemaFault) → name ≡ name_of d → is_field_name (name_of d) ≡ true → leb 64 (length earlier) ≡ false
    → ok_or (field_of d) (fault.BadType name) ≡ Err e → MatchBool (is_no_memory e) ⊤ (field_or_fault earlier d ≡ Err e)
type_told earlier d name e named good early h =
    let p = ok_or-Err (field_of d) (fault.BadType name) e h in
    let told : field_fault earlier d ≡ Some (fault.BadType name) = fault_type earlier d good early p.0 ∙ ap (λ n. Some (fault.BadType n)) (sym named) in
    subst (λ x. MatchBool (is_no_memory x) ⊤ (field_or_fault earlier d ≡ Err x)) p.1 (or_some _ _ _ told)

-- the same facts as the code meets them
pub taken_told : (vs : List Value) (name : List ℕ) (r b : Bool) → r ≡ list_any (λ v. bytes_eq (name_of (view v)) name) vs → r ≡ b → is_taken (map view vs) name ≡ b
taken_told vs name r b e h = list_any-map (λ e. bytes_eq (name_of e) name) view vs ∙ sym e ∙ h

pub early_told : (vs : List Value) → length vs < 64 → leb 64 (length (map view vs)) ≡ false
early_told vs h = rw (length-map vs view) (grind (arith, nat_tests))

-- ---- the first fault of a list

pub first_fault_on : (earlier : List Data) (d : Data) (ds : List Data) → field_fault earlier d ≡ None → first_fault earlier (d ∷ ds) ≡ first_fault (earlier ++ d ∷ []) ds
first_fault_on earlier d ds h = rw h refl

pub first_fault_here : (earlier : List Data) (d : Data) (ds : List Data) (e : SchemaFault) → field_fault earlier d ≡ Some e → first_fault earlier (d ∷ ds) ≡ Some e
first_fault_here earlier d ds e h = rw h refl

both_none : (here later : Option SchemaFault) → option_map_or Some here later ≡ None → (here ≡ None) × (later ≡ None)
both_none None later h = (refl, h)
both_none (Some e) later h = absurd (cc)

-- a field without a fault in front of a list without one
record Front (earlier : List Data) (d : Data) (ds : List Data) : Type 0 where
  parts : Faultless earlier d
  field : Field
  is : field_of d ≡ Some field
  named : field.name ≡ name_of d
  later : first_fault (earlier ++ d ∷ []) ds ≡ None

front : (earlier : List Data) (d : Data) (ds : List Data) → first_fault earlier (d ∷ ds) ≡ None → Front earlier d ds
front earlier d ds h =
    let p = both_none (field_fault earlier d) (first_fault (earlier ++ d ∷ []) ds) h in
    let here = faultless earlier d p.0 in
    let f = some_field (field_of d) here.typed in
    record { parts = here; field = f.0; is = f.1; named = field_of-name d f.0 f.1; later = p.1 }

fields_most : (earlier ds : List Data) → length earlier ≤ 64 → first_fault earlier ds ≡ None → length earlier + length (filter_map field_of ds) ≤ 64
fields_most earlier [] most h = omega arith
fields_most earlier (d ∷ ds) most h =
    let r = front earlier d ds h in
    let early : length earlier < 64 = leb-false 64 (length earlier) r.parts.early in
    let more : length (earlier ++ d ∷ []) ≡ length earlier + 1 = length_push earlier d in
    let rest : length (earlier ++ d ∷ []) + length (filter_map field_of ds) ≤ 64 = fields_most (earlier ++ d ∷ []) ds (omega arith) r.later in
    rw r.is (omega arith)

fields_names : (earlier ds : List Data) → first_fault earlier ds ≡ None → list_all (λ f. is_field_name f.name) (filter_map field_of ds) ≡ true
fields_names earlier [] h = refl
fields_names earlier (d ∷ ds) h =
    let r = front earlier d ds h in
    rw (r.is, r.named, r.parts.good) (fields_names (earlier ++ d ∷ []) ds r.later)

not_both : (b : Bool) → (b ≡ true → ⊥) → b ≡ false
not_both false h = refl
not_both true h = absurd (h refl)

-- no later field has the name of an earlier object
fields_new : (name : List ℕ) (earlier ds : List Data) → is_taken earlier name ≡ true → first_fault earlier ds ≡ None → list_any (λ g. bytes_eq g.name name) (filter_map field_of ds) ≡ false
fields_new name earlier [] taken h = refl
fields_new name earlier (d ∷ ds) taken h =
    let r = front earlier d ds h in
    let other : bytes_eq (name_of d) name ≡ false = not_both (bytes_eq (name_of d) name) (λ e.
    let same : name_of d ≡ name = bytes_eq-same (name_of d) name e in
    true≢false (sym taken ∙ sym (ap (is_taken earlier) same) ∙ r.parts.new)) in
    let kept : is_taken (earlier ++ d ∷ []) name ≡ true = list_any-append (λ e. bytes_eq (name_of e) name) earlier (d ∷ []) ∙ rw taken refl in
    rw (r.is, r.named, other) (fields_new name (earlier ++ d ∷ []) ds kept r.later)

or_true : (b : Bool) → (b || true) ≡ true
or_true true = refl
or_true false = refl

fields_differ : (earlier ds : List Data) → first_fault earlier ds ≡ None → names_differ (filter_map field_of ds) ≡ true
fields_differ earlier [] h = refl
fields_differ earlier (d ∷ ds) h =
    let r = front earlier d ds h in
    let own : is_taken (earlier ++ d ∷ []) (name_of d) ≡ true =
    list_any-append (λ e. bytes_eq (name_of e) (name_of d)) earlier (d ∷ []) ∙ rw (bytes_eq-refl (name_of d)) (or_true (is_taken earlier (name_of d))) in
    let new : list_any (λ g. bytes_eq g.name (name_of d)) (filter_map field_of ds) ≡ false = fields_new (name_of d) (earlier ++ d ∷ []) ds own r.later in
    rw (r.is, r.named, new) (fields_differ (earlier ++ d ∷ []) ds r.later)

-- ---- the key

pub key_in-is : (fields : List Field) (d : Data) (name : List ℕ) → text_at (codes "uniqueKey") d ≡ Some name → key_in fields d ≡ position (λ f. bytes_eq f.name name && can_be_key f) fields
key_in-is fields d name h = rw h refl

-- the field that the code meets
pub key_here : (fields : List Field) (i : ℕ) (f : Field) (text name : List ℕ) → f ≡ get_or fields i f → text ≡ f.name → bytes_eq text name ≡ true → can_be_key f ≡ true
    → (bytes_eq (get_or fields i f).name name && can_be_key (get_or fields i f)) ≡ true
key_here fields i f text name read is same can =
    let own : (bytes_eq f.name name && can_be_key f) ≡ true = rw (ap (λ t. bytes_eq t name) (sym is) ∙ same, can) refl in
    subst (λ g. (bytes_eq g.name name && can_be_key g) ≡ true) read own

key_at : (p : Field → Bool) (fields : List Field) (key : ℕ) → position (λ f. p f && can_be_key f) fields ≡ Some key → IsSomeAnd (slice_get fields key) (λ f. IsTrue (can_be_key f))
key_at p [] key h = absurd (cc)
key_at p (f ∷ fs) key h =
    let found = position-Some (λ g. p g && can_be_key g) (f ∷ fs) key f h in
    rw (slice_get-get_or (f ∷ fs) key f found.0) (second_so (p (get_or (f ∷ fs) key f)) (can_be_key (get_or (f ∷ fs) key f)) found.1)

read-IsSchema : (ds : List Data) (d : Data) (key : ℕ) → first_fault [] ds ≡ None → key_in (filter_map field_of ds) d ≡ Some key → IsSchema (record { list = filter_map field_of ds; key = key })
read-IsSchema ds d key h k = record {
  most = rw zero-add at (fields_most [] ds (omega arith) h);
  key = option_and_then_some (λ name. position (λ f. bytes_eq f.name name && can_be_key f) (filter_map field_of ds)) (text_at (codes "uniqueKey") d) key k (λ name e p. key_at (λ f. bytes_eq f.name name) (filter_map field_of ds) key p);
  names = fields_names [] ds h;
  distinct = fields_differ [] ds h;
}

-- the same of the fields that the code has read
pub read_most : (fields : List Field) (ds : List Data) → fields_or_fault ds ≡ Ok fields → length fields ≤ 64
read_most fields ds told =
    let parts = ok_told _ _ fields told in
    let h = parts.0 in
    let read = sym parts.1 in
    subst (λ l. length l ≤ 64) (sym read) (rw zero-add at (fields_most [] ds (omega arith) h))

pub read_is : (fields : List Field) (ds : List Data) (d : Data) (key : ℕ) → fields_or_fault ds ≡ Ok fields → key_in fields d ≡ Some key → IsSchema (record { list = fields; key = key })
read_is fields ds d key told k =
    let parts = ok_told _ _ fields told in
    let h = parts.0 in
    let read = sym parts.1 in
    subst (λ l. IsSchema (record { list = l; key = key })) (sym read) (read-IsSchema ds d key h (sym (ap (λ l. key_in l d) read) ∙ k))
