-- The one value of the unique key.
use Rattle.std.proofs.Common.{◌≡◌, ℕ, zero, suc, ◌+◌, ◌<◌, ◌≤◌, Bool, true, false, cond, not, ◌&&◌, ltb, lt-ltb, List, [], ◌∷◌, ◌++◌, length, map, Option, Some, None, option_and_then, option_map, unwrap_or, refl, sym, ap, ◌∙◌, subst, arith, IsTrue, ◌⊎◌, inl, inr, Decides}
use Rattle.std.specs.Prelude.{slice_get, IsSomeAnd, nat_lt}
use Rattle.std.specs.Option.{option_map_or}
use Rattle.std.specs.List.{list_all, position_or_len}
use Rattle.std.specs.Ordering.{nat_cmp, match_ordering}
use Rattle.std.proofs.lemmas.Bool.{ltb-false}
use Rattle.std.specs.declared.cmp.Ordering.{Ordering}
use Rattle.std.specs.declared.cmp.Ordering.TheVariants.{Less, Equal, Greater}
use Rattle.std.specs.Cmp.Lexicographic.{slice_cmp, bytes_decides}
use Rattle.serde_json.specs.Data.{Data, null, boolean, number, string, array, object, Members, no_members, member}
use Rattle.serde_json.specs.Find.{get_member}
use Rattle.field_schema.specs.declared.field.Field.{Field}
use Rattle.field_schema.specs.declared.field.FieldType.{FieldType}
use Rattle.field_schema.specs.declared.field.FieldType.TheVariants as kind
use Rattle.field_schema.specs.declared.key.Key.{Key}
use Rattle.field_schema.specs.declared.key.Key.TheVariants as key
use Rattle.field_schema.specs.Bytes.{bytes_eq}
use Rattle.field_schema.specs.Laws.{bytes_cmp-same}
use Rattle.field_schema.specs.Schema.{Fields, IsSchema, field_named, names_differ, is_str, can_be_key}
use Rattle.field_schema.specs.ReadSchema.{listed}
use Rattle.field_schema.specs.ValueTexts.{truth_text}
use Rattle.field_schema.specs.Values.{values_at}
use Rattle.doc_model.specs.declared.doc.DocFault.{DocFault}
use Rattle.doc_model.specs.Document.{IsIdAt, with_id}
use Rattle.doc_model.specs.ReadDoc.{whole_text, one_value, scalar_values, list_values, member_values, values_fault, member_fault, members_fault, is_null, has_no_value, lacks_id, values_of}
use Rattle.doc_model.proofs.Members.{not_among, both}

-- ---- what a string field with one value reads

-- nothing where the JSON has no value, else one text
abbrev IsOneText : Bool → List Key → Type 0
IsOneText nothing vs = ((nothing ≡ true) × (vs ≡ [])) ⊎ ((t : List ℕ) × (vs ≡ key.Str t ∷ []))

whole_one : (o : Option (List ℕ)) (vs : List Key) → one_value (option_map key.Str o) ≡ Some vs → IsOneText false vs
whole_one None vs e = cc
whole_one (Some t) vs e = inr (t, cc)

scalar_one : (d : Data) (vs : List Key) → scalar_values kind.Str d ≡ Some vs → IsOneText (is_null d) vs
scalar_one null vs e = inl (refl, cc)
scalar_one (boolean b) vs e = inr (truth_text b, cc)
scalar_one (number n) vs e = whole_one (whole_text n) vs e
scalar_one (string s) vs e = inr (s, cc)
scalar_one (array ds) vs e = cc
scalar_one (object ms) vs e = cc

joined : (n m : Bool) (a b : List Key) → IsOneText n a → (length b ≤ 1 → IsOneText m b) → length (a ++ b) ≤ 1 → IsOneText (n && m) (a ++ b)
joined n m a b (inl e) later h =
    let rest : IsOneText m b = later (subst (λ (x : List Key). length (x ++ b) ≤ 1) e.1 h) in
    subst (λ (x : List Key). IsOneText (n && m) (x ++ b)) (sym e.1) (subst (λ (x : Bool). IsOneText (x && m) b) (sym e.0) rest)
joined n m a [] (inr e) later h = inr (e.0, ap (λ (x : List Key). x ++ []) e.1)
joined n m a (k ∷ ks) (inr e) later h = absurd (omega (arith, subst (λ (x : List Key). length (x ++ (k ∷ ks)) ≤ 1) e.1 h))

list_step : (n m : Bool) (first rest : Option (List Key)) → ((vs : List Key) → first ≡ Some vs → IsOneText n vs)
    → ((vs : List Key) → rest ≡ Some vs → length vs ≤ 1 → IsOneText m vs)
    → (vs : List Key) → option_and_then (λ a. option_map (λ b. a ++ b) rest) first ≡ Some vs → length vs ≤ 1 → IsOneText (n && m) vs
list_step n m None rest p q vs e h = cc
list_step n m (Some a) None p q vs e h = cc
list_step n m (Some a) (Some b) p q vs e h =
    let same : a ++ b ≡ vs = cc in
    subst (IsOneText (n && m)) same (joined n m a b (p a refl) (q b refl) (subst (λ (x : List Key). length x ≤ 1) (sym same) h))

list_one : (ds : List Data) (vs : List Key) → list_values kind.Str ds ≡ Some vs → length vs ≤ 1 → IsOneText (list_all is_null ds) vs
list_one [] vs e h = inl (refl, cc)
list_one (d ∷ ds) vs e h = list_step (is_null d) (list_all is_null ds) (scalar_values kind.Str d) (list_values kind.Str ds) (scalar_one d) (list_one ds) vs e h

member_one : (d : Data) (vs : List Key) → member_values kind.Str d ≡ Some vs → length vs ≤ 1 → IsOneText (has_no_value d) vs
member_one null vs e h = scalar_one null vs e
member_one (boolean b) vs e h = scalar_one (boolean b) vs e
member_one (number n) vs e h = scalar_one (number n) vs e
member_one (string s) vs e h = scalar_one (string s) vs e
member_one (array ds) vs e h = list_one (listed ds) vs e h
member_one (object ms) vs e h = scalar_one (object ms) vs e

-- ---- the fault of one member

both_none : (o rest : Option DocFault) → option_map_or Some o rest ≡ None → (o ≡ None) × (rest ≡ None)
both_none None rest e = (refl, e)
both_none (Some x) rest e = cc

-- a member of an object without faults has none
pub fault_at : (fields : List Field) (name : List ℕ) (d : Data) (ms : Members) → members_fault fields ms ≡ None → get_member name ms ≡ Some d → member_fault fields name d ≡ None
fault_at fields name d no_members fine here = cc
fault_at fields name d (member l e ms) fine here =
    let parts : (member_fault fields l e ≡ None) × (members_fault fields ms ≡ None) = both_none (member_fault fields l e) (members_fault fields ms) fine in
    by_order (slice_cmp nat_cmp name l) refl here parts.0 (fault_at fields name d ms parts.1)
  where
    by_order : (o : Ordering) → slice_cmp nat_cmp name l ≡ o → match_ordering o (get_member name ms) (Some e) (get_member name ms) ≡ Some d
        → member_fault fields l e ≡ None → (get_member name ms ≡ Some d → member_fault fields name d ≡ None) → member_fault fields name d ≡ None
    by_order Less is found first later = later found
    by_order Equal is found first later =
        let same : name ≡ l = bytes_cmp-same name l is in
        let value : e ≡ d = cc in
        subst (λ (x : Data). member_fault fields name x ≡ None) value (subst (λ (x : List ℕ). member_fault fields x e ≡ None) (sym same) first)
    by_order Greater is found first later = later found

-- ---- the field of its own name

false_where : (b : Bool) (P : Type 0) → Decides b P → (P → ⊥) → b ≡ false
false_where true P d h = absurd (h (d.0 refl))
false_where false P d h = refl

place_of : (fs : List Field) (i : ℕ) (f : Field) → IsTrue (names_differ fs) → slice_get fs i ≡ Some f
    → (position_or_len (λ g. bytes_eq g.name f.name) fs ≡ i) × (i < length fs)
place_of [] i f apart e = cc
place_of (g ∷ gs) zero f apart e =
    let is : g ≡ f = cc in
    let same : bytes_eq g.name f.name ≡ true = (bytes_decides g.name f.name).1 (ap (λ (x : Field). x.name) is) in
    (rw same refl, omega arith)
place_of (g ∷ gs) (suc i) f apart e =
    let parts = both _ (names_differ gs) apart in
    let later = place_of gs i f parts.1 e in
    let other : bytes_eq g.name f.name ≡ false = false_where _ _ (bytes_decides g.name f.name) (λ same. not_among g.name gs i f parts.0 e (sym same)) in
    (rw other (ap (λ n. 1 + n) later.0 ∙ omega arith), omega (arith, later.1))

-- a field's own name finds it
pub field_at : (fs : List Field) (i : ℕ) (f : Field) → IsTrue (names_differ fs) → slice_get fs i ≡ Some f → field_named f.name fs ≡ Some i
field_at fs i f apart e =
    let place = place_of fs i f apart e in
    let inside : ltb i (length fs) ≡ true = lt-ltb i (length fs) place.1 in
    rw (place.0, inside) refl

-- ---- the id of an object without faults

pub keyed : (f : Field) → IsTrue (can_be_key f) → (is_str f.kind ≡ true) × (f.multi ≡ false)
keyed f h = parts (is_str f.kind) f.stored f.indexed f.multi h
  where
    parts : (a b c m : Bool) → IsTrue (a && b && c && not m) → (a ≡ true) × (m ≡ false)
    parts true true true false h = (refl, refl)
    parts true true true true h = cc
    parts true true false m h = cc
    parts true false c m h = cc
    parts false b c m h = cc

at_kind : (k : FieldType) (d : Data) (vs : List Key) → is_str k ≡ true → member_values k d ≡ Some vs → length vs ≤ 1 → IsOneText (has_no_value d) vs
at_kind kind.Str d vs h e few = member_one d vs e few
at_kind kind.Long d vs h e few = cc
at_kind kind.Bool d vs h e few = cc
at_kind kind.Text d vs h e few = cc

-- at most one value where the field takes one
pub few_values : (m long : Bool) (n : ℕ) (bad : DocFault) (rest : Option DocFault) → m ≡ false → nat_lt 1 n ≡ long → cond (not m && long) (Some bad) rest ≡ None → n ≤ 1
few_values true long n bad rest single is fine = cc
few_values false true n bad rest single is fine = cc
few_values false false n bad rest single is fine = ltb-false 1 n is

module _ (s : Fields) (ms : Members) (f : Field) (lawful : IsSchema s) (here : slice_get s.list s.key ≡ Some f) (key_able : IsTrue (can_be_key f)) (fine : members_fault s.list ms ≡ None) where
  -- the fault of the key's member
  key_fault : (d : Data) → get_member f.name ms ≡ Some d → values_fault f (member_values f.kind d) ≡ None
  key_fault d at = rw (field_at s.list s.key f lawful.distinct here, here) at (fault_at s.list f.name d ms fine at)

  of_values : (d : Data) (o : Option (List Key)) → has_no_value d ≡ false → member_values f.kind d ≡ o → values_fault f o ≡ None → (t : List ℕ) × (o ≡ Some (key.Str t ∷ []))
  of_values d None some read none = cc
  of_values d (Some vs) some read none =
      let able = keyed f key_able in
      let few = few_values f.multi _ (length vs) _ _ able.1 refl none in
      text (at_kind f.kind d vs able.0 read few)
    where
      text : IsOneText (has_no_value d) vs → (t : List ℕ) × (Some vs ≡ Some (key.Str t ∷ []))
      text (inl e) = cc
      text (inr e) = (e.0, ap Some e.1)

  of_member : (o : Option Data) → get_member f.name ms ≡ o → option_map_or has_no_value o true ≡ false → (t : List ℕ) × (values_of ms f ≡ key.Str t ∷ [])
  of_member None at some = cc
  of_member (Some d) at some =
      let one = of_values d _ some refl (key_fault d at) in
      (one.0, ap (λ (x : Option Data). unwrap_or (option_and_then (member_values f.kind) x) []) at ∙ ap (λ (x : Option (List Key)). unwrap_or x []) one.1)

  pub key_values : lacks_id s ms ≡ false → (t : List ℕ) × (values_of ms f ≡ key.Str t ∷ [])
  key_values some = of_member _ refl (rw here at some)

value_in : (g : Field → List Key) (fs : List Field) (i : ℕ) (f : Field) → slice_get fs i ≡ Some f → values_at (map g fs) i ≡ g f
value_in g [] i f e = cc
value_in g (h ∷ hs) zero f e = let is : h ≡ f = cc in ap g is
value_in g (h ∷ hs) (suc i) f e = value_in g hs i f e

with_id_at : (vs : List (List Key)) (i : ℕ) (t : List ℕ) → values_at vs i ≡ key.Str t ∷ [] → IsIdAt (with_id vs i) i
with_id_at vs i t e = rw e refl

-- the field of the unique key
pub key_there : (o : Option Field) → IsSomeAnd o (λ f. IsTrue (can_be_key f)) → (f : Field) × (o ≡ Some f) × IsTrue (can_be_key f)
key_there None h = absurd h
key_there (Some f) h = (f, refl, h)

pub id_read : (s : Fields) (ms : Members) → IsSchema s → lacks_id s ms ≡ false → members_fault s.list ms ≡ None → IsIdAt (with_id (map (values_of ms) s.list) s.key) s.key
id_read s ms lawful some fine =
    let at = key_there _ lawful.key in
    let one = key_values s ms at.0 lawful at.1 at.2 fine some in
    with_id_at (map (values_of ms) s.list) s.key one.0 (value_in (values_of ms) s.list s.key at.0 at.1 ∙ one.1)
