-- The walk over the members of an object.
use Rattle.std.proofs.Common.{◌≡◌, ℕ, ◌+◌, Decides, zero, suc, ◌<◌, Bool, true, false, cond, not, ◌&&◌, ◌||◌, List, [], ◌∷◌, ◌++◌, length, take, map, add-one, Option, Some, None, Ok, Err, option_and_then, unwrap_or, string_bytes, refl, sym, ap, ap₂, ◌∙◌, subst, arith, append_assoc, append-nil, IsTrue}
use Rattle.std.specs.Prelude.{slice_get, slice_set, ⊤}
use Rattle.std.specs.Bool.{MatchBool}
use Rattle.std.specs.List.{list_any, position_or_len}
use Rattle.std.specs.List.Sorted.{IsStrictlySortedBy}
use Rattle.std.specs.Map.{keys_of as names_of}
use Rattle.std.specs.String.{string_cmp}
use Rattle.serde_json.specs.Data.{Data, Members, no_members, put}
use Rattle.serde_json.specs.View.{view, members_view}
use Rattle.serde_json.proofs.Views.{Entry, put_last, get_member-put, get_member-put_other}
use Rattle.field_schema.specs.Bytes.{bytes_eq}
use Rattle.field_schema.specs.Schema.{Fields, field_named, names_differ}
use Rattle.field_schema.specs.declared.field.Field.{Field}
use Rattle.field_schema.specs.declared.key.Key.{Key}
use Rattle.std.specs.Cmp.Lexicographic.{bytes_decides}
use Rattle.std.proofs.lemmas.List.Quantifiers.{position-Some}
use Rattle.doc_model.proofs.Shown.{is_there}
use Rattle.doc_model.specs.declared.doc.DocFault.{DocFault}
use Rattle.field_schema.proofs.Readers.{or_some, ok_told, err_told, weaker}
use Rattle.doc_model.specs.Readers.{member_or_fault, values_or_fault}
use Rattle.doc_model.specs.ReadDoc.{is_no_memory, member_values, values_of, members_fault, lacks_id, object_doc}

-- ---- the field of a name

at_first_step : (p : Field → Bool) (g : Field) (fs : List Field) (f : Field) (n : ℕ) (b : Bool) → p g ≡ b
    → slice_get (g ∷ fs) (cond (not b) (1 + n) 0) ≡ Some f → (slice_get fs n ≡ Some f → p f ≡ true) → p f ≡ true
at_first_step p g fs f n true here e later = let same : g ≡ f = cc in rw (← same) here
at_first_step p g fs f n false here e later =
    let more : 1 + n ≡ suc n = omega arith in
    later (subst (λ (k : ℕ). slice_get (g ∷ fs) k ≡ Some f) more e)

at_first : (p : Field → Bool) (fs : List Field) (f : Field) → slice_get fs (position_or_len p fs) ≡ Some f → p f ≡ true
at_first p [] f e = cc
at_first p (g ∷ fs) f e = at_first_step p g fs f (position_or_len p fs) (p g) refl e (at_first p fs f)

placed : (b : Bool) (n i : ℕ) → cond b (Some n) None ≡ Some i → n ≡ i
placed true n i e = cc
placed false n i e = cc

pub name_of_field : (name : List ℕ) (fs : List Field) (i : ℕ) (f : Field) → field_named name fs ≡ Some i → slice_get fs i ≡ Some f → f.name ≡ name
name_of_field name fs i f named here =
    let place : position_or_len (λ g. bytes_eq g.name name) fs ≡ i = placed _ _ i named in
    (bytes_decides f.name name).0 (at_first (λ g. bytes_eq g.name name) fs f (rw place here))

-- no field of fs has the name
abbrev none_named : List ℕ → List Field → Bool
none_named name fs = not (list_any (λ g. bytes_eq g.name name) fs)

other_name : (name : List ℕ) (g : Field) (gs : List Field) → none_named name (g ∷ gs) ≡ true → (g.name ≡ name → ⊥) × (none_named name gs ≡ true)
other_name name g gs h = parts (bytes_eq g.name name) _ h (bytes_decides g.name name)
  where
    parts : (b c : Bool) → not (b || c) ≡ true → Decides b (g.name ≡ name) → (g.name ≡ name → ⊥) × (not c ≡ true)
    parts true c h d = cc
    parts false c h d = (λ same. let e : false ≡ true = d.1 same in cc, h)

pub not_among : (name : List ℕ) (gs : List Field) (i : ℕ) (f : Field) → none_named name gs ≡ true → slice_get gs i ≡ Some f → (f.name ≡ name → ⊥)
not_among name [] i f h e = λ same. cc
not_among name (g ∷ gs) zero f h e = let here : g ≡ f = cc in λ same. (other_name name g gs h).0 (rw here same)
not_among name (g ∷ gs) (suc i) f h e = not_among name gs i f (other_name name g gs h).1 e

pub both : (a b : Bool) → IsTrue (a && b) → (a ≡ true) × IsTrue b
both true b h = (refl, h)
both false b h = cc

-- ---- the values of the fields

keeps_values : (name : List ℕ) (d : Data) (ms : Members) (g : Field) → (g.name ≡ name → ⊥) → values_of ms g ≡ values_of (put name d ms) g
keeps_values name d ms g other = ap (λ found. unwrap_or (option_and_then (member_values g.kind) found) []) (sym (get_member-put_other g.name name d ms other))

others_keep : (name : List ℕ) (d : Data) (ms : Members) (gs : List Field) → none_named name gs ≡ true → map (values_of ms) gs ≡ map (values_of (put name d ms)) gs
others_keep name d ms [] h = refl
others_keep name d ms (g ∷ gs) h =
    let other = other_name name g gs h in
    ap₂ (λ (k : List Key) ks. k ∷ ks) (keeps_values name d ms g other.0) (others_keep name d ms gs other.1)

new_values : (name : List ℕ) (d : Data) (ms : Members) (f : Field) (values : List Key) → f.name ≡ name → member_values f.kind d ≡ Some values → values_of (put name d ms) f ≡ values
new_values name d ms f values same read = rw (same, get_member-put name d ms, read) refl

-- the values of one more member stand at its field
pub set_values : (name : List ℕ) (d : Data) (ms : Members) (values : List Key) (fs : List Field) (i : ℕ) (f : Field)
    → IsTrue (names_differ fs) → slice_get fs i ≡ Some f → f.name ≡ name → member_values f.kind d ≡ Some values
    → slice_set (map (values_of ms) fs) i values ≡ map (values_of (put name d ms)) fs
set_values name d ms values [] i f apart here same read = cc
set_values name d ms values (g ∷ gs) zero f apart here same read =
    let is : g ≡ f = cc in
    let named : g.name ≡ name = rw is same in
    let none : none_named name gs ≡ true = subst (λ (n : List ℕ). none_named n gs ≡ true) named (both _ _ apart).0 in
    ap₂ (λ (k : List Key) ks. k ∷ ks) (sym (new_values name d ms g values named (rw is read))) (others_keep name d ms gs none)
set_values name d ms values (g ∷ gs) (suc i) f apart here same read =
    let parts = both _ (names_differ gs) apart in
    let other = λ (named : g.name ≡ name). not_among g.name gs i f parts.0 here (same ∙ sym named) in
    ap₂ (λ (k : List Key) ks. k ∷ ks) (keeps_values name d ms g other) (set_values name d ms values gs i f parts.1 here same read)

-- ---- the walk

-- of all entries those that are left are not read yet, none of the others has a fault, and d has their values
pub record Walked (fields : List Field) (all left : List Entry) (d : List (List Key)) : Type 0 where
  pub done : List Entry
  pub parts : all ≡ done ++ left
  pub fault : members_fault fields (members_view all) ≡ members_fault fields (members_view left)
  pub values : d ≡ map (values_of (members_view done)) fields

pub walk_begins : (fields : List Field) (all : List Entry) (d : List (List Key)) → d ≡ map (values_of no_members) fields → Walked fields all all d
walk_begins fields all d e = record { done = []; parts = refl; fault = refl; values = e }

-- the values of a member stand at its field
abbrev pub IsReadAt : List Field → List ℕ → Data → ℕ → List Key → Type 0
IsReadAt fields name d i values = option_and_then (λ f. member_values f.kind d) (slice_get fields i) ≡ Some values

read_at : (fields : List Field) (name : List ℕ) (d : Data) (i : ℕ) (values : List Key) (o : Option Field) → slice_get fields i ≡ o → IsReadAt fields name d i values
    → (f : Field) × (slice_get fields i ≡ Some f) × (member_values f.kind d ≡ Some values)
read_at fields name d i values None e h = let none : None ≡ Some values = rw e at h in cc
read_at fields name d i values (Some f) e h = (f, e, rw e at h)

pub walk_on : (fields : List Field) (all left : List Entry) (d : List (List Key)) (e : Entry) (i : ℕ) (values : List Key)
    → IsTrue (names_differ fields) → IsStrictlySortedBy string_cmp (names_of all) → Walked fields all (e ∷ left) d
    → field_named (string_bytes e.0) fields ≡ Some i → member_or_fault fields (string_bytes e.0) (view e.1) ≡ Ok (Some values)
    → Walked fields all left (slice_set d i values)
walk_on fields all left d e i values apart sorted w named told =
    let parts = ok_told _ _ (Some values) told in
    let fine = parts.0 in
    let read : IsReadAt fields (string_bytes e.0) (view e.1) i values = rw named at parts.1 in
    let at = read_at fields (string_bytes e.0) (view e.1) i values _ refl read in
    let last = put_last w.done e left (subst (λ es. IsStrictlySortedBy string_cmp (names_of es)) w.parts sorted) in
    record {
      done = w.done ++ e ∷ [];
      parts = w.parts ∙ sym (append_assoc w.done (e ∷ []) left);
      fault = w.fault ∙ rw fine refl;
      values = ap (λ ks. slice_set ks i values) w.values
          ∙ set_values (string_bytes e.0) (view e.1) (members_view w.done) values fields i at.0 apart at.1 (name_of_field (string_bytes e.0) fields i at.0 named at.1) at.2
          ∙ ap (λ ms. map (values_of ms) fields) last;
    }

walk_fails : (fields : List Field) (all left : List Entry) (d : List (List Key)) (e : Entry) (x : DocFault) → Walked fields all (e ∷ left) d
    → member_or_fault fields (string_bytes e.0) (view e.1) ≡ Err x → members_fault fields (members_view all) ≡ Some x
walk_fails fields all left d e x w bad = w.fault ∙ rw (err_told _ _ x bad) refl

-- the place that a name finds is that of a field
pub named_there : (name : List ℕ) (fs : List Field) (i : ℕ) → field_named name fs ≡ Some i → None ≡ slice_get fs i → ⊥
named_there name [] i named none = cc
named_there name (f ∷ fs) i named none = is_there (f ∷ fs) i ((position-Some (λ g. bytes_eq g.name name) (f ∷ fs) i f named).0) none

-- the fault of a member is that of its values in its field
pub member_told : (fs : List Field) (name : List ℕ) (d : Data) (i : ℕ) (f : Field) (e : DocFault) → field_named name fs ≡ Some i → slice_get fs i ≡ Some f
    → MatchBool (is_no_memory e) ⊤ (values_or_fault f d ≡ Err e) → MatchBool (is_no_memory e) ⊤ (member_or_fault fs name d ≡ Err e)
member_told fs name d i f e named here told = weaker (is_no_memory e) (λ t. or_some _ _ e (rw (named, here) (err_told _ _ e t))) told

-- the same of the whole object
pub walk_told : (s : Fields) (all left : List Entry) (d : List (List Key)) (e : Entry) (x : DocFault) → lacks_id s (members_view all) ≡ false → Walked s.list all (e ∷ left) d
    → MatchBool (is_no_memory x) ⊤ (member_or_fault s.list (string_bytes e.0) (view e.1) ≡ Err x) → MatchBool (is_no_memory x) ⊤ (object_doc s (members_view all) ≡ Err x)
walk_told s all left d e x some w told = weaker (is_no_memory x) (λ bad. rw (some, walk_fails s.list all left d e x w bad) refl) told

pub walk_ends : (fields : List Field) (all : List Entry) (d : List (List Key)) → Walked fields all [] d
    → (members_fault fields (members_view all) ≡ None) × (d ≡ map (values_of (members_view all)) fields)
walk_ends fields all d w =
    let whole : all ≡ w.done = w.parts ∙ append-nil w.done in
    (w.fault, w.values ∙ ap (λ es. map (values_of (members_view es)) fields) (sym whole))

pub no_values_more : (fs : List Field) (n : ℕ) → n < length fs → map (values_of no_members) (take (n + 1) fs) ≡ map (values_of no_members) (take n fs) ++ [] ∷ []
no_values_more fs n h = rw add-one (at_suc fs n h)
  where
    at_suc : (fs : List Field) (n : ℕ) → n < length fs → map (values_of no_members) (take (suc n) fs) ≡ map (values_of no_members) (take n fs) ++ [] ∷ []
    at_suc [] n h = absurd (omega arith)
    at_suc (f ∷ fs) zero h = refl
    at_suc (f ∷ fs) (suc n) h = ap (λ ks. [] ∷ ks) (at_suc fs n (omega arith))
