-- An indexed field of a schema is found by its name.
use Rattle.std.proofs.Common.{◌≡◌, ◌<◌, ◌∷◌, [], ℕ, zero, suc, List, Bool, true, false, not, Option, None, Some, length, refl, ap, sym, subst, ◌∙◌, arith, get_or}
use Rattle.std.specs.Prelude.{unwrap_or, is_none, is_some, slice_get, option_and_then, if◌then◌else◌}
use Rattle.std.specs.List.{list_all, list_any}
use Rattle.std.proofs.lemmas.Bool.{and_parts, not-true, true≢false, false_from_ne_true}
use Rattle.std.proofs.lemmas.List.Folds.{list_any_at}
use Rattle.field_schema.specs.declared.field.Field.{Field}
use Rattle.field_schema.specs.Bytes.{bytes_eq}
use Rattle.field_schema.specs.Laws.{bytes_eq-same, bytes_eq-refl}
use Rattle.field_schema.specs.Names.{is_field_name}
use Rattle.field_schema.specs.Schema.{Fields, IsSchema, field_named, names_differ}
use Rattle.field_schema.proofs.Positions.{NoneBefore, position_at}
use Rattle.query_text.specs.Readings.{if_indexed, indexed}
use Rattle.query_text.specs.PrintLaws.{IsNamed}

-- a field that is got is one of the list
got : (fs : List Field) (f : ℕ) (x d : Field) → slice_get fs f ≡ Some x → (f < length fs) × (get_or fs f d ≡ x)
got [] f x d h = absurd (true≢false (ap is_none h))
got (y ∷ fs) zero x d h = (omega arith, ap (λ (o : Option Field). unwrap_or o d) h)
got (y ∷ fs) (suc f) x d h = let r : (f < length fs) × (get_or fs f d ≡ x) = got fs f x d h in (omega (arith, r.0), r.1)

all_at : (p : Field → Bool) (fs : List Field) (f : ℕ) (x : Field) → list_all p fs ≡ true → slice_get fs f ≡ Some x → p x ≡ true
all_at p [] f x a h = absurd (true≢false (ap is_none h))
all_at p (y ∷ fs) zero x a h = subst (λ (z : Field). p z ≡ true) (ap (λ (o : Option Field). unwrap_or o y) h) (and_parts _ _ a).0
all_at p (y ∷ fs) (suc f) x a h = all_at p fs f x (and_parts _ _ a).1 h

-- earlier fields have other names
earlier_differs : (fs : List Field) (k f : ℕ) (d : Field) → names_differ fs ≡ true → k < f → f < length fs → bytes_eq (get_or fs k d).name (get_or fs f d).name ≡ false
earlier_differs [] k f d h l m = absurd (omega arith)
earlier_differs (y ∷ fs) k zero d h l m = absurd (omega arith)
earlier_differs (y ∷ fs) zero (suc f) d h l m =
    let p = and_parts (not (list_any (λ g. bytes_eq g.name y.name) fs)) (names_differ fs) h in
    let n : list_any (λ g. bytes_eq g.name y.name) fs ≡ false = not-true _ p.0 in
    false_from_ne_true _
    (λ t. let e : y.name ≡ (get_or fs f d).name = bytes_eq-same _ _ t in
    let s : bytes_eq (get_or fs f d).name y.name ≡ true = subst (λ (t : List ℕ). bytes_eq t y.name ≡ true) e (bytes_eq-refl y.name) in
    absurd (true≢false (sym (list_any_at (λ g. bytes_eq g.name y.name) fs f d (omega arith) s) ∙ n)))
earlier_differs (y ∷ fs) (suc k) (suc f) d h l m = earlier_differs fs k f d (and_parts _ _ h).1 (omega arith) (omega arith)

module _ (s : Fields) (schema : IsSchema s) where
  named_at : (f : ℕ) (x : Field) → slice_get s.list f ≡ Some x → if_indexed s.list f ≡ Some f → IsNamed s.list f
  named_at f x e i =
      let r : (f < length s.list) × (get_or s.list f x ≡ x) = got s.list f x x e in
      let here : bytes_eq (get_or s.list f x).name x.name ≡ true = rw r.1 (bytes_eq-refl x.name) in
      let before : NoneBefore (λ g. bytes_eq g.name x.name) s.list f =
      record {
        fails = λ k d l. let q : (f < length s.list) × (get_or s.list f d ≡ x) = got s.list f x d e in
            subst (λ (z : Field). bytes_eq (get_or s.list k d).name z.name ≡ false) q.1 (earlier_differs s.list k f d schema.distinct l q.0);
      } in
      let found : field_named x.name s.list ≡ Some f = sym (position_at (λ g. bytes_eq g.name x.name) s.list f x r.0 before here) in
      record {
        name = rw e (all_at (λ g. is_field_name g.name) s.list f x schema.names e);
        found = rw (e, found) i;
      }

  same_field : (n f : ℕ) (x : Field) (b : Bool) → slice_get s.list n ≡ Some x → x.indexed ≡ b → (if b then Some n else None) ≡ Some f → IsNamed s.list f
  same_field n f x false e k h = absurd (true≢false (ap is_none h))
  same_field n f x true e k h =
      subst (IsNamed s.list) (ap (λ (o : Option ℕ). unwrap_or o n) h) (named_at n x e (rw (e, k) refl))

  got_named : (n f : ℕ) (o : Option Field) → slice_get s.list n ≡ o → option_and_then (λ (x : Field). if x.indexed then Some n else None) o ≡ Some f → IsNamed s.list f
  got_named n f None e h = absurd (true≢false (ap is_none h))
  got_named n f (Some x) e h = same_field n f x x.indexed e refl h

  -- an indexed field
  pub if_named : (n f : ℕ) → if_indexed s.list n ≡ Some f → IsNamed s.list f
  if_named n f h = got_named n f (slice_get s.list n) refl h

  default_by : (n : ℕ) (x : Field) (b : Bool) → slice_get s.list n ≡ Some x → x.indexed ≡ b → is_some (if b then Some n else None) ≡ true → IsNamed s.list n
  default_by n x false e k h = absurd (true≢false (sym h))
  default_by n x true e k h = named_at n x e (rw (e, k) refl)

  default_got : (n : ℕ) (o : Option Field) → slice_get s.list n ≡ o → is_some (option_and_then (λ (x : Field). if x.indexed then Some n else None) o) ≡ true → IsNamed s.list n
  default_got n None e h = absurd (true≢false (sym h))
  default_got n (Some x) e h = default_by n x x.indexed e refl h

  -- a default field
  pub default_named : (n : ℕ) → is_some (if_indexed s.list n) ≡ true → IsNamed s.list n
  default_named n h = default_got n (slice_get s.list n) refl h

  place_named : (o : Option ℕ) (f : ℕ) → option_and_then (if_indexed s.list) o ≡ Some f → IsNamed s.list f
  place_named None f h = absurd (true≢false (ap is_none h))
  place_named (Some n) f h = if_named n f h

  -- the indexed field of a name
  pub indexed_named : (text : List ℕ) (f : ℕ) → indexed text s.list ≡ Some f → IsNamed s.list f
  indexed_named text f h = place_named (field_named text s.list) f h
