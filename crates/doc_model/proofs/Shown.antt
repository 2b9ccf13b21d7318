-- The members of a document, from the last field to the first.
use Rattle.std.proofs.Common.{◌≡◌, ℕ, zero, suc, ◌<◌, Bool, true, false, cond, ◌&&◌, List, [], ◌∷◌, length, drop, Some, None, refl, sym, arith}
use Rattle.std.specs.Prelude.{slice_index_or, slice_get}
use Rattle.serde_json.specs.Data.{Members, no_members, put}
use Rattle.field_schema.specs.declared.field.Field.{Field}
use Rattle.field_schema.specs.declared.field.FieldList.{FieldList}
use Rattle.field_schema.specs.declared.key.Key.{Key}
use Rattle.doc_model.specs.DocJson.{field_data, is_shown, doc_members}

-- ms with the member of a field, where it is shown
abbrev pub with_field : FieldList → Field → List Key → Members → Members
with_field fields f values ms = cond (is_shown fields f values) (put f.name (field_data f values) ms) ms

not_shown : (a b : Bool) (x y : Members) → cond (a && b && false) x y ≡ y
not_shown true true x y = refl
not_shown true false x y = refl
not_shown false true x y = refl
not_shown false false x y = refl

nothing_left : (n : ℕ) → let d : List (List Key) = [] in drop n d ≡ d
nothing_left zero = refl
nothing_left (suc n) = refl

without_document : (fields : FieldList) (fs : List Field) (n : ℕ) → doc_members fields fs (drop n []) ≡ no_members
without_document fields [] n = refl
without_document fields (f ∷ fs) n = rw (nothing_left n) refl

-- the members from a field on
pub members_from : (fields : FieldList) (fs : List Field) (d : List (List Key)) (n : ℕ) (f : Field) → slice_get fs n ≡ Some f
    → doc_members fields (drop n fs) (drop n d) ≡ with_field fields f (slice_index_or d n []) (doc_members fields (drop (suc n) fs) (drop (suc n) d))
members_from fields [] d n f h = cc
members_from fields (g ∷ fs) [] n f h = rw (without_document fields (drop n (g ∷ fs)) n, without_document fields (drop n fs) (suc n)) (sym (not_shown f.stored _ _ _))
members_from fields (g ∷ fs) (values ∷ d) zero f h = let same : g ≡ f = cc in rw same refl
members_from fields (g ∷ fs) (values ∷ d) (suc n) f h = members_from fields fs d n f h

-- a place before the end has a field
pub is_there : (fs : List Field) (n : ℕ) → n < length fs → None ≡ slice_get fs n → ⊥
is_there [] n h e = omega arith
is_there (f ∷ fs) zero h e = cc
is_there (f ∷ fs) (suc n) h e = is_there fs n (omega arith) e
