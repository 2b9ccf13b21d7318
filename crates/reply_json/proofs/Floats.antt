-- Documents have no floats.
use Rattle.std.proofs.Common.{◌≡◌, refl, ap, sym, ◌∙◌, ℕ, List, [], ◌∷◌, Bool, true, false, ◌||◌, cond, ℤ, pos, negsuc, map}
use Rattle.std.proofs.lemmas.Bool.{false≢true}
use Rattle.std.specs.Ordering.{nat_cmp, match_ordering}
use Rattle.std.specs.declared.cmp.Ordering.TheVariants.{Less, Equal, Greater}
use Rattle.std.specs.Cmp.Lexicographic.{slice_cmp}
use Rattle.serde_json.specs.Data.{Data, Members, no_members, member, put, array}
use Rattle.serde_json.specs.Find.{of_integer, is_float}
use Rattle.serde_json.specs.View.{items_of}
use Rattle.serde_json.specs.Written.{has_float, items_have_float, members_have_float}
use Rattle.field_schema.specs.declared.field.Field.{Field}
use Rattle.field_schema.specs.declared.field.FieldList.{FieldList}
use Rattle.field_schema.specs.declared.key.Key.{Key}
use Rattle.field_schema.specs.declared.key.Key.TheVariants as key
use Rattle.field_schema.specs.Schema.{Fields}
use Rattle.doc_model.specs.Document.{Document}
use Rattle.doc_model.specs.DocJson.{value_data, values_data, first_data, field_data, is_shown, doc_members, doc_data}
use Rattle.search_model.specs.Reply.{docs_items, found_object}
use Rattle.std.specs.Arc.{arc_value}
use Rattle.reply_json.specs.Answers.{answer_data}
use Rattle.reply_json.specs.declared.replies.Answer.{Answer}
use Rattle.reply_json.specs.declared.replies.Answer.TheVariants.{Found, Accepted, BadDoc, BadRequest, NoMemory}

or_false : (a b : Bool) → a ≡ false → b ≡ false → (a || b) ≡ false
or_false a b p q = ap (λ x. x || b) p ∙ q

first_false : (a b : Bool) → (a || b) ≡ false → a ≡ false
first_false true b h = h
first_false false b h = refl

second_false : (a b : Bool) → (a || b) ≡ false → b ≡ false
second_false true b h = absurd (false≢true (sym h))
second_false false b h = h

whole_put : (k : List ℕ) (d : Data) (ms : Members) → has_float d ≡ false → members_have_float ms ≡ false → members_have_float (put k d ms) ≡ false
whole_put k d no_members p q = or_false (has_float d) false p refl
whole_put k d (member l e ms) p q =
    elim (slice_cmp nat_cmp k l) as (λ o. members_have_float (match_ordering o (member k d (member l e ms)) (member l d ms) (member l e (put k d ms))) ≡ false) [
      | Less ↦ or_false (has_float d) (members_have_float (member l e ms)) p q
      | Equal ↦ or_false (has_float d) (members_have_float ms) p (second_false (has_float e) (members_have_float ms) q)
      | Greater ↦ or_false (has_float e) (members_have_float (put k d ms)) (first_false (has_float e) (members_have_float ms) q) (whole_put k d ms p (second_false (has_float e) (members_have_float ms) q))
    ]

whole_number : (z : ℤ) → is_float (of_integer z) ≡ false
whole_number (pos n) = refl
whole_number (negsuc n) = refl

whole_key : (k : Key) → has_float (value_data k) ≡ false
whole_key (key.Str text) = refl
whole_key (key.Long z) = whole_number z
whole_key (key.Bool b) = refl
whole_key (key.Token text) = refl

whole_keys : (ks : List Key) → items_have_float (values_data ks) ≡ false
whole_keys [] = refl
whole_keys (k ∷ ks) = or_false (has_float (value_data k)) (items_have_float (values_data ks)) (whole_key k) (whole_keys ks)

whole_first : (ks : List Key) → has_float (first_data ks) ≡ false
whole_first [] = refl
whole_first (k ∷ ks) = whole_key k

whole_field : (f : Field) (ks : List Key) → has_float (field_data f ks) ≡ false
whole_field f ks = elim f.multi as (λ b. has_float (cond b (array (values_data ks)) (first_data ks)) ≡ false) [ true ↦ whole_keys ks | false ↦ whole_first ks ]

whole_members : (l : FieldList) (fs : List Field) (d : List (List Key)) → members_have_float (doc_members l fs d) ≡ false
whole_members l [] d = refl
whole_members l (f ∷ fs) [] = refl
whole_members l (f ∷ fs) (ks ∷ d) =
    elim (is_shown l f ks) as (λ b. members_have_float (cond b (put f.name (field_data f ks) (doc_members l fs d)) (doc_members l fs d)) ≡ false) [
      | true ↦ whole_put f.name (field_data f ks) (doc_members l fs d) (whole_field f ks) (whole_members l fs d)
      | false ↦ whole_members l fs d
    ]

whole_docs : (s : Fields) (l : FieldList) (ds : List Document) → has_float (docs_items s l ds) ≡ false
whole_docs s l [] = refl
whole_docs s l (d ∷ ds) = or_false (members_have_float (doc_members l s.list d.values)) (items_have_float (items_of (map (doc_data s l) ds))) (whole_members l s.list d.values) (whole_docs s l ds)

whole_found : (docs : Data) (n start : ℕ) → has_float docs ≡ false → has_float (found_object docs n start) ≡ false
whole_found docs n start h = rw h

-- no reply has one
pub whole_answer : (s : Fields) (l : FieldList) (a : Answer) → has_float (answer_data s l a) ≡ false
whole_answer s l (Found found start docs) = whole_found (docs_items s l (map arc_value docs.items)) found start (whole_docs s l (map arc_value docs.items))
whole_answer s l Accepted = refl
whole_answer s l (BadDoc fault) = refl
whole_answer s l (BadRequest fault) = refl
whole_answer s l NoMemory = refl
