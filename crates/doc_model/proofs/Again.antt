-- The JSON that a document shows of all its fields reads to the same document.
use Rattle.std.proofs.Common.{◌≡◌, ℕ, zero, suc, ◌+◌, ◌<◌, ◌≤◌, Bool, true, false, cond, not, ◌&&◌, ltb, List, [], ◌∷◌, ◌++◌, length, map, Option, Some, None, Ok, Err, option_and_then, option_map, unwrap_or, ℤ, pos, negsuc, refl, sym, ap, ap₂, ◌∙◌, subst, arith, IsTrue}
use Rattle.std.proofs.lemmas.Bool.{ltb-false}
use Rattle.std.specs.Prelude.{slice_get, slice_index_or, nat_lt}
use Rattle.std.specs.Option.{option_map_or}
use Rattle.std.specs.List.{list_all, list_any}
use Rattle.std.specs.Ordering.{nat_cmp, match_ordering}
use Rattle.std.specs.declared.cmp.Ordering.{Ordering}
use Rattle.std.specs.declared.cmp.Ordering.TheVariants.{Less, Equal, Greater}
use Rattle.std.specs.Cmp.Lexicographic.{slice_cmp}
use Rattle.std.specs.Str.{all_ascii_digits}
use Rattle.std.specs.Str.Parse.{without_leading_sign, signed_digits_value}
use Rattle.serde_json.specs.Data.{Num, Data, null, boolean, number, string, array, object, Members, no_members, member, put}
use Rattle.serde_json.specs.Find.{get_member, as_object, as_integer}
use Rattle.serde_json.specs.Read.{read}
use Rattle.serde_json.proofs.Views.{get_member-put, get_member-put_other}
use Rattle.field_schema.specs.declared.field.Field.{Field}
use Rattle.field_schema.specs.declared.field.FieldType.{FieldType}
use Rattle.field_schema.specs.declared.field.FieldType.TheVariants as kind
use Rattle.field_schema.specs.declared.field.FieldList.TheVariants as list
use Rattle.field_schema.specs.declared.key.Key.{Key}
use Rattle.field_schema.specs.declared.key.Key.TheVariants as key
use Rattle.field_schema.specs.Bytes.{bytes_eq}
use Rattle.field_schema.specs.Laws.{bytes_cmp-same}
use Rattle.field_schema.specs.Schema.{Fields, IsSchema, field_named, names_differ, can_be_key}
use Rattle.field_schema.specs.ReadSchema.{listed}
use Rattle.field_schema.specs.ValueTexts.{is_i64, long_text, begins_true, truth_text}
use Rattle.field_schema.proofs.Readers.{ok_told}
use Rattle.doc_model.specs.declared.doc.DocFault.{DocFault}
use Rattle.doc_model.specs.declared.doc.DocFault.TheVariants as fault
use Rattle.doc_model.specs.Document.{Document, with_id}
use Rattle.doc_model.specs.ReadDoc.{whole_text, long_value, text_value, number_value, truth_value, one_value, scalar_values, list_values, member_values, values_fault, member_fault, members_fault, has_no_value, lacks_id, values_of, object_doc, doc_of}
use Rattle.doc_model.specs.DocJson.{value_data, values_data, first_data, field_data, doc_members, doc_data}
use Rattle.doc_model.specs.DocLaws.{StoresAll, ShownReadsAgain}
use Rattle.doc_model.proofs.Members.{not_among, both}
use Rattle.doc_model.proofs.UniqueKey.{fault_at, field_at, few_values, keyed, key_there, key_values}

-- ---- one value

-- the value's JSON reads to the value in a field of the type
abbrev Again : FieldType → Key → Type 0
Again t k = scalar_values t (value_data k) ≡ Some (k ∷ [])

long_again : (z : ℤ) → is_i64 z ≡ true → Again kind.Long (key.Long z)
long_again (pos n) h = rw h refl
long_again (negsuc n) h = rw h refl

long_is : (z : ℤ) (b : Bool) (k : Key) → is_i64 z ≡ b → cond b (Some (key.Long z)) None ≡ Some k → Again kind.Long k
long_is z true k h e = let same : key.Long z ≡ k = cc in subst (Again kind.Long) same (long_again z h)
long_is z false k h e = cc

long_text_is : (a b c : Bool) (z : ℤ) (k : Key) → is_i64 z ≡ c → option_map key.Long (cond (a && b && c) (Some z) None) ≡ Some k → Again kind.Long k
long_text_is true true true z k h e = long_is z true k h e
long_text_is true true false z k h e = cc
long_text_is true false c z k h e = cc
long_text_is false b c z k h e = cc

text_again : (t : FieldType) (x : List ℕ) (k : Key) → text_value t x ≡ Some k → Again t k
text_again kind.Str x k e = let same : key.Str x ≡ k = cc in subst (Again kind.Str) same refl
text_again kind.Long x k e = long_text_is (nat_lt 0 (length (without_leading_sign x))) (all_ascii_digits (without_leading_sign x)) _ (signed_digits_value 10 x) k refl e
text_again kind.Bool x k e = let same : key.Bool (begins_true x) ≡ k = cc in subst (Again kind.Bool) same refl
text_again kind.Text x k e = let same : key.Token x ≡ k = cc in subst (Again kind.Text) same refl

mapped : (t : FieldType) (f : List ℕ → Key) (o : Option (List ℕ)) (k : Key) → ((x : List ℕ) → Again t (f x)) → option_map f o ≡ Some k → Again t k
mapped t f None k h e = cc
mapped t f (Some x) k h e = let same : f x ≡ k = cc in subst (Again t) same (h x)

whole_again : (o : Option ℤ) (k : Key) → option_and_then long_value o ≡ Some k → Again kind.Long k
whole_again None k e = cc
whole_again (Some z) k e = long_is z _ k refl e

number_again : (t : FieldType) (n : Num) (k : Key) → number_value t n ≡ Some k → Again t k
number_again kind.Str n k e = mapped kind.Str key.Str (whole_text n) k (λ x. refl) e
number_again kind.Long n k e = whole_again (as_integer n) k e
number_again kind.Bool n k e = mapped kind.Bool (λ x. key.Bool (begins_true x)) (whole_text n) k (λ x. refl) e
number_again kind.Text n k e = mapped kind.Text key.Token (whole_text n) k (λ x. refl) e

truth_again : (t : FieldType) (b : Bool) (k : Key) → truth_value t b ≡ Some k → Again t k
truth_again kind.Str b k e = let same : key.Str (truth_text b) ≡ k = cc in subst (Again kind.Str) same refl
truth_again kind.Long b k e = cc
truth_again kind.Bool b k e = let same : key.Bool b ≡ k = cc in subst (Again kind.Bool) same refl
truth_again kind.Text b k e = let same : key.Token (truth_text b) ≡ k = cc in subst (Again kind.Text) same refl

-- ---- the values of a member

abbrev AllAgain : FieldType → List Key → Type 0
AllAgain t [] = Unit {0}
AllAgain t (k ∷ ks) = Again t k × AllAgain t ks

append_again : (t : FieldType) (a b : List Key) → AllAgain t a → AllAgain t b → AllAgain t (a ++ b)
append_again t [] b p q = q
append_again t (k ∷ ks) b p q = (p.0, append_again t ks b p.1 q)

one_again : (t : FieldType) (o : Option Key) (vs : List Key) → ((k : Key) → o ≡ Some k → Again t k) → one_value o ≡ Some vs → AllAgain t vs
one_again t None vs h e = cc
one_again t (Some k) vs h e = let same : k ∷ [] ≡ vs = cc in subst (AllAgain t) same (h k refl, tt)

scalar_again : (t : FieldType) (d : Data) (vs : List Key) → scalar_values t d ≡ Some vs → AllAgain t vs
scalar_again t null vs e = let same : [] ≡ vs = cc in subst (AllAgain t) same tt
scalar_again t (boolean b) vs e = one_again t (truth_value t b) vs (truth_again t b) e
scalar_again t (number n) vs e = one_again t (number_value t n) vs (number_again t n) e
scalar_again t (string s) vs e = one_again t (text_value t s) vs (text_again t s) e
scalar_again t (array ds) vs e = cc
scalar_again t (object ms) vs e = cc

list_step : (t : FieldType) (first rest : Option (List Key)) (vs : List Key) → ((a : List Key) → first ≡ Some a → AllAgain t a) → ((b : List Key) → rest ≡ Some b → AllAgain t b)
    → option_and_then (λ a. option_map (λ b. a ++ b) rest) first ≡ Some vs → AllAgain t vs
list_step t None rest vs p q e = cc
list_step t (Some a) None vs p q e = cc
list_step t (Some a) (Some b) vs p q e = let same : a ++ b ≡ vs = cc in subst (AllAgain t) same (append_again t a b (p a refl) (q b refl))

list_again : (t : FieldType) (ds : List Data) (vs : List Key) → list_values t ds ≡ Some vs → AllAgain t vs
list_again t [] vs e = let same : [] ≡ vs = cc in subst (AllAgain t) same tt
list_again t (d ∷ ds) vs e = list_step t (scalar_values t d) (list_values t ds) vs (scalar_again t d) (list_again t ds) e

member_again : (t : FieldType) (d : Data) (vs : List Key) → member_values t d ≡ Some vs → AllAgain t vs
member_again t null vs e = scalar_again t null vs e
member_again t (boolean b) vs e = scalar_again t (boolean b) vs e
member_again t (number n) vs e = scalar_again t (number n) vs e
member_again t (string s) vs e = scalar_again t (string s) vs e
member_again t (array ds) vs e = list_again t (listed ds) vs e
member_again t (object ms) vs e = scalar_again t (object ms) vs e

lone_member : (t : FieldType) (k : Key) → member_values t (value_data k) ≡ scalar_values t (value_data k)
lone_member t (key.Str x) = refl
lone_member t (key.Long (pos n)) = refl
lone_member t (key.Long (negsuc n)) = refl
lone_member t (key.Bool b) = refl
lone_member t (key.Token x) = refl

listed_again : (t : FieldType) (vs : List Key) → AllAgain t vs → list_values t (listed (values_data vs)) ≡ Some vs
listed_again t [] h = refl
listed_again t (k ∷ ks) h = rw (h.0, listed_again t ks h.1) refl

-- some values, of which there is one at most where the field takes one
data_again : (m : Bool) (t : FieldType) (vs : List Key) → AllAgain t vs → nat_lt 0 (length vs) ≡ true → (m ≡ false → length vs ≤ 1)
    → member_values t (cond m (array (values_data vs)) (first_data vs)) ≡ Some vs
data_again true t vs h some few = listed_again t vs h
data_again false t [] h some few = cc
data_again false t (k ∷ []) h some few = lone_member t k ∙ h.0
data_again false t (k ∷ l ∷ ks) h some few = absurd (omega (arith, few refl))

-- ---- the members of a document

module _ (s : Fields) (ms : Members) (lawful : IsSchema s) (stored : StoresAll s) (fine : members_fault s.list ms ≡ None) where
  -- the values of a field
  abbrev vals : Field → List Key
  vals f = values_of ms f

  -- the JSON of a field that has values reads to them, without a fault
  record IsFine (f : Field) : Type 0 where
    reads : member_values f.kind (field_data f (vals f)) ≡ Some (vals f)
    faultless : member_fault s.list f.name (field_data f (vals f)) ≡ None

  abbrev HasSome : Field → Type 0
  HasSome f = nat_lt 0 (length (vals f)) ≡ true

  few : (m : Bool) (vs : List Key) (bad : DocFault) (rest : Option DocFault) → cond (not m && nat_lt 1 (length vs)) (Some bad) rest ≡ None → m ≡ false → length vs ≤ 1
  few m vs bad rest e single = few_values m _ (length vs) bad rest single refl e

  of_member : (f : Field) (o : Option (List Key)) → values_fault f o ≡ None → unwrap_or o [] ≡ vals f → ((vs : List Key) → o ≡ Some vs → AllAgain f.kind vs) → HasSome f
      → (member_values f.kind (field_data f (vals f)) ≡ Some (vals f)) × (values_fault f (Some (vals f)) ≡ None)
  of_member f None e same again some = cc
  of_member f (Some vs) e same again some =
      let is : vs ≡ vals f = same in
      let all = subst (AllAgain f.kind) is (again vs refl) in
      let ok = subst (λ (x : List Key). values_fault f (Some x) ≡ None) is e in
      (data_again f.multi f.kind (vals f) all some (few f.multi (vals f) _ _ ok), ok)

  none_read : (f : Field) (o : Option Data) → get_member f.name ms ≡ o → (o ≡ None → vals f ≡ [])
  none_read f o at none = ap (λ (x : Option Data). unwrap_or (option_and_then (member_values f.kind) x) []) (at ∙ none)

  fine_member : (f : Field) (i : ℕ) (o : Option Data) → slice_get s.list i ≡ Some f → get_member f.name ms ≡ o → HasSome f
      → (member_values f.kind (field_data f (vals f)) ≡ Some (vals f)) × (values_fault f (Some (vals f)) ≡ None)
  fine_member f i None here at some =
      let empty : vals f ≡ [] = none_read f None at refl in
      let no : false ≡ true = ap (λ (x : List Key). nat_lt 0 (length x)) (sym empty) ∙ some in
      cc
  fine_member f i (Some d) here at some =
      let told : values_fault f (member_values f.kind d) ≡ None = rw (field_at s.list i f lawful.distinct here, here) at (fault_at s.list f.name d ms fine at) in
      let same : unwrap_or (member_values f.kind d) [] ≡ vals f = ap (λ (x : Option Data). unwrap_or (option_and_then (member_values f.kind) x) []) (sym at) in
      of_member f (member_values f.kind d) told same (member_again f.kind d) some

  is_fine : (i : ℕ) (f : Field) → slice_get s.list i ≡ Some f → HasSome f → IsFine f
  is_fine i f here some =
      let parts = fine_member f i _ here refl some in
      record {
        reads = parts.0;
        faultless = rw (field_at s.list i f lawful.distinct here, here, parts.0) parts.1;
      }

  -- the members that some of the fields show
  abbrev out : List Field → Members
  out fs = doc_members list.All fs (map vals fs)

  shown : (f : Field) (fs : List Field) (b : Bool) → f.stored ≡ true → nat_lt 0 (length (vals f)) ≡ b → out (f ∷ fs) ≡ cond b (put f.name (field_data f (vals f)) (out fs)) (out fs)
  shown f fs b keep is = rw (keep, is) refl

  abbrev Kept : Field → List Field → Type 0
  Kept f fs = (f.stored ≡ true) × IsTrue (list_all (λ g. g.stored) fs)

  abbrev Apart : Field → List Field → Type 0
  Apart f fs = (not (list_any (λ g. bytes_eq g.name f.name) fs) ≡ true) × IsTrue (names_differ fs)

  stored_first : (f : Field) (fs : List Field) → IsTrue (list_all (λ g. g.stored) (f ∷ fs)) → Kept f fs
  stored_first f fs h = both f.stored _ h

  abbrev NoneNamed : List ℕ → List Field → Type 0
  NoneNamed name fs = (i : ℕ) (g : Field) → slice_get fs i ≡ Some g → (g.name ≡ name → ⊥)

  not_shown : (name : List ℕ) (fs : List Field) → IsTrue (list_all (λ g. g.stored) fs) → NoneNamed name fs → get_member name (out fs) ≡ None
  not_shown name [] keep other = refl
  not_shown name (g ∷ gs) keep other = by_test _ refl (not_shown name gs (stored_first g gs keep).1 (λ i h at. other (suc i) h at))
    where
      first : Kept g gs
      first = stored_first g gs keep

      by_test : (b : Bool) → nat_lt 0 (length (vals g)) ≡ b → get_member name (out gs) ≡ None → get_member name (out (g ∷ gs)) ≡ None
      by_test true is rest = ap (get_member name) (shown g gs true first.0 is) ∙ get_member-put_other name g.name _ (out gs) (λ e. other 0 g refl (sym e)) ∙ rest
      by_test false is rest = ap (get_member name) (shown g gs false first.0 is) ∙ rest

  -- the member of a field
  abbrev Holds : List Field → Field → Type 0
  Holds fs f = get_member f.name (out fs) ≡ cond (nat_lt 0 (length (vals f))) (Some (field_data f (vals f))) None

  holds : (fs : List Field) (i : ℕ) (f : Field) → IsTrue (list_all (λ g. g.stored) fs) → IsTrue (names_differ fs) → slice_get fs i ≡ Some f → Holds fs f
  holds [] i f keep apart here = cc
  holds (g ∷ gs) zero f keep apart here = subst (Holds (g ∷ gs)) same (by_test _ refl)
    where
      same : g ≡ f
      same = cc

      first : Kept g gs
      first = stored_first g gs keep

      parts : Apart g gs
      parts = both _ (names_differ gs) apart

      by_test : (b : Bool) → nat_lt 0 (length (vals g)) ≡ b → Holds (g ∷ gs) g
      by_test true is = ap (get_member g.name) (shown g gs true first.0 is) ∙ get_member-put g.name _ (out gs) ∙ sym (rw is refl)
      by_test false is =
          ap (get_member g.name) (shown g gs false first.0 is)
          ∙ not_shown g.name gs first.1 (λ i h at. not_among g.name gs i h parts.0 at)
          ∙ sym (rw is refl)
  holds (g ∷ gs) (suc i) f keep apart here = by_test _ refl (holds gs i f (stored_first g gs keep).1 (both _ (names_differ gs) apart).1 here)
    where
      first : Kept g gs
      first = stored_first g gs keep

      parts : Apart g gs
      parts = both _ (names_differ gs) apart

      by_test : (b : Bool) → nat_lt 0 (length (vals g)) ≡ b → Holds gs f → Holds (g ∷ gs) f
      by_test true is later =
          ap (get_member f.name) (shown g gs true first.0 is)
          ∙ get_member-put_other f.name g.name _ (out gs) (λ e. not_among g.name gs i f parts.0 here e)
          ∙ later
      by_test false is later = ap (get_member f.name) (shown g gs false first.0 is) ∙ later

  put_fine : (name : List ℕ) (d : Data) (rest : Members) → member_fault s.list name d ≡ None → members_fault s.list rest ≡ None → members_fault s.list (put name d rest) ≡ None
  put_fine name d no_members h none = rw h refl
  put_fine name d (member l e rest) h none =
      let parts : (member_fault s.list l e ≡ None) × (members_fault s.list rest ≡ None) = two_none _ _ none in
      by_order (slice_cmp nat_cmp name l) refl parts.0 parts.1 (put_fine name d rest h parts.1)
    where
      two_none : (o rest : Option DocFault) → option_map_or Some o rest ≡ None → (o ≡ None) × (rest ≡ None)
      two_none None rest e = (refl, e)
      two_none (Some x) rest e = cc

      by_order : (o : Ordering) → slice_cmp nat_cmp name l ≡ o → member_fault s.list l e ≡ None → members_fault s.list rest ≡ None → members_fault s.list (put name d rest) ≡ None
          → members_fault s.list (match_ordering o (member name d (member l e rest)) (member l d rest) (member l e (put name d rest))) ≡ None
      by_order Less is p q later = rw (h, p) q
      by_order Equal is p q later =
          let here : member_fault s.list l d ≡ None = subst (λ (x : List ℕ). member_fault s.list x d ≡ None) (bytes_cmp-same name l is) h in
          rw here q
      by_order Greater is p q later = rw p later

  all_fine : (fs : List Field) → ((i : ℕ) (f : Field) → slice_get fs i ≡ Some f → HasSome f → IsFine f) → IsTrue (list_all (λ g. g.stored) fs) → members_fault s.list (out fs) ≡ None
  all_fine [] each keep = refl
  all_fine (g ∷ gs) each keep = by_test _ refl (all_fine gs (λ i f at. each (suc i) f at) (stored_first g gs keep).1)
    where
      first : Kept g gs
      first = stored_first g gs keep

      by_test : (b : Bool) → nat_lt 0 (length (vals g)) ≡ b → members_fault s.list (out gs) ≡ None → members_fault s.list (out (g ∷ gs)) ≡ None
      by_test true is rest = ap (members_fault s.list) (shown g gs true first.0 is) ∙ put_fine g.name _ (out gs) ((each 0 g refl is).faultless) rest
      by_test false is rest = ap (members_fault s.list) (shown g gs false first.0 is) ∙ rest

  values_again : (i : ℕ) (f : Field) → slice_get s.list i ≡ Some f → values_of (out s.list) f ≡ vals f
  values_again i f here = by_test _ refl
    where
      at : Holds s.list f
      at = holds s.list i f stored lawful.distinct here

      empty : (vs : List Key) → nat_lt 0 (length vs) ≡ false → [] ≡ vs
      empty [] is = refl
      empty (k ∷ ks) is = absurd (omega (arith, ltb-false 0 (length (k ∷ ks)) is))

      by_test : (b : Bool) → nat_lt 0 (length (vals f)) ≡ b → values_of (out s.list) f ≡ vals f
      by_test true is =
          let held : get_member f.name (out s.list) ≡ Some (field_data f (vals f)) = at ∙ rw is refl in
          ap (λ (x : Option Data). unwrap_or (option_and_then (member_values f.kind) x) []) held ∙ ap (λ (x : Option (List Key)). unwrap_or x []) ((is_fine i f here is).reads)
      by_test false is =
          let held : get_member f.name (out s.list) ≡ None = at ∙ rw is refl in
          ap (λ (x : Option Data). unwrap_or (option_and_then (member_values f.kind) x) []) held ∙ empty (vals f) is

  all_again : (fs : List Field) → ((i : ℕ) (f : Field) → slice_get fs i ≡ Some f → values_of (out s.list) f ≡ vals f) → map (values_of (out s.list)) fs ≡ map vals fs
  all_again [] each = refl
  all_again (f ∷ fs) each = ap₂ (λ (k : List Key) ks. k ∷ ks) (each 0 f refl) (all_again fs (λ i g at. each (suc i) g at))

  module _ (some : lacks_id s ms ≡ false) where
    keeps_id : lacks_id s (out s.list) ≡ false
    keeps_id =
        let at = key_there _ lawful.key in
        let f = at.0 in
        let one = key_values s ms f lawful at.1 at.2 fine some in
        let single : f.multi ≡ false = (keyed f at.2).1 in
        let full : nat_lt 0 (length (vals f)) ≡ true = ap (λ (x : List Key). nat_lt 0 (length x)) one.1 in
        let held : get_member f.name (out s.list) ≡ Some (field_data f (vals f)) = holds s.list s.key f stored lawful.distinct at.1 ∙ rw full refl in
        let told : field_data f (vals f) ≡ string one.0 = rw single (ap first_data one.1) in
        rw (at.1, held, told) refl

    again : object_doc s (out s.list) ≡ Ok (with_id (map vals s.list) s.key)
    again =
        let whole : map (values_of (out s.list)) s.list ≡ map vals s.list = all_again s.list values_again in
        rw (keeps_id, all_fine s.list is_fine stored, whole) refl

-- ---- the law

of_object : (s : Fields) (ms : Members) (d : Document) → IsSchema s → StoresAll s → object_doc s ms ≡ Ok d → object_doc s (doc_members list.All s.list d.values) ≡ Ok d
of_object s ms d lawful stored read = by_test _ refl read
  where
    by_test : (b : Bool) → lacks_id s ms ≡ b → cond b (Err fault.NoId) (option_map_or Err (members_fault s.list ms) (Ok (with_id (map (values_of ms) s.list) s.key))) ≡ Ok d
        → object_doc s (doc_members list.All s.list d.values) ≡ Ok d
    by_test true lacks e = cc
    by_test false some e =
        let parts = ok_told _ (members_fault s.list ms) d e in
        subst (λ (x : Document). object_doc s (doc_members list.All s.list x.values) ≡ Ok x) parts.1 (again s ms lawful stored parts.0 some)

pub shown_reads_again : ShownReadsAgain
shown_reads_again s body d lawful stored read_to = by_object _ read_to
  where
    by_object : (o : Option Members) → option_map_or (object_doc s) o (Err fault.NotObject) ≡ Ok d → option_map (object_doc s) (as_object (doc_data s list.All d)) ≡ Some (Ok d)
    by_object None e = cc
    by_object (Some ms) e = ap Some (of_object s ms d lawful stored e)
