-- What the form of a set tells of the set.
use Rattle.std.proofs.Common.{◌≡◌, ℕ, Bool, List, Vec, length, refl, sym, ap, subst, ◌∙◌}
use Rattle.std.specs.FinSet.{contains, len}
use Rattle.doc_sets.specs.Sets.{Numbers, members, AreDocuments, IsAscending, is_in}
use Rattle.doc_sets.specs.Forms.{numbers_in, set_of, IsForm}
use Rattle.doc_sets.specs.declared.doc_set.Form.{Form}
use Rattle.doc_sets.specs.declared.doc_set.Form.TheVariants.{Listed, Bits}
use Rattle.doc_sets.specs.declared.TheConstants.{MAX_DOCS}
use Rattle.doc_sets.proofs.SetsOf.{contains_of, len_of, members_of, documents_of}
use Rattle.std.specs.declared.alloc.Global.{Global}
use Rattle.doc_sets.specs.BitRows.{has_bit, numbers_of}
use Rattle.doc_sets.proofs.Bits.{ascending-numbers_of, is_in-numbers_of}

-- the numbers of either form ascend
pub ascending : (form : Form) → IsForm form → IsAscending (numbers_in form)
ascending (Listed numbers) h = h
ascending (Bits words) h = ascending-numbers_of words.items h

pub members_in : (form : Form) (s : Numbers) → IsForm form → set_of form ≡ s → members s ≡ numbers_in form
members_in form s h e = sym (ap members e) ∙ members_of (numbers_in form) (ascending form h)

pub len_in : (form : Form) (s : Numbers) → IsForm form → set_of form ≡ s → len s ≡ length (numbers_in form)
len_in form s h e = sym (ap len e) ∙ len_of 0 MAX_DOCS (numbers_in form) (ascending form h)

pub documents_in : (form : Form) (s : Numbers) → IsForm form → set_of form ≡ s → AreDocuments s
documents_in form s h e n has = documents_of (numbers_in form) (ascending form h) n (ap (λ t. contains t n) e ∙ has)

pub contains_in : (form : Form) (s : Numbers) (n : ℕ) → set_of form ≡ s → contains s n ≡ is_in (numbers_in form) n
contains_in form s n e = sym (ap (λ t. contains t n) e) ∙ contains_of (numbers_in form) n

-- a list's answer, and a row's, are the set's
pub listed_answer : (form : Form) (s : Numbers) (numbers : Vec ℕ Global) (seen : List ℕ) (n : ℕ) (r : Bool) → set_of form ≡ s → form ≡ Listed numbers → seen ≡ numbers.items → r ≡ is_in seen n → r ≡ contains s n
listed_answer form s numbers seen n r view is same e = e ∙ ap (λ xs. is_in xs n) (same ∙ sym (ap numbers_in is)) ∙ sym (contains_in form s n view)

pub row_answer : (form : Form) (s : Numbers) (words : Vec ℕ Global) (seen : List ℕ) (n : ℕ) (r : Bool) → set_of form ≡ s → form ≡ Bits words → seen ≡ words.items → r ≡ has_bit seen n → r ≡ contains s n
row_answer form s words seen n r view is same e =
    e ∙ ap (λ ws. has_bit ws n) same ∙ sym (is_in-numbers_of words.items n) ∙ ap (λ xs. is_in xs n) (sym (ap numbers_in is)) ∙ sym (contains_in form s n view)

-- what the walks go along
pub listed_members : (form : Form) (s : Numbers) (numbers : Vec ℕ Global) (seen r : List ℕ) → IsForm form → set_of form ≡ s → form ≡ Listed numbers → seen ≡ numbers.items → r ≡ seen → r ≡ members s
listed_members form s numbers seen r h view is same e = e ∙ same ∙ sym (ap numbers_in is) ∙ sym (members_in form s h view)

pub row_members : (form : Form) (s : Numbers) (words : Vec ℕ Global) (seen r : List ℕ) → IsForm form → set_of form ≡ s → form ≡ Bits words → seen ≡ words.items → r ≡ numbers_of seen → r ≡ members s
row_members form s words seen r h view is same e = e ∙ ap numbers_of same ∙ sym (ap numbers_in is) ∙ sym (members_in form s h view)

-- what a form that is lent tells
pub listed_rises : (form : Form) (numbers : Vec ℕ Global) (seen : List ℕ) → IsForm form → form ≡ Listed numbers → seen ≡ numbers.items → IsAscending seen
listed_rises form numbers seen h is same = subst IsAscending (sym same) (subst IsForm is h)

pub listed_holds : (form : Form) (s : Numbers) (numbers : Vec ℕ Global) (seen : List ℕ) → set_of form ≡ s → form ≡ Listed numbers → seen ≡ numbers.items → (n : ℕ) → contains s n ≡ is_in seen n
listed_holds form s numbers seen view is same n = sym (listed_answer form s numbers seen n _ view is same refl)

pub row_holds : (form : Form) (s : Numbers) (words : Vec ℕ Global) (seen : List ℕ) → set_of form ≡ s → form ≡ Bits words → seen ≡ words.items → (n : ℕ) → contains s n ≡ has_bit seen n
row_holds form s words seen view is same n = sym (row_answer form s words seen n _ view is same refl)
