-- Proofs, which no reader needs to believe: the laws of the comparisons of texts, of lists of texts and of keys.
-- Of each of the three, `-same` says that what the test finds equal is one value, `-refl` that a value equals itself,
-- `-Decides` both, and `_total`, `_equiv`, `_po` and `_ties` are the laws of the traits.
use Rattle.std.specs.Prelude.{◌≡◌, ℕ, ℤ, List, [], Bool, true, false, pos, Decides, Some, refl}
use Rattle.std.specs.Ordering.{nat_cmp, int_cmp, bool_cmp, ordering_then, then_cmp, on, eq_by_cmp, is_eq}
use Rattle.std.specs.declared.cmp.Ordering.{Ordering}
use Rattle.std.specs.declared.cmp.Ordering.TheVariants.{Less, Equal, Greater}
use Rattle.std.specs.Cmp.{IsEquivalence, IsTotalOrder, IsPartialOrder, then_total, on_total, nat_cmp_total, int_cmp_total, bool_cmp_total, eq_by_cmp_equiv, signed_Decides, po, tied_itself}
use Rattle.std.specs.Cmp.Lexicographic.{lists_total, lists_equiv, lists_ties, nat_list_cmp_total, nat_list_eq_equiv, texts_ties, pointwise_decides, bytes_decides}
use mathlib.Core.Path.{ap, subst, ◌∙◌, sym}
use mathlib.Core.Bool.{beq, true≢false}
use Rattle.field_schema.specs.declared.key.Key.{Key}
use Rattle.field_schema.specs.declared.key.Key.TheVariants.{Str, Long, Bool as Truth, Token}
use Rattle.field_schema.specs.Bytes.{bytes_eq, bytes_cmp, texts_eq, texts_cmp}
use Rattle.field_schema.specs.Keys.{kind_place, key_eq, key_cmp, key_partial_cmp}

-- ---- texts

pub bytes_eq-Decides : (s t : List ℕ) → Decides (bytes_eq s t) (s ≡ t)
bytes_eq-Decides = bytes_decides

pub bytes_eq-same : (s t : List ℕ) → bytes_eq s t ≡ true → s ≡ t
bytes_eq-same s t = (bytes_decides s t).0

pub bytes_eq-refl : (s : List ℕ) → bytes_eq s s ≡ true
bytes_eq-refl s = (bytes_decides s s).1 refl

pub bytes_cmp-refl : (s : List ℕ) → bytes_cmp s s ≡ Equal
bytes_cmp-refl s = tied_itself nat_list_cmp_total s

pub bytes_cmp-same : (s t : List ℕ) → bytes_cmp s t ≡ Equal → s ≡ t
bytes_cmp-same s t h = bytes_eq-same s t (texts_ties s t ∙ ap is_eq h)

-- ---- lists of texts

pub texts_eq-Decides : (s t : List (List ℕ)) → Decides (texts_eq s t) (s ≡ t)
texts_eq-Decides = pointwise_decides bytes_decides

pub texts_eq-same : (s t : List (List ℕ)) → texts_eq s t ≡ true → s ≡ t
texts_eq-same s t = (texts_eq-Decides s t).0

pub texts_eq-refl : (s : List (List ℕ)) → texts_eq s s ≡ true
texts_eq-refl s = (texts_eq-Decides s s).1 refl

pub texts_eq_equiv : IsEquivalence texts_eq
texts_eq_equiv = lists_equiv nat_list_eq_equiv

pub texts_cmp_total : IsTotalOrder texts_cmp
texts_cmp_total = lists_total nat_list_cmp_total

pub texts_cmp_ties : (s t : List (List ℕ)) → texts_eq s t ≡ eq_by_cmp texts_cmp s t
texts_cmp_ties = lists_ties bytes_cmp texts_ties

pub texts_cmp-refl : (s : List (List ℕ)) → texts_cmp s s ≡ Equal
texts_cmp-refl s = tied_itself texts_cmp_total s

pub texts_cmp-same : (s t : List (List ℕ)) → texts_cmp s t ≡ Equal → s ≡ t
texts_cmp-same s t h = texts_eq-same s t (texts_cmp_ties s t ∙ ap is_eq h)

pub texts_cmp_po : IsPartialOrder texts_eq (λ s t. Some (texts_cmp s t))
texts_cmp_po = po texts_cmp_total texts_cmp_ties

-- ---- keys

key_text : Key → List ℕ
key_text (Str text) = text
key_text (Long number) = []
key_text (Truth truth) = []
key_text (Token text) = text

key_number : Key → ℤ
key_number (Str text) = pos 0
key_number (Long number) = number
key_number (Truth truth) = pos 0
key_number (Token text) = pos 0

key_truth : Key → Bool
key_truth (Str text) = false
key_truth (Long number) = false
key_truth (Truth truth) = truth
key_truth (Token text) = false

-- the kind, then the text, then the number, then the truth value
abbrev by_parts : Key → Key → Ordering
by_parts = then_cmp (on kind_place nat_cmp) (then_cmp (on key_text bytes_cmp) (then_cmp (on key_number int_cmp) (on key_truth bool_cmp)))

by_parts_total : IsTotalOrder by_parts
by_parts_total = then_total (on_total kind_place nat_cmp_total) (then_total (on_total key_text nat_list_cmp_total) (then_total (on_total key_number int_cmp_total) (on_total key_truth bool_cmp_total)))

then_Equal : (o : Ordering) → ordering_then o Equal ≡ o
then_Equal Less = refl
then_Equal Equal = refl
then_Equal Greater = refl

by_parts-is : (x y : Key) → by_parts x y ≡ key_cmp x y
unfolding key_text key_number key_truth
by_parts-is (Str s) (Str t) = then_Equal (bytes_cmp s t)
by_parts-is (Str s) (Long n) = refl
by_parts-is (Str s) (Truth b) = refl
by_parts-is (Str s) (Token t) = refl
by_parts-is (Long m) (Str t) = refl
by_parts-is (Long m) (Long n) = then_Equal (int_cmp m n)
by_parts-is (Long m) (Truth b) = refl
by_parts-is (Long m) (Token t) = refl
by_parts-is (Truth a) (Str t) = refl
by_parts-is (Truth a) (Long n) = refl
by_parts-is (Truth a) (Truth b) = refl
by_parts-is (Truth a) (Token t) = refl
by_parts-is (Token s) (Str t) = refl
by_parts-is (Token s) (Long n) = refl
by_parts-is (Token s) (Truth b) = refl
by_parts-is (Token s) (Token t) = then_Equal (bytes_cmp s t)

pub key_cmp_total : IsTotalOrder key_cmp
key_cmp_total = subst IsTotalOrder (λ i x y. by_parts-is x y i) by_parts_total

truth_ties : (a b : Bool) → beq a b ≡ eq_by_cmp bool_cmp a b
truth_ties false false = refl
truth_ties false true = refl
truth_ties true false = refl
truth_ties true true = refl

pub key_cmp_ties : (x y : Key) → key_eq x y ≡ eq_by_cmp key_cmp x y
key_cmp_ties (Str s) (Str t) = texts_ties s t
key_cmp_ties (Str s) (Long n) = refl
key_cmp_ties (Str s) (Truth b) = refl
key_cmp_ties (Str s) (Token t) = refl
key_cmp_ties (Long m) (Str t) = refl
key_cmp_ties (Long m) (Long n) = refl
key_cmp_ties (Long m) (Truth b) = refl
key_cmp_ties (Long m) (Token t) = refl
key_cmp_ties (Truth a) (Str t) = refl
key_cmp_ties (Truth a) (Long n) = refl
key_cmp_ties (Truth a) (Truth b) = truth_ties a b
key_cmp_ties (Truth a) (Token t) = refl
key_cmp_ties (Token s) (Str t) = refl
key_cmp_ties (Token s) (Long n) = refl
key_cmp_ties (Token s) (Truth b) = refl
key_cmp_ties (Token s) (Token t) = texts_ties s t

pub key_eq_equiv : IsEquivalence key_eq
key_eq_equiv = subst IsEquivalence (λ i x y. sym (key_cmp_ties x y) i) (eq_by_cmp_equiv key_cmp_total)

pub key_cmp_po : IsPartialOrder key_eq key_partial_cmp
key_cmp_po = po key_cmp_total key_cmp_ties

pub key_eq-refl : (x : Key) → key_eq x x ≡ true
key_eq-refl x = key_eq_equiv.refl x

-- equal keys are one value
pub key_eq-same : (x y : Key) → key_eq x y ≡ true → x ≡ y
key_eq-same (Str s) (Str t) h = ap Str (bytes_eq-same s t h)
key_eq-same (Long m) (Long n) h = ap Long ((signed_Decides m n).0 h)
key_eq-same (Truth false) (Truth false) h = refl
key_eq-same (Truth true) (Truth true) h = refl
key_eq-same (Truth false) (Truth true) h = absurd (true≢false (sym h))
key_eq-same (Truth true) (Truth false) h = absurd (true≢false (sym h))
key_eq-same (Token s) (Token t) h = ap Token (bytes_eq-same s t h)
key_eq-same x y h = absurd (true≢false (sym h))

pub key_eq-Decides : (x y : Key) → Decides (key_eq x y) (x ≡ y)
key_eq-Decides x y = (key_eq-same x y, λ e. subst (λ k. key_eq x k ≡ true) e (key_eq-refl x))

-- keys that the order does not tell apart are one value
pub key_cmp-same : (x y : Key) → key_cmp x y ≡ Equal → x ≡ y
key_cmp-same x y h = key_eq-same x y (key_cmp_ties x y ∙ ap is_eq h)

pub key_cmp-refl : (x : Key) → key_cmp x x ≡ Equal
key_cmp-refl x = tied_itself key_cmp_total x
