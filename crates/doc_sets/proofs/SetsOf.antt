-- The sets of ascending lists.
use Rattle.std.proofs.Common.{◌≡◌, ℕ, suc, ◌+◌, Bool, true, false, cond, not, ◌&&◌, ◌||◌, List, [], ◌∷◌, length, filter, refl, sym, ap, subst, ◌∙◌, arith}
use Rattle.std.specs.Ordering.{nat_cmp}
use Rattle.std.specs.Cmp.{nat_cmp_total}
use Rattle.std.specs.FinSet.{contains, len, from_list, union, intersection, difference, contains-from_list_nat, contains-union, contains-intersection, contains-difference, len-empty, len-insert, same_set, nat_cmp-IsAntisymmetric}
use Rattle.doc_sets.specs.Sets.{Numbers, members_below, members, AreDocuments, is_in, Rises, IsAscending}
use Rattle.doc_sets.specs.BitRows.{has_bit, numbers_of}
use Rattle.doc_sets.specs.declared.TheConstants.{MAX_DOCS}
use Rattle.doc_sets.proofs.Rising.{is_in-below, is_in-within, is_in-filter, is_in-filter-range, Rises-filter, Rises-filter-range, same_rising}
use Rattle.doc_sets.proofs.Bits.{is_in-numbers_of}

-- a set's answer is the list's
pub contains_of : (xs : List ℕ) (n : ℕ) → contains (from_list {R = nat_cmp} xs) n ≡ is_in xs n
contains_of xs n = contains-from_list_nat xs n

pub len_of : (low high : ℕ) (xs : List ℕ) → Rises low high xs → len (from_list {R = nat_cmp} xs) ≡ length xs
len_of low high [] r = len-empty nat_cmp
len_of low high (x ∷ xs) r =
    let s : Numbers = from_list xs in
    let new : contains s x ≡ false = contains_of xs x ∙ is_in-below (suc x) high xs x r.2 (omega arith) in
    let rest = len_of (suc x) high xs r.2 in
    len-insert nat_cmp_total s x ∙ ap (λ b. cond b (len s) (len s + 1)) new ∙ omega (arith, rest)

pub documents_of : (xs : List ℕ) → IsAscending xs → AreDocuments (from_list xs)
documents_of xs r n e = (is_in-within 0 MAX_DOCS xs n r (sym (contains_of xs n) ∙ e)).1

members_of_below : (limit : ℕ) (xs : List ℕ) → Rises 0 limit xs → members_below limit (from_list xs) ≡ xs
unfolding members_below
members_of_below limit xs r =
    let s : Numbers = from_list xs in
    same_rising 0 limit _ xs (Rises-filter-range (contains s) limit) r
    (λ n. is_in-filter-range (contains s) limit n (λ e. (is_in-within 0 limit xs n r (sym (contains_of xs n) ∙ e)).1) ∙ contains_of xs n)

pub members_of : (xs : List ℕ) → IsAscending xs → members (from_list xs) ≡ xs
members_of xs r = members_of_below MAX_DOCS xs r

-- two lists with the same numbers have one set
pub same_numbers : (xs ys : List ℕ) → ((n : ℕ) → is_in xs n ≡ is_in ys n) → from_list {R = nat_cmp} xs ≡ from_list ys
same_numbers xs ys same = same_set nat_cmp_total nat_cmp-IsAntisymmetric _ _ (λ n. contains_of xs n ∙ same n ∙ sym (contains_of ys n))

-- a row and a list, or two rows, with the same numbers have one set
pub row_of_list : (words xs : List ℕ) → ((n : ℕ) → has_bit words n ≡ is_in xs n) → from_list {R = nat_cmp} (numbers_of words) ≡ from_list xs
row_of_list words xs same = same_numbers (numbers_of words) xs (λ n. is_in-numbers_of words n ∙ same n)

pub row_of_row : (words others : List ℕ) → ((n : ℕ) → has_bit words n ≡ has_bit others n) → from_list {R = nat_cmp} (numbers_of words) ≡ from_list (numbers_of others)
row_of_row words others same = same_numbers (numbers_of words) (numbers_of others) (λ n. is_in-numbers_of words n ∙ same n ∙ sym (is_in-numbers_of others n))

-- a list of the numbers that pass two tests, of which the sets' members are those that pass one
pub and_of : (s t : Numbers) (p q : ℕ → Bool) (v : List ℕ) → ((n : ℕ) → contains s n ≡ p n) → ((n : ℕ) → contains t n ≡ q n) → ((n : ℕ) → is_in v n ≡ (p n && q n)) → from_list v ≡ intersection s t
and_of s t p q v first second same = same_set nat_cmp_total nat_cmp-IsAntisymmetric _ _ (λ n.
    contains_of v n ∙ same n ∙ sym (contains-intersection nat_cmp_total s t n ∙ (λ i. first n i && second n i)))

pub or_of : (s t : Numbers) (p q : ℕ → Bool) (v : List ℕ) → ((n : ℕ) → contains s n ≡ p n) → ((n : ℕ) → contains t n ≡ q n) → ((n : ℕ) → is_in v n ≡ (p n || q n)) → from_list v ≡ union s t
or_of s t p q v first second same = same_set nat_cmp_total nat_cmp-IsAntisymmetric _ _ (λ n.
    contains_of v n ∙ same n ∙ sym (contains-union nat_cmp_total s t n ∙ (λ i. first n i || second n i)))

pub minus_of : (s t : Numbers) (p q : ℕ → Bool) (v : List ℕ) → ((n : ℕ) → contains s n ≡ p n) → ((n : ℕ) → contains t n ≡ q n) → ((n : ℕ) → is_in v n ≡ (p n && not (q n))) → from_list v ≡ difference s t
minus_of s t p q v first second same = same_set nat_cmp_total nat_cmp-IsAntisymmetric _ _ (λ n.
    contains_of v n ∙ same n ∙ sym (contains-difference nat_cmp_total s t n ∙ (λ i. first n i && not (second n i))))

pub and_swap : (a b : Bool) → (a && b) ≡ (b && a)
and_swap true true = refl
and_swap true false = refl
and_swap false true = refl
and_swap false false = refl

pub or_swap : (a b : Bool) → (a || b) ≡ (b || a)
or_swap true true = refl
or_swap true false = refl
or_swap false true = refl
or_swap false false = refl

-- a filtered list has what passes
pub filtered : (p : ℕ → Bool) (xs v : List ℕ) → v ≡ filter p xs → (n : ℕ) → is_in v n ≡ (is_in xs n && p n)
filtered p xs v e n = ap (λ ys. is_in ys n) e ∙ is_in-filter p xs n

pub filtered_rises : (p : ℕ → Bool) (xs v : List ℕ) → v ≡ filter p xs → IsAscending xs → IsAscending v
filtered_rises p xs v e r = subst IsAscending (sym e) (Rises-filter p 0 MAX_DOCS xs r)
