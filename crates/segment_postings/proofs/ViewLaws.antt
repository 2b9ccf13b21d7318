-- Numbered documents: their numbers, and what is added to them.
use Rattle.std.proofs.Common.{◌≡◌, ℕ, zero, suc, ◌+◌, ◌<◌, ◌≤◌, Bool, true, false, not, ◌&&◌, ◌||◌, cond, List, [], ◌∷◌, ◌++◌, length, get_or, map, filter, refl, sym, ap, subst, ◌∙◌, arith, All, inl, inr, ◌⊎◌, length-append}
use Rattle.std.specs.List.{enumerate_from, range_with_len}
use Rattle.std.specs.Ordering.{nat_cmp}
use Rattle.std.specs.List.Sorted.{IsStrictlyIncreasing}
use Rattle.std.specs.Cmp.{nat_cmp_total}
use Rattle.std.specs.FinSet.{contains, len, from_list, contains-from_list_nat, len-empty, empty_of_len, len-insert, same_set, empty, contains-empty, union, difference, contains-union, contains-difference, nat_cmp-IsAntisymmetric}
use Rattle.std.proofs.lemmas.List.{length-map, append-nil}
use Rattle.std.proofs.lemmas.List.Elements.{filter-append, All-append, All-cons, All-head, All-tail}
use Rattle.std.proofs.lemmas.List.Concat.{flat_map-append}
use Rattle.std.proofs.lemmas.Bool.{ne_eqb}
use Rattle.std.proofs.lemmas.Bool.Decides.{eqb_tells, leb_tells}
use Rattle.doc_model.specs.Document.{Document}
use Rattle.doc_sets.specs.Sets.{Numbers, Rises, is_in}
use Rattle.doc_sets.specs.declared.TheConstants.{MAX_DOCS}
use Rattle.segment_postings.specs.Numbered.{numbers, IsNumbered, extended}
use Rattle.segment_postings.specs.Segments.{Part, IsPart}
use Rattle.segment_postings.specs.Views.{all_docs, numbered, IsView, AddsNumbers, AddsPart}
use Rattle.segment_postings.proofs.KeyOrder.{filter_twice}

-- ---- the numbers

pub Rises-lower : (low from high : ℕ) (xs : List ℕ) → low ≤ from → Rises from high xs → Rises low high xs
Rises-lower low from high [] h r = tt
Rises-lower low from high (x ∷ xs) h r = (omega (arith, r.0), r.1, r.2)

kept : (ℕ → Bool) → ℕ → List Document → List ℕ
kept p n ds = map (λ e. e.0) (filter (λ e. p e.0) (enumerate_from n ds))

Rises-kept : (p : ℕ → Bool) (n high : ℕ) (ds : List Document) → n + length ds ≤ high → Rises n high (kept p n ds)
unfolding kept
Rises-kept p n high [] h = tt
Rises-kept p n high (d ∷ ds) h =
    let rest : Rises (n + 1) high (kept p (n + 1) ds) = Rises-kept p (n + 1) high ds (omega arith) in
    elim (p n) as (λ b. Rises n high (map (λ e. e.0) (cond b ((n, d) ∷ filter (λ e. p e.0) (enumerate_from (n + 1) ds)) (filter (λ e. p e.0) (enumerate_from (n + 1) ds))))) [
      | true ↦ (omega arith, omega arith, Rises-lower (suc n) (n + 1) high (kept p (n + 1) ds) (omega arith) rest)
      | false ↦ Rises-lower n (n + 1) high (kept p (n + 1) ds) (omega arith) rest
    ]

-- a number before or behind all is none of them
pub outside : (low high : ℕ) (xs : List ℕ) (q : ℕ) → Rises low high xs → (q < low) ⊎ (high ≤ q) → is_in xs q ≡ false
outside low high [] q r h = refl
outside low high (x ∷ xs) q r h =
    let apart : x ≡ q → ⊥ = λ e. elim h [ inl t ↦ omega (arith, r.0) | inr t ↦ omega (arith, r.1) ] in
    ap (λ b. b || is_in xs q) (ne_eqb x q apart) ∙ outside (suc x) high xs q r.2 (elim h [ inl t ↦ inl (omega (arith, r.0)) | inr t ↦ inr t ])

-- a number within is one where it is kept
inside : (p : ℕ → Bool) (n : ℕ) (ds : List Document) (q : ℕ) → n ≤ q → q < n + length ds → is_in (kept p n ds) q ≡ p q
unfolding kept
inside p n [] q low high = absurd (omega arith)
inside p n (d ∷ ds) q low high =
    elim (eqb_tells n q) [
      | inl t ↦
          let behind : is_in (kept p (n + 1) ds) q ≡ false = outside (n + 1) (n + 1 + length ds) (kept p (n + 1) ds) q (Rises-kept p (n + 1) (n + 1 + length ds) ds (omega arith)) (inl (omega (arith, t.1))) in
          (elim (p n) as (λ b. is_in (map (λ e. e.0) (cond b ((n, d) ∷ filter (λ e. p e.0) (enumerate_from (n + 1) ds)) (filter (λ e. p e.0) (enumerate_from (n + 1) ds)))) q ≡ b) [
            | true ↦ ap (λ b. b || is_in (kept p (n + 1) ds) q) t.0
            | false ↦ behind
          ]) ∙ ap p t.1
      | inr t ↦
          let later : is_in (kept p (n + 1) ds) q ≡ p q = inside p (n + 1) ds q (omega (arith, t.1)) (omega arith) in
          elim (p n) as (λ b. is_in (map (λ e. e.0) (cond b ((n, d) ∷ filter (λ e. p e.0) (enumerate_from (n + 1) ds)) (filter (λ e. p e.0) (enumerate_from (n + 1) ds)))) q ≡ p q) [
            | true ↦ ap (λ b. b || is_in (kept p (n + 1) ds) q) t.0 ∙ later
            | false ↦ later
          ]
    ]

false_from : (b : Bool) → (b ≡ true → ⊥) → b ≡ false
false_from true h = absurd (h refl)
false_from false h = refl

-- the numbers of live documents are the live numbers
pub is_in-numbers : (live : Numbers) (ds : List Document) → ((n : ℕ) → contains live n ≡ true → n < length ds) → (q : ℕ) → is_in (numbers (numbered live ds)) q ≡ contains live q
unfolding kept
is_in-numbers live ds within q = elim (leb_tells (length ds) q) [
  | inl t ↦
      outside 0 (length ds) (kept (contains live) 0 ds) q (Rises-kept (contains live) 0 (length ds) ds (omega arith)) (inr t.1)
      ∙ sym (false_from (contains live q) (λ e. let low : q < length ds = within q e in omega (arith, t.1)))
  | inr t ↦ inside (contains live) 0 ds q (omega arith) (omega (arith, t.1))
]

pub set_of_numbers : (live : Numbers) (ds : List Document) → ((n : ℕ) → contains live n ≡ true → n < length ds) → live ≡ from_list (numbers (numbered live ds))
set_of_numbers live ds within = same_set nat_cmp_total nat_cmp-IsAntisymmetric _ _ (λ q. sym (contains-from_list_nat (numbers (numbered live ds)) q ∙ is_in-numbers live ds within q))

pub numbered_is : (live : Numbers) (ds : List Document) → length ds ≤ MAX_DOCS → IsNumbered (numbered live ds)
unfolding kept
numbered_is live ds most = record { rising = Rises-kept (contains live) 0 (length ds) ds (omega arith); most = most }

len_of : (low high : ℕ) (xs : List ℕ) → Rises low high xs → len (from_list {R = nat_cmp} xs) ≡ length xs
len_of low high [] r = len-empty nat_cmp
len_of low high (x ∷ xs) r =
    let s : Numbers = from_list xs in
    let new : contains s x ≡ false = contains-from_list_nat xs x ∙ outside (suc x) high xs x r.2 (inl (omega arith)) in
    let rest = len_of (suc x) high xs r.2 in
    len-insert nat_cmp_total s x ∙ ap (λ b. cond b (len s) (len s + 1)) new ∙ omega (arith, rest)

pub len_numbers : (live : Numbers) (ds : List Document) → ((n : ℕ) → contains live n ≡ true → n < length ds) → len live ≡ length ((numbered live ds).list)
unfolding kept
len_numbers live ds within =
    ap len (set_of_numbers live ds within)
    ∙ len_of 0 (length ds) (numbers (numbered live ds)) (Rises-kept (contains live) 0 (length ds) ds (omega arith))
    ∙ length-map ((numbered live ds).list) (λ e. e.0)

-- ---- adding documents

zero_plus : (n : ℕ) → 0 + n ≡ n
zero_plus n = omega arith

pub enumerate-append : {A : Type 0} (n : ℕ) (xs ys : List A) → enumerate_from n (xs ++ ys) ≡ enumerate_from n xs ++ enumerate_from (n + length xs) ys
enumerate-append n [] ys = ap (λ m. enumerate_from m ys) (omega arith)
enumerate-append n (x ∷ xs) ys =
    let next : n + 1 + length xs ≡ n + suc (length xs) = omega arith in
    ap (λ zs. (n, x) ∷ zs) (enumerate-append (n + 1) xs ys ∙ ap (λ m. enumerate_from (n + 1) xs ++ enumerate_from m ys) next)

same_kept : (p q : ℕ → Bool) (n : ℕ) (ds : List Document) → ((m : ℕ) → n ≤ m → m < n + length ds → p m ≡ q m) → filter (λ e. p e.0) (enumerate_from n ds) ≡ filter (λ e. q e.0) (enumerate_from n ds)
same_kept p q n [] same = refl
same_kept p q n (d ∷ ds) same =
    let rest = same_kept p q (n + 1) ds (λ m low high. same m (omega arith) (omega arith)) in
    ap (λ b. cond b ((n, d) ∷ filter (λ e. p e.0) (enumerate_from (n + 1) ds)) (filter (λ e. p e.0) (enumerate_from (n + 1) ds))) (same n (omega arith) (omega arith))
    ∙ ap (λ es. cond (q n) ((n, d) ∷ es) es) rest

all_kept : (p : ℕ → Bool) (n : ℕ) (ds : List Document) → ((m : ℕ) → n ≤ m → m < n + length ds → p m ≡ true) → filter (λ e. p e.0) (enumerate_from n ds) ≡ enumerate_from n ds
all_kept p n [] same = refl
all_kept p n (d ∷ ds) same =
    ap (λ b. cond b ((n, d) ∷ filter (λ e. p e.0) (enumerate_from (n + 1) ds)) (filter (λ e. p e.0) (enumerate_from (n + 1) ds))) (same n (omega arith) (omega arith))
    ∙ ap (λ es. (n, d) ∷ es) (all_kept p (n + 1) ds (λ m low high. same m (omega arith) (omega arith)))

-- the live documents without those that are gone, and the added ones
pub extends : (live gone s : Numbers) (ds new : List Document) → AddsNumbers live gone (length ds) (length new) s → numbered s (ds ++ new) ≡ extended (numbered live ds) gone new
extends live gone s ds new adds =
    let list =
    ap (filter (λ e. contains s e.0)) (enumerate-append 0 ds new)
    ∙ filter-append (λ e. contains s e.0) (enumerate_from 0 ds) (enumerate_from (0 + length ds) new)
    ∙ (λ j. same_kept (contains s) (λ n. contains live n && not (contains gone n)) 0 ds (λ m low high. adds.older m (omega arith)) j
    ++ all_kept (contains s) (0 + length ds) new (λ m low high. adds.newer m (omega arith) (omega arith)) j)
    ∙ (λ j. sym (filter_twice (λ e. contains live e.0) (λ e. not (contains gone e.0)) (enumerate_from 0 ds)) j ++ enumerate_from (zero_plus (length ds) j) new) in
    (λ j. record { list = list j; size = length-append ds new j })

pub added_view : (live gone s : Numbers) (size : ℕ) (old parts : List Part) (new : List Document) → IsView live size old → AddsNumbers live gone size (length new) s → AddsPart old new parts → size + length new ≤ MAX_DOCS → IsView s (size + length new) parts
added_view live gone s size old parts new is adds more most = record {
  size = ap (λ n. n + length new) is.size ∙ sym (length-append (all_docs old) new) ∙ ap length (sym more.docs);
  most = most;
  live = adds.within;
  filled = more.filled is.filled;
  lawful = more.lawful is.lawful;
}

pub added_docs : (live gone s : Numbers) (size : ℕ) (old parts : List Part) (new : List Document) → IsView live size old → AddsNumbers live gone size (length new) s → AddsPart old new parts → numbered s (all_docs parts) ≡ extended (numbered live (all_docs old)) gone new
added_docs live gone s size old parts new is adds more = ap (numbered s) more.docs ∙ extends live gone s (all_docs old) new (subst (λ n. AddsNumbers live gone n (length new) s) is.size adds)

pub part_added : (old parts : List Part) (p : Part) (new : List Document) → parts ≡ old ++ p ∷ [] → p.docs ≡ new → 0 < length new → IsPart p → AddsPart old new parts
part_added old parts p new e same some lawful =
    let filled : 0 < length p.docs = subst (λ ds. 0 < length ds) (sym same) some in
    subst (AddsPart old new) (sym e) (record {
      docs = flat_map-append (λ q. q.docs) old (p ∷ []) ∙ ap (λ ds. all_docs old ++ ds) (append-nil p.docs ∙ same);
      filled = λ h. All-append (λ q. 0 < length q.docs) old (p ∷ []) h (All-cons (λ q. 0 < length q.docs) p [] filled (λ k d l. absurd (omega arith)));
      lawful = λ h. All-append IsPart old (p ∷ []) h (All-cons IsPart p [] lawful (λ k d l. absurd (omega arith)));
      few = omega (arith, length-append old (p ∷ []));
    })

pub nothing_added : (old parts : List Part) (new : List Document) → parts ≡ old → length new ≡ 0 → AddsPart old new parts
nothing_added old parts [] e none = subst (AddsPart old []) (sym e) (record { docs = sym (append-nil (all_docs old)); filled = λ h. h; lawful = λ h. h; few = omega arith })
nothing_added old parts (d ∷ new) e none = absurd (omega arith)

pub empty_view : IsView (empty {R = nat_cmp}) 0 []
empty_view = record {
  size = refl;
  most = omega arith;
  live = λ n e. let none = contains-empty nat_cmp n in absurd (cc);
  filled = λ k d l. absurd (omega arith);
  lawful = λ k d l. absurd (omega arith);
}

pub live_within : (live : Numbers) (size : ℕ) (parts : List Part) → IsView live size parts → (n : ℕ) → contains live n ≡ true → n < length (all_docs parts)
live_within live size parts is n e = let low : n < size = is.live n e in omega (arith, is.size)

pub few_parts : (parts : List Part) → All (λ p. 0 < length p.docs) parts → length parts ≤ length (all_docs parts)
few_parts [] h = omega arith
few_parts (p ∷ parts) h =
    let here : 0 < length p.docs = All-head (λ q. 0 < length q.docs) p parts h in
    let rest = few_parts parts (All-tail (λ q. 0 < length q.docs) p parts h) in
    omega (arith, length-append p.docs (all_docs parts))

-- ---- ranges of numbers

pub range_more : (a n : ℕ) → range_with_len a (n + 1) ≡ range_with_len a n ++ (a + n) ∷ []
range_more a zero = ap (λ m. m ∷ []) (omega arith)
range_more a (suc n) =
    let up : suc n + 1 ≡ suc (n + 1) = omega arith in
    let at : a + 1 + n ≡ a + suc n = omega arith in
    ap (range_with_len a) up ∙ ap (λ xs. a ∷ xs) (range_more (a + 1) n ∙ ap (λ m. range_with_len (a + 1) n ++ m ∷ []) at)

range_at : (a n k d : ℕ) → k < n → get_or (range_with_len a n) k d ≡ a + k
range_at a zero k d h = absurd (omega arith)
range_at a (suc n) zero d h = omega arith
range_at a (suc n) (suc k) d h = range_at (a + 1) n k d (omega arith) ∙ omega arith

range_len : (a n : ℕ) → length (range_with_len a n) ≡ n
range_len a zero = refl
range_len a (suc n) = ap suc (range_len (a + 1) n)

pub range_rises : (a n : ℕ) → IsStrictlyIncreasing (range_with_len a n)
range_rises a n k h = let len = range_len a n in omega (arith, range_at a n k 0 (omega (arith, len)), range_at a n (k + 1) 0 (omega (arith, len)))

pub range_below : (a n high : ℕ) → a + n ≤ high → All (λ m. m < high) (range_with_len a n)
range_below a n high h = λ k d l. let len = range_len a n in omega (arith, range_at a n k d (omega (arith, len)))

in_range : (a n q : ℕ) → a ≤ q → q < a + n → is_in (range_with_len a n) q ≡ true
in_range a zero q low high = absurd (omega arith)
in_range a (suc n) q low high = elim (eqb_tells a q) [
  | inl t ↦ ap (λ b. b || is_in (range_with_len (a + 1) n) q) t.0
  | inr t ↦ ap (λ b. b || is_in (range_with_len (a + 1) n) q) t.0 ∙ in_range (a + 1) n q (omega (arith, t.1)) (omega arith)
]

past_range : (a n q : ℕ) → (q < a) ⊎ (a + n ≤ q) → is_in (range_with_len a n) q ≡ false
past_range a zero q h = refl
past_range a (suc n) q h =
    let apart : a ≡ q → ⊥ = λ e. elim h [ inl t ↦ omega arith | inr t ↦ omega arith ] in
    ap (λ b. b || is_in (range_with_len (a + 1) n) q) (ne_eqb a q apart) ∙ past_range (a + 1) n q (elim h [ inl t ↦ inl (omega arith) | inr t ↦ inr (omega arith) ])

or_true : (b : Bool) → (b || true) ≡ true
or_true true = refl
or_true false = refl

or_false : (b : Bool) → (b || false) ≡ b
or_false true = refl
or_false false = refl

-- the live numbers without the gone ones, and a range behind them
pub numbers_added : (live gone kept fresh all : Numbers) (size count : ℕ) → kept ≡ difference live gone → fresh ≡ from_list (range_with_len size count) → all ≡ union kept fresh → ((n : ℕ) → contains live n ≡ true → n < size) → AddsNumbers live gone size count all
numbers_added live gone kept fresh all size count e f g within =
    let is : (n : ℕ) → contains all n ≡ ((contains live n && not (contains gone n)) || is_in (range_with_len size count) n) = λ n.
    ap (λ s. contains s n) g ∙ contains-union nat_cmp_total kept fresh n
    ∙ (λ j. contains (e j) n || contains (f j) n)
    ∙ (λ j. contains-difference nat_cmp_total live gone n j || contains-from_list_nat (range_with_len size count) n j) in
    record {
      older = λ n low. is n ∙ ap (λ b. (contains live n && not (contains gone n)) || b) (past_range size count n (inl low)) ∙ or_false _;
      newer = λ n low high. is n ∙ ap (λ b. (contains live n && not (contains gone n)) || b) (in_range size count n low high) ∙ or_true _;
      within = λ n has. elim (leb_tells (size + count) n) [
        | inl t ↦
            let none : contains live n ≡ false = false_from (contains live n) (λ l. let low : n < size = within n l in omega (arith, t.1)) in
            let not_in : contains all n ≡ false = is n ∙ (λ j. (none j && not (contains gone n)) || past_range size count n (inr t.1) j) in
            absurd (cc)
        | inr t ↦ t.1
      ];
    }

-- where none is gone all stay
none_gone : (live gone : Numbers) → len gone ≡ 0 → (n : ℕ) → contains live n ≡ (contains live n && not (contains gone n))
none_gone live gone e n =
    let none : contains gone n ≡ false = ap (λ s. contains s n) (empty_of_len gone e) ∙ contains-empty nat_cmp n in
    (elim (contains live n) as (λ b. b ≡ (b && true)) [ true ↦ refl | false ↦ refl ]) ∙ ap (λ b. contains live n && not b) (sym none)

pub all_stay : (live gone : Numbers) → len gone ≡ 0 → live ≡ difference live gone
all_stay live gone e = same_set nat_cmp_total nat_cmp-IsAntisymmetric _ _ (λ n. none_gone live gone e n ∙ sym (contains-difference nat_cmp_total live gone n))

pub nothing_changes : (live gone s : Numbers) (size count : ℕ) → count ≡ 0 → len gone ≡ 0 → s ≡ live → ((n : ℕ) → contains live n ≡ true → n < size) → AddsNumbers live gone size count s
nothing_changes live gone s size count none e same within = record {
  older = λ n low. ap (λ t. contains t n) same ∙ none_gone live gone e n;
  newer = λ n low high. absurd (omega arith);
  within = λ n has. let under : n < size = within n (sym (ap (λ t. contains t n) same) ∙ has) in omega arith;
}
