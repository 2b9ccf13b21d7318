-- Documents that are packed, and their numbers.
use Rattle.std.proofs.Common.{◌≡◌, ℕ, zero, suc, ◌+◌, ◌-◌, ◌<◌, ◌≤◌, Bool, true, false, ◌||◌, cond, List, [], ◌∷◌, ◌++◌, length, get_or, take, drop, map, filter, refl, sym, ap, subst, ◌∙◌, append_assoc, arith, All, inl, inr, Some, IsSome, length-append, ltb}
use Rattle.std.specs.Prelude.{sum, slice_get}
use Rattle.std.specs.List.{enumerate_from, range_with_len}
use Rattle.std.specs.FinSet.{contains, from_list, contains-from_list_nat}
use Rattle.std.proofs.lemmas.List.{map-append, append-nil, length-map, take-map, drop-drop, take-append-drop, length-take-le, length-drop}
use Rattle.std.proofs.lemmas.List.Elements.{filter-append, All-append}
use Rattle.std.proofs.lemmas.List.Concat.{flat_map-append}
use Rattle.std.proofs.lemmas.List.Sums.{sum_by-cons}
use Rattle.std.proofs.lemmas.Bool.{lt-ltb, le-ltb}
use Rattle.std.proofs.lemmas.Bool.Decides.{eqb_tells, leb_tells}
use Rattle.doc_model.specs.Document.{Document}
use Rattle.doc_sets.specs.Sets.{Numbers, Rises, is_in}
use Rattle.doc_sets.specs.declared.TheConstants.{MAX_DOCS}
use Rattle.segment_postings.specs.declared.packing.Packing.{Packing}
use Rattle.segment_postings.specs.Numbered.{docs, IsLive}
use Rattle.segment_postings.specs.Segments.{Part, IsPart}
use Rattle.segment_postings.specs.Views.{all_docs, numbered, indexed, live_from, pair_docs, Packs, IsView, AddsPart, IsPacking, IsPacked, Moves, Merges, is_moved}
use Rattle.segment_postings.proofs.ViewLaws.{enumerate-append, outside, Rises-lower, range_more}
use Rattle.segment_postings.proofs.Merging.{All-left, All-right}
use Rattle.segment_postings.proofs.SegmentLaws.{mapped_at}
use Rattle.segment_postings.proofs.DocsOfViews.{doc_at_is}

-- ---- live documents

pub live_from-append : (live : Numbers) (n : ℕ) (xs ys : List Document) → live_from live n (xs ++ ys) ≡ live_from live n xs ++ live_from live (n + length xs) ys
live_from-append live n xs ys =
    ap (λ es. map (λ e. e.1) (filter (λ e. contains live e.0) es)) (enumerate-append n xs ys)
    ∙ ap (map (λ e. e.1)) (filter-append (λ e. contains live e.0) (enumerate_from n xs) (enumerate_from (n + length xs) ys))
    ∙ map-append (λ (e : ℕ × Document). e.1) (filter (λ e. contains live e.0) (enumerate_from n xs)) (filter (λ e. contains live e.0) (enumerate_from (n + length xs) ys))

one_from : (live : Numbers) (n : ℕ) (d : Document) → live_from live n (d ∷ []) ≡ cond (contains live n) (d ∷ []) []
one_from live n d =
    let one : List (ℕ × Document) = (n, d) ∷ [] in
    elim (contains live n) as (λ b. map (λ e. e.1) (cond b one []) ≡ cond b (d ∷ []) []) [ true ↦ refl | false ↦ refl ]

-- one document more
pub live_from-push : (live : Numbers) (n : ℕ) (xs : List Document) (d : Document) → live_from live n (xs ++ d ∷ []) ≡ live_from live n xs ++ cond (contains live (n + length xs)) (d ∷ []) []
live_from-push live n xs d =
    live_from-append live n xs (d ∷ [])
    ∙ ap (λ ds. live_from live n xs ++ ds) (one_from live (n + length xs) d)

-- the documents with their numbers moved
pub shifted : (s live : Numbers) (n m : ℕ) (ds : List Document) → ((i : ℕ) → i < length ds → contains s (n + i) ≡ contains live (m + i)) → live_from s n ds ≡ live_from live m ds
shifted s live n m [] same = refl
shifted s live n m (d ∷ ds) same =
    let n0 : n ≡ n + 0 = omega arith in
    let m0 : m + 0 ≡ m = omega arith in
    let here : contains s n ≡ contains live m = ap (contains s) n0 ∙ same 0 (omega arith) ∙ ap (contains live) m0 in
    let rest = shifted s live (n + 1) (m + 1) ds (λ i l.
    let ni : n + 1 + i ≡ n + suc i = omega arith in
    let mi : m + suc i ≡ m + 1 + i = omega arith in
    ap (contains s) ni ∙ same (suc i) (omega arith) ∙ ap (contains live) mi) in
    ap (λ b. map (λ e. e.1) (cond b ((n, d) ∷ filter (λ e. contains s e.0) (enumerate_from (n + 1) ds)) (filter (λ e. contains s e.0) (enumerate_from (n + 1) ds)))) here
    ∙ (elim (contains live m) as (λ b. map (λ e. e.1) (cond b ((n, d) ∷ filter (λ e. contains s e.0) (enumerate_from (n + 1) ds)) (filter (λ e. contains s e.0) (enumerate_from (n + 1) ds))) ≡ map (λ e. e.1) (cond b ((m, d) ∷ filter (λ e. contains live e.0) (enumerate_from (m + 1) ds)) (filter (λ e. contains live e.0) (enumerate_from (m + 1) ds)))) [
      | true ↦ ap (λ xs. d ∷ xs) rest
      | false ↦ rest
    ])

-- all of them, where all are live
all_from : (s : Numbers) (n : ℕ) (ds : List Document) → ((i : ℕ) → n ≤ i → i < n + length ds → contains s i ≡ true) → live_from s n ds ≡ ds
all_from s n [] live = refl
all_from s n (d ∷ ds) live =
    ap (λ b. map (λ e. e.1) (cond b ((n, d) ∷ filter (λ e. contains s e.0) (enumerate_from (n + 1) ds)) (filter (λ e. contains s e.0) (enumerate_from (n + 1) ds)))) (live n (omega arith) (omega arith))
    ∙ ap (λ xs. d ∷ xs) (all_from s (n + 1) ds (λ i low high. live i (omega arith) (omega arith)))

pub few_from : (live : Numbers) (n : ℕ) (ds : List Document) → length (live_from live n ds) ≤ length ds
few_from live n [] = omega arith
few_from live n (d ∷ ds) =
    let rest = few_from live (n + 1) ds in
    elim (contains live n) as (λ b. length (map (λ e. e.1) (cond b ((n, d) ∷ filter (λ e. contains live e.0) (enumerate_from (n + 1) ds)) (filter (λ e. contains live e.0) (enumerate_from (n + 1) ds)))) ≤ suc (length ds)) [
      | true ↦ omega arith
      | false ↦ omega arith
    ]

-- where none goes, all are live
pub full_from : (live : Numbers) (n : ℕ) (ds : List Document) → length (live_from live n ds) ≡ length ds → (m : ℕ) → n ≤ m → m < n + length ds → contains live m ≡ true
full_from live n [] e m low high = absurd (omega arith)
full_from live n (d ∷ ds) e m low high =
    let few = few_from live (n + 1) ds in
    elim (contains live n) as (λ b. contains live n ≡ b → length (map (λ e. e.1) (cond b ((n, d) ∷ filter (λ e. contains live e.0) (enumerate_from (n + 1) ds)) (filter (λ e. contains live e.0) (enumerate_from (n + 1) ds)))) ≡ suc (length ds) → contains live m ≡ true) [
      | true ↦ λ here len. elim (eqb_tells n m) [
        | inl t ↦ ap (contains live) (sym t.1) ∙ here
        | inr t ↦ full_from live (n + 1) ds (omega arith) m (omega (arith, t.1)) (omega arith)
      ]
      | false ↦ λ _ len. absurd (omega arith)
    ] refl e

-- ---- the numbers of a range that a test keeps

pub Rises-filter : (p : ℕ → Bool) (a m high : ℕ) → a + m ≤ high → Rises a high (filter p (range_with_len a m))
Rises-filter p a zero high h = tt
Rises-filter p a (suc m) high h =
    let rest : Rises (a + 1) high (filter p (range_with_len (a + 1) m)) = Rises-filter p (a + 1) m high (omega arith) in
    elim (p a) as (λ b. Rises a high (cond b (a ∷ filter p (range_with_len (a + 1) m)) (filter p (range_with_len (a + 1) m)))) [
      | true ↦ (omega arith, omega arith, Rises-lower (suc a) (a + 1) high (filter p (range_with_len (a + 1) m)) (omega arith) rest)
      | false ↦ Rises-lower a (a + 1) high (filter p (range_with_len (a + 1) m)) (omega arith) rest
    ]

kept_in : (p : ℕ → Bool) (a m q : ℕ) → a ≤ q → q < a + m → is_in (filter p (range_with_len a m)) q ≡ p q
kept_in p a zero q low high = absurd (omega arith)
kept_in p a (suc m) q low high =
    elim (eqb_tells a q) [
      | inl t ↦
          let behind : is_in (filter p (range_with_len (a + 1) m)) q ≡ false = outside (a + 1) (a + 1 + m) (filter p (range_with_len (a + 1) m)) q (Rises-filter p (a + 1) m (a + 1 + m) (omega arith)) (inl (omega (arith, t.1))) in
          (elim (p a) as (λ b. is_in (cond b (a ∷ filter p (range_with_len (a + 1) m)) (filter p (range_with_len (a + 1) m))) q ≡ b) [
            | true ↦ ap (λ b. b || is_in (filter p (range_with_len (a + 1) m)) q) t.0
            | false ↦ behind
          ]) ∙ ap p t.1
      | inr t ↦
          let later : is_in (filter p (range_with_len (a + 1) m)) q ≡ p q = kept_in p (a + 1) m q (omega (arith, t.1)) (omega arith) in
          elim (p a) as (λ b. is_in (cond b (a ∷ filter p (range_with_len (a + 1) m)) (filter p (range_with_len (a + 1) m))) q ≡ p q) [
            | true ↦ ap (λ b. b || is_in (filter p (range_with_len (a + 1) m)) q) t.0 ∙ later
            | false ↦ later
          ]
    ]

-- a step of the loop
pub range_kept : (p : ℕ → Bool) (n : ℕ) → filter p (range_with_len 0 (n + 1)) ≡ filter p (range_with_len 0 n) ++ cond (p n) (n ∷ []) []
range_kept p n =
    let same : 0 + n ≡ n = omega arith in
    ap (filter p) (range_more 0 n) ∙ filter-append p (range_with_len 0 n) ((0 + n) ∷ []) ∙ ap (λ m. filter p (range_with_len 0 n) ++ cond (p m) (m ∷ []) []) same

-- ---- the live numbers

pub copies : (live s : Numbers) (size : ℕ) (p : Packing) → IsPacking live size p → p.kept ≡ p.count → s ≡ live → Moves live p s
copies live s size p is e same = record {
  before = λ n low. ap (λ t. contains t n) same;
  packed = λ n low high. ap (λ t. contains t n) same ∙ is.full e n low (omega arith);
  behind = λ n low. let here : n ≡ n + (p.count - p.kept) = omega arith in ap (λ t. contains t n) same ∙ ap (contains live) here;
}

no_more : (b : Bool) → (b ≡ true → ⊥) → b ≡ false
no_more true h = absurd (h refl)
no_more false h = refl

pub moves : (live s : Numbers) (size : ℕ) (p : Packing) → IsPacking live size p → s ≡ from_list (filter (is_moved live p) (range_with_len 0 (size - (p.count - p.kept)))) → Moves live p s
moves live s size p is e =
    let left : ℕ = size - (p.count - p.kept) in
    let xs : List ℕ = filter (is_moved live p) (range_with_len 0 left) in
    let few : p.kept ≤ p.count = is.few in
    let low_end : p.start + p.count ≤ size = is.within in
    let has : (n : ℕ) → contains s n ≡ is_in xs n = λ n. ap (λ t. contains t n) e ∙ contains-from_list_nat xs n in
    let within : (n : ℕ) → n < left → contains s n ≡ is_moved live p n = λ n low. has n ∙ kept_in (is_moved live p) 0 left n (omega arith) (omega arith) in
    let far : ℕ → Bool = λ n. contains live (n + (p.count - p.kept)) in
    let not_before : (n : ℕ) → p.start ≤ n → is_moved live p n ≡ (ltb n (p.start + p.kept) || far n) = λ n low. ap (λ b. cond b (contains live n) (ltb n (p.start + p.kept) || far n)) (le-ltb n p.start low) in
    record {
      before = λ n low. within n (omega arith) ∙ ap (λ b. cond b (contains live n) (ltb n (p.start + p.kept) || far n)) (lt-ltb n p.start low);
      packed = λ n low high. within n (omega arith) ∙ not_before n low ∙ ap (λ b. b || far n) (lt-ltb n (p.start + p.kept) high);
      behind = λ n low. elim (leb_tells left n) [
        | inl t ↦
            let none : far n ≡ false = no_more (far n) (λ h. let under = is.live (n + (p.count - p.kept)) h in omega (arith, t.1, under)) in
            has n ∙ outside 0 left xs n (Rises-filter (is_moved live p) 0 left left (omega arith)) (inr t.1) ∙ sym none
        | inr t ↦ within n t.1 ∙ not_before n (omega arith) ∙ ap (λ b. b || far n) (le-ltb n (p.start + p.kept) low)
      ];
    }

-- ---- views

pub docs_around : (old : List Part) (at : ℕ) → all_docs old ≡ (all_docs (take at old) ++ pair_docs old at) ++ all_docs (drop (at + 2) old)
docs_around old at =
    ap all_docs (sym (take-append-drop at old))
    ∙ flat_map-append (λ q. q.docs) (take at old) (drop at old)
    ∙ ap (λ ds. all_docs (take at old) ++ ds) (ap all_docs (sym (take-append-drop 2 (drop at old))) ∙ flat_map-append (λ q. q.docs) (take 2 (drop at old)) (drop 2 (drop at old)))
    ∙ sym (append_assoc (all_docs (take at old)) (pair_docs old at) (all_docs (drop 2 (drop at old))))
    ∙ ap (λ ps. (all_docs (take at old) ++ pair_docs old at) ++ all_docs ps) (drop-drop 2 at old)

pub pair_is : (parts : List Part) (i : ℕ) (a b : Part) → i + 1 < length parts → a ≡ get_or parts i a → b ≡ get_or parts (i + 1) b → pair_docs parts i ≡ a.docs ++ b.docs
pair_is [] i a b h e f = absurd (omega arith)
pair_is (x ∷ []) i a b h e f = absurd (omega arith)
pair_is (x ∷ y ∷ parts) zero a b h e f = ap (λ ds. x.docs ++ ds) (append-nil y.docs) ∙ (λ j. (sym e j).docs ++ (sym f j).docs)
pair_is (x ∷ y ∷ parts) (suc i) a b h e f =
    let one : suc i + 1 ≡ suc (i + 1) = omega arith in
    pair_is (y ∷ parts) i a b (omega arith) e (f ∙ ap (λ n. get_or (x ∷ y ∷ parts) n b) one)

-- the same where the parts are read by f
pub pair_of : {A : Type 0} (f : A → Part) (xs : List A) (i : ℕ) (x y : A) → i + 1 < length xs → x ≡ get_or xs i x → y ≡ get_or xs (i + 1) y → pair_docs (map f xs) i ≡ (f x).docs ++ (f y).docs
pair_of f xs i x y h e g =
    pair_is (map f xs) i (f x) (f y) (omega (arith, length-map xs f)) (ap f e ∙ sym (mapped_at f xs i (f x) x (omega arith))) (ap f g ∙ sym (mapped_at f xs (i + 1) (f y) y h))

pub pair_room : {A : Type 0} (f : A → Part) (xs : List A) (i : ℕ) (x y : A) → i + 1 < length xs → x ≡ get_or xs i x → y ≡ get_or xs (i + 1) y → length (all_docs (map f xs)) ≤ MAX_DOCS →
    length (all_docs (map f (take i xs))) + (length ((f x).docs) + length ((f y).docs)) ≤ MAX_DOCS
pair_room f xs i x y h e g most =
    let pair = ap length (pair_of f xs i x y h e g) ∙ length-append ((f x).docs) ((f y).docs) in
    let front = ap (λ ps. length (all_docs ps)) (take-map f i xs) in
    let whole = ap length (docs_around (map f xs) i) ∙ length-append (all_docs (take i (map f xs)) ++ pair_docs (map f xs) i) (all_docs (drop (i + 2) (map f xs))) in
    omega (arith, pair, front, whole, length-append (all_docs (take i (map f xs))) (pair_docs (map f xs) i), most)

pub is_packing : (live : Numbers) (size : ℕ) (old : List Part) (at : ℕ) (kept : List Document) (p : Packing) → IsView live size old → Packs live old at kept p → IsPacking live size p
is_packing live size old at kept p is packs =
    let pair : List Document = pair_docs old at in
    let front : List Document = all_docs (take at old) in
    let whole = ap length (docs_around old at) ∙ length-append (front ++ pair) (all_docs (drop (at + 2) old)) in
    let two = length-append front pair in
    let few = few_from live p.start pair in
    let same = ap length packs.lives in
    record {
      few = omega (arith, few, same, packs.kept, packs.count);
      within = omega (arith, whole, two, packs.start, packs.count, is.size);
      most = is.most;
      live = is.live;
      full = λ e n low high. full_from live p.start pair (sym same ∙ sym packs.kept ∙ e ∙ packs.count) n low (omega (arith, packs.count));
    }

zero_plus : (n : ℕ) → 0 + n ≡ n
zero_plus n = omega arith

-- the live documents are the same
same_from : (live s : Numbers) (front pair kept back : List Document) (p : Packing) → p.start ≡ length front → p.count ≡ length pair → p.kept ≡ length kept → p.kept ≤ p.count → kept ≡ live_from live p.start pair → Moves live p s →
    live_from s 0 ((front ++ kept) ++ back) ≡ live_from live 0 ((front ++ pair) ++ back)
same_from live s front pair kept back p start count is_kept few is m =
    let len = length-append front kept in
    let old_len = length-append front pair in
    let first : live_from s 0 front ≡ live_from live 0 front = shifted s live 0 0 front (λ i l. m.before (0 + i) (omega arith)) in
    let mid : live_from s (0 + length front) kept ≡ live_from live (0 + length front) pair =
    all_from s (0 + length front) kept (λ i low high. m.packed i (omega arith) (omega arith)) ∙ is ∙ ap (λ n. live_from live n pair) (start ∙ sym (zero_plus (length front))) in
    let last : live_from s (0 + length (front ++ kept)) back ≡ live_from live (0 + length (front ++ pair)) back =
    shifted s live (0 + length (front ++ kept)) (0 + length (front ++ pair)) back (λ i l.
    let far : 0 + length (front ++ kept) + i + (p.count - p.kept) ≡ 0 + length (front ++ pair) + i = omega arith in
    m.behind (0 + length (front ++ kept) + i) (omega arith) ∙ ap (contains live) far) in
    live_from-append s 0 (front ++ kept) back
    ∙ ap (λ ds. ds ++ live_from s (0 + length (front ++ kept)) back) (live_from-append s 0 front kept)
    ∙ (λ j. (first j ++ mid j) ++ last j)
    ∙ sym (ap (λ ds. ds ++ live_from live (0 + length (front ++ pair)) back) (live_from-append live 0 front pair))
    ∙ sym (live_from-append live 0 (front ++ pair) back)

pub same_docs : (live s : Numbers) (size : ℕ) (old parts : List Part) (at : ℕ) (kept : List Document) (p : Packing) → IsView live size old → Packs live old at kept p → Moves live p s → Merges old at kept parts →
    docs (numbered s (all_docs parts)) ≡ docs (numbered live (all_docs old))
same_docs live s size old parts at kept p is packs m merges =
    let few : p.kept ≤ p.count = (is_packing live size old at kept p is packs).few in
    ap (live_from s 0) merges.docs
    ∙ same_from live s (all_docs (take at old)) (pair_docs old at) kept (all_docs (drop (at + 2) old)) p packs.start packs.count packs.kept few packs.lives m
    ∙ sym (ap (live_from live 0) (docs_around old at))

pub new_size : (live : Numbers) (size : ℕ) (old parts : List Part) (at : ℕ) (kept : List Document) (p : Packing) → IsView live size old → Packs live old at kept p → Merges old at kept parts → size - (p.count - p.kept) ≡ length (all_docs parts)
new_size live size old parts at kept p is packs merges =
    let pair : List Document = pair_docs old at in
    let front : List Document = all_docs (take at old) in
    let back : List Document = all_docs (drop (at + 2) old) in
    let whole = ap length (docs_around old at) ∙ length-append (front ++ pair) back in
    let two = length-append front pair in
    let new = ap length merges.docs ∙ length-append (front ++ kept) back in
    let new_two = length-append front kept in
    let few : p.kept ≤ p.count = (is_packing live size old at kept p is packs).few in
    omega (arith, whole, two, new, new_two, few, packs.start, packs.count, packs.kept, is.size)

pub packed_view : (live s : Numbers) (size : ℕ) (old parts : List Part) (at : ℕ) (kept : List Document) (p : Packing) → IsView live size old → Packs live old at kept p → Moves live p s → Merges old at kept parts → IsView s (size - (p.count - p.kept)) parts
packed_view live s size old parts at kept p is packs m merges =
    let packing = is_packing live size old at kept p is packs in
    let few : p.kept ≤ p.count = packing.few in
    let within : p.start + p.count ≤ size = packing.within in
    let most : size ≤ MAX_DOCS = is.most in
    record {
      size = new_size live size old parts at kept p is packs merges;
      most = omega arith;
      live = λ n has. elim (leb_tells (p.start + p.kept) n) [
        | inl t ↦ let under = is.live (n + (p.count - p.kept)) (sym (m.behind n t.1) ∙ has) in omega (arith, under)
        | inr t ↦ omega (arith, t.1)
      ];
      filled = merges.filled is.filled;
      lawful = merges.lawful is.lawful;
    }

live_at : (s : Numbers) (ds : List Document) (n : ℕ) → n < length ds → contains s n ≡ true → IsLive (numbered s ds) n
live_at s [] n h alive = absurd (omega arith)
live_at s (d ∷ ds) n h alive = subst IsSome (sym (doc_at_is s (d ∷ ds) n d h alive)) refl

pub sum_held : (parts : List Part) (k : ℕ) → sum (take k (map (λ p. length p.docs) parts)) ≡ length (all_docs (take k parts))
sum_held [] zero = refl
sum_held [] (suc k) = refl
sum_held (p ∷ parts) zero = refl
sum_held (p ∷ parts) (suc k) = sum_by-cons (λ n. n) (length p.docs) (take k (map (λ q. length q.docs) parts)) ∙ ap (λ n. length p.docs + n) (sum_held parts k) ∙ sym (length-append p.docs (all_docs (take k parts)))

docs_split : (parts : List Part) (k : ℕ) → length (all_docs (take k parts)) + length (all_docs (drop k parts)) ≡ length (all_docs parts)
docs_split parts k = sym (length-append (all_docs (take k parts)) (all_docs (drop k parts))) ∙ ap length (sym (flat_map-append (λ q. q.docs) (take k parts) (drop k parts)) ∙ ap all_docs (take-append-drop k parts))

-- and each document that is kept is live
pub is_packed : (live s : Numbers) (size : ℕ) (old parts : List Part) (at : ℕ) (kept : List Document) (p : Packing) → IsView live size old → Packs live old at kept p → Moves live p s → Merges old at kept parts →
    IsPacked (indexed live old) at (numbered s (all_docs parts))
is_packed live s size old parts at kept p is packs m merges n low high =
    let front : List Document = all_docs (take at old) in
    let back : List Document = all_docs (drop (at + 2) old) in
    let new = ap length merges.docs ∙ length-append (front ++ kept) back in
    let new_two = length-append front kept in
    let split = docs_split old (at + 2) in
    let one = sum_held old at in
    let two = sum_held old (at + 2) in
    let under : n < p.start + p.kept = omega (arith, new, new_two, split, one, two, low, high, packs.start, packs.kept) in
    let fit : n < length (all_docs parts) = omega (arith, new, new_two, under, packs.start, packs.kept) in
    live_at s (all_docs parts) n fit (m.packed n (omega (arith, one, packs.start, low)) under)

pub held_at : {A : Type 0} (f : A → ℕ) (xs : List A) (i : ℕ) (x : A) → i < length xs → x ≡ get_or xs i x → slice_get (map f xs) i ≡ Some (f x)
held_at f [] i x h e = absurd (omega arith)
held_at f (y ∷ xs) zero x h e = ap (λ z. Some (f z)) (sym e)
held_at f (y ∷ xs) (suc i) x h e = held_at f xs i x (omega arith) e

-- ---- the segments

All-take : {A : Type 0} (P : A → Type 0) (xs : List A) (k : ℕ) → All P xs → All P (take k xs)
All-take P xs k h = All-left P (take k xs) (drop k xs) (subst (All P) (sym (take-append-drop k xs)) h)

All-drop : {A : Type 0} (P : A → Type 0) (xs : List A) (k : ℕ) → All P xs → All P (drop k xs)
All-drop P xs k h = All-right P (take k xs) (drop k xs) (subst (All P) (sym (take-append-drop k xs)) h)

pub merges_two : (old mid parts : List Part) (at : ℕ) (kept : List Document) → at + 1 < length old → AddsPart (take at old) kept mid → parts ≡ mid ++ drop (at + 2) old → Merges old at kept parts
merges_two old mid parts at kept both adds e =
    let P = λ (q : Part). 0 < length q.docs in
    let few : length mid ≤ length (take at old) + 1 = adds.few in
    subst (Merges old at kept) (sym e) (record {
      docs = flat_map-append (λ q. q.docs) mid (drop (at + 2) old) ∙ ap (λ ds. ds ++ all_docs (drop (at + 2) old)) adds.docs;
      filled = λ h. All-append P mid (drop (at + 2) old) (adds.filled (All-take P old at h)) (All-drop P old (at + 2) h);
      lawful = λ h. All-append IsPart mid (drop (at + 2) old) (adds.lawful (All-take IsPart old at h)) (All-drop IsPart old (at + 2) h);
      fewer = omega (arith, length-append mid (drop (at + 2) old), length-take-le at old (omega arith), length-drop (at + 2) old);
    })

-- the same parts, read from a list that is the same
module _ {A : Type 0} (f : A → Part) where
  pub same_packs : (live : Numbers) (ys xs : List A) (at : ℕ) (kept : List Document) (p : Packing) → ys ≡ xs → Packs live (map f ys) at kept p → Packs live (map f xs) at kept p
  same_packs live ys xs at kept p e h = subst (λ zs. Packs live (map f zs) at kept p) e h

  pub same_merges : (ys xs : List A) (parts : List Part) (at : ℕ) (kept : List Document) → ys ≡ xs → Merges (map f ys) at kept parts → Merges (map f xs) at kept parts
  same_merges ys xs parts at kept e h = subst (λ zs. Merges (map f zs) at kept parts) e h
