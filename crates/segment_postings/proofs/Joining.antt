-- Keys put among ascending ones.
use Rattle.std.proofs.Common.{◌≡◌, ℕ, zero, suc, ◌+◌, ◌<◌, ◌≤◌, Bool, true, false, not, ◌&&◌, List, [], ◌∷◌, ◌++◌, length, get_or, take, drop, map, filter, fold, refl, sym, ap, subst, ◌∙◌, arith, All, length-drop, ◌-◌}
use Rattle.std.specs.List.{list_all}
use Rattle.std.specs.List.Sorted.{IsSortedByKey}
use Rattle.std.specs.Cmp.{first_so, second_so}
use Rattle.std.proofs.lemmas.List.{append-nil, take-append-drop, take_more, map-append, get_or-drop}
use Rattle.std.proofs.lemmas.List.Sums.{fold-append}
use Rattle.std.proofs.lemmas.List.Sorted.{sorted_far, ranks_by}
use Rattle.std.proofs.lemmas.List.Elements.{All-head, All-tail, All-map, filter_passes}
use Rattle.std.specs.Ordering.{is_lt, is_eq, ordering_reverse, match_ordering}
use Rattle.std.specs.declared.cmp.Ordering.{Ordering}
use Rattle.std.specs.declared.cmp.Ordering.TheVariants.{Less, Equal, Greater}
use Rattle.field_schema.specs.declared.key.Key.{Key}
use Rattle.field_schema.specs.Keys.{key_eq, key_cmp}
use Rattle.field_schema.specs.Laws.{key_cmp_total, key_cmp_ties}
use Rattle.segment_postings.specs.Terms.{Ascending, is_before, put_key, begins_with, PastAll}
use Rattle.segment_postings.proofs.KeyOrder.{turned}

-- ---- the order

pub equal_is : (r : Ordering) → is_eq r ≡ true → r ≡ Equal
equal_is Less e = absurd (cc)
equal_is Equal e = refl
equal_is Greater e = absurd (cc)

-- the order of two keys, by the test that the first stands before the second
pub less_is : (r : Ordering) → is_lt r ≡ true → r ≡ Less
less_is Less e = refl
less_is Equal e = absurd (cc)
less_is Greater e = absurd (cc)

pub greater_from : (x k : Key) → is_before x k ≡ true → key_cmp k x ≡ Greater
greater_from x k e = turned k x ∙ ap ordering_reverse (less_is (key_cmp x k) e)

-- x before k, and q not before k: x before q
pub before_through : (x k q : Key) → is_before x k ≡ true → is_before q k ≡ false → is_before x q ≡ true
before_through x k q before behind =
    elim (key_cmp x q) as (λ r. key_cmp x q ≡ r → is_lt r ≡ true) [
      | Less ↦ λ _. refl
      | Equal ↦ λ e. let same : is_before x k ≡ is_before q k = ap is_lt (key_cmp_total.congr x q k e) in absurd (cc)
      | Greater ↦ λ e.
          let back : key_cmp q x ≡ Less = turned q x ∙ ap ordering_reverse e in
          let far : is_before q k ≡ true = ap is_lt (key_cmp_total.trans q x k back (less_is (key_cmp x k) before)) in
          absurd (cc)
    ] refl

-- ---- where a key is put

put_behind : (b r : List Key) (k : Key) → All (λ x. is_before x k ≡ true) b → put_key (b ++ r) k ≡ b ++ put_key r k
put_behind [] r k before = refl
put_behind (x ∷ b) r k before =
    ap (λ o. match_ordering o (k ∷ x ∷ (b ++ r)) (x ∷ (b ++ r)) (x ∷ put_key (b ++ r) k)) (greater_from x k (All-head (λ y. is_before y k ≡ true) x b before))
    ∙ ap (λ ys. x ∷ ys) (put_behind b r k (All-tail (λ y. is_before y k ≡ true) x b before))

-- at the front, where the key stands there already
pub put_tied : (r : List Key) (k : Key) → begins_with k r ≡ true → put_key r k ≡ r
put_tied [] k e = absurd (cc)
put_tied (x ∷ xs) k e = ap (λ o. match_ordering o (k ∷ x ∷ xs) (x ∷ xs) (x ∷ put_key xs k)) (equal_is (key_cmp k x) (sym (key_cmp_ties k x) ∙ e))

-- and where it does not, and nothing stands before it
put_free : (r : List Key) (k : Key) → begins_with k r ≡ false → All (λ x. not (is_before x k) ≡ true) r → put_key r k ≡ k ∷ r
put_free [] k e behind = refl
put_free (x ∷ xs) k e behind =
    ap (λ o. match_ordering o (k ∷ x ∷ xs) (x ∷ xs) (x ∷ put_key xs k))
    (elim (key_cmp k x) as (λ r. key_cmp k x ≡ r → r ≡ Less) [
      | Less ↦ λ _. refl
      | Equal ↦ λ s. let tied : key_eq k x ≡ true = key_cmp_ties k x ∙ ap is_eq s in absurd (cc)
      | Greater ↦ λ s. let before : is_before x k ≡ true = ap is_lt (turned x k ∙ ap ordering_reverse s) in let here = All-head (λ x. not (is_before x k) ≡ true) x xs behind in absurd (cc)
    ] refl)

take_more_than : {A : Type 0} (m n : ℕ) (xs : List A) → m ≤ n → take m (take n xs) ≡ take m xs
take_more_than zero n xs h = refl
take_more_than (suc m) zero xs h = absurd (omega arith)
take_more_than (suc m) (suc n) [] h = refl
take_more_than (suc m) (suc n) (x ∷ xs) h = ap (λ ys. x ∷ ys) (take_more_than m n xs (omega arith))

take_cons : {A : Type 0} (n : ℕ) (x : A) (xs : List A) → take n (x ∷ take n xs) ≡ take n (x ∷ xs)
take_cons zero x xs = refl
take_cons (suc n) x xs = ap (λ ys. x ∷ ys) (take_more_than n (suc n) xs (omega arith))

-- what stands past the first n does not matter to the first n
pub take_put : (n : ℕ) (xs : List Key) (k : Key) → take n (put_key (take n xs) k) ≡ take n (put_key xs k)
take_put zero xs k = refl
take_put (suc n) [] k = refl
take_put (suc n) (x ∷ xs) k =
    elim (key_cmp k x) as (λ o. take (suc n) (match_ordering o (k ∷ x ∷ take n xs) (x ∷ take n xs) (x ∷ put_key (take n xs) k)) ≡ take (suc n) (match_ordering o (k ∷ x ∷ xs) (x ∷ xs) (x ∷ put_key xs k))) [
      | Less ↦ ap (λ ys. k ∷ ys) (take_cons n x xs)
      | Equal ↦ ap (λ ys. x ∷ ys) (take_more_than n n xs (omega arith))
      | Greater ↦ ap (λ ys. x ∷ ys) (take_put n xs k)
    ]

pub take_fold : (n : ℕ) (xs ys : List Key) → take n (fold put_key (take n xs) ys) ≡ take n (fold put_key xs ys)
take_fold n xs [] = take_more_than n n xs (omega arith)
take_fold n xs (y ∷ ys) =
    sym (take_fold n (put_key (take n xs) y) ys)
    ∙ ap (λ zs. take n (fold put_key zs ys)) (take_put n xs y)
    ∙ take_fold n (put_key xs y) ys

-- a step of the loop
pub take_step : (n : ℕ) (found xs : List Key) (k : Key) → found ≡ take n xs → take n (put_key found k) ≡ take n (put_key xs k)
take_step n found xs k e = ap (λ zs. take n (put_key zs k)) e ∙ take_put n xs k

-- ---- keys past all that are wanted

put_last : (xs : List Key) (k : Key) → All (λ x. is_before x k ≡ true) xs → put_key xs k ≡ xs ++ k ∷ []
put_last xs k before = ap (λ ys. put_key ys k) (sym (append-nil xs)) ∙ put_behind xs [] k before

pub take_front : {A : Type 0} (n : ℕ) (xs ys : List A) → length xs ≡ n → take n (xs ++ ys) ≡ xs
take_front zero [] ys e = refl
take_front zero (x ∷ xs) ys e = absurd (omega arith)
take_front (suc n) [] ys e = absurd (omega arith)
take_front (suc n) (x ∷ xs) ys e = ap (λ zs. x ∷ zs) (take_front n xs ys (omega arith))

pub past_stays : (n : ℕ) (xs : List Key) (k : Key) → length xs ≤ n → PastAll xs k n → take n (put_key xs k) ≡ xs
past_stays n xs k few past = ap (take n) (put_last xs k past.before) ∙ take_front n xs (k ∷ []) (omega (arith, past.full))

pub past_more : (n : ℕ) (xs : List Key) (k q : Key) → PastAll xs k n → is_before q k ≡ false → PastAll xs q n
past_more n xs k q past behind = record { full = past.full; before = λ i d l. before_through _ k q (past.before i d l) behind }

-- further keys, none before the first that is past
pub all_past : (n : ℕ) (found xs : List Key) (k : Key) (rest : List Key) → length found ≤ n → found ≡ take n xs → PastAll found k n → All (λ q. is_before q k ≡ false) rest → take n (fold put_key xs rest) ≡ found
all_past n found xs k [] few is past behind = sym is
all_past n found xs k (q ∷ rest) few is past behind =
    let here = past_more n found k q past (All-head (λ q. is_before q k ≡ false) q rest behind) in
    all_past n found (put_key xs q) k rest few (sym (past_stays n found q few here) ∙ take_step n found xs q is) past (All-tail (λ q. is_before q k ≡ false) q rest behind)

-- ---- ascending

before_all : (x k : Key) (xs : List Key) → is_before x k ≡ true → list_all (is_before x) xs ≡ true → list_all (is_before x) (put_key xs k) ≡ true
before_all x k [] h all = ap (λ b. b && true) h
before_all x k (y ∷ ys) h all =
    elim (key_cmp k y) as (λ o. list_all (is_before x) (match_ordering o (k ∷ y ∷ ys) (y ∷ ys) (y ∷ put_key ys k)) ≡ true) [
      | Less ↦ ap (λ b. b && (is_before x y && list_all (is_before x) ys)) h ∙ all
      | Equal ↦ all
      | Greater ↦ ap (λ b. b && list_all (is_before x) (put_key ys k)) (first_so (is_before x y) (list_all (is_before x) ys) all) ∙ before_all x k ys h (second_so (is_before x y) (list_all (is_before x) ys) all)
    ]

behind_all : (k x : Key) (xs : List Key) → is_before k x ≡ true → list_all (is_before x) xs ≡ true → list_all (is_before k) xs ≡ true
behind_all k x [] h all = refl
behind_all k x (y ∷ ys) h all =
    let here : is_before k y ≡ true = ap is_lt (key_cmp_total.trans k x y (less_is _ h) (less_is _ (first_so (is_before x y) (list_all (is_before x) ys) all))) in
    ap (λ b. b && list_all (is_before k) ys) here ∙ behind_all k x ys h (second_so (is_before x y) (list_all (is_before x) ys) all)

pub Ascending-put : (xs : List Key) (k : Key) → Ascending xs → Ascending (put_key xs k)
Ascending-put [] k up = (refl, tt)
Ascending-put (x ∷ xs) k up =
    elim (key_cmp k x) as (λ o. key_cmp k x ≡ o → Ascending (match_ordering o (k ∷ x ∷ xs) (x ∷ xs) (x ∷ put_key xs k))) [
      | Less ↦ λ e. (ap (λ b. b && list_all (is_before k) xs) (ap is_lt e) ∙ behind_all k x xs (ap is_lt e) up.0, up)
      | Equal ↦ λ e. up
      | Greater ↦ λ e. (before_all x k xs (ap is_lt (turned x k ∙ ap ordering_reverse e)) up.0, Ascending-put xs k up.1)
    ] refl

pub Ascending-fold : (xs ks : List Key) → Ascending xs → Ascending (fold put_key xs ks)
Ascending-fold xs [] up = up
Ascending-fold xs (k ∷ ks) up = Ascending-fold (put_key xs k) ks (Ascending-put xs k up)

all_taken : (p : Key → Bool) (n : ℕ) (xs : List Key) → list_all p xs ≡ true → list_all p (take n xs) ≡ true
all_taken p zero xs all = refl
all_taken p (suc n) [] all = refl
all_taken p (suc n) (x ∷ xs) all = ap (λ b. b && list_all p (take n xs)) (first_so (p x) (list_all p xs) all) ∙ all_taken p n xs (second_so (p x) (list_all p xs) all)

pub Ascending-take : (n : ℕ) (xs : List Key) → Ascending xs → Ascending (take n xs)
Ascending-take zero xs up = tt
Ascending-take (suc n) [] up = tt
Ascending-take (suc n) (x ∷ xs) up = (all_taken (is_before x) n xs up.0, Ascending-take n xs up.1)

not_back : (r : Ordering) → is_lt r ≡ true → is_lt (ordering_reverse r) ≡ false
not_back Less e = refl
not_back Equal e = absurd (cc)
not_back Greater e = absurd (cc)

pub sorted_from_ascending : (xs : List Key) → Ascending xs → IsSortedByKey (λ x. x) key_cmp xs
sorted_from_ascending [] up k d _ l = absurd (omega arith)
sorted_from_ascending (x ∷ []) up k d _ l = absurd (omega arith)
sorted_from_ascending (x ∷ y ∷ xs) up zero d _ l = ap is_lt (turned y x) ∙ not_back (key_cmp x y) (first_so (is_before x y) (list_all (is_before x) xs) up.0)
sorted_from_ascending (x ∷ y ∷ xs) up (suc k) d _ l =
    let next : suc k + 1 ≡ suc (k + 1) = omega arith in
    ap (λ n. is_lt (key_cmp (get_or (x ∷ y ∷ xs) n d) (get_or (y ∷ xs) k d))) next ∙ sorted_from_ascending (y ∷ xs) up.1 k d (omega arith) (omega arith)

-- ---- what `put` does

-- where the key stands there already
pub put_there : (at : ℕ) (xs : List Key) (k : Key) → All (λ x. is_before x k ≡ true) (take at xs) → begins_with k (drop at xs) ≡ true → put_key xs k ≡ xs
put_there at xs k before tied =
    ap (λ ys. put_key ys k) (sym (take-append-drop at xs)) ∙ put_behind (take at xs) (drop at xs) k before
    ∙ ap (λ r. take at xs ++ r) (put_tied (drop at xs) k tied) ∙ take-append-drop at xs

-- where it does not
pub put_inserted : (at : ℕ) (xs : List Key) (k : Key) → All (λ x. is_before x k ≡ true) (take at xs) → begins_with k (drop at xs) ≡ false → All (λ x. not (is_before x k) ≡ true) (drop at xs) → put_key xs k ≡ take at xs ++ k ∷ drop at xs
put_inserted at xs k before free behind =
    ap (λ ys. put_key ys k) (sym (take-append-drop at xs)) ∙ put_behind (take at xs) (drop at xs) k before
    ∙ ap (λ r. take at xs ++ r) (put_free (drop at xs) k free behind)

pub take_all : {A : Type 0} (n : ℕ) (xs : List A) → length xs ≤ n → take n xs ≡ xs
take_all zero [] h = refl
take_all zero (x ∷ xs) h = absurd (omega arith)
take_all (suc n) [] h = refl
take_all (suc n) (x ∷ xs) h = ap (λ ys. x ∷ ys) (take_all n xs (omega arith))

abbrev before : Key → Key → Bool
before k x = is_before x k

taken_before : (xs : List Key) (at : ℕ) (k : Key) → take at xs ≡ filter (before k) xs → All (λ x. is_before x k ≡ true) (take at xs)
taken_before xs at k e = subst (All (λ x. is_before x k ≡ true)) (sym e) (filter_passes (before k) xs)

pub past_at : (ys xs : List Key) (at n : ℕ) (k : Key) → ys ≡ xs → take at ys ≡ filter (before k) ys → length xs ≤ n → n ≤ at → at ≤ length ys → PastAll xs k n
past_at ys xs at n k e taken few over within =
    let len : length ys ≡ length xs = ap length e in
    record {
      full = omega arith;
      before = subst (All (λ x. is_before x k ≡ true)) (take_all at ys (omega arith) ∙ e) (taken_before ys at k taken);
    }

rest_of : (ys : List Key) (at : ℕ) → take (length ys - at) (drop at ys) ≡ drop at ys
rest_of ys at = take_all (length ys - at) (drop at ys) (omega (arith, length-drop at ys))

pub there_at : (ys zs xs : List Key) (at : ℕ) (k : Key) → ys ≡ xs → zs ≡ xs → take at ys ≡ filter (before k) ys → begins_with k (take (length zs - at) (drop at zs)) ≡ true → put_key xs k ≡ xs
there_at ys zs xs at k e f taken tied =
    put_there at xs k
    (subst (λ ws. All (λ x. is_before x k ≡ true) (take at ws)) e (taken_before ys at k taken))
    (ap (λ ws. begins_with k (drop at ws)) (sym f) ∙ ap (begins_with k) (sym (rest_of zs at)) ∙ tied)

pub inserted_at : (ys zs xs : List Key) (at : ℕ) (k : Key) → ys ≡ xs → zs ≡ xs → take at ys ≡ filter (before k) ys → drop at ys ≡ filter (λ x. not (is_before x k)) ys → begins_with k (take (length zs - at) (drop at zs)) ≡ false →
    put_key xs k ≡ take at xs ++ k ∷ drop at xs
inserted_at ys zs xs at k e f taken left free =
    put_inserted at xs k
    (subst (λ ws. All (λ x. is_before x k ≡ true) (take at ws)) e (taken_before ys at k taken))
    (ap (λ ws. begins_with k (drop at ws)) (sym f) ∙ ap (begins_with k) (sym (rest_of zs at)) ∙ free)
    (subst (λ ws. All (λ x. not (is_before x k) ≡ true) (drop at ws)) e (subst (All (λ x. not (is_before x k) ≡ true)) (sym left) (filter_passes (λ x. not (is_before x k)) ys)))

-- the keys of one element more
pub fold_more : {X : Type 0} (key : X → Key) (init : List Key) (os : List X) (i : ℕ) (o : X) → i < length os → o ≡ get_or os i o →
    put_key (fold put_key init (map key (take i os))) (key o) ≡ fold put_key init (map key (take (i + 1) os))
fold_more key init os i o h e =
    sym (fold-append put_key init (map key (take i os)) (key o ∷ []))
    ∙ ap (fold put_key init) (sym (map-append key (take i os) (o ∷ [])) ∙ ap (map key) (ap (λ x. take i os ++ x ∷ []) e ∙ sym (take_more os i o h)))

same_default : {X : Type 0} (os : List X) (i : ℕ) (d e : X) → i < length os → get_or os i d ≡ get_or os i e
same_default [] i d e h = absurd (omega arith)
same_default (x ∷ os) zero d e h = refl
same_default (x ∷ os) (suc i) d e h = same_default os i d e (omega arith)

-- from an element that is past on, sorted elements add nothing to the first ones
pub past_from : {X : Type 0} (key : X → Key) (init found : List Key) (os : List X) (i n : ℕ) (o : X) → IsSortedByKey key key_cmp os → i < length os → o ≡ get_or os i o →
    found ≡ take n (fold put_key init (map key (take i os))) → length found ≤ n → PastAll found (key o) n → found ≡ take n (fold put_key init (map key os))
past_from key init found os i n o sorted h e is few past =
    let behind : All (λ q. is_before q (key o) ≡ false) (map key (drop i os)) =
    All-map (λ q. is_before q (key o) ≡ false) key (drop i os) (λ k d l.
    (λ j. is_lt (key_cmp (key (get_or-drop i os k d j)) (key ((e ∙ same_default os i o d h) j))))
    ∙ sorted_far (λ x y. is_lt (key_cmp (key x) (key y))) (ranks_by key_cmp_total key) os sorted i (i + k) d (omega arith) (omega (arith, length-drop i os, l))) in
    sym (all_past n found (fold put_key init (map key (take i os))) (key o) (map key (drop i os)) few is past behind)
    ∙ ap (take n) (sym (fold-append put_key init (map key (take i os)) (map key (drop i os))) ∙ ap (fold put_key init) (sym (map-append key (take i os) (drop i os)) ∙ ap (map key) (take-append-drop i os)))
