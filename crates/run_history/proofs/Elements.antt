-- Elements of lists: what holds of each, and of each with those before and behind it.
use Rattle.std.proofs.Common.{◌≡◌, ◌⊎◌, ℕ, zero, suc, ◌+◌, ◌<◌, ◌≤◌, List, [], ◌∷◌, ◌++◌, map, fold, min, max, filter_map, flat_map, Option, Some, None, IfSome, refl, sym, ap, ap₂, subst, ◌∙◌, inl, inr, arith, append_assoc}
use Rattle.std.specs.List.{AllByRecursion, range_with_len, cons_option}
use Rattle.std.specs.Option.{option_to_list}
use Rattle.run_laws.specs.Calls.{Each}

-- x is an element
abbrev pub In : {A : Type 0} → A → List A → Type 0
In x [] = ⊥
In x (y ∷ ys) = (y ≡ x) ⊎ In x ys

module _ {A : Type 0} where
  pub all_in : (P : A → Type 0) (xs : List A) → AllByRecursion P xs → (x : A) → In x xs → P x
  all_in P [] h x i = absurd i
  all_in P (y ∷ ys) h x (inl e) = subst P e h.0
  all_in P (y ∷ ys) h x (inr i) = all_in P ys h.1 x i

  pub all_from : (P : A → Type 0) (xs : List A) → ((x : A) → In x xs → P x) → AllByRecursion P xs
  all_from P [] h = tt
  all_from P (y ∷ ys) h = (h y (inl refl), all_from P ys (λ x i. h x (inr i)))

  pub in_left : (x : A) (xs ys : List A) → In x xs → In x (xs ++ ys)
  in_left x [] ys i = absurd i
  in_left x (y ∷ xs) ys (inl e) = inl e
  in_left x (y ∷ xs) ys (inr i) = inr (in_left x xs ys i)

  pub in_right : (x : A) (xs ys : List A) → In x ys → In x (xs ++ ys)
  in_right x [] ys i = i
  in_right x (y ∷ xs) ys i = inr (in_right x xs ys i)

  pub in_middle : (x : A) (xs ys : List A) → In x (xs ++ x ∷ ys)
  in_middle x xs ys = in_right x xs (x ∷ ys) (inl refl)

  pub all_append : (P : A → Type 0) (xs ys : List A) → AllByRecursion P xs → AllByRecursion P ys → AllByRecursion P (xs ++ ys)
  all_append P [] ys h k = k
  all_append P (x ∷ xs) ys h k = (h.0, all_append P xs ys h.1 k)

  pub all_map : {B : Type 0} (f : A → B) (P : B → Type 0) (xs : List A) → AllByRecursion (λ x. P (f x)) xs → AllByRecursion P (map f xs)
  all_map f P [] h = tt
  all_map f P (x ∷ xs) h = (h.0, all_map f P xs h.1)

  pub all_unmap : {B : Type 0} (f : A → B) (P : B → Type 0) (xs : List A) → AllByRecursion P (map f xs) → AllByRecursion (λ x. P (f x)) xs
  all_unmap f P [] h = tt
  all_unmap f P (x ∷ xs) h = (h.0, all_unmap f P xs h.1)

  pub each_part : (P : List A → A → List A → Type 0) (before xs : List A) → ((pre : List A) (x : A) (post : List A) → before ++ xs ≡ pre ++ x ∷ post → P pre x post) → Each P before xs
  each_part P before [] h = tt
  each_part P before (x ∷ xs) h = (h before x xs refl, each_part P (before ++ x ∷ []) xs (λ pre y post e. h pre y post (sym (append_assoc before (x ∷ []) xs) ∙ e)))

  -- P of each element with those around it, where it holds of each part of the list
  pub each_from : (P : List A → A → List A → Type 0) (xs : List A) → ((pre : List A) (x : A) (post : List A) → xs ≡ pre ++ x ∷ post → P pre x post) → Each P [] xs
  each_from P xs h = each_part P [] xs h

pub all_flat_map : {A B : Type 0} (f : A → List B) (P : B → Type 0) (xs : List A) → AllByRecursion (λ x. AllByRecursion P (f x)) xs → AllByRecursion P (flat_map f xs)
all_flat_map f P [] h = tt
all_flat_map f P (x ∷ xs) h = all_append P (f x) (flat_map f xs) h.0 (all_flat_map f P xs h.1)

all_cons_option : {B : Type 0} (P : B → Type 0) (o : Option B) (ys : List B) → IfSome o P → AllByRecursion P ys → AllByRecursion P (cons_option o ys)
all_cons_option P None ys h k = k
all_cons_option P (Some y) ys h k = (h, k)

pub all_filter_map : {A B : Type 0} (f : A → Option B) (P : B → Type 0) (xs : List A) → AllByRecursion (λ x. IfSome (f x) P) xs → AllByRecursion P (filter_map f xs)
all_filter_map f P [] h = tt
all_filter_map f P (x ∷ xs) h = all_cons_option P (f x) (filter_map f xs) h.0 (all_filter_map f P xs h.1)

pub all_option : {A : Type 0} (P : A → Type 0) (o : Option A) → IfSome o P → AllByRecursion P (option_to_list o)
all_option P None h = tt
all_option P (Some x) h = (h, tt)

pub all_range : (P : ℕ → Type 0) (a n : ℕ) → ((k : ℕ) → a ≤ k → k < a + n → P k) → AllByRecursion P (range_with_len a n)
all_range P a zero h = tt
all_range P a (suc n) h = (h a (omega arith) (omega arith), all_range P (a + 1) n (λ k le lt. h k (omega arith) (omega arith)))

pub fold_max_below : (m a : ℕ) (xs : List ℕ) → a < m → AllByRecursion (λ x. x < m) xs → fold max a xs < m
fold_max_below m a [] h k = h
fold_max_below m a (x ∷ xs) h k = fold_max_below m (max a x) xs (omega (arith, k.0)) k.1

pub fold_min_above : (m a : ℕ) (xs : List ℕ) → m ≤ a → AllByRecursion (λ x. m ≤ x) xs → m ≤ fold min a xs
fold_min_above m a [] h k = h
fold_min_above m a (x ∷ xs) h k = fold_min_above m (min a x) xs (omega (arith, k.0)) k.1

-- an element's part of a list: what stands before it, and behind it
pub record Part {A B : Type 0} (f : A → B) (xs : List A) (pre : List B) (y : B) (post : List B) : Type 0 where
  pub front : List A
  pub here : A
  pub back : List A
  pub joined : xs ≡ front ++ here ∷ back
  pub before : map f front ≡ pre
  pub image : f here ≡ y
  pub behind : map f back ≡ post

pub part_of : {A B : Type 0} (f : A → B) (xs : List A) (pre : List B) (y : B) (post : List B) → map f xs ≡ pre ++ y ∷ post → Part f xs pre y post
part_of f [] [] y post e = absurd (grind arith)
part_of f [] (p ∷ pre) y post e = absurd (grind arith)
part_of f (x ∷ xs) [] y post e = record { front = []; here = x; back = xs; joined = refl; before = refl; image = cc; behind = cc }
part_of f (x ∷ xs) (p ∷ pre) y post e =
    let k = part_of f xs pre y post cc in
    let h : f x ≡ p = cc in
    record { front = x ∷ k.front; here = k.here; back = k.back; joined = ap (λ zs. x ∷ zs) k.joined; before = ap₂ (λ z zs. z ∷ zs) h k.before; image = k.image; behind = k.behind }
