-- Phrases: the places from which a row of words stands in turn, and the texts that have it.
use Rattle.std.proofs.Common.{◌≡◌, ℕ, suc, ◌+◌, ◌<◌, ◌≤◌, Bool, true, false, cond, not, ◌&&◌, ◌||◌, List, [], ◌∷◌, ◌++◌, length, take, map, filter, Some, refl, sym, ap, ◌∙◌, arith, nat_eq, subst}
use Rattle.std.specs.List.{list_any, flat_map, enumerate_from, starts_with}
use Rattle.std.specs.Ordering.{nat_cmp}
use Rattle.std.specs.Cmp.{nat_cmp_total}
use Rattle.std.specs.FinSet.{from_list, contains-from_list_nat, same_set, nat_cmp-IsAntisymmetric}
use Rattle.std.proofs.lemmas.List.Elements.{filter-append}
use Rattle.std.proofs.lemmas.Bool.{ne_eqb, eq-eqb}
use Rattle.std.proofs.lemmas.List.Folds.{list_any-append}
use Rattle.field_schema.specs.declared.key.Key.{Key}
use Rattle.field_schema.specs.declared.key.Key.TheVariants as key
use Rattle.field_schema.specs.Bytes.{bytes_eq}
use Rattle.field_schema.specs.Keys.{key_eq}
use Rattle.field_schema.specs.Tokens.{tokens}
use Rattle.field_schema.specs.Values.{values_at}
use Rattle.doc_model.specs.Document.{Document}
use Rattle.doc_sets.specs.Sets.{Rises}
use Rattle.doc_sets.proofs.Rising.{Rises-lower}
use Rattle.query_tree.specs.KeysOfDocs.{keys_of_value}
use Rattle.query_tree.specs.Matches.{stand_in, has_words, is_empty}
use Rattle.segment_postings.specs.declared.posting.Position.{Position}
use Rattle.segment_postings.specs.Numbered.{Numbered}
use Rattle.segment_postings.specs.Positions.{position, positions_in}
use Rattle.segment_postings.specs.Postings.{indices_of, places_in, has_key_at}
use Rattle.segment_postings.proofs.PostingsGathered.{any_place}
use Rattle.segment_postings.proofs.SegmentLaws.{filter-map}
use Rattle.query_eval.specs.Found.{found}
use Rattle.query_eval.specs.Runs.{is_position, same_position, moved_on}
use Rattle.query_eval.proofs.Verdicts.{and_false, or_false, doc_of, verdict, passes, absent, settle, contains_found}

any_filter : {A : Type 0} (p q : A → Bool) (xs : List A) → list_any p (filter q xs) ≡ list_any (λ x. q x && p x) xs
any_filter p q [] = refl
any_filter p q (x ∷ xs) = elim (q x) as (λ b. list_any p (cond b (x ∷ filter q xs) (filter q xs)) ≡ ((b && p x) || list_any (λ x. q x && p x) xs)) [
  | true ↦ ap (λ b. p x || b) (any_filter p q xs)
  | false ↦ any_filter p q xs
]

-- the two places are one
abbrev pub same_place : ℕ × ℕ → ℕ × ℕ → Bool
same_place p q = nat_eq q.0 p.0 && nat_eq q.1 p.1

-- the place is among those
abbrev pub is_place : ℕ × ℕ → List (ℕ × ℕ) → Bool
is_place p places = list_any (same_place p) places

-- the words stand in turn from a place on
abbrev pub follow : List Key → List (List ℕ) → ℕ × ℕ → Bool
follow values [] p = true
follow values (w ∷ ws) p = is_place p (places_in (key.Token w) values) && follow values ws (p.0, p.1 + 1)

-- the places of a word that the others follow in turn
abbrev pub starts_of : List Key → List ℕ → List (List ℕ) → List (ℕ × ℕ)
starts_of values w ws = filter (λ p. follow values ws (p.0, p.1 + 1)) (places_in (key.Token w) values)

-- those positions in a document
abbrev pub run_of : ℕ → List ℕ → List (List ℕ) → ℕ × Document → List Position
run_of field w ws e = map (position e.0) (starts_of (values_at e.1.values field) w ws)

abbrev pub runs : ℕ → List ℕ → List (List ℕ) → List (ℕ × Document) → List Position
runs field w ws list = flat_map (run_of field w ws) list

-- the same for a row of words, of the first and as many others
abbrev pub runs_upto : ℕ → List (List ℕ) → ℕ → List (ℕ × Document) → List Position
runs_upto field [] i list = []
runs_upto field (w ∷ ws) i list = runs field w (take i ws) list

-- ---- lists of answers

any_flat : {A B : Type 0} (p : B → Bool) (f : A → List B) (xs : List A) → list_any p (flat_map f xs) ≡ list_any (λ x. list_any p (f x)) xs
any_flat p f [] = refl
any_flat p f (x ∷ xs) = list_any-append p (f x) (flat_map f xs) ∙ ap (λ b. list_any p (f x) || b) (any_flat p f xs)

any_map : {A B : Type 0} (p : B → Bool) (f : A → B) (xs : List A) → list_any p (map f xs) ≡ list_any (λ x. p (f x)) xs
any_map p f [] = refl
any_map p f (x ∷ xs) = ap (λ b. p (f x) || b) (any_map p f xs)

any_second : {A : Type 0} (p : A → Bool) (b : ℕ) (xs : List A) → list_any (λ e. p e.1) (enumerate_from b xs) ≡ list_any p xs
any_second p b [] = refl
any_second p b (x ∷ xs) = ap (λ t. p x || t) (any_second p (b + 1) xs)

any_enumerated : {A : Type 0} (f g : ℕ × A → Bool) (b : ℕ) (xs : List A) → ((n : ℕ) (x : A) → b ≤ n → f (n, x) ≡ g (n, x)) → list_any f (enumerate_from b xs) ≡ list_any g (enumerate_from b xs)
any_enumerated f g b [] same = refl
any_enumerated f g b (x ∷ xs) same =
    (λ i. same b x (omega arith) i || any_enumerated f g (b + 1) xs (λ n y h. same n y (omega arith)) i)

pulled : {A : Type 0} (b : Bool) (p q : A → Bool) (xs : List A) → list_any (λ x. p x && (b && q x)) xs ≡ (b && list_any (λ x. q x && p x) xs)
pulled true p q [] = refl
pulled true p q (x ∷ xs) = (λ i. swap (p x) (q x) i || pulled true p q xs i)
  where
    swap : (a c : Bool) → (a && c) ≡ (c && a)
    swap true true = refl
    swap true false = refl
    swap false true = refl
    swap false false = refl
pulled false p q [] = refl
pulled false p q (x ∷ xs) = (λ i. and_false (p x) i || pulled false p q xs i)

-- ---- entries by their numbers

abbrev AllIn : {D : Type 0} → List (ℕ × D) → List (ℕ × D) → Type 0
AllIn whole [] = Unit {0}
AllIn whole (e ∷ es) = (doc_of whole e.0 ≡ Some e.1) × AllIn whole es

all_behind : {D : Type 0} (e : ℕ × D) (low high : ℕ) (whole list : List (ℕ × D)) → e.0 < low → Rises low high (map (λ e. e.0) list) → AllIn whole list → AllIn (e ∷ whole) list
all_behind e low high whole [] h r all = tt
all_behind e low high whole (x ∷ xs) h r all = (
  ap (λ b. cond b (Some e.1) (doc_of whole x.0)) (ne_eqb e.0 x.0 (λ q. omega (arith, h, r.0, q))) ∙ all.0,
  all_behind e (suc x.0) high whole xs (omega (arith, h, r.0)) r.2 all.1,
)

all_in : {D : Type 0} (low high : ℕ) (list : List (ℕ × D)) → Rises low high (map (λ e. e.0) list) → AllIn list list
all_in low high [] r = tt
all_in low high (e ∷ es) r = (
  ap (λ b. cond b (Some e.1) (doc_of es e.0)) (eq-eqb e.0 e.0 refl),
  all_behind e (suc e.0) high es es (omega arith) r.2 (all_in (suc e.0) high es r.2),
)

any_agree : {D : Type 0} (f g : ℕ × D → Bool) (whole list : List (ℕ × D)) → AllIn whole list → ((e : ℕ × D) → doc_of whole e.0 ≡ Some e.1 → f e ≡ g e) → list_any f list ≡ list_any g list
any_agree f g whole [] all same = refl
any_agree f g whole (e ∷ es) all same = (λ i. same e all.0 i || any_agree f g whole es all.1 same i)

enumerated_rise : {D : Type 0} (b : ℕ) (xs : List D) → Rises b (b + length xs) (map (λ e. e.0) (enumerate_from b xs))
enumerated_rise b [] = tt
enumerated_rise b (x ∷ xs) =
    let rest = enumerated_rise (b + 1) xs in
    (omega arith, omega arith, Rises-lower (suc b) (b + 1) (b + suc (length xs)) (map (λ e. e.0) (enumerate_from (b + 1) xs)) (omega arith) (higher (b + 1) xs (b + suc (length xs)) (omega arith)))
  where
    higher : {D : Type 0} (b : ℕ) (xs : List D) (high : ℕ) → b + length xs ≤ high → Rises b high (map (λ e. e.0) (enumerate_from b xs))
    higher b [] high h = tt
    higher b (x ∷ xs) high h = (omega arith, omega arith, Rises-lower (suc b) (b + 1) high (map (λ e. e.0) (enumerate_from (b + 1) xs)) (omega arith) (higher (b + 1) xs high (omega arith)))

-- ---- places, by the keys of values

module _ (k : Key) where
  -- some place of the key passes
  places_pass : (q : ℕ × ℕ → Bool) (b : ℕ) (values : List Key) → list_any q (flat_map (λ e. map (λ j. (e.0, j)) (indices_of k (keys_of_value e.1))) (enumerate_from b values)) ≡ list_any (λ e. list_any (λ c. key_eq k c.1 && q (e.0, c.0)) (enumerate_from 0 (keys_of_value e.1))) (enumerate_from b values)
  places_pass q b values =
      any_flat q (λ e. map (λ j. (e.0, j)) (indices_of k (keys_of_value e.1))) (enumerate_from b values)
      ∙ any_enumerated _ _ b values (λ n v h.
      any_map q (λ j. (n, j)) (indices_of k (keys_of_value v))
      ∙ any_map (λ j. q (n, j)) (λ c. c.0) (filter (λ c. key_eq k c.1) (enumerate_from 0 (keys_of_value v)))
      ∙ any_filter (λ c. q (n, c.0)) (λ c. key_eq k c.1) (enumerate_from 0 (keys_of_value v)))

-- the key's place in a list of keys numbered from b on
abbrev stands_at : ℕ → List Key → List ℕ → ℕ → Bool
stands_at b ks w j = passes (key_eq (key.Token w)) (enumerate_from b ks) j

abbrev follow_at : ℕ → List Key → List (List ℕ) → ℕ → Bool
follow_at b ks [] j = true
follow_at b ks (w ∷ ws) j = stands_at b ks w j && follow_at b ks ws (j + 1)

-- a place of a token is one among the keys of its value
place_of_value : (values : List Key) (w : List ℕ) (e : ℕ × Key) (j : ℕ) → doc_of (enumerate_from 0 values) e.0 ≡ Some e.1 → is_place (e.0, j) (places_in (key.Token w) values) ≡ stands_at 0 (keys_of_value e.1) w j
place_of_value values w e j there =
    places_pass (key.Token w) (same_place (e.0, j)) 0 values
    ∙ any_enumerated _ _ 0 values (λ n v h. pulled (nat_eq n e.0) (λ c. key_eq (key.Token w) c.1) (λ c. nat_eq c.0 j) (enumerate_from 0 (keys_of_value v)))
    ∙ settle (λ v. stands_at 0 (keys_of_value v) w j) 0 (length values) (enumerate_from 0 values) e.0 (rises_from_zero values)
    ∙ ap (verdict (λ v. stands_at 0 (keys_of_value v) w j)) there
  where
    to_length : (xs : List Key) → Rises 0 (0 + length xs) (map (λ e. e.0) (enumerate_from 0 xs)) → Rises 0 (length xs) (map (λ e. e.0) (enumerate_from 0 xs))
    to_length xs r = subst (λ n. Rises 0 n (map (λ e. e.0) (enumerate_from 0 xs))) (omega arith) r

    rises_from_zero : (xs : List Key) → Rises 0 (length xs) (map (λ e. e.0) (enumerate_from 0 xs))
    rises_from_zero xs = to_length xs (enumerated_rise 0 xs)

follow_of_value : (values : List Key) (ws : List (List ℕ)) (e : ℕ × Key) (j : ℕ) → doc_of (enumerate_from 0 values) e.0 ≡ Some e.1 → follow values ws (e.0, j) ≡ follow_at 0 (keys_of_value e.1) ws j
follow_of_value values [] e j there = refl
follow_of_value values (w ∷ ws) e j there = (λ i. place_of_value values w e j there i && follow_of_value values ws e (j + 1) there i)

-- ---- tokens in turn

skip_head : (b : ℕ) (k : Key) (ks : List Key) (ws : List (List ℕ)) (j : ℕ) → b < j → follow_at b (k ∷ ks) ws j ≡ follow_at (b + 1) ks ws j
skip_head b k ks [] j h = refl
skip_head b k ks (w ∷ ws) j h =
    (λ i. ((ne_eqb b j (λ q. omega (arith, h, q)) i && key_eq (key.Token w) k) || stands_at (b + 1) ks w j) && skip_head b k ks ws (j + 1) (omega arith) i)

aligned : (b : ℕ) (ts ws : List (List ℕ)) → follow_at b (map key.Token ts) ws b ≡ starts_with bytes_eq ts ws
aligned b ts [] = refl
aligned b [] (w ∷ ws) = refl
aligned b (t ∷ ts) (w ∷ ws) =
    let here : nat_eq b b ≡ true = eq-eqb b b refl in
    let ks : List Key = map key.Token ts in
    let later : stands_at (b + 1) ks w b ≡ false = absent (key_eq (key.Token w)) (b + 1) (b + 1 + length ks) (enumerate_from (b + 1) ks) b (enumerated_rise (b + 1) ks) (omega arith) in
    let first : stands_at b (key.Token t ∷ ks) w b ≡ bytes_eq w t = (λ i. (here i && bytes_eq w t) || later i) ∙ or_false (bytes_eq w t) in
    (λ i. first i && (skip_head b (key.Token t) ks ws (b + 1) (omega arith) ∙ aligned (b + 1) ts ws) i)

stand_somewhere : (b : ℕ) (w : List ℕ) (ws ts : List (List ℕ)) → list_any (λ c. key_eq (key.Token w) c.1 && follow_at b (map key.Token ts) ws (c.0 + 1)) (enumerate_from b (map key.Token ts)) ≡ stand_in (w ∷ ws) ts
stand_somewhere b w ws [] = refl
stand_somewhere b w ws (t ∷ ts) =
    let ks : List Key = map key.Token ts in
    let rest : list_any (λ c. key_eq (key.Token w) c.1 && follow_at b (key.Token t ∷ ks) ws (c.0 + 1)) (enumerate_from (b + 1) ks) ≡ stand_in (w ∷ ws) ts =
    any_enumerated _ _ (b + 1) ks (λ n k h. ap (λ x. key_eq (key.Token w) k && x) (skip_head b (key.Token t) ks ws (n + 1) (omega arith)))
    ∙ stand_somewhere (b + 1) w ws ts in
    (λ i. (bytes_eq w t && (skip_head b (key.Token t) ks ws (b + 1) (omega arith) ∙ aligned (b + 1) ts ws) i) || rest i)

in_value : (w : List ℕ) (ws : List (List ℕ)) (v : Key) → list_any (λ c. key_eq (key.Token w) c.1 && follow_at 0 (keys_of_value v) ws (c.0 + 1)) (enumerate_from 0 (keys_of_value v)) ≡ has_words (w ∷ ws) v
in_value w ws (key.Str t) = refl
in_value w ws (key.Long n) = refl
in_value w ws (key.Bool b) = refl
in_value w ws (key.Token t) = stand_somewhere 0 w ws (tokens t)

-- the words stand in turn from some place on where some value has them
some_start : (values : List Key) (w : List ℕ) (ws : List (List ℕ)) → list_any (λ p. follow values ws (p.0, p.1 + 1)) (places_in (key.Token w) values) ≡ list_any (has_words (w ∷ ws)) values
some_start values w ws =
    places_pass (key.Token w) (λ p. follow values ws (p.0, p.1 + 1)) 0 values
    ∙ any_agree _ _ (enumerate_from 0 values) (enumerate_from 0 values) (all_in 0 (0 + length values) (enumerate_from 0 values) (enumerated_rise 0 values)) (λ e there.
    any_enumerated _ _ 0 (keys_of_value e.1) (λ j k h. ap (λ x. key_eq (key.Token w) k && x) (follow_of_value values ws e (j + 1) there))
    ∙ in_value w ws e.1)
    ∙ any_second (has_words (w ∷ ws)) 0 values

-- ---- the rows of positions

pub runs_none : (field : ℕ) (w : List ℕ) (list : List (ℕ × Document)) → flat_map (positions_in field (key.Token w)) list ≡ runs field w [] list
runs_none field w [] = refl
runs_none field w (e ∷ es) =
    (λ i. map (position e.0) (sym (all_kept (places_in (key.Token w) (values_at e.1.values field))) i) ++ runs_none field w es i)
  where
    all_kept : (ps : List (ℕ × ℕ)) → filter (λ p. true) ps ≡ ps
    all_kept [] = refl
    all_kept (p ∷ ps) = ap (λ xs. p ∷ xs) (all_kept ps)

shared : (c x y : Bool) → ((c && x) || (c && y)) ≡ (c && (x || y))
shared true x y = refl
shared false x y = refl

-- a place among the positions in one document
place_in_one : (n m : ℕ) (p : ℕ × ℕ) (qs : List (ℕ × ℕ)) → is_position (position n p) (map (position m) qs) ≡ (nat_eq m n && is_place p qs)
place_in_one n m p [] = sym (and_false (nat_eq m n))
place_in_one n m p (q ∷ qs) = ap (λ b. (nat_eq m n && same_place p q) || b) (place_in_one n m p qs) ∙ shared (nat_eq m n) (same_place p q) (is_place p qs)

-- a place among a document's positions of a word
place_there : (field : ℕ) (x : List ℕ) (low high : ℕ) (whole : List (ℕ × Document)) (e : ℕ × Document) (p : ℕ × ℕ) → Rises low high (map (λ e. e.0) whole) → doc_of whole e.0 ≡ Some e.1 → is_position (position e.0 p) (flat_map (positions_in field (key.Token x)) whole) ≡ is_place p (places_in (key.Token x) (values_at e.1.values field))
place_there field x low high whole e p r there =
    among whole
    ∙ settle (λ d. is_place p (places_in (key.Token x) (values_at d.values field))) low high whole e.0 r
    ∙ ap (verdict (λ d. is_place p (places_in (key.Token x) (values_at d.values field)))) there
  where
    among : (list : List (ℕ × Document)) → is_position (position e.0 p) (flat_map (positions_in field (key.Token x)) list) ≡ passes (λ d. is_place p (places_in (key.Token x) (values_at d.values field))) list e.0
    among [] = refl
    among (f ∷ fs) =
        list_any-append (same_position (position e.0 p)) (positions_in field (key.Token x) f) (flat_map (positions_in field (key.Token x)) fs)
        ∙ (λ i. place_in_one e.0 f.0 p (places_in (key.Token x) (values_at f.1.values field)) i || among fs i)

-- one word more
follow_more : (values : List Key) (ws : List (List ℕ)) (x : List ℕ) (i j : ℕ) → follow values (ws ++ x ∷ []) (i, j) ≡ (follow values ws (i, j) && is_place (i, j + length ws) (places_in (key.Token x) values))
follow_more values [] x i j =
    and_true (is_place (i, j) (places_in (key.Token x) values)) ∙ ap (λ n. is_place (i, n) (places_in (key.Token x) values)) (omega arith)
  where
    and_true : (b : Bool) → (b && true) ≡ b
    and_true true = refl
    and_true false = refl
follow_more values (w ∷ ws) x i j =
    ap (λ b. is_place (i, j) (places_in (key.Token w) values) && b) (follow_more values ws x i (j + 1) ∙ ap (λ n. follow values ws (i, j + 1) && is_place (i, n) (places_in (key.Token x) values)) (omega arith))
    ∙ assoc (is_place (i, j) (places_in (key.Token w) values)) (follow values ws (i, j + 1)) (is_place (i, j + suc (length ws)) (places_in (key.Token x) values))
  where
    assoc : (a b c : Bool) → (a && (b && c)) ≡ ((a && b) && c)
    assoc true b c = refl
    assoc false b c = refl

filter_both : (p q r : ℕ × ℕ → Bool) → ((x : ℕ × ℕ) → r x ≡ (p x && q x)) → (xs : List (ℕ × ℕ)) → filter q (filter p xs) ≡ filter r xs
filter_both p q r same [] = refl
filter_both p q r same (x ∷ xs) =
    elim (p x) as (λ b. filter q (cond b (x ∷ filter p xs) (filter p xs)) ≡ cond (b && q x) (x ∷ filter r xs) (filter r xs)) [
      | true ↦ ap (λ ys. cond (q x) (x ∷ ys) ys) (filter_both p q r same xs)
      | false ↦ filter_both p q r same xs
    ] ∙ ap (λ b. cond b (x ∷ filter r xs) (filter r xs)) (sym (same x))

pub runs_more : (field : ℕ) (w : List ℕ) (ws : List (List ℕ)) (x : List ℕ) (offset low high : ℕ) (list : List (ℕ × Document)) → offset ≡ length ws + 1 → Rises low high (map (λ e. e.0) list) → filter (λ p. is_position (moved_on offset p) (flat_map (positions_in field (key.Token x)) list)) (runs field w ws list) ≡ runs field w (ws ++ x ∷ []) list
runs_more field w ws x offset low high list is r = step list (all_in low high list r)
  where
    places_more : (e : ℕ × Document) → doc_of list e.0 ≡ Some e.1 → filter (λ p. is_position (position e.0 (p.0, p.1 + offset)) (flat_map (positions_in field (key.Token x)) list)) (starts_of (values_at e.1.values field) w ws) ≡ starts_of (values_at e.1.values field) w (ws ++ x ∷ [])
    places_more e there =
        filter_both (λ p. follow (values_at e.1.values field) ws (p.0, p.1 + 1)) (λ p. is_position (position e.0 (p.0, p.1 + offset)) (flat_map (positions_in field (key.Token x)) list)) (λ p. follow (values_at e.1.values field) (ws ++ x ∷ []) (p.0, p.1 + 1))
        (λ p. follow_more (values_at e.1.values field) ws x p.0 (p.1 + 1)
        ∙ ap (λ b. follow (values_at e.1.values field) ws (p.0, p.1 + 1) && b)
        (ap (λ n. is_place (p.0, n) (places_in (key.Token x) (values_at e.1.values field))) (omega (arith, is)) ∙ sym (place_there field x low high list e (p.0, p.1 + offset) r there)))
        (places_in (key.Token w) (values_at e.1.values field))

    step : (es : List (ℕ × Document)) → AllIn list es → filter (λ p. is_position (moved_on offset p) (flat_map (positions_in field (key.Token x)) list)) (runs field w ws es) ≡ runs field w (ws ++ x ∷ []) es
    step [] all = refl
    step (e ∷ es) all =
        filter-append (λ p. is_position (moved_on offset p) (flat_map (positions_in field (key.Token x)) list)) (run_of field w ws e) (runs field w ws es)
        ∙ (λ i. (filter-map (position e.0) (λ p. is_position (moved_on offset p) (flat_map (positions_in field (key.Token x)) list)) (starts_of (values_at e.1.values field) w ws)
        ∙ ap (map (position e.0)) (places_more e all.0)) i ++ step es all.1 i)

-- ---- the documents that are found

-- a word alone stands in a text of the document where this has it as a key
pub word_alone : (field : ℕ) (w : List ℕ) (d : Document) → has_key_at field (key.Token w) d ≡ (not (is_empty (w ∷ [])) && list_any (has_words (w ∷ [])) (values_at d.values field))
word_alone field w d =
    any_place (key.Token w) 0 (values_at d.values field)
    ∙ some_place (places_in (key.Token w) (values_at d.values field))
    ∙ some_start (values_at d.values field) w []
  where
    some_place : (ps : List (ℕ × ℕ)) → not (is_empty ps) ≡ list_any (λ p. true) ps
    some_place [] = refl
    some_place (p ∷ ps) = refl

-- a start in the document of a number
start_in : (field : ℕ) (w : List ℕ) (ws : List (List ℕ)) (n : ℕ) (e : ℕ × Document) → list_any (λ p. nat_eq p.doc n) (run_of field w ws e) ≡ (nat_eq e.0 n && list_any (has_words (w ∷ ws)) (values_at e.1.values field))
start_in field w ws n e =
    let values : List Key = values_at e.1.values field in
    any_map (λ p. nat_eq p.doc n) (position e.0) (starts_of values w ws)
    ∙ any_filter (λ p. nat_eq e.0 n) (λ p. follow values ws (p.0, p.1 + 1)) (places_in (key.Token w) values)
    ∙ beside (places_in (key.Token w) values)
    ∙ ap (λ b. nat_eq e.0 n && b) (some_start values w ws)
  where
    turned : (a c x : Bool) → ((a && c) || (c && x)) ≡ (c && (a || x))
    turned true true x = refl
    turned true false x = refl
    turned false true x = refl
    turned false false x = refl

    beside : (ps : List (ℕ × ℕ)) → list_any (λ p. follow (values_at e.1.values field) ws (p.0, p.1 + 1) && nat_eq e.0 n) ps ≡ (nat_eq e.0 n && list_any (λ p. follow (values_at e.1.values field) ws (p.0, p.1 + 1)) ps)
    beside [] = sym (and_false (nat_eq e.0 n))
    beside (p ∷ ps) =
        ap (λ b. (follow (values_at e.1.values field) ws (p.0, p.1 + 1) && nat_eq e.0 n) || b) (beside ps)
        ∙ turned (follow (values_at e.1.values field) ws (p.0, p.1 + 1)) (nat_eq e.0 n) (list_any (λ p. follow (values_at e.1.values field) ws (p.0, p.1 + 1)) ps)

pub phrase_set : (field : ℕ) (w : List ℕ) (ws : List (List ℕ)) (v : Numbered) → from_list {R = nat_cmp} (map (λ p. p.doc) (runs field w ws v.list)) ≡ found (λ d. not (is_empty (w ∷ ws)) && list_any (has_words (w ∷ ws)) (values_at d.values field)) v
phrase_set field w ws v = same_set nat_cmp_total nat_cmp-IsAntisymmetric _ _ (λ n.
    contains-from_list_nat (map (λ p. p.doc) (runs field w ws v.list)) n
    ∙ any_map (λ y. nat_eq y n) (λ (p : Position). p.doc) (runs field w ws v.list)
    ∙ any_flat (λ p. nat_eq p.doc n) (run_of field w ws) v.list
    ∙ (λ i. list_any (λ e. start_in field w ws n e i) v.list)
    ∙ sym (contains_found (λ d. not (is_empty (w ∷ ws)) && list_any (has_words (w ∷ ws)) (values_at d.values field)) v n))
