-- Positions ascend, and a walk along two rows of them finds what is in both.
use Rattle.std.proofs.Common.{◌≡◌, ℕ, zero, suc, ◌+◌, ◌<◌, ◌≤◌, Bool, true, false, cond, ◌&&◌, ◌||◌, List, [], ◌∷◌, ◌++◌, length, get_or, take, drop, map, filter, refl, sym, ap, subst, ◌∙◌, arith, nat_eq, nat_lt, IsTrue, inl, inr}
use Rattle.std.specs.List.{list_all, flat_map, enumerate_from}
use Rattle.std.proofs.lemmas.Bool.{and_parts, and_from, cases_Bool, lt-ltb, eq-eqb}
use Rattle.std.proofs.lemmas.List.Concat.{flat_map-cons}
use Rattle.std.proofs.lemmas.List.{append_assoc, append-nil}
use Rattle.std.proofs.lemmas.List.Folds.{list_all-append}
use Rattle.field_schema.specs.declared.key.Key.{Key}
use Rattle.field_schema.specs.declared.key.Key.TheVariants as key
use Rattle.field_schema.specs.Keys.{key_eq}
use Rattle.field_schema.specs.Values.{values_at}
use Rattle.doc_model.specs.Document.{Document}
use Rattle.doc_sets.specs.Sets.{Rises}
use Rattle.query_tree.specs.KeysOfDocs.{keys_of_value}
use Rattle.segment_postings.specs.declared.posting.Position.{Position}
use Rattle.segment_postings.specs.Numbered.{Numbered, IsNumbered}
use Rattle.segment_postings.specs.Positions.{position, positions_of}
use Rattle.segment_postings.specs.Postings.{places_in}
use Rattle.query_eval.specs.Runs.{same_position, is_position, is_ahead, moved_on, PositionsRise, from_position, begins_at}
use Rattle.query_eval.proofs.Verdicts.{or_false}
use Rattle.query_eval.proofs.Loops.{drop_one}
use Rattle.query_eval.proofs.Phrases.{follow, starts_of, runs_upto}

-- a position before another is not that one
pub not_short : (q t : Position) → is_ahead q t ≡ true → same_position t q ≡ false
not_short q t h = grind arith

-- what is before a place is none behind it, and so with both moved on
pub not_later : (q p r : Position) (offset : ℕ) → is_ahead q (moved_on offset p) ≡ true → is_ahead p r ≡ true → same_position (moved_on offset r) q ≡ false
not_later q p r offset h k = grind arith

-- what comes behind a place that is not before another is not that other
pub not_behind : (q x t : Position) → is_ahead q x ≡ true → is_ahead q t ≡ false → same_position t x ≡ false
not_behind q x t h k = grind arith

-- ---- a walk along places

module _ (offset : ℕ) where
  -- of places that come before a later one, none is it
  skipped_here : (t : Position) (qs : List Position) → is_position t (from_position t qs) ≡ is_position t qs
  skipped_here t [] = refl
  skipped_here t (q ∷ qs) = elim (cases_Bool (is_ahead q t)) [
    | inl h ↦ ap (λ b. is_position t (cond b (from_position t qs) (q ∷ qs))) h ∙ skipped_here t qs ∙ sym (ap (λ b. b || is_position t qs) (not_short q t h))
    | inr h ↦ ap (λ b. is_position t (cond b (from_position t qs) (q ∷ qs))) h
  ]

  skipped_later : (p r : Position) (qs : List Position) → is_ahead p r ≡ true → is_position (moved_on offset r) (from_position (moved_on offset p) qs) ≡ is_position (moved_on offset r) qs
  skipped_later p r [] k = refl
  skipped_later p r (q ∷ qs) k = elim (cases_Bool (is_ahead q (moved_on offset p))) [
    | inl h ↦
        ap (λ b. is_position (moved_on offset r) (cond b (from_position (moved_on offset p) qs) (q ∷ qs))) h
        ∙ skipped_later p r qs k
        ∙ sym (ap (λ b. b || is_position (moved_on offset r) qs) (not_later q p r offset h k))
    | inr h ↦ ap (λ b. is_position (moved_on offset r) (cond b (from_position (moved_on offset p) qs) (q ∷ qs))) h
  ]

  kept_later : (p : Position) (rs qs : List Position) → list_all (is_ahead p) rs ≡ true → filter (λ r. is_position (moved_on offset r) (from_position (moved_on offset p) qs)) rs ≡ filter (λ r. is_position (moved_on offset r) qs) rs
  kept_later p [] qs h = refl
  kept_later p (r ∷ rs) qs h =
      let both = and_parts (is_ahead p r) (list_all (is_ahead p) rs) h in
      (λ i. cond (skipped_later p r qs both.0 i) (r ∷ kept_later p rs qs both.1 i) (kept_later p rs qs both.1 i))

none_ahead : (t q : Position) (qs : List Position) → is_ahead q t ≡ false → list_all (is_ahead q) qs ≡ true → is_position t qs ≡ false
none_ahead t q [] h k = refl
none_ahead t q (x ∷ xs) h k =
    let both = and_parts (is_ahead q x) (list_all (is_ahead q) xs) k in
    (λ i. not_behind q x t both.0 h i || none_ahead t q xs h both.1 i)

-- of ascending places from one on, only the first may be it
first_only : (t : Position) (qs : List Position) → PositionsRise qs → begins_at t (from_position t qs) ≡ is_position t (from_position t qs)
first_only t [] r = refl
first_only t (q ∷ qs) r = elim (cases_Bool (is_ahead q t)) [
  | inl h ↦ subst (λ (b : Bool). begins_at t (cond b (from_position t qs) (q ∷ qs)) ≡ is_position t (cond b (from_position t qs) (q ∷ qs))) (sym h) (first_only t qs r.1)
  | inr h ↦ subst (λ (b : Bool). begins_at t (cond b (from_position t qs) (q ∷ qs)) ≡ is_position t (cond b (from_position t qs) (q ∷ qs))) (sym h)
      (sym (ap (λ b. same_position t q || b) (none_ahead t q qs h r.0) ∙ or_false (same_position t q)))
]

pub first_tells : (t : Position) (qs rest : List Position) → PositionsRise qs → rest ≡ from_position t qs → begins_at t rest ≡ is_position t qs
first_tells t qs rest r is = ap (begins_at t) is ∙ first_only t qs r ∙ skipped_here 0 t qs

pub rise_from : (t : Position) (qs : List Position) → PositionsRise qs → PositionsRise (from_position t qs)
rise_from t [] r = tt
rise_from t (q ∷ qs) r = elim (is_ahead q t) as (λ b. PositionsRise (cond b (from_position t qs) (q ∷ qs))) [
  | true ↦ rise_from t qs r.1
  | false ↦ r
]

-- what stands at a place within a list, whatever is given for those past it
pub same_at : {A : Type 0} (i : ℕ) (xs : List A) (a b : A) → i < length xs → get_or xs i a ≡ get_or xs i b
same_at i [] a b h = absurd (omega (arith, h))
same_at zero (x ∷ xs) a b h = refl
same_at (suc i) (x ∷ xs) a b h = same_at i xs a b (omega (arith, h))

-- places that ascend, with those of others from which on they may be followed
pub record Starts (places others : List Position) (offset i : ℕ) (rest found : List Position) : Type 0 where
  pub ahead : PositionsRise (drop i places)
  pub rising : PositionsRise rest
  pub all : found ++ filter (λ p. is_position (moved_on offset p) rest) (drop i places) ≡ filter (λ p. is_position (moved_on offset p) others) places

pub starts_none : (places others : List Position) (offset : ℕ) → PositionsRise places → PositionsRise others → Starts places others offset 0 others []
starts_none places others offset h k = record { ahead = h; rising = k; all = refl }

module _ (places others : List Position) (offset i : ℕ) (rest found more : List Position) (p : Position) (s : Starts places others offset i rest found) (within : i < length places) (is : p ≡ get_or places i p) (skipped : more ≡ from_position (moved_on offset p) rest) where
  split : drop i places ≡ p ∷ drop (i + 1) places
  split = drop_one i places p within is

  behind : PositionsRise (p ∷ drop (i + 1) places)
  behind = subst (λ (ps : List Position). PositionsRise ps) split s.ahead

  rest_rises : PositionsRise more
  rest_rises = subst (λ (ps : List Position). PositionsRise ps) (sym skipped) (rise_from (moved_on offset p) rest s.rising)

  -- what is left is the place, where it is followed, and what is left behind it
  left : (b : Bool) → begins_at (moved_on offset p) more ≡ b → filter (λ q. is_position (moved_on offset q) rest) (drop i places) ≡ cond b (p ∷ filter (λ q. is_position (moved_on offset q) more) (drop (i + 1) places)) (filter (λ q. is_position (moved_on offset q) more) (drop (i + 1) places))
  left b tells =
      let here : is_position (moved_on offset p) rest ≡ b = sym (first_tells (moved_on offset p) rest more s.rising skipped) ∙ tells in
      let later : filter (λ q. is_position (moved_on offset q) rest) (drop (i + 1) places) ≡ filter (λ q. is_position (moved_on offset q) more) (drop (i + 1) places) =
      sym (ap (λ qs. filter (λ q. is_position (moved_on offset q) qs) (drop (i + 1) places)) skipped ∙ kept_later offset p (drop (i + 1) places) rest behind.0) in
      ap (filter (λ q. is_position (moved_on offset q) rest)) split
      ∙ (λ j. cond (here j) (p ∷ later j) (later j))

  pub starts_more : (put : List Position) → begins_at (moved_on offset p) more ≡ true → put ≡ found ++ p ∷ [] → Starts places others offset (i + 1) more put
  starts_more put tells is_put = record {
    ahead = behind.1;
    rising = rest_rises;
    all =
        ap (λ fs. fs ++ filter (λ q. is_position (moved_on offset q) more) (drop (i + 1) places)) is_put
        ∙ append_assoc found (p ∷ []) (filter (λ q. is_position (moved_on offset q) more) (drop (i + 1) places))
        ∙ ap (λ qs. found ++ qs) (sym (left true tells))
        ∙ s.all;
  }

  pub starts_same : begins_at (moved_on offset p) more ≡ false → Starts places others offset (i + 1) more found
  starts_same tells = record {
    ahead = behind.1;
    rising = rest_rises;
    all = ap (λ qs. found ++ qs) (sym (left false tells)) ∙ s.all;
  }

-- the same at the place's own element
pub put_at : (places others : List Position) (offset i : ℕ) (rest found more put : List Position) (d : Position) → Starts places others offset i rest found → i < length places → more ≡ from_position (moved_on offset (get_or places i d)) rest → begins_at (moved_on offset (get_or places i d)) more ≡ true → put ≡ found ++ get_or places i d ∷ [] → Starts places others offset (i + 1) more put
put_at places others offset i rest found more put d s within skipped tells is_put =
    starts_more places others offset i rest found more (get_or places i d) s within (same_at i places d (get_or places i d) within) skipped put tells is_put

pub kept_at : (places others : List Position) (offset i : ℕ) (rest found more : List Position) (d : Position) → Starts places others offset i rest found → i < length places → more ≡ from_position (moved_on offset (get_or places i d)) rest → begins_at (moved_on offset (get_or places i d)) more ≡ false → Starts places others offset (i + 1) more found
kept_at places others offset i rest found more d s within skipped tells =
    starts_same places others offset i rest found more (get_or places i d) s within (same_at i places d (get_or places i d) within) skipped tells

drop_past : {A : Type 0} (i : ℕ) (xs : List A) → length xs ≤ i → drop i xs ≡ []
drop_past zero [] h = refl
drop_past zero (x ∷ xs) h = absurd (omega (arith, h))
drop_past (suc i) [] h = refl
drop_past (suc i) (x ∷ xs) h = drop_past i xs (omega (arith, h))

pub starts_all : (places others : List Position) (offset i : ℕ) (rest found : List Position) → length places ≤ i → Starts places others offset i rest found → found ≡ filter (λ p. is_position (moved_on offset p) others) places
starts_all places others offset i rest found past s =
    sym (ap (λ ps. found ++ filter (λ p. is_position (moved_on offset p) rest) ps) (drop_past i places past) ∙ append-nil found) ∙ s.all

-- ---- the places of a token in a document ascend

-- p stands in an earlier value than q, or before it in the same value
abbrev place_ahead : ℕ × ℕ → ℕ × ℕ → Bool
place_ahead p q = nat_lt p.0 q.0 || (nat_eq p.0 q.0 && nat_lt p.1 q.1)

abbrev PlacesRise : List (ℕ × ℕ) → Type 0
PlacesRise [] = Unit {0}
PlacesRise (p ∷ ps) = IsTrue (list_all (place_ahead p) ps) × PlacesRise ps

kept_all : (f g : ℕ × ℕ → Bool) (ps : List (ℕ × ℕ)) → list_all f ps ≡ true → list_all f (filter g ps) ≡ true
kept_all f g [] h = refl
kept_all f g (p ∷ ps) h =
    let both = and_parts (f p) (list_all f ps) h in
    elim (g p) as (λ b. list_all f (cond b (p ∷ filter g ps) (filter g ps)) ≡ true) [
      | true ↦ and_from (f p) (list_all f (filter g ps)) both.0 (kept_all f g ps both.1)
      | false ↦ kept_all f g ps both.1
    ]

pub rise_kept : (g : ℕ × ℕ → Bool) (ps : List (ℕ × ℕ)) → PlacesRise ps → PlacesRise (filter g ps)
rise_kept g [] r = tt
rise_kept g (p ∷ ps) r = elim (g p) as (λ b. PlacesRise (cond b (p ∷ filter g ps) (filter g ps))) [
  | true ↦ (kept_all (place_ahead p) g ps r.0, rise_kept g ps r.1)
  | false ↦ rise_kept g ps r.1
]

-- the places of a key in a value, whose keys are numbered from b on
abbrev places_here : Key → ℕ → ℕ → List Key → List (ℕ × ℕ)
places_here k n b keys = map (λ j. (n, j)) (map (λ e. e.0) (filter (λ e. key_eq k e.1) (enumerate_from b keys)))

abbrev places_from : Key → ℕ → List Key → List (ℕ × ℕ)
places_from k b values = flat_map (λ e. places_here k e.0 0 (keys_of_value e.1)) (enumerate_from b values)

-- of an earlier value
abbrev in_later : ℕ → ℕ × ℕ → Bool
in_later n p = nat_lt n p.0

ahead_of_later : (n c : ℕ) (ps : List (ℕ × ℕ)) → list_all (in_later n) ps ≡ true → list_all (place_ahead (n, c)) ps ≡ true
ahead_of_later n c [] h = refl
ahead_of_later n c (p ∷ ps) h =
    let both = and_parts (in_later n p) (list_all (in_later n) ps) h in
    and_from (place_ahead (n, c) p) (list_all (place_ahead (n, c)) ps) (ap (λ b. b || (nat_eq n p.0 && nat_lt c p.1)) both.0) (ahead_of_later n c ps both.1)

same_value : (n c b : ℕ) → c < b → place_ahead (n, c) (n, b) ≡ true
same_value n c b h = grind arith

module _ (k : Key) (n : ℕ) (rest : List (ℕ × ℕ)) (later : list_all (in_later n) rest ≡ true) where
  here_ahead : (c b : ℕ) (keys : List Key) → c < b → list_all (place_ahead (n, c)) (places_here k n b keys ++ rest) ≡ true
  here_ahead c b [] h = ahead_of_later n c rest later
  here_ahead c b (x ∷ xs) h = elim (key_eq k x) as (λ t. list_all (place_ahead (n, c)) (map (λ j. (n, j)) (map (λ e. e.0) (cond t ((b, x) ∷ filter (λ e. key_eq k e.1) (enumerate_from (b + 1) xs)) (filter (λ e. key_eq k e.1) (enumerate_from (b + 1) xs)))) ++ rest) ≡ true) [
    | true ↦ and_from (place_ahead (n, c) (n, b)) (list_all (place_ahead (n, c)) (places_here k n (b + 1) xs ++ rest)) (same_value n c b h) (here_ahead c (b + 1) xs (omega (arith, h)))
    | false ↦ here_ahead c (b + 1) xs (omega (arith, h))
  ]

  here_rises : (b : ℕ) (keys : List Key) → PlacesRise rest → PlacesRise (places_here k n b keys ++ rest)
  here_rises b [] r = r
  here_rises b (x ∷ xs) r = elim (key_eq k x) as (λ t. PlacesRise (map (λ j. (n, j)) (map (λ e. e.0) (cond t ((b, x) ∷ filter (λ e. key_eq k e.1) (enumerate_from (b + 1) xs)) (filter (λ e. key_eq k e.1) (enumerate_from (b + 1) xs)))) ++ rest)) [
    | true ↦ (here_ahead b (b + 1) xs (omega arith), here_rises (b + 1) xs r)
    | false ↦ here_rises (b + 1) xs r
  ]

-- places of values from one on are in later values than one before
here_later : (k : Key) (m n b : ℕ) (keys : List Key) → m < n → list_all (in_later m) (places_here k n b keys) ≡ true
here_later k m n b [] h = refl
here_later k m n b (x ∷ xs) h = elim (key_eq k x) as (λ t. list_all (in_later m) (map (λ j. (n, j)) (map (λ e. e.0) (cond t ((b, x) ∷ filter (λ e. key_eq k e.1) (enumerate_from (b + 1) xs)) (filter (λ e. key_eq k e.1) (enumerate_from (b + 1) xs))))) ≡ true) [
  | true ↦ and_from (nat_lt m n) (list_all (in_later m) (places_here k n (b + 1) xs)) (lt-ltb m n h) (here_later k m n (b + 1) xs h)
  | false ↦ here_later k m n (b + 1) xs h
]

all_later : (k : Key) (m b : ℕ) (values : List Key) → m < b → list_all (in_later m) (places_from k b values) ≡ true
all_later k m b [] h = refl
all_later k m b (v ∷ vs) h =
    ap (list_all (in_later m)) (flat_map-cons (λ e. places_here k e.0 0 (keys_of_value e.1)) (b, v) (enumerate_from (b + 1) vs))
    ∙ list_all-append (in_later m) (places_here k b 0 (keys_of_value v)) (places_from k (b + 1) vs)
    ∙ and_from (list_all (in_later m) (places_here k b 0 (keys_of_value v))) (list_all (in_later m) (places_from k (b + 1) vs)) (here_later k m b 0 (keys_of_value v) h) (all_later k m (b + 1) vs (omega (arith, h)))

places_rise : (k : Key) (b : ℕ) (values : List Key) → PlacesRise (places_from k b values)
places_rise k b [] = tt
places_rise k b (v ∷ vs) =
    subst (λ (ps : List (ℕ × ℕ)). PlacesRise ps) (sym (flat_map-cons (λ e. places_here k e.0 0 (keys_of_value e.1)) (b, v) (enumerate_from (b + 1) vs)))
    (here_rises k b (places_from k (b + 1) vs) (all_later k b (b + 1) vs (omega arith)) 0 (keys_of_value v) (places_rise k (b + 1) vs))

-- ---- and so do those in documents whose numbers ascend

ahead_here : (n : ℕ) (p q : ℕ × ℕ) → place_ahead p q ≡ true → is_ahead (position n p) (position n q) ≡ true
ahead_here n p q h =
    (λ i. nat_lt n n || (eq-eqb n n refl i && place_ahead p q)) ∙ ap (λ b. nat_lt n n || b) h ∙ or_true (nat_lt n n)
  where
    or_true : (b : Bool) → (b || true) ≡ true
    or_true true = refl
    or_true false = refl

all_here : (n : ℕ) (p : ℕ × ℕ) (ps : List (ℕ × ℕ)) → list_all (place_ahead p) ps ≡ true → list_all (is_ahead (position n p)) (map (position n) ps) ≡ true
all_here n p [] h = refl
all_here n p (q ∷ qs) h =
    let both = and_parts (place_ahead p q) (list_all (place_ahead p) qs) h in
    and_from (is_ahead (position n p) (position n q)) (list_all (is_ahead (position n p)) (map (position n) qs)) (ahead_here n p q both.0) (all_here n p qs both.1)

ahead_there : (n m : ℕ) (p : ℕ × ℕ) (ps : List (ℕ × ℕ)) → n < m → list_all (is_ahead (position n p)) (map (position m) ps) ≡ true
ahead_there n m p [] h = refl
ahead_there n m p (q ∷ qs) h =
    and_from (is_ahead (position n p) (position m q)) (list_all (is_ahead (position n p)) (map (position m) qs)) (ap (λ b. b || (nat_eq n m && place_ahead p q)) (lt-ltb n m h)) (ahead_there n m p qs h)

module _ (f : ℕ × Document → List (ℕ × ℕ)) (rise : (e : ℕ × Document) → PlacesRise (f e)) where
  abbrev told : List (ℕ × Document) → List Position
  told list = flat_map (λ e. map (position e.0) (f e)) list

  all_there : (n low high : ℕ) (p : ℕ × ℕ) (list : List (ℕ × Document)) → n < low → Rises low high (map (λ e. e.0) list) → list_all (is_ahead (position n p)) (told list) ≡ true
  all_there n low high p [] h r = refl
  all_there n low high p (e ∷ es) h r =
      list_all-append (is_ahead (position n p)) (map (position e.0) (f e)) (told es)
      ∙ and_from (list_all (is_ahead (position n p)) (map (position e.0) (f e))) (list_all (is_ahead (position n p)) (told es)) (ahead_there n e.0 p (f e) (omega (arith, h, r.0))) (all_there n (suc e.0) high p es (omega (arith, h, r.0)) r.2)

  rises_behind : (n : ℕ) (ps : List (ℕ × ℕ)) (rest : List Position) → PlacesRise ps → PositionsRise rest → ((p : ℕ × ℕ) → list_all (is_ahead (position n p)) rest ≡ true) → PositionsRise (map (position n) ps ++ rest)
  rises_behind n [] rest r s later = s
  rises_behind n (p ∷ ps) rest r s later = (
    list_all-append (is_ahead (position n p)) (map (position n) ps) rest
        ∙ and_from (list_all (is_ahead (position n p)) (map (position n) ps)) (list_all (is_ahead (position n p)) rest) (all_here n p ps r.0) (later p),
    rises_behind n ps rest r.1 s later,
  )

  positions_rise : (low high : ℕ) (list : List (ℕ × Document)) → Rises low high (map (λ e. e.0) list) → PositionsRise (told list)
  positions_rise low high [] r = tt
  positions_rise low high (e ∷ es) r = rises_behind e.0 (f e) (told es) (rise e) (positions_rise (suc e.0) high es r.2) (λ p. all_there e.0 (suc e.0) high p es (omega arith) r.2)

pub held_rise : (v : Numbered) (field : ℕ) (words : List (List ℕ)) (i : ℕ) (ps : List Position) → IsNumbered v → ps ≡ runs_upto field words i v.list → PositionsRise ps
held_rise v field [] i ps sound is = subst (λ (qs : List Position). PositionsRise qs) (sym is) tt
held_rise v field (w ∷ ws) i ps sound is =
    subst (λ (qs : List Position). PositionsRise qs) (sym is)
    (positions_rise (λ e. starts_of (values_at e.1.values field) w (take i ws))
    (λ e. rise_kept (λ p. follow (values_at e.1.values field) (take i ws) (p.0, p.1 + 1)) (places_in (key.Token w) (values_at e.1.values field)) (places_rise (key.Token w) 0 (values_at e.1.values field)))
    0 v.size v.list sound.rising)

pub next_rise : (v : Numbered) (field : ℕ) (w : List ℕ) (ps : List Position) → IsNumbered v → ps ≡ positions_of v field (key.Token w) → PositionsRise ps
next_rise v field w ps sound is =
    subst (λ (qs : List Position). PositionsRise qs) (sym is)
    (positions_rise (λ e. places_in (key.Token w) (values_at e.1.values field)) (λ e. places_rise (key.Token w) 0 (values_at e.1.values field)) 0 v.size v.list sound.rising)
