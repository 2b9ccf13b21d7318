-- A walk along two rows of terms at once.
use Rattle.std.proofs.Common.{◌≡◌, ℕ, ◌<◌, ◌≤◌, Bool, true, false, not, ◌||◌, cond, List, [], ◌∷◌, ◌++◌, length, get_or, drop, map, refl, sym, ap, subst, ◌∙◌, append_assoc, arith, ltb, length-append, Option}
use Rattle.std.specs.List.{list_all}
use Rattle.std.specs.Ordering.{is_lt}
use Rattle.std.proofs.lemmas.List.{append-nil, map-append}
use Rattle.std.proofs.lemmas.Bool.{lt-ltb, le-ltb}
use Rattle.field_schema.specs.declared.key.Key.{Key}
use Rattle.field_schema.specs.Keys.{key_eq, key_cmp}
use Rattle.field_schema.specs.Laws.{key_cmp_ties, key_eq-same, key_eq-refl}
use Rattle.segment_postings.specs.declared.laid.Term.{Term}
use Rattle.segment_postings.specs.declared.occurrence.Occurrence.{Occurrence}
use Rattle.segment_postings.specs.declared.occurrence.Place.{Place}
use Rattle.segment_postings.specs.Segments.{with_key}
use Rattle.segment_postings.specs.Terms.{Ascending, is_before, begins_with}
use Rattle.segment_postings.specs.Layout.{own_places, at_places, spelled, IsLaid, own_of, behind_of, put_term, NoneBefore, IsLeast}
use Rattle.segment_postings.specs.Renumbering.{moved, moved_places}
use Rattle.segment_postings.proofs.Joining.{equal_is, greater_from}
use Rattle.segment_postings.proofs.Laying.{spelled_new, laid_new, behind, before_trans, differs_before, and_left, and_right, both, none_at, split_key, no_others, all_like, Ascending-right}
use Rattle.segment_postings.proofs.MovedPlaces.{moved-append, key_moved, places_moved}

abbrev keys : List Term → List Key
keys ts = map (λ t. t.key) ts

-- ---- the least key

not_before_self : (k : Key) → is_before k k ≡ false
not_before_self k = ap is_lt (equal_is (key_cmp k k) (sym (key_cmp_ties k k) ∙ key_eq-refl k))

pub least_alone : (t : Term) (ts left : List Term) → left ≡ [] → IsLeast t.key left (t ∷ ts)
least_alone t ts left e = subst (λ us. IsLeast t.key us (t ∷ ts)) (sym e) (record { low_left = tt; low_right = not_before_self t.key; begins = key_eq-refl t.key })

pub least_left : (t : Term) (ts right : List Term) → NoneBefore t.key right → IsLeast t.key (t ∷ ts) right
least_left t ts right low = record { low_left = not_before_self t.key; low_right = low; begins = ap (λ b. b || begins_with t.key (keys right)) (key_eq-refl t.key) }

or_true : (b : Bool) → (b || true) ≡ true
or_true true = refl
or_true false = refl

pub least_right : (t u : Term) (ts us : List Term) → is_before u.key t.key ≡ true → IsLeast u.key (t ∷ ts) (u ∷ us)
least_right t u ts us e = record {
  low_left = ap is_lt (greater_from u.key t.key e);
  low_right = not_before_self u.key;
  begins = ap (λ b. key_eq u.key t.key || b) (key_eq-refl u.key) ∙ or_true (key_eq u.key t.key);
}

-- the same of rows whose first terms are known
first_is : (ts : List Term) (t : Term) → 1 ≤ length ts → t ≡ get_or ts 0 t → ts ≡ t ∷ drop 1 ts
first_is [] t some e = absurd (omega arith)
first_is (u ∷ ts) t some e = ap (λ v. v ∷ ts) (sym e)

none_are : (ts : List Term) → length ts < 1 → ts ≡ []
none_are [] none = refl
none_are (t ∷ ts) none = absurd (omega arith)

pub alone_right : (left right : List Term) (t : Term) → length left < 1 → 1 ≤ length right → t ≡ get_or right 0 t → IsLeast t.key left right
alone_right left right t none some e = subst (IsLeast t.key left) (sym (first_is right t some e)) (least_alone t (drop 1 right) left (none_are left none))

pub alone_left : (left right : List Term) (t : Term) → 1 ≤ length left → length right < 1 → t ≡ get_or left 0 t → IsLeast t.key left right
alone_left left right t some none e =
    subst (λ us. IsLeast t.key us right) (sym (first_is left t some e))
    (least_left t (drop 1 left) right (subst (NoneBefore t.key) (sym (none_are right none)) tt))

pub lower_right : (left right : List Term) (t u : Term) → 1 ≤ length left → 1 ≤ length right → t ≡ get_or left 0 t → u ≡ get_or right 0 u → is_before u.key t.key ≡ true → IsLeast u.key left right
lower_right left right t u some more e f before =
    subst (λ us. IsLeast u.key us right) (sym (first_is left t some e))
    (subst (λ us. IsLeast u.key (t ∷ drop 1 left) us) (sym (first_is right u more f)) (least_right t u (drop 1 left) (drop 1 right) before))

pub lower_left : (left right : List Term) (t u : Term) → 1 ≤ length left → 1 ≤ length right → t ≡ get_or left 0 t → u ≡ get_or right 0 u → is_before u.key t.key ≡ false → IsLeast t.key left right
lower_left left right t u some more e f low =
    subst (λ us. IsLeast t.key us right) (sym (first_is left t some e))
    (least_left t (drop 1 left) right (subst (NoneBefore t.key) (sym (first_is right u more f)) low))

-- ---- one row of terms

pub taken_off : (k x : Key) (ts : List Term) (ps : List Place) → with_key k (spelled ts ps) ≡ with_key k (at_places x (own_of x ts ps)) ++ with_key k (spelled (behind_of x ts) ps)
taken_off k x [] ps = refl
taken_off k x (t ∷ ts) ps =
    elim (key_eq x t.key) as (λ b. key_eq x t.key ≡ b → with_key k (spelled (t ∷ ts) ps) ≡ with_key k (at_places x (cond b (own_places t ts ps) [])) ++ with_key k (spelled (cond b ts (t ∷ ts)) ps)) [
      | true ↦ λ e. split_key k (at_places t.key (own_places t ts ps)) (spelled ts ps) ∙ ap (λ y. with_key k (at_places y (own_places t ts ps)) ++ with_key k (spelled ts ps)) (sym (key_eq-same x t.key e))
      | false ↦ λ _. refl
    ] refl

pub behind_laid : (x : Key) (ts : List Term) (ps : List Place) → IsLaid ts ps → IsLaid (behind_of x ts) ps
behind_laid x [] ps laid = laid
behind_laid x (t ∷ ts) ps laid = elim (key_eq x t.key) as (λ b. IsLaid (cond b ts (t ∷ ts)) ps) [ true ↦ laid.2 | false ↦ laid ]

-- what is left stands behind the key
pub left_behind : (x : Key) (ts : List Term) → NoneBefore x ts → Ascending (keys ts) → list_all (is_before x) (keys (behind_of x ts)) ≡ true
left_behind x [] low up = refl
left_behind x (t ∷ ts) low up =
    elim (key_eq x t.key) as (λ b. key_eq x t.key ≡ b → list_all (is_before x) (keys (cond b ts (t ∷ ts))) ≡ true) [
      | true ↦ λ e. ap (λ y. list_all (is_before y) (keys ts)) (key_eq-same x t.key e) ∙ up.0
      | false ↦ λ e.
          let here : is_before x t.key ≡ true = behind x t.key low e in
          both _ _ here (all_like (is_before t.key) (is_before x) (keys ts) (λ y f. before_trans x t.key y here f) up.0)
    ] refl

-- ---- the terms that were made, with those that are left

all_without : (p : Key → Bool) (ks : List Key) (x : Key) (xs : List Key) → list_all p (ks ++ x ∷ xs) ≡ true → list_all p (ks ++ xs) ≡ true
all_without p [] x xs h = and_right (p x) _ h
all_without p (k ∷ ks) x xs h = both _ _ (and_left _ _ h) (all_without p ks x xs (and_right (p k) _ h))

all_with : (p : Key → Bool) (ks : List Key) (x : Key) (xs : List Key) → list_all p (ks ++ xs) ≡ true → p x ≡ true → list_all p (ks ++ x ∷ xs) ≡ true
all_with p [] x xs h here = both _ _ here h
all_with p (k ∷ ks) x xs h here = both _ _ (and_left _ _ h) (all_with p ks x xs (and_right (p k) _ h) here)

one_of_all : (p : Key → Bool) (ks : List Key) (x : Key) (xs : List Key) → list_all p (ks ++ x ∷ xs) ≡ true → p x ≡ true
one_of_all p [] x xs h = and_left _ _ h
one_of_all p (k ∷ ks) x xs h = one_of_all p ks x xs (and_right (p k) _ h)

drop_one : (ks : List Key) (x : Key) (xs : List Key) → Ascending (ks ++ x ∷ xs) → Ascending (ks ++ xs)
drop_one [] x xs up = up.1
drop_one (k ∷ ks) x xs up = (all_without (is_before k) ks x xs up.0, drop_one ks x xs up.1)

put_between : (ks : List Key) (x : Key) (xs : List Key) → Ascending (ks ++ xs) → list_all (λ y. is_before y x) ks ≡ true → list_all (is_before x) xs ≡ true → Ascending (ks ++ x ∷ xs)
put_between [] x xs up before far = (far, up)
put_between (k ∷ ks) x xs up before far = (all_with (is_before k) ks x xs up.0 (and_left _ _ before), put_between ks x xs up.1 (and_right (is_before k x) _ before) far)

front_before : (ks : List Key) (x : Key) (xs : List Key) → Ascending (ks ++ x ∷ xs) → list_all (λ y. is_before y x) ks ≡ true
front_before [] x xs up = refl
front_before (k ∷ ks) x xs up = both _ _ (one_of_all (is_before k) ks x xs up.0) (front_before ks x xs up.1)

begun : (ks : List Key) (x : Key) (ts : List Term) → begins_with x (keys ts) ≡ true → Ascending (ks ++ keys ts) → list_all (λ y. is_before y x) ks ≡ true
begun ks x [] first up = absurd (cc)
begun ks x (t ∷ ts) first up = ap (λ y. list_all (λ z. is_before z y) ks) (key_eq-same x t.key first) ∙ front_before ks t.key (keys ts) up

-- those that were made stand before the least key
made_before : (ks : List Key) (x : Key) (left right : List Term) → Ascending (ks ++ keys left) → Ascending (ks ++ keys right) → (begins_with x (keys left) || begins_with x (keys right)) ≡ true → list_all (λ y. is_before y x) ks ≡ true
made_before ks x left right up_left up_right begins =
    elim (begins_with x (keys left)) as (λ b. begins_with x (keys left) ≡ b → (b || begins_with x (keys right)) ≡ true → list_all (λ y. is_before y x) ks ≡ true) [
      | true ↦ λ first _. begun ks x left first up_left
      | false ↦ λ _ first. begun ks x right first up_right
    ] refl begins

fewer_up : (ks : List Key) (x : Key) (ts : List Term) → Ascending (ks ++ keys ts) → Ascending (ks ++ keys (behind_of x ts))
fewer_up ks x [] up = up
fewer_up ks x (t ∷ ts) up = elim (key_eq x t.key) as (λ b. Ascending (ks ++ keys (cond b ts (t ∷ ts)))) [ true ↦ drop_one ks t.key (keys ts) up | false ↦ up ]

up_step : (made : List Term) (x : Key) (start end : ℕ) (ts : List Term) → Ascending (keys made ++ keys ts) → NoneBefore x ts → list_all (λ y. is_before y x) (keys made) ≡ true → Ascending (keys (put_term made x start end) ++ keys (behind_of x ts))
up_step made x start end ts up low before =
    let rest : List Term = behind_of x ts in
    let t : Term = record { key = x; start = start } in
    let fewer : Ascending (keys made ++ keys rest) = fewer_up (keys made) x ts up in
    let far = left_behind x ts low (Ascending-right (keys made) (keys ts) up) in
    elim (ltb start end) as (λ b. Ascending (keys (cond b (made ++ t ∷ []) made) ++ keys rest)) [
      | true ↦ subst Ascending (sym (ap (λ ks. ks ++ keys rest) (map-append (λ (u : Term). u.key) made (t ∷ [])) ∙ append_assoc (keys made) (x ∷ []) (keys rest))) (put_between (keys made) x (keys rest) fewer before far)
      | false ↦ fewer
    ]

-- ---- a key with its places behind the others

spelled_put : (ts : List Term) (ps : List Place) (x : Key) (qs : List Place) → IsLaid ts ps → spelled (put_term ts x (length ps) (length (ps ++ qs))) (ps ++ qs) ≡ spelled ts ps ++ at_places x qs
spelled_put ts ps x [] laid =
    let none : ltb (length ps) (length (ps ++ [])) ≡ false = le-ltb (length ps) (length (ps ++ [])) (omega (arith, length-append ps [])) in
    ap (λ b. spelled (cond b (ts ++ record { key = x; start = length ps } ∷ []) ts) (ps ++ [])) none
    ∙ ap (spelled ts) (append-nil ps) ∙ sym (append-nil (spelled ts ps))
spelled_put ts ps x (q ∷ qs) laid =
    let some : ltb (length ps) (length (ps ++ q ∷ qs)) ≡ true = lt-ltb (length ps) (length (ps ++ q ∷ qs)) (omega (arith, length-append ps (q ∷ qs))) in
    ap (λ b. spelled (cond b (ts ++ record { key = x; start = length ps } ∷ []) ts) (ps ++ q ∷ qs)) some
    ∙ spelled_new ts ps (record { key = x; start = length ps }) (q ∷ qs) laid refl

laid_put : (ts : List Term) (ps : List Place) (x : Key) (qs : List Place) → IsLaid ts ps → IsLaid (put_term ts x (length ps) (length (ps ++ qs))) (ps ++ qs)
laid_put ts ps x [] laid =
    let none : ltb (length ps) (length (ps ++ [])) ≡ false = le-ltb (length ps) (length (ps ++ [])) (omega (arith, length-append ps [])) in
    subst (λ b. IsLaid (cond b (ts ++ record { key = x; start = length ps } ∷ []) ts) (ps ++ [])) (sym none) (subst (IsLaid ts) (sym (append-nil ps)) laid)
laid_put ts ps x (q ∷ qs) laid =
    let some : ltb (length ps) (length (ps ++ q ∷ qs)) ≡ true = lt-ltb (length ps) (length (ps ++ q ∷ qs)) (omega (arith, length-append ps (q ∷ qs))) in
    subst (λ b. IsLaid (cond b (ts ++ record { key = x; start = length ps } ∷ []) ts) (ps ++ q ∷ qs)) (sym some) (laid_new ts ps (record { key = x; start = length ps }) (q ∷ qs) laid refl (omega arith))

-- ---- the walk

at-append : (x : Key) (ps qs : List Place) → at_places x (ps ++ qs) ≡ at_places x ps ++ at_places x qs
at-append x ps qs = map-append (λ (p : Place). record { key = x; place = p }) ps qs

-- a key's places are those of no key behind it
turned_round : (k x : Key) (fresh : List Place) (m : List (Option ℕ)) (ts : List Term) (ps : List Place) → list_all (is_before x) (keys ts) ≡ true →
    with_key k (at_places x fresh) ++ moved m (with_key k (spelled ts ps)) ≡ moved m (with_key k (spelled ts ps)) ++ with_key k (at_places x fresh)
turned_round k x fresh m ts ps far =
    let a = with_key k (at_places x fresh) in
    let l = moved m (with_key k (spelled ts ps)) in
    elim (key_eq k x) as (λ b. key_eq k x ≡ b → a ++ l ≡ l ++ a) [
      | true ↦ λ e.
          let others : list_all (λ y. not (key_eq k y)) (keys ts) ≡ true = all_like (is_before x) (λ y. not (key_eq k y)) (keys ts) (λ y f. ap not (differs_before y k (ap (λ z. is_before z y) (key_eq-same k x e) ∙ f))) far in
          let none : l ≡ [] = ap (moved m) (no_others k ts ps others) in
          ap (λ os. a ++ os) none ∙ append-nil a ∙ ap (λ os. os ++ a) (sym none)
      | false ↦ λ e.
          let none : a ≡ [] = none_at k x fresh e in
          ap (λ os. os ++ l) none ∙ sym (append-nil l) ∙ ap (λ os. l ++ os) (sym none)
    ] refl

shuffled : (s a b l r : List Occurrence) → b ++ l ≡ l ++ b → (s ++ (a ++ b)) ++ (l ++ r) ≡ s ++ ((a ++ l) ++ (b ++ r))
shuffled s a b l r e =
    append_assoc s (a ++ b) (l ++ r)
    ∙ ap (λ os. s ++ os) (append_assoc a b (l ++ r) ∙ ap (λ os. a ++ os) (sym (append_assoc b l r) ∙ ap (λ os. os ++ r) e ∙ append_assoc l b r) ∙ sym (append_assoc a l (b ++ r)))

-- what was made of two rows of terms, and what is left of them
pub record Walk (pa : List Place) (ma : List (Option ℕ)) (pb : List Place) (mb : List (Option ℕ)) (all : Key → List Occurrence) (ts : List Term) (ps : List Place) (left right : List Term) : Type 0 where
  pub laid : IsLaid ts ps
  pub left_laid : IsLaid left pa
  pub right_laid : IsLaid right pb
  pub left_up : Ascending (keys ts ++ keys left)
  pub right_up : Ascending (keys ts ++ keys right)
  pub same : (k : Key) → with_key k (spelled ts ps) ++ (moved ma (with_key k (spelled left pa)) ++ moved mb (with_key k (spelled right pb))) ≡ all k

module _ (pa : List Place) (ma : List (Option ℕ)) (pb : List Place) (mb : List (Option ℕ)) (all : Key → List Occurrence) where
  one_off : (k x : Key) (m : List (Option ℕ)) (ts : List Term) (ps : List Place) → moved m (with_key k (spelled ts ps)) ≡ with_key k (at_places x (moved_places m (own_of x ts ps))) ++ moved m (with_key k (spelled (behind_of x ts) ps))
  one_off k x m ts ps =
      ap (moved m) (taken_off k x ts ps)
      ∙ moved-append m (with_key k (at_places x (own_of x ts ps))) (with_key k (spelled (behind_of x ts) ps))
      ∙ ap (λ os. os ++ moved m (with_key k (spelled (behind_of x ts) ps))) (sym (key_moved k m (at_places x (own_of x ts ps))) ∙ ap (with_key k) (sym (places_moved x m (own_of x ts ps))))

  walk_on : (ts : List Term) (ps : List Place) (left right : List Term) (x : Key) → Walk pa ma pb mb all ts ps left right → IsLeast x left right →
      Walk pa ma pb mb all (put_term ts x (length ps) (length (ps ++ (moved_places ma (own_of x left pa) ++ moved_places mb (own_of x right pb))))) (ps ++ (moved_places ma (own_of x left pa) ++ moved_places mb (own_of x right pb))) (behind_of x left) (behind_of x right)
  walk_on ts ps left right x w least =
      let fa : List Place = moved_places ma (own_of x left pa) in
      let fb : List Place = moved_places mb (own_of x right pb) in
      let end : ℕ = length (ps ++ (fa ++ fb)) in
      let before = made_before (keys ts) x left right w.left_up w.right_up least.begins in
      let far = left_behind x left least.low_left (Ascending-right (keys ts) (keys left) w.left_up) in
      record {
        laid = laid_put ts ps x (fa ++ fb) w.laid;
        left_laid = behind_laid x left pa w.left_laid;
        right_laid = behind_laid x right pb w.right_laid;
        left_up = up_step ts x (length ps) end left w.left_up least.low_left before;
        right_up = up_step ts x (length ps) end right w.right_up least.low_right before;
        same = λ k.
            let s = with_key k (spelled ts ps) in
            let a = with_key k (at_places x fa) in
            let b = with_key k (at_places x fb) in
            let l = moved ma (with_key k (spelled (behind_of x left) pa)) in
            let r = moved mb (with_key k (spelled (behind_of x right) pb)) in
            ap (λ os. with_key k os ++ (l ++ r)) (spelled_put ts ps x (fa ++ fb) w.laid)
            ∙ ap (λ os. os ++ (l ++ r)) (split_key k (spelled ts ps) (at_places x (fa ++ fb)) ∙ ap (λ os. s ++ os) (ap (with_key k) (at-append x fa fb) ∙ split_key k (at_places x fa) (at_places x fb)))
            ∙ shuffled s a b l r (turned_round k x fb ma (behind_of x left) pa far)
            ∙ sym (λ j. s ++ (one_off k x ma left pa j ++ one_off k x mb right pb j))
            ∙ w.same k;
      }

  pub walks : (ts new : List Term) (ps qs : List Place) (left right : List Term) (x : Key) (start end : ℕ) → Walk pa ma pb mb all ts ps left right → IsLeast x left right →
      start ≡ length ps → end ≡ length qs → qs ≡ (ps ++ moved_places ma (own_of x left pa)) ++ moved_places mb (own_of x right pb) → new ≡ put_term ts x start end → Walk pa ma pb mb all new qs (behind_of x left) (behind_of x right)
  walks ts new ps qs left right x start end w least first last places terms =
      let fa : List Place = moved_places ma (own_of x left pa) in
      let fb : List Place = moved_places mb (own_of x right pb) in
      let whole : qs ≡ ps ++ (fa ++ fb) = places ∙ append_assoc ps fa fb in
      let made : new ≡ put_term ts x (length ps) (length (ps ++ (fa ++ fb))) = terms ∙ (λ j. put_term ts x (first j) ((last ∙ ap length whole) j)) in
      subst (λ us. Walk pa ma pb mb all us qs (behind_of x left) (behind_of x right)) (sym made)
      (subst (λ rs. Walk pa ma pb mb all (put_term ts x (length ps) (length (ps ++ (fa ++ fb)))) rs (behind_of x left) (behind_of x right)) (sym whole) (walk_on ts ps left right x w least))
