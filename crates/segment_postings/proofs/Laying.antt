-- Keys laid out with their places.
use Rattle.std.proofs.Common.{◌≡◌, ℕ, suc, ◌+◌, ◌-◌, ◌<◌, ◌≤◌, Bool, true, false, not, ◌&&◌, cond, List, [], ◌∷◌, ◌++◌, length, get_or, take, drop, map, filter, fold, refl, sym, ap, subst, ◌∙◌, append_assoc, arith, length-append, length-drop, length-take}
use Rattle.std.specs.List.{list_all}
use Rattle.std.specs.List.Sorted.{IsSortedByKey}
use Rattle.std.specs.Ordering.{is_lt, is_eq, ordering_reverse, match_ordering}
use Rattle.std.specs.declared.cmp.Ordering.TheVariants.{Less, Equal, Greater}
use Rattle.std.proofs.lemmas.List.{append-nil, map-append, take-append-le, drop-append-le, take_all, drop_all, take_rest, take_more, length_push, length-map, get_or_default}
use Rattle.std.proofs.lemmas.List.Elements.{filter-append}
use Rattle.std.proofs.lemmas.List.Sums.{fold-append}
use Rattle.std.proofs.lemmas.List.Sorted.{sorted_far, ranks_by}
use Rattle.field_schema.specs.declared.key.Key.{Key}
use Rattle.field_schema.specs.Keys.{key_eq, key_cmp}
use Rattle.field_schema.specs.Laws.{key_cmp_total, key_cmp_ties, key_eq-same, key_eq-refl}
use Rattle.segment_postings.specs.declared.laid.Term.{Term}
use Rattle.segment_postings.specs.declared.occurrence.Occurrence.{Occurrence}
use Rattle.segment_postings.specs.declared.occurrence.Place.{Place}
use Rattle.segment_postings.specs.Segments.{with_key}
use Rattle.segment_postings.specs.Terms.{Ascending, is_before, put_key, begins_with}
use Rattle.segment_postings.specs.Layout.{start_of, own_places, first_places, at_places, spelled, IsLaid, ends_with, add_term}
use Rattle.segment_postings.proofs.KeyOrder.{turned}
use Rattle.segment_postings.proofs.Joining.{less_is, put_tied, sorted_from_ascending}
use Rattle.segment_postings.proofs.SegmentLaws.{mapped_at}
use Rattle.segment_postings.proofs.ViewLoops.{late}

-- ---- a place more

own_same : (s e : ℕ) (ps qs : List Place) → s ≤ e → e ≤ length ps → take (e - s) (drop s (ps ++ qs)) ≡ take (e - s) (drop s ps)
own_same s e ps qs h below =
    let short : s ≤ length ps = omega arith in
    let fits : e - s ≤ length (drop s ps) = omega (arith, length-drop s ps) in
    ap (take (e - s)) (drop-append-le s ps qs short) ∙ take-append-le (e - s) (drop s ps) qs fits

own_more : (s : ℕ) (ps qs : List Place) → s ≤ length ps → take (length (ps ++ qs) - s) (drop s (ps ++ qs)) ≡ take (length ps - s) (drop s ps) ++ qs
own_more s ps qs h =
    take_rest (ps ++ qs) s ∙ drop-append-le s ps qs h ∙ ap (λ rs. rs ++ qs) (sym (take_rest ps s))

at-append : (k : Key) (ps : List Place) (p : Place) → at_places k (ps ++ p ∷ []) ≡ at_places k ps ++ record { key = k; place = p } ∷ []
at-append k ps p = map-append (λ (q : Place). record { key = k; place = q }) ps (p ∷ [])

-- at the last key
spelled_same : (ts : List Term) (ps : List Place) (k : Key) (p : Place) → IsLaid ts ps → ends_with k ts ≡ true → spelled ts (ps ++ p ∷ []) ≡ spelled ts ps ++ record { key = k; place = p } ∷ []
spelled_same [] ps k p laid last = absurd (cc)
spelled_same (t ∷ []) ps k p laid last =
    let same : t.key ≡ k = key_eq-same t.key k last in
    let low : t.start < length ps = laid.0 in
    let here = at-append t.key (own_places t [] ps) p in
    append-nil (at_places t.key (own_places t [] (ps ++ p ∷ [])))
    ∙ ap (at_places t.key) (own_more t.start ps (p ∷ []) (omega arith)) ∙ here
    ∙ (λ j. sym (append-nil (at_places t.key (own_places t [] ps))) j ++ record { key = same j; place = p } ∷ [])
spelled_same (t ∷ u ∷ ts) ps k p laid last =
    let low : t.start < u.start = laid.0 in
    let high : u.start ≤ length ps = laid.1 in
    ap (λ qs. at_places t.key qs ++ spelled (u ∷ ts) (ps ++ p ∷ [])) (own_same t.start u.start ps (p ∷ []) (omega arith) high)
    ∙ ap (λ os. at_places t.key (own_places t (u ∷ ts) ps) ++ os) (spelled_same (u ∷ ts) ps k p laid.2 last)
    ∙ sym (append_assoc (at_places t.key (own_places t (u ∷ ts) ps)) (spelled (u ∷ ts) ps) _)

start_new : (ts : List Term) (ps : List Place) (t : Term) (qs : List Place) → t.start ≡ length ps → start_of (ts ++ t ∷ []) (ps ++ qs) ≡ start_of ts ps
start_new [] ps t qs e = e
start_new (s ∷ ts) ps t qs e = refl

-- at a new key
pub spelled_new : (ts : List Term) (ps : List Place) (t : Term) (qs : List Place) → IsLaid ts ps → t.start ≡ length ps → spelled (ts ++ t ∷ []) (ps ++ qs) ≡ spelled ts ps ++ at_places t.key qs
spelled_new [] ps t qs laid e =
    let none : take (length ps - t.start) (drop t.start ps) ≡ [] = ap (take (length ps - t.start)) (drop_all t.start ps (omega arith)) ∙ take_all (length ps - t.start) [] (omega arith) in
    append-nil (at_places t.key (own_places t [] (ps ++ qs)))
    ∙ ap (at_places t.key) (own_more t.start ps qs (omega arith) ∙ ap (λ rs. rs ++ qs) none)
spelled_new (s ∷ ts) ps t qs laid e =
    let low : s.start < start_of ts ps = laid.0 in
    let high : start_of ts ps ≤ length ps = laid.1 in
    (λ j. at_places s.key (take (start_new ts ps t qs e j - s.start) (drop s.start (ps ++ qs))) ++ spelled (ts ++ t ∷ []) (ps ++ qs))
    ∙ ap (λ rs. at_places s.key rs ++ spelled (ts ++ t ∷ []) (ps ++ qs)) (own_same s.start (start_of ts ps) ps qs (omega arith) high)
    ∙ ap (λ os. at_places s.key (own_places s ts ps) ++ os) (spelled_new ts ps t qs laid.2 e)
    ∙ sym (append_assoc (at_places s.key (own_places s ts ps)) (spelled ts ps) _)

laid_same : (ts : List Term) (ps : List Place) (p : Place) → IsLaid ts ps → IsLaid ts (ps ++ p ∷ [])
laid_same [] ps p laid = tt
laid_same (t ∷ []) ps p laid = let len = length_push ps p in (omega (arith, len, laid.0), omega (arith, len), tt)
laid_same (t ∷ u ∷ ts) ps p laid = let len = length_push ps p in (laid.0, omega (arith, len, laid.1), laid_same (u ∷ ts) ps p laid.2)

pub laid_new : (ts : List Term) (ps : List Place) (t : Term) (qs : List Place) → IsLaid ts ps → t.start ≡ length ps → 0 < length qs → IsLaid (ts ++ t ∷ []) (ps ++ qs)
laid_new [] ps t qs laid e some = let len = length-append ps qs in (omega (arith, len), omega (arith, len), tt)
laid_new (s ∷ ts) ps t qs laid e some =
    let len = length-append ps qs in
    let start = start_new ts ps t qs e in
    (omega (arith, start, laid.0), omega (arith, len, start, laid.1), laid_new ts ps t qs laid.2 e some)

-- ---- the order of the keys

-- a key that is not before x and not x is behind it
pub behind : (x k : Key) → is_before k x ≡ false → key_eq x k ≡ false → is_before x k ≡ true
behind x k not_before differs =
    elim (key_cmp x k) as (λ r. key_cmp x k ≡ r → is_lt r ≡ true) [
      | Less ↦ λ _. refl
      | Equal ↦ λ e. let tied : key_eq x k ≡ true = key_cmp_ties x k ∙ ap is_eq e in absurd (cc)
      | Greater ↦ λ e. let before : is_before k x ≡ true = ap is_lt (turned k x ∙ ap ordering_reverse e) in absurd (cc)
    ] refl

pub before_trans : (x y z : Key) → is_before x y ≡ true → is_before y z ≡ true → is_before x z ≡ true
before_trans x y z a b = ap is_lt (key_cmp_total.trans x y z (less_is (key_cmp x y) a) (less_is (key_cmp y z) b))

differs_behind : (x k : Key) → is_before x k ≡ true → key_eq k x ≡ false
differs_behind x k before = key_cmp_ties k x ∙ ap is_eq (turned k x ∙ ap ordering_reverse (less_is (key_cmp x k) before))

pub differs_before : (x k : Key) → is_before k x ≡ true → key_eq k x ≡ false
differs_before x k before = key_cmp_ties k x ∙ ap is_eq (less_is (key_cmp k x) before)

pub and_left : (a b : Bool) → (a && b) ≡ true → a ≡ true
and_left true b h = refl
and_left false b h = absurd (cc)

pub and_right : (a b : Bool) → (a && b) ≡ true → b ≡ true
and_right true b h = h
and_right false b h = absurd (cc)

pub both : (a b : Bool) → a ≡ true → b ≡ true → (a && b) ≡ true
both a b e f = (λ j. e j && f j)

pub not_true : (b : Bool) → not b ≡ true → b ≡ false
not_true true h = absurd (cc)
not_true false h = refl

-- all keys are before one that is not before any, and is not the last
all_before : (ts : List Term) (k : Key) → Ascending (map (λ t. t.key) ts) → list_all (λ x. not (is_before k x)) (map (λ t. t.key) ts) ≡ true → ends_with k ts ≡ false → list_all (λ x. is_before x k) (map (λ t. t.key) ts) ≡ true
all_before [] k up low last = refl
all_before (t ∷ []) k up low last = both _ true (behind t.key k (not_true _ (and_left _ true low)) last) refl
all_before (t ∷ u ∷ ts) k up low last =
    let rest = all_before (u ∷ ts) k up.1 (and_right (not (is_before k t.key)) _ low) last in
    both _ _ (before_trans t.key u.key k (and_left _ _ up.0) (and_left _ _ rest)) rest

pub all-push : (p : Key → Bool) (ks : List Key) (k : Key) → list_all p ks ≡ true → p k ≡ true → list_all p (ks ++ k ∷ []) ≡ true
all-push p [] k h here = both _ true here refl
all-push p (x ∷ ks) k h here = both _ _ (and_left _ _ h) (all-push p ks k (and_right (p x) _ h) here)

Ascending-push : (ks : List Key) (k : Key) → Ascending ks → list_all (λ x. is_before x k) ks ≡ true → Ascending (ks ++ k ∷ [])
Ascending-push [] k up before = (refl, tt)
Ascending-push (x ∷ ks) k up before = (all-push (is_before x) ks k up.0 (and_left _ _ before), Ascending-push ks k up.1 (and_right (is_before x k) _ before))

pub ends_at : (k : Key) (ts : List Term) (t : Term) → 0 < length ts → t ≡ get_or ts (length ts - 1) t → ends_with k ts ≡ key_eq t.key k
ends_at k [] t some e = absurd (omega arith)
ends_at k (s ∷ []) t some e = ap (λ (u : Term). key_eq u.key k) (sym e)
ends_at k (s ∷ u ∷ ts) t some e =
    let at : suc (suc (length ts)) - 1 ≡ suc (suc (length ts) - 1) = omega arith in
    ends_at k (u ∷ ts) t (omega arith) (e ∙ ap (λ n. get_or (s ∷ u ∷ ts) n t) at)

-- ---- the loop that lays out occurrences

pub record Laid (os : List Occurrence) (i : ℕ) (ts : List Term) (ps : List Place) : Type 0 where
  pub is : spelled ts ps ≡ take i os
  pub laid : IsLaid ts ps
  pub rising : Ascending (map (λ t. t.key) ts)
  pub low : (j : ℕ) (o : Occurrence) → i ≤ j → j < length os → o ≡ get_or os j o → list_all (λ x. not (is_before o.key x)) (map (λ t. t.key) ts) ≡ true

pub lays_one : (os : List Occurrence) (i : ℕ) (ts : List Term) (ps : List Place) (o : Occurrence) → IsSortedByKey (λ o. o.key) key_cmp os → i < length os → o ≡ get_or os i o → Laid os i ts ps → Laid os (i + 1) (add_term ts o.key (length ps)) (ps ++ o.place ∷ [])
lays_one os i ts ps o sorted h e so_far =
    let t : Term = record { key = o.key; start = length ps } in
    let more : take (i + 1) os ≡ take i os ++ o ∷ [] = take_more os i o h ∙ ap (λ x. take i os ++ x ∷ []) (sym e) in
    elim (ends_with o.key ts) as (λ b. ends_with o.key ts ≡ b → Laid os (i + 1) (cond b ts (ts ++ t ∷ [])) (ps ++ o.place ∷ [])) [
      | true ↦ λ last. record {
        is = spelled_same ts ps o.key o.place so_far.laid last ∙ ap (λ xs. xs ++ o ∷ []) so_far.is ∙ sym more;
        laid = laid_same ts ps o.place so_far.laid;
        rising = so_far.rising;
        low = λ j q a b c. so_far.low j q (omega arith) b c;
      }
      | false ↦ λ last.
          let keys = map-append (λ (u : Term). u.key) ts (t ∷ []) in
          record {
            is = spelled_new ts ps t (o.place ∷ []) so_far.laid refl ∙ ap (λ xs. xs ++ o ∷ []) so_far.is ∙ sym more;
            laid = laid_new ts ps t (o.place ∷ []) so_far.laid refl (omega arith);
            rising = subst Ascending (sym keys) (Ascending-push (map (λ u. u.key) ts) o.key so_far.rising (all_before ts o.key so_far.rising (so_far.low i o (omega arith) h e) last));
            low = λ j q a b c.
                let there : o ≡ get_or os i q = e ∙ get_or_default os i o q h in
                let far : is_before q.key o.key ≡ false = (λ m. is_lt (key_cmp ((c m).key) ((there m).key))) ∙ sorted_far (λ (x y : Occurrence). is_lt (key_cmp x.key y.key)) (ranks_by key_cmp_total (λ (x : Occurrence). x.key)) os sorted i j q (omega arith) b in
                ap (list_all (λ x. not (is_before q.key x))) keys ∙ all-push (λ x. not (is_before q.key x)) (map (λ u. u.key) ts) o.key (so_far.low j q (omega arith) b c) (ap not far);
          }
    ] refl

pub laid_none : (os : List Occurrence) → Laid os 0 [] []
laid_none os = record { is = refl; laid = tt; rising = tt; low = λ j q a b c. refl }

-- ---- looking up a key

-- nothing of the key among other keys
pub none_at : (k x : Key) (ps : List Place) → key_eq k x ≡ false → with_key k (at_places x ps) ≡ []
none_at k x [] e = refl
none_at k x (p ∷ ps) e = ap (λ b. cond b (record { key = x; place = p } ∷ with_key k (at_places x ps)) (with_key k (at_places x ps))) e ∙ none_at k x ps e

all_at : (k x : Key) (ps : List Place) → key_eq k x ≡ true → map (λ o. o.place) (with_key k (at_places x ps)) ≡ ps
all_at k x [] e = refl
all_at k x (p ∷ ps) e =
    ap (λ b. map (λ o. o.place) (cond b (record { key = x; place = p } ∷ with_key k (at_places x ps)) (with_key k (at_places x ps)))) e ∙ ap (λ qs. p ∷ qs) (all_at k x ps e)

pub split_key : (k : Key) (xs ys : List Occurrence) → with_key k (xs ++ ys) ≡ with_key k xs ++ with_key k ys
split_key k xs ys = filter-append (λ o. key_eq k o.key) xs ys

past_others : (k : Key) (front rest : List Term) (ps : List Place) → list_all (λ x. not (key_eq k x)) (map (λ t. t.key) front) ≡ true → with_key k (spelled (front ++ rest) ps) ≡ with_key k (spelled rest ps)
past_others k [] rest ps h = refl
past_others k (t ∷ front) rest ps h =
    split_key k (at_places t.key (own_places t (front ++ rest) ps)) (spelled (front ++ rest) ps)
    ∙ ap (λ os. os ++ with_key k (spelled (front ++ rest) ps)) (none_at k t.key (own_places t (front ++ rest) ps) (not_true _ (and_left _ _ h)))
    ∙ past_others k front rest ps (and_right (not (key_eq k t.key)) _ h)

pub no_others : (k : Key) (ts : List Term) (ps : List Place) → list_all (λ x. not (key_eq k x)) (map (λ t. t.key) ts) ≡ true → with_key k (spelled ts ps) ≡ []
no_others k ts ps h = ap (λ us. with_key k (spelled us ps)) (sym (append-nil ts)) ∙ past_others k ts [] ps h

pub all_like : (p q : Key → Bool) (ks : List Key) → ((x : Key) → p x ≡ true → q x ≡ true) → list_all p ks ≡ true → list_all q ks ≡ true
all_like p q [] f h = refl
all_like p q (k ∷ ks) f h = both _ _ (f k (and_left _ _ h)) (all_like p q ks f (and_right (p k) _ h))

-- the keys of the terms that stand before a key are other keys
front_differs : (k : Key) (ts : List Term) → list_all (λ x. not (key_eq k x)) (map (λ t. t.key) (filter (λ t. is_before t.key k) ts)) ≡ true
front_differs k [] = refl
front_differs k (t ∷ ts) =
    elim (is_before t.key k) as (λ b. is_before t.key k ≡ b → list_all (λ x. not (key_eq k x)) (map (λ t. t.key) (cond b (t ∷ filter (λ t. is_before t.key k) ts) (filter (λ t. is_before t.key k) ts))) ≡ true) [
      | true ↦ λ e. both _ _ (ap not (differs_behind t.key k e)) (front_differs k ts)
      | false ↦ λ _. front_differs k ts
    ] refl

pub Ascending-right : (xs ys : List Key) → Ascending (xs ++ ys) → Ascending ys
Ascending-right [] ys h = h
Ascending-right (x ∷ xs) ys h = Ascending-right xs ys h.1

laid-right : (xs ys : List Term) (ps : List Place) → IsLaid (xs ++ ys) ps → IsLaid ys ps
laid-right [] ys ps h = h
laid-right (x ∷ xs) ys ps h = laid-right xs ys ps h.2

-- the terms as those before a key and the rest
pub record Split (k : Key) (ts rest : List Term) : Type 0 where
  pub split : filter (λ t. is_before t.key k) ts ++ rest ≡ ts
  pub behind : rest ≡ filter (λ t. not (is_before t.key k)) ts

pub split_from : (k : Key) (us ts rest : List Term) → us ≡ ts → filter (λ t. is_before t.key k) us ++ rest ≡ us → rest ≡ filter (λ t. not (is_before t.key k)) us → Split k ts rest
split_from k us ts rest e s b = subst (λ vs. Split k vs rest) e (record { split = s; behind = b })

pub rest_laid : (k : Key) (ts rest : List Term) (ps : List Place) → Split k ts rest → IsLaid ts ps → IsLaid rest ps
rest_laid k ts rest ps s h = laid-right (filter (λ t. is_before t.key k) ts) rest ps (subst (λ us. IsLaid us ps) (sym s.split) h)

pub rest_rising : (k : Key) (ts rest : List Term) → Split k ts rest → Ascending (map (λ t. t.key) ts) → Ascending (map (λ t. t.key) rest)
rest_rising k ts rest s h = Ascending-right (map (λ t. t.key) (filter (λ t. is_before t.key k) ts)) (map (λ t. t.key) rest) (subst Ascending (sym (ap (map (λ (t : Term). t.key)) s.split) ∙ map-append (λ (t : Term). t.key) (filter (λ t. is_before t.key k) ts) rest) h)

pub found_key : (k : Key) (ts rest : List Term) (ps : List Place) → Split k ts rest → Ascending (map (λ t. t.key) ts) → begins_with k (map (λ t. t.key) rest) ≡ true → first_places rest ps ≡ map (λ o. o.place) (with_key k (spelled ts ps))
found_key k ts [] ps s up first = absurd (cc)
found_key k ts (t ∷ rest) ps s up first =
    let rising = rest_rising k ts (t ∷ rest) s up in
    let same : k ≡ t.key = key_eq-same k t.key first in
    let later : list_all (λ x. not (key_eq k x)) (map (λ t. t.key) rest) ≡ true = all_like (is_before t.key) (λ x. not (key_eq k x)) (map (λ t. t.key) rest) (λ x e. ap not (differs_before x k (ap (λ y. is_before y x) same ∙ e))) rising.0 in
    sym (
    ap (λ us. map (λ o. o.place) (with_key k (spelled us ps))) (sym s.split)
    ∙ ap (map (λ o. o.place)) (past_others k (filter (λ t. is_before t.key k) ts) (t ∷ rest) ps (front_differs k ts) ∙ split_key k (at_places t.key (own_places t rest ps)) (spelled rest ps))
    ∙ ap (λ os. map (λ o. o.place) (with_key k (at_places t.key (own_places t rest ps)) ++ os)) (no_others k rest ps later)
    ∙ ap (map (λ o. o.place)) (append-nil (with_key k (at_places t.key (own_places t rest ps))))
    ∙ all_at k t.key (own_places t rest ps) first)

-- the first of the rest is not before k
first_behind : (k : Key) (t : Term) (rest ts : List Term) → t ∷ rest ≡ filter (λ t. not (is_before t.key k)) ts → is_before t.key k ≡ false
first_behind k t rest [] e = absurd (cc)
first_behind k t rest (u ∷ ts) e =
    elim (is_before u.key k) as (λ b. is_before u.key k ≡ b → t ∷ rest ≡ cond (not b) (u ∷ filter (λ t. not (is_before t.key k)) ts) (filter (λ t. not (is_before t.key k)) ts) → is_before t.key k ≡ false) [
      | true ↦ λ _ f. first_behind k t rest ts f
      | false ↦ λ g f. let same : t ≡ u = cc in ap (λ (v : Term). is_before v.key k) same ∙ g
    ] refl e

apart : (k x y : Key) → is_before y x ≡ true → is_before y k ≡ false → key_eq k x ≡ false
apart k x y before here =
    elim (key_eq k x) as (λ b. key_eq k x ≡ b → b ≡ false) [
      | true ↦ λ e. let same : is_before y k ≡ is_before y x = ap (is_before y) (key_eq-same k x e) in absurd (cc)
      | false ↦ λ _. refl
    ] refl

later_differ : (k : Key) (rest : List Term) → ((t : Term) (us : List Term) → rest ≡ t ∷ us → is_before t.key k ≡ false) → Ascending (map (λ t. t.key) rest) → begins_with k (map (λ t. t.key) rest) ≡ false → list_all (λ x. not (key_eq k x)) (map (λ t. t.key) rest) ≡ true
later_differ k [] h rising first = refl
later_differ k (t ∷ rest) h rising first =
    let here : is_before t.key k ≡ false = h t rest refl in
    both _ _ (ap not first) (all_like (is_before t.key) (λ x. not (key_eq k x)) (map (λ t. t.key) rest) (λ x e. ap not (apart k x t.key e here)) rising.0)

pub no_key : (k : Key) (ts rest : List Term) (ps : List Place) → Split k ts rest → Ascending (map (λ t. t.key) ts) → begins_with k (map (λ t. t.key) rest) ≡ false → [] ≡ map (λ o. o.place) (with_key k (spelled ts ps))
no_key k ts rest ps s up first =
    let rising = rest_rising k ts rest s up in
    let others : list_all (λ x. not (key_eq k x)) (map (λ t. t.key) rest) ≡ true = later_differ k rest (λ t us e. first_behind k t us ts (sym e ∙ s.behind)) rising first in
    sym (ap (map (λ o. o.place)) (ap (λ us. with_key k (spelled us ps)) (sym s.split) ∙ past_others k (filter (λ t. is_before t.key k) ts) rest ps (front_differs k ts) ∙ no_others k rest ps others))

-- ---- the keys, each once

put_twice : (xs : List Key) (k : Key) → put_key (put_key xs k) k ≡ put_key xs k
put_twice [] k = put_tied (k ∷ []) k (key_eq-refl k)
put_twice (x ∷ xs) k =
    elim (key_cmp k x) as (λ r. key_cmp k x ≡ r → put_key (match_ordering r (k ∷ x ∷ xs) (x ∷ xs) (x ∷ put_key xs k)) k ≡ match_ordering r (k ∷ x ∷ xs) (x ∷ xs) (x ∷ put_key xs k)) [
      | Less ↦ λ _. put_tied (k ∷ x ∷ xs) k (key_eq-refl k)
      | Equal ↦ λ e. ap (λ r. match_ordering r (k ∷ x ∷ xs) (x ∷ xs) (x ∷ put_key xs k)) e
      | Greater ↦ λ e. ap (λ r. match_ordering r (k ∷ x ∷ put_key xs k) (x ∷ put_key xs k) (x ∷ put_key (put_key xs k) k)) e ∙ ap (λ ys. x ∷ ys) (put_twice xs k)
    ] refl

-- a key that is put more than once
put_often : (from k : Key) (ps : List Place) (xs : List Key) → fold put_key (put_key xs k) (filter (late from) (map (λ o. o.key) (at_places k ps))) ≡ put_key xs k
put_often from k [] xs = refl
put_often from k (p ∷ ps) xs =
    elim (late from k) as (λ b. fold put_key (put_key xs k) (cond b (k ∷ filter (late from) (map (λ o. o.key) (at_places k ps))) (filter (late from) (map (λ o. o.key) (at_places k ps)))) ≡ put_key xs k) [
      | true ↦ ap (λ ys. fold put_key ys (filter (late from) (map (λ o. o.key) (at_places k ps)))) (put_twice xs k) ∙ put_often from k ps xs
      | false ↦ put_often from k ps xs
    ]

none_late : (from k : Key) (ps : List Place) → late from k ≡ false → filter (late from) (map (λ o. o.key) (at_places k ps)) ≡ []
none_late from k [] e = refl
none_late from k (p ∷ ps) e = ap (λ b. cond b (k ∷ filter (late from) (map (λ o. o.key) (at_places k ps))) (filter (late from) (map (λ o. o.key) (at_places k ps)))) e ∙ none_late from k ps e

once : (from k : Key) (ps : List Place) (xs : List Key) → 0 < length ps → fold put_key xs (filter (late from) (map (λ o. o.key) (at_places k ps))) ≡ fold put_key xs (filter (late from) (k ∷ []))
once from k [] xs some = absurd (omega arith)
once from k (p ∷ ps) xs some =
    elim (late from k) as (λ b. late from k ≡ b → fold put_key xs (cond b (k ∷ filter (late from) (map (λ o. o.key) (at_places k ps))) (filter (late from) (map (λ o. o.key) (at_places k ps)))) ≡ fold put_key xs (cond b (k ∷ []) [])) [
      | true ↦ λ _. put_often from k ps xs
      | false ↦ λ e. ap (fold put_key xs) (none_late from k ps e)
    ] refl

pub each_once : (from : Key) (ts : List Term) (ps : List Place) (xs : List Key) → IsLaid ts ps → fold put_key xs (filter (late from) (map (λ o. o.key) (spelled ts ps))) ≡ fold put_key xs (filter (late from) (map (λ t. t.key) ts))
each_once from [] ps xs laid = refl
each_once from (t ∷ ts) ps xs laid =
    let own : List Place = own_places t ts ps in
    let low : t.start < start_of ts ps = laid.0 in
    let high : start_of ts ps ≤ length ps = laid.1 in
    let some : 0 < length own = omega (arith, length-take (start_of ts ps - t.start) (drop t.start ps), length-drop t.start ps) in
    let key = λ (o : Occurrence). o.key in
    let one = filter (late from) (map key (at_places t.key own)) in
    let more = filter (late from) (map key (spelled ts ps)) in
    ap (λ ks. fold put_key xs (filter (late from) ks)) (map-append key (at_places t.key own) (spelled ts ps))
    ∙ ap (fold put_key xs) (filter-append (late from) (map key (at_places t.key own)) (map key (spelled ts ps)))
    ∙ fold-append put_key xs one more
    ∙ ap (λ ys. fold put_key ys more) (once from t.key own xs some)
    ∙ each_once from ts ps (fold put_key xs (filter (late from) (t.key ∷ []))) laid.2
    ∙ sym (fold-append put_key xs (filter (late from) (t.key ∷ [])) (filter (late from) (map (λ u. u.key) ts)))
    ∙ ap (fold put_key xs) (sym (filter-append (late from) (t.key ∷ []) (map (λ u. u.key) ts)))

-- ---- the order of terms

pub terms_sorted : (ts : List Term) → Ascending (map (λ t. t.key) ts) → IsSortedByKey (λ t. t.key) key_cmp ts
terms_sorted ts up k d low l =
    let key = λ (t : Term). t.key in
    let first = mapped_at key ts k d.key d (omega arith) in
    let next = mapped_at key ts (k + 1) d.key d l in
    (λ j. is_lt (key_cmp (sym next j) (sym first j))) ∙ sorted_from_ascending (map key ts) up k d.key low (omega (arith, length-map ts key))
