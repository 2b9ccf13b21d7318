-- The places of the keys that a span takes lie one after another.
use Rattle.std.proofs.Common.{◌≡◌, ℕ, ◌+◌, ◌-◌, ◌<◌, ◌≤◌, Bool, true, false, cond, not, List, [], ◌∷◌, ◌++◌, length, get_or, take, drop, map, filter, refl, sym, ap, subst, ◌∙◌, arith, inl, inr}
use Rattle.std.specs.List.{list_all}
use Rattle.std.specs.List.Sorted.{IsPartitionedBy}
use Rattle.std.specs.Ordering.{is_lt}
use Rattle.std.proofs.lemmas.Bool.{true≢false, and_parts, and_from, cases_Bool, not-true, not_from_false}
use Rattle.std.proofs.lemmas.List.{append-nil, map-append, drop-drop}
use Rattle.std.proofs.lemmas.List.Elements.{filter-append}
use Rattle.std.proofs.lemmas.List.Folds.{list_all_at}
use Rattle.std.proofs.lemmas.List.Sorted.{sorted_far, ranks_by}
use Rattle.std.proofs.Math.Seq.{take-add}
use Rattle.field_schema.specs.declared.key.Key.{Key}
use Rattle.field_schema.specs.Keys.{key_cmp}
use Rattle.field_schema.specs.Laws.{key_cmp_total}
use Rattle.segment_postings.specs.declared.laid.Term.{Term}
use Rattle.segment_postings.specs.declared.occurrence.Occurrence.{Occurrence}
use Rattle.segment_postings.specs.declared.occurrence.Place.{Place}
use Rattle.segment_postings.specs.declared.span.Span.{Span}
use Rattle.segment_postings.specs.Layout.{start_of, own_places, at_places, spelled, IsLaid}
use Rattle.segment_postings.specs.Spans.{takes, begins_behind}
use Rattle.segment_postings.specs.Terms.{Ascending, is_before}
use Rattle.segment_postings.proofs.Laying.{terms_sorted, Ascending-right}
use Rattle.segment_postings.proofs.SpanKeys.{behind_down, takes_down, none_before}

-- ---- the terms before a span, those that it takes, and those behind

all_kept : {A : Type 0} (p : A → Bool) (xs : List A) → list_all p (filter p xs) ≡ true
all_kept p [] = refl
all_kept p (x ∷ xs) = elim (p x) as (λ b. p x ≡ b → list_all p (cond b (x ∷ filter p xs) (filter p xs)) ≡ true) [
  | true ↦ λ e. and_from (p x) (list_all p (filter p xs)) e (all_kept p xs)
  | false ↦ λ e. all_kept p xs
] refl

holds_at : {A : Type 0} (p : A → Bool) (xs : List A) (i : ℕ) (d : A) → i < length xs → list_all p xs ≡ true → p (get_or xs i d) ≡ true
holds_at p xs i d h all = elim (cases_Bool (p (get_or xs i d))) [
  | inl t ↦ t
  | inr f ↦ absurd (true≢false (sym all ∙ list_all_at p xs i d h f))
]

module _ (s : Span) (ts : List Term) (up : Ascending (map (λ t. t.key) ts)) where
  far : (i j : ℕ) (d : Term) → i ≤ j → j < length ts → is_before ((get_or ts j d).key) ((get_or ts i d).key) ≡ false
  far i j d i≤j j<n = sorted_far (λ (x y : Term). is_lt (key_cmp x.key y.key)) (ranks_by key_cmp_total (λ (x : Term). x.key)) ts (terms_sorted ts up) i j d i≤j j<n

  pub parted_behind : IsPartitionedBy (λ t. begins_behind s t.key) ts
  parted_behind i j d i≤j j<n e = behind_down s _ _ (far i j d i≤j j<n) e

  pub parted_taken : list_all (λ t. not (begins_behind s t.key)) ts ≡ true → IsPartitionedBy (λ t. takes s t.key) ts
  parted_taken from i j d i≤j j<n e =
      let low : i < length ts = omega arith in
      takes_down s _ _ (far i j d i≤j j<n) (not-true _ (holds_at (λ t. not (begins_behind s t.key)) ts i d low from)) e

-- ---- their places

stretch : (a m b : ℕ) (ps : List Place) → a ≤ m → m ≤ b → take (m - a) (drop a ps) ++ take (b - m) (drop m ps) ≡ take (b - a) (drop a ps)
stretch a m b ps h k =
    let whole : b - a ≡ (m - a) + (b - m) = omega arith in
    let there : a + (m - a) ≡ m = omega arith in
    sym (
    ap (λ n. take n (drop a ps)) whole
    ∙ take-add (m - a) (b - m) (drop a ps)
    ∙ ap (λ xs. take (m - a) (drop a ps) ++ take (b - m) xs) (drop-drop (m - a) a ps ∙ ap (λ n. drop n ps) there))

module _ (p : Key → Bool) where
  abbrev kept : List Occurrence → List Place
  kept os = map (λ o. o.place) (filter (λ o. p o.key) os)

  kept-append : (xs ys : List Occurrence) → kept (xs ++ ys) ≡ kept xs ++ kept ys
  kept-append xs ys = ap (map (λ (o : Occurrence). o.place)) (filter-append (λ o. p o.key) xs ys) ∙ map-append (λ (o : Occurrence). o.place) (filter (λ o. p o.key) xs) (filter (λ o. p o.key) ys)

  none_at : (k : Key) (ps : List Place) → p k ≡ false → kept (at_places k ps) ≡ []
  none_at k [] e = refl
  none_at k (q ∷ ps) e = ap (λ b. map (λ (o : Occurrence). o.place) (cond b (record { key = k; place = q } ∷ filter (λ o. p o.key) (at_places k ps)) (filter (λ o. p o.key) (at_places k ps)))) e ∙ none_at k ps e

  all_at : (k : Key) (ps : List Place) → p k ≡ true → kept (at_places k ps) ≡ ps
  all_at k [] e = refl
  all_at k (q ∷ ps) e = ap (λ b. map (λ (o : Occurrence). o.place) (cond b (record { key = k; place = q } ∷ filter (λ o. p o.key) (at_places k ps)) (filter (λ o. p o.key) (at_places k ps)))) e ∙ ap (λ qs. q ∷ qs) (all_at k ps e)

  skips : (front rest : List Term) (ps : List Place) → list_all (λ t. not (p t.key)) front ≡ true → kept (spelled (front ++ rest) ps) ≡ kept (spelled rest ps)
  skips [] rest ps h = refl
  skips (t ∷ front) rest ps h =
      let parts = and_parts (not (p t.key)) (list_all (λ t. not (p t.key)) front) h in
      kept-append (at_places t.key (own_places t (front ++ rest) ps)) (spelled (front ++ rest) ps)
      ∙ ap (λ xs. xs ++ kept (spelled (front ++ rest) ps)) (none_at t.key (own_places t (front ++ rest) ps) (not-true (p t.key) parts.0))
      ∙ skips front rest ps parts.1

  starts_rise : (mid back : List Term) (ps : List Place) → IsLaid (mid ++ back) ps → start_of (mid ++ back) ps ≤ start_of back ps
  starts_rise [] back ps laid = omega arith
  starts_rise (t ∷ mid) back ps laid = omega (arith, laid.0, starts_rise mid back ps laid.2)

  one_row : (mid back : List Term) (ps : List Place) → list_all (λ t. p t.key) mid ≡ true → list_all (λ t. not (p t.key)) back ≡ true → IsLaid (mid ++ back) ps →
      take (start_of back ps - start_of (mid ++ back) ps) (drop (start_of (mid ++ back) ps) ps) ≡ kept (spelled (mid ++ back) ps)
  one_row [] back ps all none laid =
      let zero_long : start_of back ps - start_of back ps ≡ 0 = omega arith in
      ap (λ n. take n (drop (start_of back ps) ps)) zero_long
      ∙ sym (ap (λ us. kept (spelled us ps)) (sym (append-nil back)) ∙ skips back [] ps none)
  one_row (t ∷ mid) back ps all none laid =
      let parts = and_parts (p t.key) (list_all (λ t. p t.key) mid) all in
      let low : t.start ≤ start_of (mid ++ back) ps = omega (arith, laid.0) in
      let high : start_of (mid ++ back) ps ≤ start_of back ps = starts_rise mid back ps laid.2 in
      sym (stretch t.start (start_of (mid ++ back) ps) (start_of back ps) ps low high)
      ∙ (λ j. sym (all_at t.key (own_places t (mid ++ back) ps) parts.0) j ++ one_row mid back ps parts.1 none laid.2 j)
      ∙ sym (kept-append (at_places t.key (own_places t (mid ++ back) ps)) (spelled (mid ++ back) ps))

IsLaid-right : (xs ys : List Term) (ps : List Place) → IsLaid (xs ++ ys) ps → IsLaid ys ps
IsLaid-right [] ys ps h = h
IsLaid-right (x ∷ xs) ys ps h = IsLaid-right xs ys ps h.2

all_like : {A : Type 0} (p q : A → Bool) (xs : List A) → ((x : A) → p x ≡ true → q x ≡ true) → list_all p xs ≡ true → list_all q xs ≡ true
all_like p q [] f h = refl
all_like p q (x ∷ xs) f h =
    let parts = and_parts (p x) (list_all p xs) h in
    and_from (q x) (list_all q xs) (f x parts.0) (all_like p q xs f parts.1)

-- the terms from a span on, and those behind it
pub record Cut (s : Span) (ts from back : List Term) : Type 0 where
  pub ahead : filter (λ t. begins_behind s t.key) ts ++ from ≡ ts
  pub rest : from ≡ filter (λ t. not (begins_behind s t.key)) ts
  pub taken : filter (λ t. takes s t.key) from ++ back ≡ from
  pub left : back ≡ filter (λ t. not (takes s t.key)) from

pub from_rising : (s : Span) (ts from : List Term) → filter (λ t. begins_behind s t.key) ts ++ from ≡ ts → Ascending (map (λ t. t.key) ts) → Ascending (map (λ t. t.key) from)
from_rising s ts from split up =
    let front : List Term = filter (λ t. begins_behind s t.key) ts in
    Ascending-right (map (λ t. t.key) front) (map (λ t. t.key) from) (subst Ascending (sym (ap (map (λ (t : Term). t.key)) split) ∙ map-append (λ (t : Term). t.key) front from) up)

pub from_kept : (s : Span) (ts from : List Term) → from ≡ filter (λ t. not (begins_behind s t.key)) ts → list_all (λ t. not (begins_behind s t.key)) from ≡ true
from_kept s ts from is = ap (list_all (λ (t : Term). not (begins_behind s t.key))) is ∙ all_kept (λ (t : Term). not (begins_behind s t.key)) ts

module _ (s : Span) (ts from back : List Term) (ps : List Place) (cut : Cut s ts from back) (laid : IsLaid ts ps) where
  from_laid : IsLaid from ps
  from_laid = IsLaid-right (filter (λ t. begins_behind s t.key) ts) from ps (subst (λ us. IsLaid us ps) (sym cut.ahead) laid)

  split_laid : IsLaid (filter (λ t. takes s t.key) from ++ back) ps
  split_laid = subst (λ us. IsLaid us ps) (sym cut.taken) from_laid

  pub starts_in_order : start_of from ps ≤ start_of back ps
  starts_in_order = subst (λ us. start_of us ps ≤ start_of back ps) cut.taken (starts_rise (λ k. takes s k) (filter (λ t. takes s t.key) from) back ps split_laid)

  pub starts_within : start_of back ps ≤ length ps
  starts_within = at_most_all back (IsLaid-right (filter (λ t. takes s t.key) from) back ps split_laid)
    where
      at_most_all : (us : List Term) → IsLaid us ps → start_of us ps ≤ length ps
      at_most_all [] h = omega arith
      at_most_all (u ∷ us) h = omega (arith, h.0, h.1)

  pub places_taken : take (start_of back ps - start_of from ps) (drop (start_of from ps) ps) ≡ map (λ o. o.place) (filter (λ o. takes s o.key) (spelled ts ps))
  places_taken =
      let front : List Term = filter (λ t. begins_behind s t.key) ts in
      let mid : List Term = filter (λ t. takes s t.key) from in
      let none : list_all (λ t. not (takes s t.key)) front ≡ true =
      all_like (λ (t : Term). begins_behind s t.key) (λ (t : Term). not (takes s t.key)) front (λ t e. not_from_false (takes s t.key) (none_before s t.key e)) (all_kept (λ (t : Term). begins_behind s t.key) ts) in
      let behind : list_all (λ t. not (takes s t.key)) back ≡ true = ap (list_all (λ (t : Term). not (takes s t.key))) cut.left ∙ all_kept (λ (t : Term). not (takes s t.key)) from in
      ap (λ us. take (start_of back ps - start_of us ps) (drop (start_of us ps) ps)) (sym cut.taken)
      ∙ one_row (λ k. takes s k) mid back ps (all_kept (λ (t : Term). takes s t.key) from) behind split_laid
      ∙ ap (λ us. map (λ o. o.place) (filter (λ o. takes s o.key) (spelled us ps))) cut.taken
      ∙ sym (skips (λ k. takes s k) front from ps none)
      ∙ ap (λ us. map (λ o. o.place) (filter (λ o. takes s o.key) (spelled us ps))) cut.ahead

pub cut_from : (s : Span) (us ts from back : List Term) → us ≡ ts → filter (λ t. begins_behind s t.key) us ++ from ≡ us → from ≡ filter (λ t. not (begins_behind s t.key)) us → filter (λ t. takes s t.key) from ++ back ≡ from → back ≡ filter (λ t. not (takes s t.key)) from → Cut s ts from back
cut_from s us ts from back e a r t l = subst (λ vs. Cut s vs from back) e (record { ahead = a; rest = r; taken = t; left = l })
