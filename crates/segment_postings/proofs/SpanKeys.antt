-- Spans of keys: what stands before one, what it takes, and what stands behind, one after another.
use Rattle.std.proofs.Common.{◌≡◌, ℕ, ◌<◌, Bool, true, false, cond, ◌&&◌, ◌||◌, List, [], ◌∷◌, refl, sym, ap, ◌∙◌, nat_eq, inl, inr}
use Rattle.std.specs.Ordering.{nat_cmp, ordering_reverse, ordering_then, is_lt, is_gt, is_eq}
use Rattle.std.specs.Cmp.{nat_cmp_total}
use Rattle.std.specs.declared.cmp.Ordering.{Ordering}
use Rattle.std.specs.declared.cmp.Ordering.TheVariants.{Less, Equal, Greater}
use Rattle.std.specs.List.{starts_with}
use Rattle.std.proofs.lemmas.Bool.{false≢true, true≢false, and_parts, and_from, lt-ltb, eqb-true, eq-eqb, cases_order, cases_Bool, not-false, not_from_true, not_from_false}
use Rattle.std.proofs.lemmas.Cmp.{upto, tied_itself}
use Rattle.field_schema.specs.declared.key.Key.{Key}
use Rattle.field_schema.specs.declared.key.Key.TheVariants as key
use Rattle.field_schema.specs.Bytes.{bytes_cmp}
use Rattle.field_schema.specs.Keys.{key_cmp}
use Rattle.field_schema.specs.Laws.{key_cmp_total}
use Rattle.query_tree.specs.declared.query.End.{End}
use Rattle.query_tree.specs.declared.query.End.TheVariants as end
use Rattle.query_tree.specs.Matches.{is_above, is_below}
use Rattle.segment_postings.specs.declared.span.Span.{Span}
use Rattle.segment_postings.specs.declared.span.Span.TheVariants.{Between, Strings, Tokens}
use Rattle.segment_postings.specs.Spans.{takes, begins_behind}
use Rattle.segment_postings.specs.Terms.{is_before}

-- ---- the order of keys

lt_reverse : (r : Ordering) → is_lt (ordering_reverse r) ≡ is_gt r
lt_reverse Less = refl
lt_reverse Equal = refl
lt_reverse Greater = refl

before_gt : (x y : Key) → is_before y x ≡ is_gt (key_cmp x y)
before_gt x y = ap is_lt (key_cmp_total.antisymm y x) ∙ lt_reverse (key_cmp x y)

-- x is at most y, and y at most z
at_most : (x y z : Key) → is_before y x ≡ false → is_before z y ≡ false → is_before z x ≡ false
at_most x y z h k = before_gt x z ∙ upto key_cmp_total x y z (sym (before_gt x y) ∙ h) (sym (before_gt y z) ∙ k)

-- ---- ends

or_false : (b : Bool) → (b || false) ≡ b
or_false true = refl
or_false false = refl

not_gt : (r : Ordering) (inclusive : Bool) → (is_lt r || (inclusive && is_eq r)) ≡ true → is_gt r ≡ false
not_gt Less inclusive h = refl
not_gt Equal inclusive h = refl
not_gt Greater true h = absurd (false≢true h)
not_gt Greater false h = absurd (false≢true h)

le_from_not_gt : (r : Ordering) → is_gt r ≡ false → (is_lt r || (true && is_eq r)) ≡ true
le_from_not_gt Less h = refl
le_from_not_gt Equal h = refl
le_from_not_gt Greater h = absurd (true≢false h)

-- what is below an end is so with all that is at most it
below_down : (high : End) (k x : Key) → is_before x k ≡ false → is_below high x ≡ true → is_below high k ≡ true
below_down end.Open k x h e = refl
below_down (end.At b true) k x h e =
    le_from_not_gt (key_cmp k b) (upto key_cmp_total k x b (sym (before_gt k x) ∙ h) (not_gt (key_cmp x b) true e))
below_down (end.At b false) k x h e =
    elim (cases_Bool (is_before k b)) [
      | inl less ↦ or_false (is_before k b) ∙ less
      | inr more ↦ absurd (false≢true (sym (at_most b k x more h) ∙ sym (or_false (is_before x b)) ∙ e))
    ]

-- and what is above an end, with all that is at least it
above_up : (low : End) (k x : Key) → is_before x k ≡ false → is_above low k ≡ true → is_above low x ≡ true
above_up end.Open k x h e = refl
above_up (end.At a true) k x h e =
    le_from_not_gt (key_cmp a x) (upto key_cmp_total a k x (not_gt (key_cmp a k) true e) (sym (before_gt k x) ∙ h))
above_up (end.At a false) k x h e =
    elim (cases_Bool (is_before a x)) [
      | inl less ↦ or_false (is_before a x) ∙ less
      | inr more ↦ absurd (false≢true (sym (at_most k x a h more) ∙ sym (or_false (is_before a k)) ∙ e))
    ]

-- ---- texts that begin with one

equal : (a : ℕ) → nat_cmp a a ≡ Equal
equal a = tied_itself nat_cmp_total a

less : (a b : ℕ) → a < b → nat_cmp a b ≡ Less
less a b h = ap (λ t. cond t Less (cond (nat_eq a b) Equal Greater)) (lt-ltb a b h)

-- a text that begins with p is not before p
starts_not_before : (p t : List ℕ) → starts_with nat_eq t p ≡ true → is_lt (bytes_cmp t p) ≡ false
starts_not_before [] [] h = refl
starts_not_before [] (c ∷ cs) h = refl
starts_not_before (a ∷ p) [] h = absurd (false≢true h)
starts_not_before (a ∷ p) (c ∷ cs) h =
    let parts = and_parts (nat_eq a c) (starts_with nat_eq cs p) h in
    let same : a ≡ c = eqb-true a c parts.0 in
    ap (λ r. is_lt (ordering_then r (bytes_cmp cs p))) (ap (λ x. nat_cmp c x) same ∙ equal c) ∙ starts_not_before p cs parts.1

-- a text between p and one that begins with p begins with p
between_starts : (p u t : List ℕ) → is_lt (bytes_cmp u p) ≡ false → is_lt (bytes_cmp t u) ≡ false → starts_with nat_eq t p ≡ true → starts_with nat_eq u p ≡ true
between_starts [] [] t low high h = refl
between_starts [] (b ∷ u) t low high h = refl
between_starts (a ∷ p) [] t low high h = absurd (true≢false low)
between_starts (a ∷ p) (b ∷ u) [] low high h = absurd (false≢true h)
between_starts (a ∷ p) (b ∷ u) (c ∷ t) low high h =
    let parts = and_parts (nat_eq a c) (starts_with nat_eq t p) h in
    let same : a ≡ c = eqb-true a c parts.0 in
    elim (cases_order a b) [
      | inl e ↦
          let here : nat_cmp b a ≡ Equal = ap (λ x. nat_cmp b x) e ∙ equal b in
          let there : nat_cmp c b ≡ Equal = ap (λ x. nat_cmp x b) (sym same ∙ e) ∙ equal b in
          let rest : starts_with nat_eq u p ≡ true =
          between_starts p u t
          (sym (ap (λ r. is_lt (ordering_then r (bytes_cmp u p))) here) ∙ low)
          (sym (ap (λ r. is_lt (ordering_then r (bytes_cmp t u))) there) ∙ high)
          parts.1 in
          (λ i. eq-eqb a b e i && rest i)
      | inr (inl l) ↦ absurd (true≢false (sym (ap (λ r. is_lt (ordering_then r (bytes_cmp t u))) (ap (λ x. nat_cmp x b) (sym same) ∙ less a b l)) ∙ high))
      | inr (inr m) ↦ absurd (true≢false (sym (ap (λ r. is_lt (ordering_then r (bytes_cmp u p))) (less b a m)) ∙ low))
    ]

-- what begins with p behind a key from p on, that key begins with p too
past_strings : (p : List ℕ) (k : Key) (t : List ℕ) → is_before k (key.Str p) ≡ false → is_before (key.Str t) k ≡ false → starts_with nat_eq t p ≡ true → (u : List ℕ) × (k ≡ key.Str u) × (starts_with nat_eq u p ≡ true)
past_strings p (key.Str u) t low high h = (u, refl, between_starts p u t low high h)
past_strings p (key.Long n) t low high h = absurd (true≢false high)
past_strings p (key.Bool b) t low high h = absurd (true≢false high)
past_strings p (key.Token u) t low high h = absurd (true≢false high)

past_tokens : (p : List ℕ) (k : Key) (t : List ℕ) → is_before k (key.Token p) ≡ false → is_before (key.Token t) k ≡ false → starts_with nat_eq t p ≡ true → (u : List ℕ) × (k ≡ key.Token u) × (starts_with nat_eq u p ≡ true)
past_tokens p (key.Str u) t low high h = absurd (true≢false low)
past_tokens p (key.Long n) t low high h = absurd (true≢false low)
past_tokens p (key.Bool b) t low high h = absurd (true≢false low)
past_tokens p (key.Token u) t low high h = (u, refl, between_starts p u t low high h)

-- ---- spans

-- x is at most y, and y stands before a key
before_down : (k x y : Key) → is_before y x ≡ false → is_before y k ≡ true → is_before x k ≡ true
before_down k x y h e = elim (cases_Bool (is_before x k)) [
  | inl t ↦ t
  | inr f ↦ absurd (true≢false (sym e ∙ at_most k x y f h))
]

-- what is at most a key before a span stands before it
pub behind_down : (s : Span) (x y : Key) → is_before y x ≡ false → begins_behind s y ≡ true → begins_behind s x ≡ true
behind_down (Between low high) x y h e = elim (cases_Bool (is_above low.now x)) [
  | inl t ↦ absurd (false≢true (sym (not_from_true (is_above low.now y) (above_up low.now x y h t)) ∙ e))
  | inr f ↦ not_from_false (is_above low.now x) f
]
behind_down (Strings p) x y h e = before_down (key.Str p.now) x y h e
behind_down (Tokens p) x y h e = before_down (key.Token p.now) x y h e

-- of keys that do not stand before a span, those at most one that it takes are taken
pub takes_down : (s : Span) (x y : Key) → is_before y x ≡ false → begins_behind s x ≡ false → takes s y ≡ true → takes s x ≡ true
takes_down (Between low high) x y h f e =
    and_from (is_above low.now x) (is_below high.now x) (not-false (is_above low.now x) f) (below_down high.now x y h (and_parts (is_above low.now y) (is_below high.now y) e).1)
takes_down (Strings p) x (key.Str t) h f e =
    let down = past_strings p.now x t f h e in
    ap (takes (Strings p)) down.1 ∙ down.2
takes_down (Strings p) x (key.Long n) h f e = absurd (false≢true e)
takes_down (Strings p) x (key.Bool b) h f e = absurd (false≢true e)
takes_down (Strings p) x (key.Token t) h f e = absurd (false≢true e)
takes_down (Tokens p) x (key.Str t) h f e = absurd (false≢true e)
takes_down (Tokens p) x (key.Long n) h f e = absurd (false≢true e)
takes_down (Tokens p) x (key.Bool b) h f e = absurd (false≢true e)
takes_down (Tokens p) x (key.Token t) h f e =
    let down = past_tokens p.now x t f h e in
    ap (takes (Tokens p)) down.1 ∙ down.2

-- a span does not take what stands before it
taken_from : (s : Span) (x : Key) → takes s x ≡ true → begins_behind s x ≡ false
taken_from (Between low high) x e = not_from_true (is_above low.now x) (and_parts (is_above low.now x) (is_below high.now x) e).0
taken_from (Strings p) (key.Str t) e = starts_not_before p.now t e
taken_from (Strings p) (key.Long n) e = absurd (false≢true e)
taken_from (Strings p) (key.Bool b) e = absurd (false≢true e)
taken_from (Strings p) (key.Token t) e = absurd (false≢true e)
taken_from (Tokens p) (key.Str t) e = absurd (false≢true e)
taken_from (Tokens p) (key.Long n) e = absurd (false≢true e)
taken_from (Tokens p) (key.Bool b) e = absurd (false≢true e)
taken_from (Tokens p) (key.Token t) e = starts_not_before p.now t e

pub none_before : (s : Span) (x : Key) → begins_behind s x ≡ true → takes s x ≡ false
none_before s x e = elim (cases_Bool (takes s x)) [
  | inl t ↦ absurd (true≢false (sym e ∙ taken_from s x t))
  | inr f ↦ f
]
