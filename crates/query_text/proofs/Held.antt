-- A query that is being read has readable clauses, and joins to a readable query.
use Rattle.std.proofs.Common.{◌≡◌, ◌+◌, ◌-◌, ◌<◌, ◌≤◌, ◌++◌, ◌∷◌, [], ℕ, zero, suc, List, Bool, true, false, Option, None, Some, length, refl, ap, sym, subst, arith, length-append}
use Rattle.std.specs.Prelude.{◌&&◌, ◌==◌, nat_le, if◌then◌else◌, is_none}
use Rattle.std.proofs.lemmas.Bool.{and_parts, true≢false, false_from_ne_true, leb-true, eqb-true}
use Rattle.field_schema.specs.declared.field.Field.{Field}
use Rattle.query_tree.specs.declared.query.Query.{Query}
use Rattle.query_text.specs.declared.op.Op.{Op}
use Rattle.query_text.specs.declared.op.Op.TheVariants as op
use Rattle.query_text.specs.declared.level.Clause.{Clause}
use Rattle.query_text.specs.declared.level.Level.{Level}
use Rattle.query_text.specs.declared.level.Sign.{Sign}
use Rattle.query_text.specs.declared.level.Sign.TheVariants.{Required, Prohibited}
use Rattle.query_text.specs.declared.level.Target.{Target}
use Rattle.query_text.specs.declared.level.Target.TheVariants.{Here, Every, To}
use Rattle.query_text.specs.declared.clause.Mark.{Mark}
use Rattle.query_text.specs.declared.clause.Mark.TheVariants as as_
use Rattle.query_text.specs.Clauses.{mark, kept, same_mark, conj_before, marked, sorted, joined}
use Rattle.query_text.specs.Levels.{begins, put}
use Rattle.query_text.specs.PrintLaws.{IsNamed, is_single}
use Rattle.query_text.specs.Readable.{AreReadable, no_more, one_more, group, IsReadable, alone as whole, blank, bool}

module _ (fields : List Field) (most : ℕ) where
  -- ---- lists of readable queries

  deeper : {d : ℕ} {qs : List Query} → AreReadable fields most d qs → AreReadable fields most (suc d) qs
  deeper no_more = no_more
  deeper (one_more q qs h rest) = one_more q qs h (deeper rest)
  deeper (group must should not_ qs m s n several room rest) = group must should not_ qs (deeper m) (deeper s) (deeper n) several room (deeper rest)

  prepend : {d : ℕ} {qs : List Query} (more : List Query) → AreReadable fields most d qs → AreReadable fields most d more → AreReadable fields most d (qs ++ more)
  prepend more no_more k = k
  prepend more (one_more q qs h rest) k = one_more q (qs ++ more) h (prepend more rest k)
  prepend more (group must should not_ qs m s n several room rest) k = group must should not_ (qs ++ more) m s n several room (prepend more rest k)

  deep_as : (e d : ℕ) {qs : List Query} → AreReadable fields most d qs → AreReadable fields most (e + d) qs
  deep_as zero d {qs} h = let k : d ≡ 0 + d = omega arith in subst (λ (n : ℕ). AreReadable fields most n qs) k h
  deep_as (suc e) d {qs} h = let k : suc (e + d) ≡ suc e + d = omega arith in subst (λ (n : ℕ). AreReadable fields most n qs) k (deeper (deep_as e d h))

  at_top : (d : ℕ) {qs : List Query} → d ≤ 64 → AreReadable fields most d qs → AreReadable fields most 64 qs
  at_top d {qs} l h = let k : 64 - d + d ≡ 64 = omega arith in subst (λ (n : ℕ). AreReadable fields most n qs) k (deep_as (64 - d) d h)

  abbrev FirstIs : List Query → Type 0
  FirstIs [] = Unit {0}
  FirstIs (q ∷ qs) = IsReadable fields most q

  -- one of them alone is a whole query
  first_whole : {d : ℕ} {qs : List Query} → AreReadable fields most d qs → d ≤ 64 → 1 ≤ most → FirstIs qs
  first_whole no_more l room = tt
  first_whole (one_more q qs h rest) l room = whole q room h
  first_whole (group {d = d} must should not_ qs m s n several fits rest) l room =
      bool must should not_ (at_top d (omega arith) m) (at_top d (omega arith) s) (at_top d (omega arith) n) several fits

  -- ---- clauses

  abbrev pub IsPart : ℕ → Query → Type 0
  IsPart d q = AreReadable fields most d (q ∷ [])

  abbrev pub AllHeld : ℕ → List Clause → Type 0
  AllHeld d [] = Unit {0}
  AllHeld d (c ∷ cs) = IsPart d c.query × AllHeld d cs

  held_more : (d : ℕ) (cs : List Clause) (c : Clause) → AllHeld d cs → IsPart d c.query → AllHeld d (cs ++ c ∷ [])
  held_more d [] c h k = (k, tt)
  held_more d (b ∷ cs) c h k = (h.0, held_more d cs c h.1 k)

  kept_held : (d : ℕ) (b : Bool) (q : Query) → IsPart d q → AreReadable fields most d (if b then q ∷ [] else [])
  kept_held d true q h = h
  kept_held d false q h = no_more

  marked_held : (m : Mark) (o : Op) (d : ℕ) (cs : List Clause) → AllHeld d cs → AreReadable fields most d (marked m o cs)
  unfolding marked
  marked_held m o d [] h = no_more
  marked_held m o d (c ∷ cs) h =
      prepend (marked m o cs) (kept_held d (same_mark m (mark o c.before c.sign (conj_before cs))) c.query h.0) (marked_held m o d cs h.1)

kept_once : (m : Mark) (q : Query) → length (kept as_.Must m q) + length (kept as_.Should m q) + length (kept as_.Not m q) ≡ 1
kept_once as_.Must q = refl
kept_once as_.Should q = refl
kept_once as_.Not q = refl

-- each clause counts once
marked_once : (o : Op) (cs : List Clause) → length (marked as_.Must o cs) + length (marked as_.Should o cs) + length (marked as_.Not o cs) ≡ length cs
unfolding marked
marked_once o [] = refl
marked_once o (c ∷ cs) =
    let m : Mark = mark o c.before c.sign (conj_before cs) in
    let one = kept_once m c.query in
    let rest = marked_once o cs in
    let a = length-append (kept as_.Must m c.query) (marked as_.Must o cs) in
    let b = length-append (kept as_.Should m c.query) (marked as_.Should o cs) in
    let e = length-append (kept as_.Not m c.query) (marked as_.Not o cs) in
    omega arith

pub several_from : (must should not_ : List Query) → 2 ≤ length must + length should + length not_ → is_single must should not_ ≡ false
several_from must should not_ h =
    false_from_ne_true _
    (λ e. let p = and_parts (nat_le (length should) 1) (length must == 0 && length not_ == 0) e in
    let q = and_parts (length must == 0) (length not_ == 0) p.1 in
    omega (arith, leb-true (length should) 1 p.0, eqb-true (length must) 0 q.0, eqb-true (length not_) 0 q.1))

-- one clause with a sign
abbrev one : Sign → Query → List Clause
one s q = (record { before = None; sign = Some s; query = q }) ∷ []

one_signed : (o : Op) (s : Sign) (q : Query) → is_single (marked as_.Must o (one s q)) (marked as_.Should o (one s q)) (marked as_.Not o (one s q)) ≡ false
unfolding marked
one_signed op.And Required q = refl
one_signed op.And Prohibited q = refl
one_signed op.Or Required q = refl
one_signed op.Or Prohibited q = refl

module _ (fields : List Field) (most : ℕ) (o : Op) where
  abbrev IsSeveral : List Clause → Type 0
  IsSeveral cs = is_single (marked as_.Must o cs) (marked as_.Should o cs) (marked as_.Not o cs) ≡ false

  fits : (cs : List Clause) → length cs ≤ most → length (marked as_.Must o cs) + length (marked as_.Should o cs) + length (marked as_.Not o cs) ≤ most
  fits cs room = omega (arith, marked_once o cs)

  sorted_part : (d : ℕ) (cs : List Clause) → AllHeld fields most d cs → IsSeveral cs → length cs ≤ most → IsPart fields most (suc d) (sorted o cs)
  unfolding sorted
  sorted_part d cs h several room =
      group (marked as_.Must o cs) (marked as_.Should o cs) (marked as_.Not o cs) []
      (marked_held fields most as_.Must o d cs h) (marked_held fields most as_.Should o d cs h) (marked_held fields most as_.Not o d cs h) several (fits cs room) no_more

  sorted_whole : (cs : List Clause) → AllHeld fields most 64 cs → IsSeveral cs → length cs ≤ most → IsReadable fields most (sorted o cs)
  unfolding sorted
  sorted_whole cs h several room =
      bool (marked as_.Must o cs) (marked as_.Should o cs) (marked as_.Not o cs)
      (marked_held fields most as_.Must o 64 cs h) (marked_held fields most as_.Should o 64 cs h) (marked_held fields most as_.Not o 64 cs h) several (fits cs room)

  two_several : (c e : Clause) (cs : List Clause) → IsSeveral (c ∷ e ∷ cs)
  two_several c e cs =
      several_from (marked as_.Must o (c ∷ e ∷ cs)) (marked as_.Should o (c ∷ e ∷ cs)) (marked as_.Not o (c ∷ e ∷ cs)) (omega (arith, marked_once o (c ∷ e ∷ cs)))

  -- what stands in parentheses
  one_part : (d : ℕ) (before : Option Op) (sign : Option Sign) (q : Query) → before ≡ None → IsPart fields most d q → 1 ≤ most
      → IsPart fields most (suc d) (joined o ((record { before = before; sign = sign; query = q }) ∷ []))
  unfolding joined
  one_part d (Some b) sign q e h room = absurd (true≢false (sym (ap is_none e)))
  one_part d None None q e h room = deeper fields most h
  one_part d None (Some s) q e h room = sorted_part d (one s q) (h, tt) (one_signed o s q) room

  pub joined_part : (d : ℕ) (cs : List Clause) → AllHeld fields most d cs → conj_before cs ≡ None → (length cs == 0) ≡ false → length cs ≤ most → IsPart fields most (suc d) (joined o cs)
  unfolding joined
  joined_part d [] h e some room = absurd (true≢false some)
  joined_part d (c ∷ []) h e some room = one_part d c.before c.sign c.query e h.0 room
  joined_part d (c ∷ b ∷ cs) h e some room = sorted_part d (c ∷ b ∷ cs) h (two_several c b cs) room

  one_whole : (before : Option Op) (sign : Option Sign) (q : Query) → before ≡ None → IsPart fields most 64 q → 1 ≤ most
      → IsReadable fields most (joined o ((record { before = before; sign = sign; query = q }) ∷ []))
  unfolding joined
  one_whole (Some b) sign q e h room = absurd (true≢false (sym (ap is_none e)))
  one_whole None None q e h room = first_whole fields most h (omega arith) room
  one_whole None (Some s) q e h room = sorted_whole (one s q) (h, tt) (one_signed o s q) room

  none_whole : IsReadable fields most (sorted o [])
  unfolding sorted marked
  none_whole = blank

  -- a whole text
  joined_top : (cs : List Clause) → AllHeld fields most 64 cs → conj_before cs ≡ None → length cs ≤ most → IsReadable fields most (joined o cs)
  unfolding joined
  joined_top [] h e room = none_whole
  joined_top (c ∷ []) h e room = one_whole c.before c.sign c.query e h.0 room
  joined_top (c ∷ b ∷ cs) h e room = sorted_whole (c ∷ b ∷ cs) h (two_several c b cs) room

  all_top : (d : ℕ) (cs : List Clause) → d ≤ 64 → AllHeld fields most d cs → AllHeld fields most 64 cs
  all_top d [] l h = tt
  all_top d (c ∷ cs) l h = (at_top fields most d l h.0, all_top d cs l h.1)

  pub joined_whole : (d : ℕ) (cs : List Clause) → d ≤ 64 → AllHeld fields most d cs → conj_before cs ≡ None → length cs ≤ most → IsReadable fields most (joined o cs)
  joined_whole d cs l h e room = joined_top cs (all_top d cs l h) e room

-- ---- levels

-- a conjunction stands before a clause only behind another
abbrev pub IsStart : List Clause → Option Op → Type 0
IsStart [] conj = conj ≡ None
IsStart (c ∷ cs) conj = Unit {0}

module _ (fields : List Field) (most : ℕ) where
  abbrev pub NamedIf : Option ℕ → Type 0
  NamedIf None = Unit {0}
  NamedIf (Some f) = IsNamed fields f

  abbrev pub IsTarget : Target → Type 0
  IsTarget Here = Unit {0}
  IsTarget Every = Unit {0}
  IsTarget (To o) = NamedIf o

  -- a query that is being read, whose clauses have at most d levels of parentheses
  pub record Held (d : ℕ) (l : Level) : Type 0 where
    pub field : NamedIf l.field
    pub target : IsTarget l.target
    pub clauses : AllHeld fields most d l.clauses
    pub first : conj_before l.clauses ≡ None
    pub start : IsStart l.clauses l.conj
    pub room : length l.clauses ≤ most
    pub begun : begins l ≡ false → length l.clauses < most

  -- those outside it, each of which has room for one more clause
  abbrev pub Outer : ℕ → List Level → Type 0
  Outer d [] = d ≡ 64
  Outer d (l ∷ os) = Held (suc d) l × ((length l.clauses < most) × Outer (suc d) os)

  pub outer_depth : (d : ℕ) (os : List Level) → Outer d os → d + length os ≡ 64
  outer_depth d [] h = omega arith
  outer_depth d (l ∷ os) h = let e : suc d + length os ≡ 64 = outer_depth (suc d) os h.1.1 in omega arith

  first_more : (cs : List Clause) (conj : Option Op) (sign : Option Sign) (q : Query) → IsStart cs conj → conj_before cs ≡ None
      → conj_before (cs ++ (record { before = conj; sign = sign; query = q }) ∷ []) ≡ None
  first_more [] conj sign q s h = s
  first_more (c ∷ cs) conj sign q s h = h

  start_more : (cs : List Clause) (c : Clause) → IsStart (cs ++ c ∷ []) None
  start_more [] c = tt
  start_more (b ∷ cs) c = tt

  -- with one more clause
  pub put_held : (d : ℕ) (l : Level) (q : Query) → Held d l → length l.clauses < most → IsPart fields most d q → Held d (put l q)
  put_held d l q h room part = record {
    field = h.field;
    target = tt;
    clauses = held_more fields most d l.clauses (record { before = l.conj; sign = l.sign; query = q }) h.clauses part;
    first = first_more l.clauses l.conj l.sign q h.start h.first;
    start = start_more l.clauses (record { before = l.conj; sign = l.sign; query = q });
    room = omega (arith, length-append l.clauses ((record { before = l.conj; sign = l.sign; query = q }) ∷ []));
    begun = λ e. absurd (true≢false e);
  }
