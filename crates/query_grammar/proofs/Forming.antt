-- Lexemes that can stand from the beginning to the end of a text are the leaves of a tree.
use Rattle.std.proofs.Common.{◌≡◌, ◌++◌, ◌∷◌, [], ℕ, List, Bool, true, false, Option, None, Some, length, refl, ap, sym, subst, ◌∙◌}
use Rattle.std.specs.Prelude.{◌==◌, is_none}
use Rattle.std.proofs.lemmas.Bool.{and_parts, not-true, false_from_ne_true, false≢true, true≢false}
use Rattle.std.proofs.lemmas.List.{append_assoc, append-nil}
use Rattle.query_tree.specs.declared.query.Query.{Query}
use Rattle.query_lexemes.specs.declared.lexeme.What.{What}
use Rattle.query_lexemes.specs.declared.lexeme.What.TheVariants as what
use Rattle.query_lexemes.specs.declared.lexeme.Operator.TheVariants as operator
use Rattle.query_text.specs.declared.op.Op.{Op}
use Rattle.query_text.specs.Levels.{is_here, is_own, begins, is_between, joins, top, inside, put}
use Rattle.query_text.specs.Reads.{Setting, sign_of, after, is_finish}
use Rattle.query_grammar.specs.Forms.{Conjunction, both, either, Modifier, sign, negation, FieldForm, name, any, word, prefix, quoted, star, range, QueryForm, ClauseForm, ValueForm, single, group, TextForm, blank, query, conjunction, modifier, field, query_leaves, clause_leaves, body_leaves, value_leaves, leaves, AreOfForms}
use Rattle.query_grammar.specs.Fitting.{TypeOf, Level, stands, AllStand}
use Rattle.query_grammar.proofs.Parts.{Past, nothing, some, past_leaves, Part, part_leaves, all_leaves, with_clause, put_value}
use Rattle.query_grammar.proofs.Standing.{not_empty, some_clauses}

-- ---- parts of queries

abbrev Sign : Type 0
Sign = TypeOf (sign_of false)

abbrev Target : Type 0
Target = TypeOf (top None).target

with_clause_leaves : (p : Past) (c : ClauseForm) → query_leaves (with_clause p c) ≡ past_leaves p ++ clause_leaves c
unfolding query_leaves
with_clause_leaves nothing c = refl
with_clause_leaves (some q j) c = sym (append_assoc (query_leaves q) (conjunction j) (clause_leaves c))

put_leaves : (p : Part) (v : ValueForm) → part_leaves (put_value p v) ≡ part_leaves p ++ value_leaves v
unfolding clause_leaves body_leaves
put_leaves p v = simp (append_assoc, append-nil, with_clause_leaves)

all_more : (p q : Part) (os : List Part) (ws : List What) → part_leaves q ≡ part_leaves p ++ ws → all_leaves q os ≡ all_leaves p os ++ ws
all_more p q [] ws h = h
all_more p q (o ∷ os) ws h =
    ap (λ (xs : List What). all_leaves o os ++ (what.Opening ∷ xs)) h ∙ sym (append_assoc (all_leaves o os) (what.Opening ∷ part_leaves p) ws)

-- ---- what they say of the levels

-- whether a query has no clauses, and no conjunction behind them
abbrev PastFits : Past → Bool → Bool → Type 0
PastFits nothing empty unjoined = (empty ≡ true) × (unjoined ≡ true)
PastFits (some q j) empty unjoined = (empty ≡ false) × (unjoined ≡ is_none j)

abbrev IsPast : Past → Level → Type 0
IsPast p l = PastFits p (length l.clauses == 0) (is_none l.conj)

record Fits (p : Part) (l : Level) : Type 0 where
  clauses : IsPast p.past l
  sign : is_none p.before ≡ is_none l.sign
  target : is_none p.name ≡ is_here l

abbrev AllFit : List Part → List Level → Type 0
AllFit [] [] = Unit {0}
AllFit [] (l ∷ os) = ⊥
AllFit (p ∷ ps) [] = ⊥
AllFit (p ∷ ps) (l ∷ os) = Fits p l × AllFit ps os

-- what was read up to a state
record State (l : Level) (os : List Level) (ws : List What) : Type 0 where
  part : Part
  outside : List Part
  fits : Fits part l
  outer : AllFit outside os
  are : all_leaves part outside ≡ ws

put_fits : (p : Part) (v : ValueForm) (l : Level) (q : Query) → Fits (put_value p v) (put l q)
put_fits p v l q = record { clauses = (some_clauses l.clauses _, refl); sign = refl; target = refl }

-- another part of the same query
go_on : (l m : Level) (os : List Level) (ws vs : List What) (st : State l os ws) (p : Part) → Fits p m
    → part_leaves p ≡ part_leaves st.part ++ vs → State m os (ws ++ vs)
go_on l m os ws vs st p fits e = record {
  part = p;
  outside = st.outside;
  fits = fits;
  outer = st.outer;
  are = all_more st.part p st.outside vs e ∙ ap (λ (xs : List What). xs ++ vs) st.are;
}

value_state : (l : Level) (os : List Level) (ws : List What) → State l os ws → (v : ValueForm) (q : Query) → State (put l q) os (ws ++ value_leaves v)
value_state l os ws st v q = go_on l (put l q) os ws (value_leaves v) st (put_value st.part v) (put_fits st.part v l q) (put_leaves st.part v)

-- ---- fields and modifiers

field_more : (o : Option FieldForm) (f : FieldForm) (xs ys : List What) → is_none o ≡ true
    → xs ++ (ys ++ field (Some f)) ≡ (xs ++ (ys ++ field o)) ++ field (Some f)
field_more None f xs ys h = simp (append_assoc, append-nil)
field_more (Some g) f xs ys h = absurd (false≢true h)

field_state : (l : Level) (os : List Level) (ws : List What) → State l os ws → is_here l ≡ true → (f : FieldForm) (t : Target) → is_own t ≡ false
    → State (record l { target = t }) os (ws ++ field (Some f))
field_state l os ws st h f t own =
    go_on l (record l { target = t }) os ws (field (Some f)) st (record { past = st.part.past; before = st.part.before; name = Some f })
    (record { clauses = st.fits.clauses; sign = st.fits.sign; target = sym own })
    (field_more st.part.name f (past_leaves st.part.past) (modifier st.part.before) (st.fits.target ∙ h))

-- where neither stands
bare_more : (m : Option Modifier) (f : Option FieldForm) (xs ys zs : List What) → is_none m ≡ true → is_none f ≡ true → ys ≡ xs ++ zs
    → ys ++ (modifier m ++ field f) ≡ (xs ++ (modifier m ++ field f)) ++ zs
bare_more None None xs ys zs h k e = simp append-nil e
bare_more None (Some f) xs ys zs h k e = absurd (false≢true k)
bare_more (Some m) f xs ys zs h k e = absurd (false≢true h)

modifier_more : (o : Option Modifier) (f : Option FieldForm) (m : Modifier) (xs : List What) → is_none o ≡ true → is_none f ≡ true
    → xs ++ (modifier (Some m) ++ field f) ≡ (xs ++ (modifier o ++ field f)) ++ modifier (Some m)
modifier_more None None m xs h k = simp append-nil
modifier_more None (Some f) m xs h k = absurd (false≢true k)
modifier_more (Some n) f m xs h k = absurd (false≢true h)

modifier_state : (l : Level) (os : List Level) (ws : List What) → State l os ws → begins l ≡ true → (m : Modifier) (s : Sign)
    → State (record l { sign = Some s }) os (ws ++ modifier (Some m))
modifier_state l os ws st h m s =
    let b : (is_here l ≡ true) × (is_none l.sign ≡ true) = and_parts _ _ h in
    go_on l (record l { sign = Some s }) os ws (modifier (Some m)) st (record { past = st.part.past; before = Some m; name = st.part.name })
    (record { clauses = st.fits.clauses; sign = refl; target = st.fits.target })
    (modifier_more st.part.before st.part.name m (past_leaves st.part.past) (st.fits.sign ∙ b.1) (st.fits.target ∙ b.0))

-- ---- conjunctions

-- a clause ends where a conjunction can stand
record Ends (l : Level) : Type 0 where
  here : is_here l ≡ true
  unsigned : is_none l.sign ≡ true
  unjoined : is_none l.conj ≡ true

ends : (l : Level) → is_between l ≡ true → Ends l
ends l h =
    let a : (begins l ≡ true) × (is_none l.conj ≡ true) = and_parts _ _ h in
    let b : (is_here l ≡ true) × (is_none l.sign ≡ true) = and_parts _ _ a.0 in
    record { here = b.0; unsigned = b.1; unjoined = a.1 }

filled : (l : Level) → joins l ≡ true → (length l.clauses == 0) ≡ false
filled l h = not-true _ (and_parts (is_between l) _ h).1

module _ (l : Level) (o : Op) (j : Conjunction) where
  record Joined (p : Past) : Type 0 where
    past : Past
    clauses : IsPast past (record l { conj = Some o })
    are : past_leaves past ≡ past_leaves p ++ conjunction (Some j)

  join : (p : Past) → IsPast p l → joins l ≡ true → is_none l.conj ≡ true → Joined p
  join nothing h k n = absurd (true≢false (sym h.0 ∙ filled l k))
  join (some q None) h k n = record { past = some q (Some j); clauses = (h.0, refl); are = simp append-nil }
  join (some q (Some i)) h k n = absurd (false≢true (sym h.1 ∙ n))

conjunction_state : (l : Level) (os : List Level) (ws : List What) → State l os ws → joins l ≡ true → (j : Conjunction) (o : Op)
    → State (record l { conj = Some o }) os (ws ++ conjunction (Some j))
conjunction_state l os ws st h j o =
    let e : Ends l = ends l (and_parts _ _ h).0 in
    let n : Joined l o j st.part.past = join l o j st.part.past st.fits.clauses h e.unjoined in
    go_on l (record l { conj = Some o }) os ws (conjunction (Some j)) st (record { past = n.past; before = st.part.before; name = st.part.name })
    (record { clauses = n.clauses; sign = st.fits.sign; target = st.fits.target })
    (bare_more st.part.before st.part.name (past_leaves st.part.past) (past_leaves n.past) (conjunction (Some j))
    (st.fits.sign ∙ e.unsigned) (st.fits.target ∙ e.here) n.are)

-- ---- the end of a query

bare_leaves : (m : Option Modifier) (f : Option FieldForm) (xs : List What) → is_none m ≡ true → is_none f ≡ true → xs ++ (modifier m ++ field f) ≡ xs
bare_leaves None None xs h k = append-nil xs
bare_leaves None (Some f) xs h k = absurd (false≢true k)
bare_leaves (Some m) f xs h k = absurd (false≢true h)

bare_part : (l : Level) (p : Part) → Fits p l → Ends l → part_leaves p ≡ past_leaves p.past
bare_part l p f e = bare_leaves p.before p.name (past_leaves p.past) (f.sign ∙ e.unsigned) (f.target ∙ e.here)

past_query : (l : Level) (p : Past) → IsPast p l → joins l ≡ true → is_none l.conj ≡ true → (q : QueryForm) × (past_leaves p ≡ query_leaves q)
past_query l nothing h k n = absurd (true≢false (sym h.0 ∙ filled l k))
past_query l (some q None) h k n = (q, append-nil (query_leaves q))
past_query l (some q (Some i)) h k n = absurd (false≢true (sym h.1 ∙ n))

past_text : (l : Level) (p : Past) → IsPast p l → is_none l.conj ≡ true → (t : TextForm) × (leaves t ≡ past_leaves p ++ what.Finish ∷ [])
past_text l nothing h n = (blank, refl)
past_text l (some q None) h n = (query q, ap (λ (xs : List What). xs ++ what.Finish ∷ []) (sym (append-nil (query_leaves q))))
past_text l (some q (Some i)) h n = absurd (false≢true (sym h.1 ∙ n))

whole_query : (l : Level) (p : Part) → Fits p l → joins l ≡ true → (q : QueryForm) × (part_leaves p ≡ query_leaves q)
whole_query l p f h =
    let e : Ends l = ends l (and_parts _ _ h).0 in
    let q : (q : QueryForm) × (past_leaves p.past ≡ query_leaves q) = past_query l p.past f.clauses h e.unjoined in
    (q.0, bare_part l p f e ∙ q.1)

whole_text : (l : Level) (p : Part) → Fits p l → is_between l ≡ true → (t : TextForm) × (leaves t ≡ part_leaves p ++ what.Finish ∷ [])
whole_text l p f h =
    let e : Ends l = ends l h in
    let t : (t : TextForm) × (leaves t ≡ past_leaves p.past ++ what.Finish ∷ []) = past_text l p.past f.clauses e.unjoined in
    (t.0, t.1 ∙ ap (λ (xs : List What). xs ++ what.Finish ∷ []) (sym (bare_part l p f e)))

-- ---- parentheses

open_state : (l : Level) (os : List Level) (ws : List What) → State l os ws → State (inside l) (l ∷ os) (ws ++ what.Opening ∷ [])
open_state l os ws st = record {
  part = record { past = nothing; before = None; name = None };
  outside = st.part ∷ st.outside;
  fits = record { clauses = (refl, refl); sign = refl; target = refl };
  outer = (st.fits, st.outer);
  are = ap (λ (xs : List What). xs ++ what.Opening ∷ []) st.are;
}

close_leaves : (xs ys zs ws : List What) → zs ≡ ys → xs ++ (what.Opening ∷ zs) ≡ ws
    → xs ++ (what.Opening ∷ (ys ++ what.Closing ∷ [])) ≡ ws ++ what.Closing ∷ []
close_leaves xs ys zs ws e h =
    sym (append_assoc xs (what.Opening ∷ ys) (what.Closing ∷ []))
    ∙ ap (λ (vs : List What). vs ++ what.Closing ∷ []) (ap (λ (vs : List What). xs ++ (what.Opening ∷ vs)) (sym e) ∙ h)

close_outside : (l o : Level) (os : List Level) (ws : List What) (p : Part) (ps : List Part) → Fits p l → AllFit ps (o ∷ os) → all_leaves p ps ≡ ws
    → joins l ≡ true → (q : Query) → State (put o q) os (ws ++ what.Closing ∷ [])
unfolding value_leaves
close_outside l o os ws p [] f outer e h q = absurd outer
close_outside l o os ws p (r ∷ ps) f outer e h q =
    let w : (q : QueryForm) × (part_leaves p ≡ query_leaves q) = whole_query l p f h in
    record {
      part = put_value r (group w.0);
      outside = ps;
      fits = put_fits r (group w.0) o q;
      outer = outer.1;
      are = all_more r (put_value r (group w.0)) ps (value_leaves (group w.0)) (put_leaves r (group w.0))
          ∙ close_leaves (all_leaves r ps) (query_leaves w.0) (part_leaves p) ws w.1 e;
    }

text_from : (l : Level) (ws : List What) (p : Part) (ps : List Part) → Fits p l → AllFit ps [] → all_leaves p ps ≡ ws → is_between l ≡ true
    → AreOfForms (ws ++ what.Finish ∷ [])
text_from l ws p [] f outer e h =
    let t : (t : TextForm) × (leaves t ≡ part_leaves p ++ what.Finish ∷ []) = whole_text l p f h in
    (t.0, t.1 ∙ ap (λ (xs : List What). xs ++ what.Finish ∷ []) e)
text_from l ws p (r ∷ ps) f outer e h = absurd outer

-- ---- a lexeme

no_end : (ws : List What) (w : What) → ws ++ w ∷ [] ≡ [] → ⊥
no_end [] w h = cc
no_end (v ∷ ws) w h = cc

module _ (s : Setting) where
  step : (w : What) (l : Level) (os : List Level) (ws : List What) → State l os ws → stands l os w ≡ true → is_finish w ≡ false
      → State (after s l os w).0 (after s l os w).1 (ws ++ w ∷ [])
  unfolding after value_leaves
  step (what.Word text) l os ws st h n = value_state l os ws st (single (word text)) _
  step (what.Prefix text) l os ws st h n = value_state l os ws st (single (prefix text)) _
  step (what.Quoted text) l os ws st h n = value_state l os ws st (single (quoted text)) _
  step what.Star l os ws st h n = value_state l os ws st (single star) _
  step (what.Range low from to high) l os ws st h n = value_state l os ws st (single (range low from to high)) _
  step (what.Name text colon) l os ws st h n = field_state l os ws st h (name text colon) _ refl
  step (what.Any colon other) l os ws st h n = field_state l os ws st h (any colon other) _ refl
  step (what.Operator operator.And behind) l os ws st h n = conjunction_state l os ws st h (both behind) _
  step (what.Operator operator.Or behind) l os ws st h n = conjunction_state l os ws st h (either behind) _
  step (what.Operator operator.Not behind) l os ws st h n = modifier_state l os ws st h (negation behind) _
  step (what.Sign prohibits) l os ws st h n = modifier_state l os ws st h (sign prohibits) _
  step what.Opening l os ws st h n = open_state l os ws st
  step what.Closing l [] ws st h n = absurd (false≢true h)
  step what.Closing l (o ∷ os) ws st h n = close_outside l o os ws st.part st.outside st.fits st.outer st.are (and_parts _ (joins l) h).1 _
  step what.Finish l os ws st h n = absurd (true≢false n)
  step (what.Begun from to) l os ws st h n = absurd (false≢true h)
  step what.Half l os ws st h n = absurd (false≢true h)
  step what.Flaw l os ws st h n = absurd (false≢true h)

  last : (l : Level) (os : List Level) (ws : List What) → State l os ws → stands l os what.Finish ≡ true → AreOfForms (ws ++ what.Finish ∷ [])
  last l [] ws st h = text_from l ws st.part st.outside st.fits st.outer st.are h
  last l (o ∷ os) ws st h = absurd (false≢true (sym (not_empty (length os)) ∙ (and_parts _ (is_between l) h).0))

  forms_from : (rest ws : List What) (l : Level) (os : List Level) → State l os ws → AllStand s l os (rest ++ what.Finish ∷ [])
      → AreOfForms (ws ++ (rest ++ what.Finish ∷ []))
  forms_from [] ws l os st h = last l os ws st h.0
  forms_from (w ∷ rest) ws l os st h =
      let n : is_finish w ≡ false = false_from_ne_true (is_finish w) (λ e. no_end rest what.Finish (h.1 e)) in
      subst AreOfForms (append_assoc ws (w ∷ []) (rest ++ what.Finish ∷ []))
      (forms_from rest (ws ++ w ∷ []) (after s l os w).0 (after s l os w).1 (step w l os ws st h.0 n) h.2)

  pub stand_forms : (df : Option ℕ) (ws : List What) → AllStand s (top df) [] (ws ++ what.Finish ∷ []) → AreOfForms (ws ++ what.Finish ∷ [])
  stand_forms df ws h =
      forms_from ws [] (top df) []
      (record {
        part = record { past = nothing; before = None; name = None };
        outside = [];
        fits = record { clauses = (refl, refl); sign = refl; target = refl };
        outer = tt;
        are = refl;
      }) h
