-- Each query that a text reads to is readable.
use Rattle.std.proofs.Common.{◌≡◌, ◌<◌, ◌≤◌, ◌∷◌, [], ℕ, zero, suc, List, Bool, true, false, not, Option, None, Some, Result, Ok, Err, length, map, refl, ap, sym, subst, ◌∙◌, arith, ⊎_elim, inl, inr, ◌⊎◌}
use Rattle.std.specs.Prelude.{◌||◌, ◌&&◌, ◌==◌, nat_le, nat_lt, if◌then◌else◌, is_none, is_some, unwrap_or, option_map}
use Rattle.std.specs.Option.{option_map_or}
use Rattle.std.specs.Result.{result_ok}
use Rattle.std.specs.Str.{IsUtf8, str_to_ascii_lowercase}
use Rattle.std.proofs.lemmas.Bool.{and_parts, or_parts, true≢false, false≢true, leb-false, ltb-true, ltb-false, not-true, not-false}
use Rattle.field_schema.specs.declared.field.Field.{Field}
use Rattle.field_schema.specs.declared.field.FieldType.{FieldType}
use Rattle.field_schema.specs.declared.field.FieldType.TheVariants as kind
use Rattle.field_schema.specs.Tokens.{is_filled, tokens}
use Rattle.query_tree.specs.declared.query.End.TheVariants as end
use Rattle.query_tree.specs.declared.query.Query.{Query}
use Rattle.query_tree.specs.declared.query.Query.TheVariants as query
use Rattle.query_lexemes.specs.declared.fault.QueryFault.{QueryFault}
use Rattle.query_lexemes.specs.declared.lexeme.Lexeme.{Lexeme}
use Rattle.query_lexemes.specs.declared.lexeme.What.{What}
use Rattle.query_lexemes.specs.declared.lexeme.What.TheVariants as what
use Rattle.query_lexemes.specs.declared.lexeme.Operator.TheVariants as operator
use Rattle.query_lexemes.specs.declared.lexeme.Bound.{Bound}
use Rattle.query_text.specs.declared.op.Op.{Op}
use Rattle.query_text.specs.declared.op.Op.TheVariants as op
use Rattle.query_text.specs.declared.level.Clause.{Clause}
use Rattle.query_text.specs.declared.level.Level.{Level}
use Rattle.query_text.specs.declared.level.Sign.{Sign}
use Rattle.query_text.specs.declared.level.Target.{Target}
use Rattle.query_text.specs.declared.level.Target.TheVariants.{Here, Every, To}
use Rattle.query_text.specs.Clauses.{joined}
use Rattle.query_text.specs.Levels.{field_for, target_field, begins, joins, is_between, put}
use Rattle.query_text.specs.Readings.{indexed, kind_at, key_of, is_text, term, each_word, word, prefix, end_of, range, star, star_field, value_text, words_in, kind_for, words_of, value_in}
use Rattle.query_text.specs.Faults.{earlier, counts_before, least, fault_if, told, told_with, syntax, is_long, is_no_number, bad_number, bad_bound, is_whole, unsupported, most_deep, is_opening, is_several, too_deep, begins_clause, too_many}
use Rattle.query_text.specs.Reads.{Setting, value, after, opened, closed, is_finish, read_from}
use Rattle.query_text.specs.PrintLaws.{IsNamed}
use Rattle.query_text.specs.Readable.{IsEnd, IsLeaf, every, exists, term as a_term, words as some_words, prefix as a_prefix, range as a_range, AreReadable, no_more, one_more, group, IsReadable}
use Rattle.query_text.proofs.Steps.{IsUntold}
use Rattle.query_text.proofs.Tops.{text_kind}
use Rattle.query_text.proofs.Keys.{is_key, lower_text, lower_twice, IsGood}
use Rattle.query_text.proofs.TokenTexts.{AreTexts, tokens_texts, AreTokens, tokens_tokens, spaced_tokens, spaced_text}
use Rattle.query_lexemes.proofs.LexemeTexts.{IfText, IsFit, NextWrong, Follows, AllFit}
use Rattle.query_text.proofs.Held.{several_from, IsPart, joined_part, joined_whole, IsStart, NamedIf, IsTarget, Held, Outer, outer_depth, put_held}

-- ---- a lexeme without a fault

not_some : (b : Bool) (f g : QueryFault) → (if b then Some g else Some f) ≡ None → ⊥
not_some true f g h = true≢false (sym (ap is_none h))
not_some false f g h = true≢false (sym (ap is_none h))

earlier_none : (f g : Option QueryFault) → earlier f g ≡ None → (f ≡ None) × (g ≡ None)
earlier_none None g h = (refl, h)
earlier_none (Some f) None h = absurd (true≢false (sym (ap is_none h)))
earlier_none (Some f) (Some g) h = absurd (not_some (counts_before g f) f g h)

not_if : (b : Bool) (f : QueryFault) → fault_if b f ≡ None → b ≡ false
not_if true f h = absurd (true≢false (sym (ap is_none h)))
not_if false f h = refl

least_none : (f : Option QueryFault) (fs : List (Option QueryFault)) → least (f ∷ fs) ≡ None → (f ≡ None) × (least fs ≡ None)
unfolding least
least_none f fs h = earlier_none f (least fs) h

pub untold_from : (fields : List Field) (most : ℕ) (l : Level) (os : List Level) (x : Lexeme) → least (told fields most l os x) ≡ None
    → (x.wrong ≡ None) × IsUntold fields most l os x.at x.what
unfolding told_with
untold_from fields most l os x h =
    let a = least_none _ _ h in
    let b = least_none _ _ a.1 in
    let c = least_none _ _ b.1 in
    let d = least_none _ _ c.1 in
    let e = least_none _ _ d.1 in
    let f = least_none _ _ e.1 in
    let g = least_none _ _ f.1 in
    let i = least_none _ _ g.1 in
    let j = least_none _ _ i.1 in
    (a.0, record { syntax = b.0; field = c.0; number = d.0; from = e.0; to = f.0; prefix = g.0; deep = i.0; many = j.0 })

-- ---- values

words_are : (k : FieldType) (text : List ℕ) → is_text k ≡ true → words_in (Some k) (Some text) ≡ tokens text
words_are k text h = rw (text_kind k h) refl

-- only a field of tokens has several
several_text : (k : FieldType) (text : List ℕ) → nat_lt 1 (length (words_in (Some k) (Some text))) ≡ true → is_text k ≡ true
several_text kind.Str text h = absurd (false≢true h)
several_text kind.Long text h = absurd (false≢true h)
several_text kind.Bool text h = absurd (false≢true h)
several_text kind.Text text h = refl

lower_filled : (text : List ℕ) → is_filled text ≡ true → is_filled (str_to_ascii_lowercase text) ≡ true
lower_filled [] h = absurd (false≢true h)
lower_filled (c ∷ text) h = refl

module _ (fields : List Field) (most f : ℕ) (named : IsNamed fields f) where
  leaf : (d : ℕ) (q : Query) → IsLeaf fields q → IsPart fields most d q
  leaf d q h = one_more q [] h no_more

  abbrev tokens_of : List ℕ → List (List ℕ)
  tokens_of text = words_in (Some (kind_at fields f)) (Some text)

  words_leaf : (text : List ℕ) → IsUtf8 text → is_text (kind_at fields f) ≡ true → (ws : List (List ℕ)) → ws ≡ tokens text → IsLeaf fields (query.Words f ws)
  words_leaf text u k ws e =
      subst (λ (us : List (List ℕ)). IsLeaf fields (query.Words f us)) (sym e)
      (some_words f (tokens text) named k (spaced_text (tokens text) (tokens_texts text u)) (spaced_tokens (tokens text) (tokens_tokens text)))

  term_leaf : (text : List ℕ) → IsUtf8 text → IsGood (kind_at fields f) text → (ws : List (List ℕ)) → ws ≡ tokens_of text → (b : Bool) → is_text (kind_at fields f) ≡ b
      → IsLeaf fields (if b then query.Words f ws else query.Term f (key_of (kind_at fields f) text))
  term_leaf text u good ws e true k = words_leaf text u k ws (e ∙ words_are (kind_at fields f) text k)
  term_leaf text u good ws e false k = a_term f (key_of (kind_at fields f) text) named k (is_key fields f text u good)

  -- a quoted text, or a word of one token at most
  term_part : (d : ℕ) (text : List ℕ) → IsUtf8 text → IsGood (kind_at fields f) text → (ws : List (List ℕ)) → ws ≡ tokens_of text
      → IsPart fields most d (term (kind_at fields f) f text ws)
  term_part d text u good ws e = leaf d _ (term_leaf text u good ws e (is_text (kind_at fields f)) refl)

  abbrev each : List (List ℕ) → List Query
  each ws = map (λ w. query.Words f (w ∷ [])) ws

  each_held : (d : ℕ) (ws : List (List ℕ)) → is_text (kind_at fields f) ≡ true → AreTexts ws → AreTokens ws → AreReadable fields most d (each ws)
  each_held d [] k h t = no_more
  each_held d (w ∷ ws) k h t =
      one_more (query.Words f (w ∷ [])) (each ws)
      (some_words f (w ∷ []) named k (spaced_text (w ∷ []) (h.0, tt)) (spaced_tokens (w ∷ []) (t.0, tt))) (each_held d ws k h.1 t.1)

  length-each : (ws : List (List ℕ)) → length (each ws) ≡ length ws
  length-each [] = refl
  length-each (w ∷ ws) = let e = length-each ws in omega arith

  -- a word of several tokens
  several_part : (o : Op) (d : ℕ) (ws : List (List ℕ)) → is_text (kind_at fields f) ≡ true → AreTexts ws → AreTokens ws → 2 ≤ length ws → length ws ≤ most → 1 ≤ d
      → IsPart fields most d (each_word o f ws)
  several_part o zero ws k h t several room deep = absurd (omega arith)
  several_part op.Or (suc d) ws k h t several room deep =
      group [] (each ws) [] [] no_more (each_held d ws k h t) no_more (several_from [] (each ws) [] (omega (arith, length-each ws))) (omega (arith, length-each ws)) no_more
  several_part op.And (suc d) ws k h t several room deep =
      group (each ws) [] [] [] (each_held d ws k h t) no_more no_more (several_from (each ws) [] [] (omega (arith, length-each ws))) (omega (arith, length-each ws)) no_more

  word_by : (o : Op) (d : ℕ) (text : List ℕ) → IsUtf8 text → IsGood (kind_at fields f) text → (ws : List (List ℕ)) → ws ≡ tokens_of text
      → (nat_lt 1 (length ws) ≡ true → (1 ≤ d) × (length ws ≤ most)) → (b : Bool) → nat_lt 1 (length ws) ≡ b
      → IsPart fields most d (if b then each_word o f ws else term (kind_at fields f) f text ws)
  word_by o d text u good ws e room false k = term_part d text u good ws e
  word_by o d text u good ws e room true k =
      let r : (1 ≤ d) × (length ws ≤ most) = room k in
      let t : is_text (kind_at fields f) ≡ true = several_text (kind_at fields f) text (subst (λ (us : List (List ℕ)). nat_lt 1 (length us) ≡ true) e k) in
      let same : ws ≡ tokens text = e ∙ words_are (kind_at fields f) text t in
      several_part o d ws t (subst AreTexts (sym same) (tokens_texts text u)) (subst AreTokens (sym same) (tokens_tokens text)) (ltb-true 1 (length ws) k) r.1 r.0

  word_part : (o : Op) (d : ℕ) (text : List ℕ) → IsUtf8 text → IsGood (kind_at fields f) text → (ws : List (List ℕ)) → ws ≡ tokens_of text
      → (nat_lt 1 (length ws) ≡ true → (1 ≤ d) × (length ws ≤ most)) → IsPart fields most d (word o (kind_at fields f) f text ws)
  word_part o d text u good ws e room = word_by o d text u good ws e room (nat_lt 1 (length ws)) refl

  abbrev lowered : Bool → List ℕ → List ℕ
  lowered b text = if b then str_to_ascii_lowercase text else text

  lowered_utf8 : (b : Bool) (text : List ℕ) → IsUtf8 text → IsUtf8 (lowered b text)
  lowered_utf8 true text u = lower_text text u
  lowered_utf8 false text u = u

  lowered_filled : (b : Bool) (text : List ℕ) → is_filled text ≡ true → is_filled (lowered b text) ≡ true
  lowered_filled true text h = lower_filled text h
  lowered_filled false text h = h

  lowered_twice : (b : Bool) (text : List ℕ) → lowered b (lowered b text) ≡ lowered b text
  lowered_twice true text = lower_twice text
  lowered_twice false text = refl

  prefix_part : (d : ℕ) (text : List ℕ) → IsUtf8 text → is_filled text ≡ true → is_whole (Some (kind_at fields f)) ≡ false → IsPart fields most d (prefix (kind_at fields f) f text)
  prefix_part d text u h k =
      let b : Bool = is_text (kind_at fields f) in
      leaf d _ (a_prefix f (lowered (is_text (kind_at fields f)) text) named
      (record { utf8 = lowered_utf8 (is_text (kind_at fields f)) text u; some = lowered_filled (is_text (kind_at fields f)) text h; kind = k; lower = lowered_twice (is_text (kind_at fields f)) text }))

  abbrev IsGoodEnd : Option (List ℕ) → Type 0
  IsGoodEnd o = (is_long (Some (kind_at fields f)) && is_no_number o) ≡ false

  end_good : (inclusive : Bool) (o : Option (List ℕ)) → IfText o → IsGoodEnd o → IsEnd fields f (end_of (kind_at fields f) inclusive o)
  end_good inclusive None u good = tt
  end_good inclusive (Some text) u good = is_key fields f text u good

  range_leaf : (low high : Bool) (a b : Option (List ℕ)) → IfText a → IfText b → IsGoodEnd a → IsGoodEnd b → IsLeaf fields (range (kind_at fields f) f low a b high)
  range_leaf low high None None u v g h = exists f named
  range_leaf low high (Some a) b u v g h =
      a_range f (end_of (kind_at fields f) low (Some a)) (end_of (kind_at fields f) high b) named (end_good low (Some a) u g) (end_good high b v h) refl
  range_leaf low high None (Some b) u v g h = a_range f end.Open (end_of (kind_at fields f) high (Some b)) named tt (end_good high (Some b) v h) refl

-- ---- what a lexeme leads to

-- a conjunction stands behind a clause
abbrev JoinsIf : What → Level → Type 0
JoinsIf (what.Operator operator.And behind) l = joins l ≡ true
JoinsIf (what.Operator operator.Or behind) l = joins l ≡ true
JoinsIf w l = Unit {0}

not_both : (a b : Bool) → (a && b) ≡ false → b ≡ true → a ≡ false
not_both true b h k = absurd (true≢false (sym k ∙ h))
not_both false b h k = refl

fits_if : (b : Bool) (f : QueryFault) → (if b then None else Some f) ≡ None → b ≡ true
fits_if true f h = refl
fits_if false f h = absurd (true≢false (sym (ap is_none h)))

-- levels that are held, at some depth
record State (fields : List Field) (most : ℕ) (p : Level × List Level) : Type 0 where
  d : ℕ
  held : Held fields most d p.0
  outer : Outer fields most d p.1

module _ (s : Setting) (most : ℕ) (names : (text : List ℕ) (f : ℕ) → indexed text s.fields ≡ Some f → IsNamed s.fields f) where
  indexed_if : (text : List ℕ) (o : Option ℕ) → indexed text s.fields ≡ o → NamedIf s.fields most o
  indexed_if text None e = tt
  indexed_if text (Some f) e = names text f e

  module _ (d : ℕ) (l : Level) (os : List Level) (h : Held s.fields most d l) (out : Outer s.fields most d os) where
    target_named : (t : Target) → IsTarget s.fields most t → NamedIf s.fields most (target_field l.field t)
    target_named Here k = h.field
    target_named Every k = tt
    target_named (To o) k = k

    field_named : NamedIf s.fields most (field_for l)
    field_named = target_named l.target h.target

    value_at : (w : What) (o : Option ℕ) → field_for l ≡ o → NamedIf s.fields most o
        → ((f : ℕ) → field_for l ≡ Some f → IsNamed s.fields f → IsPart s.fields most d (value_in s.op (kind_at s.fields f) f w (words_of s.fields l w)))
        → IsPart s.fields most d (option_map_or (λ f. value_in s.op (kind_at s.fields f) f w (words_of s.fields l w)) o query.All)
    value_at w None e n k = one_more query.All [] every no_more
    value_at w (Some f) e n k = k f e n

    value_part : (w : What) → ((f : ℕ) → field_for l ≡ Some f → IsNamed s.fields f → IsPart s.fields most d (value_in s.op (kind_at s.fields f) f w (words_of s.fields l w)))
        → IsPart s.fields most d (value s l w)
    unfolding value
    value_part w k = value_at w (field_for l) refl field_named k

    kind_is : (f : ℕ) → field_for l ≡ Some f → kind_for s.fields l ≡ Some (kind_at s.fields f)
    kind_is f e = ap (option_map (kind_at s.fields)) e

    -- ---- room for one more clause

    room_by : (b : Bool) → begins l ≡ b → (b && nat_le most (length l.clauses)) ≡ false → length l.clauses < most
    room_by true e k = leb-false most (length l.clauses) k
    room_by false e k = h.begun e

    room_from : (at : ℕ) (w : What) → begins_clause w ≡ true → too_many most l at w (words_of s.fields l w) ≡ None → length l.clauses < most
    unfolding too_many
    room_from at w b k =
        let p = or_parts (begins_clause w && (begins l && nat_le most (length l.clauses))) (is_several l w (words_of s.fields l w) && nat_lt most (length (words_of s.fields l w))) (not_if _ _ k) in
        room_by (begins l) refl (rw b at p.0)

    shallow : (at : ℕ) (w : What) → (is_opening w || is_several l w (words_of s.fields l w)) ≡ true → too_deep l os at w (words_of s.fields l w) ≡ None → 1 ≤ d
    unfolding too_deep
    shallow at w b k =
        let p : nat_le most_deep (length os) ≡ false = not_both _ _ (not_if _ _ k) b in
        omega (arith, leb-false most_deep (length os) p, outer_depth s.fields most d os out)

    few : (at : ℕ) (w : What) → is_several l w (words_of s.fields l w) ≡ true → too_many most l at w (words_of s.fields l w) ≡ None → length (words_of s.fields l w) ≤ most
    unfolding too_many
    few at w b k =
        let p = or_parts (begins_clause w && (begins l && nat_le most (length l.clauses))) (is_several l w (words_of s.fields l w) && nat_lt most (length (words_of s.fields l w))) (not_if _ _ k) in
        ltb-false most (length (words_of s.fields l w)) (rw b at p.1)

    good : (at f : ℕ) (w : What) → field_for l ≡ Some f → bad_number (kind_for s.fields l) l at w ≡ None → (is_long (Some (kind_at s.fields f)) && is_no_number (value_text l w)) ≡ false
    unfolding bad_number
    good at f w e k = subst (λ (t : Option FieldType). (is_long t && is_no_number (value_text l w)) ≡ false) (kind_is f e) (not_if _ _ k)

    good_bound : (f : ℕ) (b : Bound) → field_for l ≡ Some f → bad_bound (kind_for s.fields l) (Some b) ≡ None → (is_long (Some (kind_at s.fields f)) && is_no_number b.text) ≡ false
    unfolding bad_bound
    good_bound f b e k = subst (λ (t : Option FieldType). (is_long t && is_no_number b.text) ≡ false) (kind_is f e) (not_if _ _ k)

    same_words : (f : ℕ) (text : List ℕ) → field_for l ≡ Some f → words_in (kind_for s.fields l) (Some text) ≡ words_in (Some (kind_at s.fields f)) (Some text)
    same_words f text e = ap (λ (t : Option FieldType). words_in t (Some text)) (kind_is f e)

    -- ---- levels

    here : (k : Level) → Held s.fields most d k → State s.fields most (k, os)
    here k x = record { d = d; held = x; outer = out }

    with_value : (q : Query) → length l.clauses < most → IsPart s.fields most d q → State s.fields most (put l q, os)
    with_value q room part = here (put l q) (put_held s.fields most d l q h room part)

    with_target : (t : Target) → length l.clauses < most → IsTarget s.fields most t → State s.fields most (record l { target = t }, os)
    with_target t room k =
        here (record l { target = t })
        (record { field = h.field; target = k; clauses = h.clauses; first = h.first; start = h.start; room = h.room; begun = λ e. room })

    with_sign : (g : Sign) → length l.clauses < most → State s.fields most (record l { sign = Some g }, os)
    with_sign g room =
        here (record l { sign = Some g })
        (record { field = h.field; target = h.target; clauses = h.clauses; first = h.first; start = h.start; room = h.room; begun = λ e. room })

    starts : (cs : List Clause) (c : Option Op) → not (length cs == 0) ≡ true → IsStart cs c
    starts [] c k = absurd (false≢true k)
    starts (b ∷ cs) c k = tt

    with_conj : (c : Op) → joins l ≡ true → State s.fields most (record l { conj = Some c }, os)
    with_conj c k =
        let p = and_parts (is_between l) (not (length l.clauses == 0)) k in
        here (record l { conj = Some c })
        (record { field = h.field; target = h.target; clauses = h.clauses; first = h.first; start = starts l.clauses (Some c) p.1; room = h.room; begun = h.begun })

    -- behind `(`
    open_by : (e : ℕ) → d ≡ suc e → length l.clauses < most → State s.fields most (opened l os)
    open_by e k room = record {
      d = e;
      held = record { field = field_named; target = tt; clauses = tt; first = refl; start = refl; room = omega arith; begun = λ b. absurd (true≢false b) };
      outer = (subst (λ (n : ℕ). Held s.fields most n l) k h, (room, subst (λ (n : ℕ). Outer s.fields most n os) k out));
    }

    open_if : (e : ℕ) → d ≡ e → 1 ≤ e → length l.clauses < most → State s.fields most (opened l os)
    open_if zero k deep room = absurd (omega arith)
    open_if (suc e) k deep room = open_by e k room

  -- behind `)`
  close_state : (d : ℕ) (l : Level) (os : List Level) → Held s.fields most d l → Outer s.fields most d os → (length os == 0 || not (joins l)) ≡ false
      → State s.fields most (closed s.op l os)
  close_state d l [] h out k = record { d = d; held = h; outer = out }
  close_state d l (outside ∷ os) h out k =
      let j : joins l ≡ true = not-false (joins l) (or_parts (length (outside ∷ os) == 0) (not (joins l)) k).1 in
      let p = and_parts (is_between l) (not (length l.clauses == 0)) j in
      let part : IsPart s.fields most (suc d) (joined s.op l.clauses) =
      joined_part s.fields most s.op d l.clauses h.clauses h.first (not-true (length l.clauses == 0) p.1) h.room in
      record { d = suc d; held = put_held s.fields most (suc d) outside (joined s.op l.clauses) out.0 out.1.0 part; outer = out.1.1 }

  star_named : (named : Bool) (field : Option ℕ) (t : Target) → NamedIf s.fields most field → IsTarget s.fields most t → NamedIf s.fields most (star_field field named t)
  star_named true field Here h k = h
  star_named false field Here h k = tt
  star_named named field Every h k = tt
  star_named named field (To o) h k = k

  star_leaf : (o : Option ℕ) → NamedIf s.fields most o → IsLeaf s.fields (option_map_or query.Exists o query.All)
  star_leaf None n = every
  star_leaf (Some f) n = exists f n

  module _ (d : ℕ) (l : Level) (os : List Level) (h : Held s.fields most d l) (out : Outer s.fields most d os) (at : ℕ) where
    word_state : (text : List ℕ) → IsUtf8 text → IsUntold s.fields most l os at (what.Word text) → State s.fields most (after s l os (what.Word text))
    unfolding after value_in
    word_state text u t =
        with_value d l os h out (value s l (what.Word text)) (room_from d l os h out at (what.Word text) refl t.many)
        (value_part d l os h out (what.Word text)
        (λ f e n. word_part s.fields most f n s.op d text u (good d l os h out at f (what.Word text) e t.number) (words_of s.fields l (what.Word text))
        (same_words d l os h out f text e)
        (λ several. (shallow d l os h out at (what.Word text) several t.deep, few d l os h out at (what.Word text) several t.many))))

    quoted_state : (text : List ℕ) → IsUtf8 text → IsUntold s.fields most l os at (what.Quoted text) → State s.fields most (after s l os (what.Quoted text))
    unfolding after value_in
    quoted_state text u t =
        with_value d l os h out (value s l (what.Quoted text)) (room_from d l os h out at (what.Quoted text) refl t.many)
        (value_part d l os h out (what.Quoted text)
        (λ f e n. term_part s.fields most f n d text u (good d l os h out at f (what.Quoted text) e t.number) (words_of s.fields l (what.Quoted text))
        (same_words d l os h out f text e)))

    prefix_state : (text : List ℕ) → IsUtf8 text → is_filled text ≡ true → IsUntold s.fields most l os at (what.Prefix text) → State s.fields most (after s l os (what.Prefix text))
    unfolding after value_in unsupported
    prefix_state text u some t =
        with_value d l os h out (value s l (what.Prefix text)) (room_from d l os h out at (what.Prefix text) refl t.many)
        (value_part d l os h out (what.Prefix text)
        (λ f e n. prefix_part s.fields most f n d text u some (subst (λ (k : Option FieldType). is_whole k ≡ false) (kind_is d l os h out f e) (not_if _ _ t.prefix))))

    range_state : (low high : Bool) (from to : Bound) → IfText from.text → IfText to.text → IsUntold s.fields most l os at (what.Range low from to high)
        → State s.fields most (after s l os (what.Range low from to high))
    unfolding after value_in
    range_state low high from to u v t =
        with_value d l os h out (value s l (what.Range low from to high)) (room_from d l os h out at (what.Range low from to high) refl t.many)
        (value_part d l os h out (what.Range low from to high)
        (λ f e n. leaf s.fields most f n d (range (kind_at s.fields f) f low from.text to.text high)
        (range_leaf s.fields most f n low high from.text to.text u v (good_bound d l os h out f from e t.from) (good_bound d l os h out f to e t.to))))

    step : (w : What) → IsFit w → IsUntold s.fields most l os at w → JoinsIf w l → State s.fields most (after s l os w)
    unfolding after syntax
    step (what.Word text) u t j = word_state text u t
    step (what.Prefix text) u t j = prefix_state text u.0 u.1 t
    step (what.Quoted text) u t j = quoted_state text u t
    step what.Star u t j =
        with_value d l os h out (star l) (room_from d l os h out at what.Star refl t.many)
        (one_more (star l) [] (star_leaf (star_field l.field l.named l.target) (star_named l.named l.field l.target h.field h.target)) no_more)
    step (what.Range low from to high) u t j = range_state low high from to u.0 u.1 t
    step (what.Name text colon) u t j =
        with_target d l os h out (To (indexed text s.fields)) (room_from d l os h out at (what.Name text colon) refl t.many) (indexed_if text (indexed text s.fields) refl)
    step (what.Any colon other) u t j = with_target d l os h out Every (room_from d l os h out at (what.Any colon other) refl t.many) tt
    step (what.Operator operator.And behind) u t j = with_conj d l os h out op.And j
    step (what.Operator operator.Or behind) u t j = with_conj d l os h out op.Or j
    step (what.Operator operator.Not behind) u t j = with_sign d l os h out _ (room_from d l os h out at (what.Operator operator.Not behind) refl t.many)
    step (what.Sign prohibits) u t j = with_sign d l os h out _ (room_from d l os h out at (what.Sign prohibits) refl t.many)
    step what.Opening u t j = open_if d l os h out d refl (shallow d l os h out at what.Opening refl t.deep) (room_from d l os h out at what.Opening refl t.many)
    step what.Closing u t j = close_state d l os h out (not_if _ _ t.syntax)
    step w u t j = record { d = d; held = h; outer = out }

    -- a conjunction stands behind a clause, or the next lexeme is wrong
    decide : (w : What) (xs : List Lexeme) → Follows w xs → syntax l os at w ≡ None → JoinsIf w l ⊎ (NextWrong xs × ((after s l os w).0.clauses ≡ l.clauses))
    unfolding after syntax
    decide (what.Operator operator.And None) xs f e = inr (f, refl)
    decide (what.Operator operator.And (Some p)) xs f e = inl (fits_if _ _ e)
    decide (what.Operator operator.Or None) xs f e = inr (f, refl)
    decide (what.Operator operator.Or (Some p)) xs f e = inl (fits_if _ _ e)
    decide w xs f e = inl tt

  -- ---- a whole text

  ok_same : (a q : Query) → ◌≡◌ {A = Result Query QueryFault} (Ok a) (Ok q) → a ≡ q
  ok_same a q h = ap (λ (r : Result Query QueryFault). unwrap_or (result_ok r) a) h

  turn : (o : Option QueryFault) (r : Result Query QueryFault) (q : Query) → option_map_or Err o r ≡ Ok q → (o ≡ None) × (r ≡ Ok q)
  turn None r q h = (refl, h)
  turn (Some f) r q h = absurd (true≢false (ap (λ (r : Result Query QueryFault). is_none (result_ok r)) h))

  wrong_stops : (l : Level) (os : List Level) (xs : List Lexeme) (q : Query) → NextWrong xs → read_from s most l os xs ≡ Ok q → joined s.op l.clauses ≡ q
  unfolding read_from
  wrong_stops l os [] q n h = ok_same (joined s.op l.clauses) q h
  wrong_stops l os (x ∷ xs) q n h =
      let t = turn (least (told s.fields most l os x)) _ q h in
      let u = untold_from s.fields most l os x t.0 in
      absurd (true≢false (sym n ∙ ap is_some u.0))

  held_whole : (d : ℕ) (l : Level) (os : List Level) (q : Query) → Held s.fields most d l → Outer s.fields most d os → joined s.op l.clauses ≡ q → IsReadable s.fields most q
  held_whole d l os q h out e =
      subst (IsReadable s.fields most) e (joined_whole s.fields most s.op d l.clauses (omega (arith, outer_depth s.fields most d os out)) h.clauses h.first h.room)

  finish_or : (b : Bool) (l : Level) (rest : Result Query QueryFault) (q : Query) → (joined s.op l.clauses ≡ q → IsReadable s.fields most q)
      → (rest ≡ Ok q → IsReadable s.fields most q) → (if b then Ok (joined s.op l.clauses) else rest) ≡ Ok q → IsReadable s.fields most q
  finish_or true l rest q k m h = k (ok_same (joined s.op l.clauses) q h)
  finish_or false l rest q k m h = m h

  pub reads_readable : (xs : List Lexeme) (d : ℕ) (l : Level) (os : List Level) (q : Query) → AllFit xs → Held s.fields most d l → Outer s.fields most d os
      → read_from s most l os xs ≡ Ok q → IsReadable s.fields most q
  unfolding read_from
  reads_readable [] d l os q fit h out e = held_whole d l os q h out (ok_same (joined s.op l.clauses) q e)
  reads_readable (x ∷ xs) d l os q fit h out e =
      let t = turn (least (told s.fields most l os x)) _ q e in
      let u = untold_from s.fields most l os x t.0 in
      finish_or (is_finish x.what) l (read_from s most (after s l os x.what).0 (after s l os x.what).1 xs) q (λ k. held_whole d l os q h out k)
      (λ k. ⊎_elim
      (λ j. let n : State s.fields most (after s l os x.what) = step d l os h out x.at x.what fit.0 u.1 j in
      reads_readable xs n.d (after s l os x.what).0 (after s l os x.what).1 q fit.1.1 n.held n.outer k)
      (λ w. held_whole d l os q h out (ap (joined s.op) (sym w.1) ∙ wrong_stops (after s l os x.what).0 (after s l os x.what).1 xs q w.0 k))
      (decide d l os h out x.at x.what xs fit.1.0 u.1.syntax)) t.1
