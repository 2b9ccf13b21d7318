-- The lexemes of a tree tell no other fault exactly where the tree is right.
use Rattle.std.proofs.Common.{◌≡◌, ◌<◌, ◌≤◌, ◌++◌, ◌∷◌, [], ℕ, suc, List, Bool, true, false, not, Option, None, Some, Result, Ok, length, refl, ap, sym, ◌∙◌, ⊎_elim, arith, length-append, subst}
use Rattle.std.specs.Prelude.{◌&&◌, ◌||◌, nat_lt, nat_le, is_none, is_some, option_map}
use Rattle.std.specs.List.{AllByRecursion}
use Rattle.std.specs.Result.{IsOk}
use Rattle.std.proofs.lemmas.Bool.{and_parts, and_from, and_right, not-true, cases_lt, lt-ltb, le-ltb, lt-leb, le-leb, true≢false}
use Rattle.std.proofs.Math.Bool.{and_assoc, and-true}
use Rattle.field_schema.specs.declared.field.Field.{Field}
use Rattle.field_schema.specs.declared.field.FieldType.{FieldType}
use Rattle.query_tree.specs.declared.query.Query.{Query}
use Rattle.query_lexemes.specs.declared.fault.QueryFault.{QueryFault}
use Rattle.query_lexemes.specs.declared.letter.Letter.{Letter}
use Rattle.query_lexemes.specs.declared.lexeme.Lexeme.{Lexeme}
use Rattle.query_lexemes.specs.declared.lexeme.What.{What}
use Rattle.query_lexemes.specs.declared.lexeme.What.TheVariants as what
use Rattle.query_lexemes.specs.declared.lexeme.Bound.{Bound}
use Rattle.query_text.specs.declared.op.Op.{Op}
use Rattle.query_text.specs.declared.reader.Parsed.{Parsed}
use Rattle.query_text.specs.Clauses.{joined}
use Rattle.query_text.specs.Levels.{field_for, is_explicit, begins, top, inside}
use Rattle.query_text.specs.Readings.{indexed, kind_at, kind_for, value_text, words_in, words_of}
use Rattle.query_text.specs.Faults.{fault_if, needs_field, is_unknown, unknown_field, is_long, is_no_number, bad_number, from_of, to_of, bad_bound, is_whole, is_prefix, unsupported, most_deep, is_opening, is_several, too_deep, begins_clause, too_many}
use Rattle.query_text.specs.Reads.{Setting, after}
use Rattle.query_grammar.specs.Forms.{Conjunction, both, either, sign, negation, FieldForm, name, any, Single, word, prefix, quoted, star, range, QueryForm, first, next, ClauseForm, clause, BodyForm, body, ValueForm, single, group, TextForm, blank, query, conjunction, modifier, field, lexeme, query_leaves, clause_leaves, body_leaves, value_leaves, leaves}
use Rattle.query_grammar.specs.Fitting.{Level, behind_all}
use Rattle.query_grammar.specs.Texts.{lexemes_of, whats, IsRight, AllRight, AreOfQuery, LettersMean, IsOfQuery}
use Rattle.query_grammar.specs.Meaning.{Place, conjunction_op, Sign, modifier_sign, Clause, query_clauses, meaning}
use Rattle.query_grammar.specs.Right.{field_right, fits, single_right, clause_count, clauses_right, clause_right, body_right, value_right, text_right}
use Rattle.query_grammar.specs.Laws.{LettersReadTo, TextsReadTo}
use Rattle.query_grammar.proofs.Following.{AllFollow, follow_front, follow_back, star_told, letters_follow}
use Rattle.query_grammar.proofs.Meaning.{place_of, fresh, joined_to, signed, conjunction_is, modifier_is, query_is, text_is}
use Rattle.query_grammar.proofs.Texts.{letters_there, letters_value, text_there, text_value}

-- ---- tests

lt_is : (a b : ℕ) → nat_lt a b ≡ not (nat_le b a)
lt_is a b = ⊎_elim (λ h. lt-ltb a b h ∙ sym (ap not (lt-leb b a h))) (λ h. le-ltb a b h ∙ sym (ap not (le-leb b a h))) (cases_lt a b)

le_is : (a b : ℕ) → nat_le a b ≡ not (nat_lt b a)
le_is a b = ⊎_elim (λ h. lt-leb a b h ∙ sym (ap not (lt-ltb b a h))) (λ h. le-leb a b h ∙ sym (ap not (le-ltb b a h))) (cases_lt b a)

next_is : (a b : ℕ) → nat_le (suc a) b ≡ not (nat_le b a)
next_is a b = ⊎_elim (λ h. le-leb (suc a) b h ∙ sym (ap not (lt-leb b a h))) (λ h. lt-leb (suc a) b (omega arith) ∙ sym (ap not (le-leb b a h))) (cases_lt a b)

-- ---- the faults of a lexeme as tests

abbrev bound_fine : Option FieldType → Option Bound → Bool
bound_fine k None = true
bound_fine k (Some b) = not (is_long k && is_no_number b.text)

abbrev words_fine : ℕ → Level → List Level → What → List (List ℕ) → Bool
words_fine most l os w words =
    not (nat_le most_deep (length os) && (is_opening w || is_several l w words))
    && not ((begins_clause w && (begins l && nat_le most (length l.clauses))) || (is_several l w words && nat_lt most (length words)))

abbrev fine : List Field → ℕ → Level → List Level → What → Bool
fine fields most l os w =
    not (is_unknown fields l w || (needs_field l w && is_none (field_for l)))
    && (not (is_long (kind_for fields l) && is_no_number (value_text l w))
    && (bound_fine (kind_for fields l) (from_of w) && (bound_fine (kind_for fields l) (to_of w)
    && (not (is_prefix w && is_whole (kind_for fields l)) && words_fine most l os w (words_of fields l w)))))

untold : (b : Bool) (f : QueryFault) → fault_if b f ≡ None → not b ≡ true
untold true f h = absurd (true≢false (sym (ap is_none h)))
untold false f h = refl

no_fault : (b : Bool) (f : QueryFault) → not b ≡ true → fault_if b f ≡ None
no_fault b f h = rw (not-true b h) refl

bound_untold : (k : Option FieldType) (b : Option Bound) → bad_bound k b ≡ None → bound_fine k b ≡ true
unfolding bad_bound
bound_untold k None h = refl
bound_untold k (Some b) h = untold _ _ h

no_bound : (k : Option FieldType) (b : Option Bound) → bound_fine k b ≡ true → bad_bound k b ≡ None
unfolding bad_bound
no_bound k None h = refl
no_bound k (Some b) h = no_fault _ _ h

right_fine : (fields : List Field) (most : ℕ) (l : Level) (os : List Level) (x : Lexeme) → IsRight fields most l os x → fine fields most l os x.what ≡ true
unfolding unknown_field bad_number unsupported too_deep too_many
right_fine fields most l os x r =
    and_from _ _ (untold _ _ r.field) (and_from _ _ (untold _ _ r.number)
    (and_from _ _ (bound_untold _ _ r.low) (and_from _ _ (bound_untold _ _ r.high)
    (and_from _ _ (untold _ _ r.supported) (and_from _ _ (untold _ _ r.depth) (untold _ _ r.clauses))))))

fine_right : (fields : List Field) (most : ℕ) (l : Level) (os : List Level) (x : Lexeme) → x.wrong ≡ None → fine fields most l os x.what ≡ true → IsRight fields most l os x
unfolding unknown_field bad_number unsupported too_deep too_many
fine_right fields most l os x n h =
    let a = and_parts _ _ h in
    let b = and_parts _ _ a.1 in
    let c = and_parts _ _ b.1 in
    let d = and_parts _ _ c.1 in
    let e = and_parts _ _ d.1 in
    let f = and_parts _ _ e.1 in
    record {
      itself = n;
      field = no_fault _ _ a.0;
      number = no_fault _ _ b.0;
      low = no_bound _ _ c.0;
      high = no_bound _ _ d.0;
      supported = no_fault _ _ e.0;
      depth = no_fault _ _ f.0;
      clauses = no_fault _ _ f.1;
    }

-- ---- what they come to

word_tests : (a d t r m : Bool)
    → ((a && (true && (true && (true && (not (d && t) && not (r || (t && m))))))) && true) ≡ (not r && (a && (not t || (not d && not m))))
word_tests a d t r m = grind arith

prefix_tests : (a w d r : Bool)
    → ((not (a && false) && (true && (true && (not w && (not (d && false) && not (r || false)))))) && true) ≡ (not r && not w)
prefix_tests a w d r = grind arith

quoted_tests : (a d r : Bool) → ((a && (true && (true && (true && (not (d && false) && not (r || false)))))) && true) ≡ (not r && a)
quoted_tests a d r = grind arith

range_tests : (a x y d r : Bool)
    → ((not (a && false) && (x && (y && (true && (not (d && false) && not (r || false)))))) && true) ≡ (not r && (x && y))
range_tests a x y d r = grind arith

-- of a lexeme that begins a clause, has no text, and is known where u isn't
bare_tests : (u a d r : Bool)
    → ((not (u || false) && (not (a && false) && (true && (true && (true && (not (d && false) && not (r || false))))))) && true) ≡ (not r && not u)
bare_tests u a d r = grind arith

known_tests : (i a d r : Bool)
    → ((not (not i || false) && (not (a && false) && (true && (true && (true && (not (d && false) && not (r || false))))))) && true) ≡ (not r && i)
known_tests i a d r = grind arith

modifier_tests : (a d r : Bool) → ((not (a && false) && (true && (true && (true && (not (d && false) && not (r || false)))))) && true) ≡ not r
modifier_tests a d r = grind arith

open_tests : (a d r b q : Bool) → b ≡ (q && true)
    → ((not (a && false) && (true && (true && (true && (not (d && true) && not (r || false)))))) && b) ≡ (not r && (not d && q))
open_tests a d r b q h = rw h (by q)
  where
    by : (q : Bool) → ((not (a && false) && (true && (true && (true && (not (d && true) && not (r || false)))))) && (q && true)) ≡ (not r && (not d && q))
    by q = grind arith

-- of a lexeme that begins no clause
idle_tests : (a d : Bool) → ((not (a && false) && (true && (true && (true && (not (d && false) && true))))) && true) ≡ true
idle_tests a d = grind arith

first_tests : (y c : Bool) → (not y && c) ≡ (c && not y)
first_tests y c = grind arith

next_tests : (a c : Bool) (k most : ℕ) → ((a && nat_le k most) && (true && (not (nat_le most k) && c))) ≡ ((a && c) && nat_le (suc k) most)
next_tests a c k most = ⊎_elim below above (cases_lt k most)
  where
    full : (a c : Bool) → ((a && true) && (true && (not false && c))) ≡ ((a && c) && true)
    full a c = grind arith

    none : (a c x : Bool) → ((a && x) && (true && (not true && c))) ≡ ((a && c) && false)
    none a c x = grind arith

    below : k < most → ((a && nat_le k most) && (true && (not (nat_le most k) && c))) ≡ ((a && c) && nat_le (suc k) most)
    below h = rw (le-leb k most (omega arith), lt-leb most k h, le-leb (suc k) most h) (full a c)

    above : most ≤ k → ((a && nat_le k most) && (true && (not (nat_le most k) && c))) ≡ ((a && c) && nat_le (suc k) most)
    above h = rw (le-leb most k h, lt-leb (suc k) most (omega arith)) (none a c (nat_le k most))

module _ (s : Setting) (most : ℕ) where
  abbrev all_fine : Level → List Level → List What → Bool
  all_fine l os [] = true
  all_fine l os (w ∷ ws) = fine s.fields most l os w && all_fine (after s l os w).0 (after s l os w).1 ws

  fine_append : (xs ys : List What) (l : Level) (os : List Level)
      → all_fine l os (xs ++ ys) ≡ (all_fine l os xs && all_fine (behind_all s l os xs).0 (behind_all s l os xs).1 ys)
  fine_append [] ys l os = refl
  fine_append (x ∷ xs) ys l os =
      ap (λ (b : Bool). fine s.fields most l os x && b) (fine_append xs ys (after s l os x).0 (after s l os x).1)
      ∙ sym (and_assoc (fine s.fields most l os x) (all_fine (after s l os x).0 (after s l os x).1 xs) _)

  onward : (xs ys : List What) (l m : Level) (os ns : List Level) (a b : Bool) → behind_all s l os xs ≡ (m, ns) → all_fine l os xs ≡ a → all_fine m ns ys ≡ b
      → all_fine l os (xs ++ ys) ≡ (a && b)
  onward xs ys l m os ns a b h f g =
      fine_append xs ys l os
      ∙ (ap (λ (c : Bool). c && all_fine (behind_all s l os xs).0 (behind_all s l os xs).1 ys) f
      ∙ ap (λ (c : Bool). a && c) (ap (λ (p : Level × List Level). all_fine p.0 p.1 ys) h ∙ g))

  -- a clause can begin
  abbrev room : Level → Bool
  room l = not (begins l && nat_le most (length l.clauses))

  -- ---- values of one lexeme

  abbrev om : Option ℕ → Option FieldType
  om o = option_map (kind_at s.fields) o

  word_at : (o : Option ℕ) (n : Bool) (d : ℕ) (r : Bool) (text : List ℕ)
      → ((not (is_none o) && (not (is_long (om o) && is_no_number (Some text)) && (true && (true && (true
      && (not (nat_le most_deep d && nat_lt 1 (length (words_in (om o) (Some text))))
      && not (r || (nat_lt 1 (length (words_in (om o) (Some text))) && nat_lt most (length (words_in (om o) (Some text)))))))))))
      && true)
      ≡ (not r && single_right s.fields most d (record { field = o; named = n }) (word text))
  word_at None n d r text = sym (and_right (not r) false refl)
  word_at (Some f) n d r text =
      let k : ℕ = length (words_in (Some (kind_at s.fields f)) (Some text)) in
      word_tests (fits (kind_at s.fields f) (Some text)) (nat_le most_deep d) (nat_lt 1 k) r (nat_lt most k)
      ∙ ap (λ (b : Bool). not r && (fits (kind_at s.fields f) (Some text) && (not (nat_lt 1 k) || b))) (ap (λ (b : Bool). b && not (nat_lt most k)) (sym (lt_is d most_deep))
      ∙ ap (λ (b : Bool). nat_lt d most_deep && b) (sym (le_is k most)))

  prefix_at : (o : Option ℕ) (n : Bool) (d : ℕ) (r : Bool) (text : List ℕ)
      → ((not (is_none o) && (not (is_long (om o) && false) && (true && (true && (not (is_whole (om o)) && (not (nat_le most_deep d && false) && not (r || false))))))) && true)
      ≡ (not r && single_right s.fields most d (record { field = o; named = n }) (prefix text))
  prefix_at None n d r text = sym (and_right (not r) false refl)
  prefix_at (Some f) n d r text = prefix_tests (is_long (om (Some f))) (is_whole (om (Some f))) (nat_le most_deep d) r

  quoted_at : (o : Option ℕ) (n : Bool) (d : ℕ) (r : Bool) (text : List ℕ)
      → ((not (is_none o) && (not (is_long (om o) && is_no_number (Some text)) && (true && (true && (true && (not (nat_le most_deep d && false) && not (r || false))))))) && true)
      ≡ (not r && single_right s.fields most d (record { field = o; named = n }) (quoted text))
  quoted_at None n d r text = sym (and_right (not r) false refl)
  quoted_at (Some f) n d r text = quoted_tests (fits (kind_at s.fields f) (Some text)) (nat_le most_deep d) r

  range_at : (o : Option ℕ) (n : Bool) (d : ℕ) (r low high : Bool) (from to : Bound)
      → ((not (is_none o) && (not (is_long (om o) && false) && (bound_fine (om o) (Some from) && (bound_fine (om o) (Some to)
      && (true && (not (nat_le most_deep d && false) && not (r || false))))))) && true)
      ≡ (not r && single_right s.fields most d (record { field = o; named = n }) (range low from to high))
  range_at None n d r low high from to = sym (and_right (not r) false refl)
  range_at (Some f) n d r low high from to =
      range_tests (is_long (om (Some f))) (fits (kind_at s.fields f) from.text) (fits (kind_at s.fields f) to.text) (nat_le most_deep d) r

  single_fine : (w : Single) (l : Level) (os : List Level)
      → all_fine l os (lexeme w ∷ []) ≡ (room l && single_right s.fields most (length os) (place_of l) w)
  single_fine (word text) l os = word_at (field_for l) (is_explicit l) (length os) _ text
  single_fine (prefix text) l os = prefix_at (field_for l) (is_explicit l) (length os) _ text
  single_fine (quoted text) l os = quoted_at (field_for l) (is_explicit l) (length os) _ text
  single_fine star l os = bare_tests false (is_long (om (field_for l))) (nat_le most_deep (length os)) _
  single_fine (range low from to high) l os = range_at (field_for l) (is_explicit l) (length os) _ low high from to

  -- ---- trees

  conjunction_fine : (j : Option Conjunction) (f : Option ℕ) (n : Bool) (cs : List Clause) (os : List Level) → all_fine (fresh f n cs) os (conjunction j) ≡ true
  conjunction_fine None f n cs os = refl
  conjunction_fine (Some (both behind)) f n cs os = idle_tests (is_long (om f)) (nat_le most_deep (length os))
  conjunction_fine (Some (either behind)) f n cs os = idle_tests (is_long (om f)) (nat_le most_deep (length os))

  sign_fine : (prohibits : Bool) (f : Option ℕ) (n : Bool) (cs : List Clause) (j : Option Op) (os : List Level)
      → all_fine (joined_to f n cs j) os (what.Sign prohibits ∷ []) ≡ not (nat_le most (length cs))
  sign_fine prohibits f n cs j os = modifier_tests (is_long (om f)) (nat_le most_deep (length os)) (nat_le most (length cs))

  not_fine : (behind : Option ℕ) (f : Option ℕ) (n : Bool) (cs : List Clause) (j : Option Op) (os : List Level)
      → all_fine (joined_to f n cs j) os (modifier (Some (negation behind))) ≡ not (nat_le most (length cs))
  not_fine behind f n cs j os = modifier_tests (is_long (om f)) (nat_le most_deep (length os)) (nat_le most (length cs))

  field_fine : (g : FieldForm) (v : ValueForm) (f : Option ℕ) (n : Bool) (cs : List Clause) (j : Option Op) (m : Option Sign) (os : List Level)
      → AllFollow (field (Some g) ++ value_leaves v)
      → all_fine (signed f n cs j m) os (field (Some g)) ≡ (room (signed f n cs j m) && field_right s.fields (Some g) v)
  field_fine (name text colon) v f n cs j m os h = known_tests (is_some (indexed text s.fields)) (is_long (om f)) (nat_le most_deep (length os)) _
  field_fine (any colon other) v f n cs j m os h =
      bare_tests other (is_long (om f)) (nat_le most_deep (length os)) _ ∙ ap (λ (b : Bool). room (signed f n cs j m) && b) (star_told v other h.0)

  count_is : (q : QueryForm) (p : Place) → length (query_clauses s p q) ≡ clause_count q
  unfolding query_clauses clause_count
  count_is (first c) p = refl
  count_is (next q j c) p = omega (arith, length-append {A = Clause}, count_is q p)

  mutual
    unfolding query_leaves clauses_right query_clauses clause_count after

    query_fine : (q : QueryForm) (f : Option ℕ) (n : Bool) (os : List Level) → AllFollow (query_leaves q)
        → all_fine (fresh f n []) os (query_leaves q)
        ≡ (clauses_right s.fields most (length os) (record { field = f; named = n }) q && nat_le (clause_count q) most)
    query_fine (first c) f n os h =
        clause_fine c f n [] None os h
        ∙ (first_tests (nat_le most 0) _ ∙ ap (λ (b : Bool). clause_right s.fields most (length os) (record { field = f; named = n }) c && b) (sym (next_is 0 most)))
    query_fine (next q j c) f n os h =
        let k : AllFollow (conjunction j ++ clause_leaves c) = follow_back (query_leaves q) (conjunction j ++ clause_leaves c) h in
        let p : Place = record { field = f; named = n } in
        let cs : List Clause = query_clauses s (record { field = f; named = n }) q in
        let there : Bool = clause_right s.fields most (length os) (record { field = f; named = n }) c in
        onward (query_leaves q) (conjunction j ++ clause_leaves c) (fresh f n []) (fresh f n cs) os os _ _ (query_is s q f n [] os) (query_fine q f n os (follow_front (query_leaves q) (conjunction j ++ clause_leaves c) h))
        (onward (conjunction j) (clause_leaves c) (fresh f n cs) (joined_to f n cs (conjunction_op j)) os os _ _ (conjunction_is s j f n cs os)
        (conjunction_fine j f n cs os) (clause_fine c f n cs (conjunction_op j) os (follow_back (conjunction j) (clause_leaves c) k)))
        ∙ (ap (λ (k : ℕ). (clauses_right s.fields most (length os) p q && nat_le (clause_count q) most) && (true && (not (nat_le most k) && there))) (count_is q p)
        ∙ next_tests (clauses_right s.fields most (length os) p q) there (clause_count q) most)

    clause_fine : (c : ClauseForm) (f : Option ℕ) (n : Bool) (cs : List Clause) (j : Option Op) (os : List Level) → AllFollow (clause_leaves c)
        → all_fine (joined_to f n cs j) os (clause_leaves c)
        ≡ (not (nat_le most (length cs)) && clause_right s.fields most (length os) (record { field = f; named = n }) c)
    clause_fine (clause None b) f n cs j os h = body_fine b f n cs j None os h
    clause_fine (clause (Some (sign prohibits)) b) f n cs j os h =
        onward (modifier (Some (sign prohibits))) (body_leaves b) (joined_to f n cs j) (signed f n cs j (modifier_sign (Some (sign prohibits)))) os os _ _
        (modifier_is s (Some (sign prohibits)) f n cs j os) (sign_fine prohibits f n cs j os) (body_fine b f n cs j (modifier_sign (Some (sign prohibits))) os h.1)
    clause_fine (clause (Some (negation behind)) b) f n cs j os h =
        onward (modifier (Some (negation behind))) (body_leaves b) (joined_to f n cs j) (signed f n cs j (modifier_sign (Some (negation behind)))) os os _ _
        (modifier_is s (Some (negation behind)) f n cs j os) (not_fine behind f n cs j os) (body_fine b f n cs j (modifier_sign (Some (negation behind))) os h.1)

    body_fine : (b : BodyForm) (f : Option ℕ) (n : Bool) (cs : List Clause) (j : Option Op) (m : Option Sign) (os : List Level) → AllFollow (body_leaves b)
        → all_fine (signed f n cs j m) os (body_leaves b)
        ≡ (room (signed f n cs j m) && body_right s.fields most (length os) (record { field = f; named = n }) b)
    body_fine (body None v) f n cs j m os h = value_fine v (signed f n cs j m) os h
    body_fine (body (Some (name text colon)) v) f n cs j m os h =
        onward (field (Some (name text colon))) (value_leaves v) (signed f n cs j m) _ os os _ _ refl (field_fine (name text colon) v f n cs j m os h) (value_fine v _ os h.1)
        ∙ and_assoc (room (signed f n cs j m)) _ _
    body_fine (body (Some (any colon other)) v) f n cs j m os h =
        onward (field (Some (any colon other))) (value_leaves v) (signed f n cs j m) _ os os _ _ refl (field_fine (any colon other) v f n cs j m os h) (value_fine v _ os h.1)
        ∙ and_assoc (room (signed f n cs j m)) _ _

    value_fine : (v : ValueForm) (l : Level) (os : List Level) → AllFollow (value_leaves v)
        → all_fine l os (value_leaves v) ≡ (room l && value_right s.fields most (length os) (place_of l) v)
    value_fine (single w) l os h = single_fine w l os
    value_fine (group q) l os h =
        open_tests (is_long (om (field_for l))) (nat_le most_deep (length os)) _ _
        (clauses_right s.fields most (suc (length os)) (place_of l) q && nat_le (clause_count q) most)
        (onward (query_leaves q) (what.Closing ∷ []) (inside l) (fresh (field_for l) (is_explicit l) (query_clauses s (place_of l) q)) (l ∷ os) (l ∷ os) _ _
        (query_is s q (field_for l) (is_explicit l) [] (l ∷ os)) (query_fine q (field_for l) (is_explicit l) (l ∷ os) (follow_front (query_leaves q) (what.Closing ∷ []) h.1))
        (idle_tests (is_long (om (field_for l))) (nat_le most_deep (suc (length os)))))
        ∙ ap (λ (b : Bool). room l && (b && (clauses_right s.fields most (suc (length os)) (place_of l) q && nat_le (clause_count q) most))) (sym (lt_is (length os) most_deep))

  text_fine : (t : TextForm) (df : Option ℕ) → AllFollow (leaves t) → all_fine (top df) [] (leaves t) ≡ text_right s.fields most df t
  text_fine blank df h = idle_tests (is_long (om df)) (nat_le most_deep 0)
  text_fine (query q) df h =
      onward (query_leaves q) (what.Finish ∷ []) (top df) (fresh df false (query_clauses s (record { field = df; named = false }) q)) [] [] _ _
      (query_is s q df false [] []) (query_fine q df false [] (follow_front (query_leaves q) (what.Finish ∷ []) h)) (idle_tests (is_long (om df)) (nat_le most_deep 0))
      ∙ and-true _

  -- ---- lexemes

  abbrev AllThemselves : List Lexeme → Type 0
  AllThemselves xs = AllByRecursion (λ x. x.wrong ≡ None) xs

  pub all_from : (xs : List Lexeme) (l : Level) (os : List Level) → AllRight s most l os xs → AllThemselves xs × (all_fine l os (whats xs) ≡ true)
  all_from [] l os r = (tt, refl)
  all_from (x ∷ xs) l os r =
      let m : AllThemselves xs × _ = all_from xs (after s l os x.what).0 (after s l os x.what).1 r.1 in
      ((r.0.itself, m.0), and_from _ _ (right_fine s.fields most l os x r.0) m.1)

  pub all_right : (xs : List Lexeme) (l : Level) (os : List Level) → AllThemselves xs → all_fine l os (whats xs) ≡ true → AllRight s most l os xs
  all_right [] l os n h = tt
  all_right (x ∷ xs) l os n h =
      let p = and_parts _ _ h in
      (fine_right s.fields most l os x n.0 p.0, all_right xs (after s l os x.what).0 (after s l os x.what).1 n.1 p.1)

-- ---- letters and texts

module _ (s : Setting) (most : ℕ) (df : Option ℕ) where
  abbrev value_of : ℕ → List Letter → Query
  value_of end ls = joined s.op (behind_all s (top df) [] (whats (lexemes_of end ls))).0.clauses

  value_is : (end : ℕ) (ls : List Letter) (t : TextForm) → leaves t ≡ whats (lexemes_of end ls) → value_of end ls ≡ meaning s df t
  value_is end ls t h = ap (λ (ws : List What). joined s.op (behind_all s (top df) [] ws).0.clauses) (sym h) ∙ text_is s t df

  tree_fine : (end : ℕ) (ls : List Letter) (t : TextForm) → leaves t ≡ whats (lexemes_of end ls)
      → all_fine s most (top df) [] (whats (lexemes_of end ls)) ≡ text_right s.fields most df t
  tree_fine end ls t h =
      ap (all_fine s most (top df) []) (sym h) ∙ text_fine s most t df (subst AllFollow (sym h) (letters_follow end ls))

  means_from : (end : ℕ) (ls : List Letter) (q : Query) → AreOfQuery s most df end ls → q ≡ value_of end ls → LettersMean s most df end ls q
  means_from end ls q a h =
      let r : AllThemselves s most (lexemes_of end ls) × (all_fine s most (top df) [] (whats (lexemes_of end ls)) ≡ true) =
      all_from s most (lexemes_of end ls) (top df) [] a.right in
      record {
        tree = a.forms.0;
        leaves = a.forms.1;
        itself = r.0;
        right = sym (tree_fine end ls a.forms.0 a.forms.1) ∙ r.1;
        means = h ∙ value_is end ls a.forms.0 a.forms.1;
      }

  are_from : (end : ℕ) (ls : List Letter) (q : Query) → LettersMean s most df end ls q → AreOfQuery s most df end ls
  are_from end ls q m = record {
    forms = (m.tree, m.leaves);
    right = all_right s most (lexemes_of end ls) (top df) [] m.itself (tree_fine end ls m.tree m.leaves ∙ m.right);
  }

  ok_same : (a b : Query) → ◌≡◌ {A = Result Query QueryFault} (Ok a) (Ok b) → a ≡ b
  ok_same a b h = cc h

  ok_is : (r : Result Query QueryFault) (q : Query) → r ≡ Ok q → IsOk r
  ok_is r q h = rw h refl

  pub letters_read_to : LettersReadTo s most df
  letters_read_to end ls q = (
    λ h. let a : AreOfQuery s most df end ls = letters_there s most df end ls (ok_is _ q h) in
        means_from end ls q a (ok_same _ _ (sym h ∙ letters_value s most df end ls a)),
    λ m. letters_value s most df end ls (are_from end ls q m)
        ∙ ap (λ (r : Query). Ok r) (value_is end ls m.tree m.leaves ∙ sym m.means),
  )

  ok_parsed : (p q : Parsed) → ◌≡◌ {A = Result Parsed QueryFault} (Ok p) (Ok q) → p ≡ q
  ok_parsed p q h = cc h

  parsed_ok : (r : Result Parsed QueryFault) (p : Parsed) → r ≡ Ok p → IsOk r
  parsed_ok r p h = rw h refl

  pub texts_read_to : TextsReadTo s most df
  texts_read_to text p = (
    λ h. let i : IsOfQuery s most df text = text_there s most df text (parsed_ok _ p h) in
        let e : p ≡ record { query = value_of (length text) i.letters; cached = i.params.cached; cost = i.params.cost } =
        ok_parsed _ _ (sym h ∙ text_value s most df text i) in
        record {
          params = i.params;
          letters = i.letters;
          behind = i.behind;
          query = means_from (length text) i.letters p.query i.query (ap (λ (x : Parsed). x.query) e);
          cached = ap (λ (x : Parsed). x.cached) e;
          cost = ap (λ (x : Parsed). x.cost) e;
        },
    λ m. text_value s most df text
        (record { params = m.params; letters = m.letters; behind = m.behind; query = are_from (length text) m.letters p.query m.query })
        ∙ λ k. Ok (record {
          query = (value_is (length text) m.letters m.query.tree m.query.leaves ∙ sym m.query.means) k;
          cached = sym m.cached k;
          cost = sym m.cost k;
        }),
  )
