-- The leaves of a tree of the forms can stand one behind another.
use Rattle.std.proofs.Common.{◌≡◌, ◌++◌, ◌∷◌, [], ℕ, List, true, false, not, Option, None, Some, length, refl, ap, sym, subst, suc, arith}
use Rattle.std.specs.Prelude.{◌==◌}
use Rattle.std.proofs.lemmas.Bool.{and_parts, and_from, ne_eqb, false≢true}
use Rattle.std.proofs.lemmas.List.{append_assoc}
use Rattle.query_tree.specs.declared.query.Query.{Query}
use Rattle.query_lexemes.specs.declared.lexeme.What.{What}
use Rattle.query_lexemes.specs.declared.lexeme.What.TheVariants as what
use Rattle.query_text.specs.Levels.{is_here, begins, is_between, joins, top, inside, put}
use Rattle.query_text.specs.Reads.{Setting, after}
use Rattle.query_grammar.specs.Forms.{Conjunction, both, either, Modifier, sign, negation, FieldForm, name, any, Single, word, prefix, quoted, star, range, QueryForm, first, next, ClauseForm, clause, BodyForm, body, ValueForm, single, group, TextForm, blank, query, conjunction, modifier, field, lexeme, query_leaves, clause_leaves, body_leaves, value_leaves, leaves}
use Rattle.query_grammar.specs.Fitting.{Level, stands, AllStand}

pub not_empty : (n : ℕ) → (suc n == 0) ≡ false
not_empty n = ne_eqb (suc n) 0 (λ e. absurd (omega arith))

pub some_clauses : {A : Type 0} (cs : List A) (c : A) → (length (cs ++ c ∷ []) == 0) ≡ false
some_clauses [] c = refl
some_clauses (d ∷ cs) c = not_empty (length (cs ++ c ∷ []))

pub put_joins : (l : Level) (q : Query) → joins (put l q) ≡ true
put_joins l q = ap not (some_clauses l.clauses _)

pub joins_between : (l : Level) → joins l ≡ true → is_between l ≡ true
joins_between l h = (and_parts _ _ h).0

pub joins_begins : (l : Level) → joins l ≡ true → begins l ≡ true
joins_begins l h = (and_parts _ _ (joins_between l h)).0

begins_here : (l : Level) → begins l ≡ true → is_here l ≡ true
begins_here l h = (and_parts _ _ h).0

pub can_close : (o : Level) (os : List Level) (l : Level) → joins l ≡ true → stands l (o ∷ os) what.Closing ≡ true
can_close o os l h = and_from _ _ (ap not (not_empty (length os))) h

module _ (s : Setting) where
  -- the rest can stand behind a clause
  abbrev Goes : List Level → List What → Type 0
  Goes os rest = (l : Level) → joins l ≡ true → AllStand s l os rest

  single_stands : (w : Single) (l : Level) (os : List Level) (rest : List What) → Goes os rest → AllStand s l os (lexeme w ∷ rest)
  unfolding after
  single_stands (word text) l os rest k = (refl, λ e. absurd (false≢true e), k (put l _) (put_joins l _))
  single_stands (prefix text) l os rest k = (refl, λ e. absurd (false≢true e), k (put l _) (put_joins l _))
  single_stands (quoted text) l os rest k = (refl, λ e. absurd (false≢true e), k (put l _) (put_joins l _))
  single_stands star l os rest k = (refl, λ e. absurd (false≢true e), k (put l _) (put_joins l _))
  single_stands (range low from to high) l os rest k = (refl, λ e. absurd (false≢true e), k (put l _) (put_joins l _))

  field_stands : (f : Option FieldForm) (l : Level) (os : List Level) (rest : List What) → is_here l ≡ true
      → ((m : Level) → AllStand s m os rest) → AllStand s l os (field f ++ rest)
  unfolding after
  field_stands None l os rest h k = k l
  field_stands (Some (name text colon)) l os rest h k = (h, λ e. absurd (false≢true e), k _)
  field_stands (Some (any colon other)) l os rest h k = (h, λ e. absurd (false≢true e), k _)

  modifier_stands : (m : Option Modifier) (l : Level) (os : List Level) (rest : List What) → begins l ≡ true
      → ((m : Level) → is_here m ≡ true → AllStand s m os rest) → AllStand s l os (modifier m ++ rest)
  unfolding after
  modifier_stands None l os rest h k = k l (begins_here l h)
  modifier_stands (Some (sign prohibits)) l os rest h k = (h, λ e. absurd (false≢true e), k _ (begins_here l h))
  modifier_stands (Some (negation behind)) l os rest h k = (h, λ e. absurd (false≢true e), k _ (begins_here l h))

  conjunction_stands : (j : Option Conjunction) (l : Level) (os : List Level) (rest : List What) → joins l ≡ true
      → ((m : Level) → begins m ≡ true → AllStand s m os rest) → AllStand s l os (conjunction j ++ rest)
  unfolding after
  conjunction_stands None l os rest h k = k l (joins_begins l h)
  conjunction_stands (Some (both behind)) l os rest h k = (h, λ e. absurd (false≢true e), k _ (joins_begins l h))
  conjunction_stands (Some (either behind)) l os rest h k = (h, λ e. absurd (false≢true e), k _ (joins_begins l h))

  mutual
    unfolding query_leaves after

    query_stands : (q : QueryForm) (l : Level) (os : List Level) (rest : List What) → begins l ≡ true → Goes os rest
        → AllStand s l os (query_leaves q ++ rest)
    query_stands (first c) l os rest h k = clause_stands c l os rest h k
    query_stands (next q j c) l os rest h k =
        subst (AllStand s l os) (sym (append_assoc (query_leaves q) (conjunction j ++ clause_leaves c) rest))
        (query_stands q l os ((conjunction j ++ clause_leaves c) ++ rest) h
        (λ m i. subst (AllStand s m os) (sym (append_assoc (conjunction j) (clause_leaves c) rest))
        (conjunction_stands j m os (clause_leaves c ++ rest) i (λ n b. clause_stands c n os rest b k))))

    clause_stands : (c : ClauseForm) (l : Level) (os : List Level) (rest : List What) → begins l ≡ true → Goes os rest
        → AllStand s l os (clause_leaves c ++ rest)
    clause_stands (clause m b) l os rest h k =
        subst (AllStand s l os) (sym (append_assoc (modifier m) (body_leaves b) rest))
        (modifier_stands m l os (body_leaves b ++ rest) h (λ n i. body_stands b n os rest i k))

    body_stands : (b : BodyForm) (l : Level) (os : List Level) (rest : List What) → is_here l ≡ true → Goes os rest
        → AllStand s l os (body_leaves b ++ rest)
    body_stands (body f v) l os rest h k =
        subst (AllStand s l os) (sym (append_assoc (field f) (value_leaves v) rest))
        (field_stands f l os (value_leaves v ++ rest) h (λ m. value_stands v m os rest k))

    value_stands : (v : ValueForm) (l : Level) (os : List Level) (rest : List What) → Goes os rest → AllStand s l os (value_leaves v ++ rest)
    value_stands (single w) l os rest k = single_stands w l os rest k
    value_stands (group q) l os rest k = (
      refl,
      λ e. absurd (false≢true e),
      subst (AllStand s (inside l) (l ∷ os)) (sym (append_assoc (query_leaves q) (what.Closing ∷ []) rest))
          (query_stands q (inside l) (l ∷ os) (what.Closing ∷ rest) refl
          (λ m h. (can_close l os m h, λ e. absurd (false≢true e), k (put l _) (put_joins l _)))),
    )

  pub text_stands : (t : TextForm) (df : Option ℕ) → AllStand s (top df) [] (leaves t)
  unfolding after
  text_stands blank df = (refl, λ e. refl, tt)
  text_stands (query q) df =
      query_stands q (top df) [] (what.Finish ∷ []) refl (λ l h. (joins_between l h, λ e. refl, tt))
