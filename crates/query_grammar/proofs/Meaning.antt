-- What is read behind the leaves of a tree is what the tree means.
use Rattle.std.proofs.Common.{◌≡◌, ◌++◌, ◌∷◌, [], ℕ, List, Bool, true, false, Option, None, Some, refl, ap, ◌∙◌}
use Rattle.std.specs.Prelude.{option_map}
use Rattle.std.specs.Option.{option_map_or}
use Rattle.std.proofs.lemmas.List.{append_assoc}
use Rattle.query_tree.specs.declared.query.Query.{Query}
use Rattle.query_tree.specs.declared.query.Query.TheVariants as every
use Rattle.query_lexemes.specs.declared.lexeme.What.{What}
use Rattle.query_lexemes.specs.declared.lexeme.What.TheVariants as what
use Rattle.query_text.specs.declared.op.Op.{Op}
use Rattle.query_text.specs.Clauses.{joined}
use Rattle.query_text.specs.Levels.{field_for, is_explicit, top, inside, put}
use Rattle.query_text.specs.Readings.{kind_at, words_in, star as star_of, value_in}
use Rattle.query_text.specs.Reads.{Setting, value, after}
use Rattle.query_grammar.specs.Forms.{Conjunction, both, either, Modifier, sign, negation, name, any, Single, word, prefix, quoted, star, range, QueryForm, first, next, ClauseForm, clause, BodyForm, body, ValueForm, single, group, TextForm, blank, query, conjunction, modifier, lexeme, query_leaves, clause_leaves, body_leaves, value_leaves, leaves}
use Rattle.query_grammar.specs.Fitting.{Level, behind_all}
use Rattle.query_grammar.specs.Meaning.{Place, single_query, conjunction_op, Sign, modifier_sign, Clause, query_clauses, clause_of, body_query, value_query, meaning}

-- what is read without a field
abbrev pub all_docs : Query
all_docs = every.All

abbrev pub place_of : Level → Place
place_of l = record { field = field_for l; named = is_explicit l }

-- a query with nothing before its next clause
abbrev pub fresh : Option ℕ → Bool → List Clause → Level
fresh f n cs = record (top f) { named = n; clauses = cs }

-- a query before its next clause, behind a conjunction
abbrev pub joined_to : Option ℕ → Bool → List Clause → Option Op → Level
joined_to f n cs j = record (fresh f n cs) { conj = j }

abbrev pub signed : Option ℕ → Bool → List Clause → Option Op → Option Sign → Level
signed f n cs j m = record (joined_to f n cs j) { sign = m }

module _ (s : Setting) where
  pub behind_append : (xs ys : List What) (l : Level) (os : List Level)
      → behind_all s l os (xs ++ ys) ≡ behind_all s (behind_all s l os xs).0 (behind_all s l os xs).1 ys
  behind_append [] ys l os = refl
  behind_append (x ∷ xs) ys l os = behind_append xs ys (after s l os x).0 (after s l os x).1

  onward : (xs ys : List What) (l m : Level) (os ns : List Level) (r : Level × List Level) → behind_all s l os xs ≡ (m, ns) → behind_all s m ns ys ≡ r
      → behind_all s l os (xs ++ ys) ≡ r
  onward xs ys l m os ns r h k = behind_append xs ys l os ∙ (ap (λ (p : Level × List Level). behind_all s p.0 p.1 ys) h ∙ k)

  -- ---- values

  word_is : (o : Option ℕ) (n : Bool) (text : List ℕ)
      → option_map_or (λ f. value_in s.op (kind_at s.fields f) f (what.Word text) (words_in (option_map (kind_at s.fields) o) (Some text))) o all_docs
      ≡ single_query s (record { field = o; named = n }) (word text)
  unfolding value_in
  word_is None n text = refl
  word_is (Some f) n text = refl

  quoted_is : (o : Option ℕ) (n : Bool) (text : List ℕ)
      → option_map_or (λ f. value_in s.op (kind_at s.fields f) f (what.Quoted text) (words_in (option_map (kind_at s.fields) o) (Some text))) o all_docs
      ≡ single_query s (record { field = o; named = n }) (quoted text)
  unfolding value_in
  quoted_is None n text = refl
  quoted_is (Some f) n text = refl

  -- a `*` looks at the field alone
  abbrev IsStar : Level → Type 0
  IsStar l = star_of l ≡ single_query s (place_of l) star

  single_is : (w : Single) (l : Level) (os : List Level) → IsStar l → behind_all s l os (lexeme w ∷ []) ≡ (put l (single_query s (place_of l) w), os)
  unfolding after value value_in
  single_is (word text) l os h = ap (λ (q : Query). (put l q, os)) (word_is (field_for l) (is_explicit l) text)
  single_is (prefix text) l os h = refl
  single_is (quoted text) l os h = ap (λ (q : Query). (put l q, os)) (quoted_is (field_for l) (is_explicit l) text)
  single_is star l os h = ap (λ (q : Query). (put l q, os)) h
  single_is (range low from to high) l os h = refl

  -- ---- what stands before a value

  pub conjunction_is : (j : Option Conjunction) (f : Option ℕ) (n : Bool) (cs : List Clause) (os : List Level)
      → behind_all s (fresh f n cs) os (conjunction j) ≡ (joined_to f n cs (conjunction_op j), os)
  unfolding after
  conjunction_is None f n cs os = refl
  conjunction_is (Some (both behind)) f n cs os = refl
  conjunction_is (Some (either behind)) f n cs os = refl

  pub modifier_is : (m : Option Modifier) (f : Option ℕ) (n : Bool) (cs : List Clause) (j : Option Op) (os : List Level)
      → behind_all s (joined_to f n cs j) os (modifier m) ≡ (signed f n cs j (modifier_sign m), os)
  unfolding after
  modifier_is None f n cs j os = refl
  modifier_is (Some (sign prohibits)) f n cs j os = refl
  modifier_is (Some (negation behind)) f n cs j os = refl

  star_here : (f : Option ℕ) (n : Bool) (cs : List Clause) (j : Option Op) (m : Option Sign) → IsStar (signed f n cs j m)
  star_here f true cs j m = refl
  star_here f false cs j m = refl

  -- ---- trees

  -- behind a clause
  abbrev more : Option ℕ → Bool → List Clause → List Clause → List Level → Level × List Level
  more f n cs ds os = (fresh f n (cs ++ ds), os)

  mutual
    unfolding query_leaves query_clauses after

    pub query_is : (q : QueryForm) (f : Option ℕ) (n : Bool) (cs : List Clause) (os : List Level)
        → behind_all s (fresh f n cs) os (query_leaves q) ≡ more f n cs (query_clauses s (record { field = f; named = n }) q) os
    query_is (first c) f n cs os = clause_is c f n cs None os
    query_is (next q j c) f n cs os =
        let p : Place = record { field = f; named = n } in
        let ds : List Clause = query_clauses s (record { field = f; named = n }) q in
        onward (query_leaves q) (conjunction j ++ clause_leaves c) (fresh f n cs) (fresh f n (cs ++ ds)) os os _ (query_is q f n cs os)
        (onward (conjunction j) (clause_leaves c) (fresh f n (cs ++ ds)) (joined_to f n (cs ++ ds) (conjunction_op j)) os os _ (conjunction_is j f n (cs ++ ds) os)
        (clause_is c f n (cs ++ ds) (conjunction_op j) os
        ∙ ap (λ (es : List Clause). (fresh f n es, os)) (append_assoc cs ds (clause_of s p (conjunction_op j) c ∷ []))))

    clause_is : (c : ClauseForm) (f : Option ℕ) (n : Bool) (cs : List Clause) (j : Option Op) (os : List Level)
        → behind_all s (joined_to f n cs j) os (clause_leaves c) ≡ more f n cs (clause_of s (record { field = f; named = n }) j c ∷ []) os
    clause_is (clause m b) f n cs j os =
        onward (modifier m) (body_leaves b) (joined_to f n cs j) (signed f n cs j (modifier_sign m)) os os _ (modifier_is m f n cs j os)
        (body_is b f n cs j (modifier_sign m) os)

    body_is : (b : BodyForm) (f : Option ℕ) (n : Bool) (cs : List Clause) (j : Option Op) (m : Option Sign) (os : List Level)
        → behind_all s (signed f n cs j m) os (body_leaves b)
        ≡ more f n cs (record { before = j; sign = m; query = body_query s (record { field = f; named = n }) b } ∷ []) os
    body_is (body None v) f n cs j m os = value_is v (signed f n cs j m) os (star_here f n cs j m)
    body_is (body (Some (name text colon)) v) f n cs j m os = value_is v _ os refl
    body_is (body (Some (any colon other)) v) f n cs j m os = value_is v _ os refl

    value_is : (v : ValueForm) (l : Level) (os : List Level) → IsStar l
        → behind_all s l os (value_leaves v) ≡ (put l (value_query s (place_of l) v), os)
    value_is (single w) l os h = single_is w l os h
    value_is (group q) l os h =
        onward (query_leaves q) (what.Closing ∷ []) (inside l) (fresh (field_for l) (is_explicit l) (query_clauses s (place_of l) q)) (l ∷ os) (l ∷ os) _
        (query_is q (field_for l) (is_explicit l) [] (l ∷ os)) refl

  pub text_is : (t : TextForm) (df : Option ℕ) → joined s.op (behind_all s (top df) [] (leaves t)).0.clauses ≡ meaning s df t
  unfolding after
  text_is blank df = refl
  text_is (query q) df =
      ap (λ (p : Level × List Level). joined s.op p.0.clauses)
      (onward (query_leaves q) (what.Finish ∷ []) (top df) (fresh df false (query_clauses s (record { field = df; named = false }) q)) [] [] _ (query_is q df false [] []) refl)
