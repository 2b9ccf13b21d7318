-- No two trees have the same leaves: a tree is found again from them.
use Rattle.std.proofs.Common.{◌≡◌, ◌++◌, ◌∷◌, [], List, Option, None, Some, refl, ap, sym, ◌∙◌}
use Rattle.query_lexemes.specs.declared.lexeme.What.{What}
use Rattle.query_lexemes.specs.declared.lexeme.What.TheVariants as what
use Rattle.query_lexemes.specs.declared.lexeme.Operator.TheVariants as operator
use Rattle.query_grammar.specs.Forms.{Conjunction, both, either, Modifier, sign, negation, FieldForm, name, any, Single, word, prefix, quoted, star, range, QueryForm, first, next, ClauseForm, clause, BodyForm, body, ValueForm, single, group, TextForm, blank, query, conjunction, modifier, field, lexeme, query_leaves, clause_leaves, body_leaves, value_leaves, leaves}
use Rattle.query_grammar.specs.Laws.{OneTree}
use Rattle.query_grammar.proofs.Parts.{Past, nothing, some, Part, with_clause, put_value}

-- what was read, the innermost query first
abbrev Reading : Type 0
Reading = Part × List Part

abbrev join : Past → Conjunction → Past
join nothing j = nothing
join (some q i) j = some q (Some j)

abbrev close : Past → List Part → Reading → Reading
close nothing os r = r
close (some q j) [] r = r
close (some q j) (o ∷ os) r = (put_value o (group q), os)

-- a part with its clauses, its modifier and its field
abbrev part : Past → Option Modifier → Option FieldForm → Part
part p m f = record { past = p; before = m; name = f }

abbrev bare : Past → Part
bare p = part p None None

-- what is read with one more lexeme
abbrev take : Part → List Part → What → Reading
take p os (what.Word text) = (put_value p (single (word text)), os)
take p os (what.Prefix text) = (put_value p (single (prefix text)), os)
take p os (what.Quoted text) = (put_value p (single (quoted text)), os)
take p os what.Star = (put_value p (single star), os)
take p os (what.Range low from to high) = (put_value p (single (range low from to high)), os)
take p os (what.Name text colon) = (part p.past p.before (Some (name text colon)), os)
take p os (what.Any colon other) = (part p.past p.before (Some (any colon other)), os)
take p os (what.Operator operator.And behind) = (part (join p.past (both behind)) p.before p.name, os)
take p os (what.Operator operator.Or behind) = (part (join p.past (either behind)) p.before p.name, os)
take p os (what.Operator operator.Not behind) = (part p.past (Some (negation behind)) p.name, os)
take p os (what.Sign prohibits) = (part p.past (Some (sign prohibits)) p.name, os)
take p os what.Opening = (bare nothing, p ∷ os)
take p os what.Closing = close p.past os (p, os)
take p os what.Finish = (p, os)
take p os (what.Begun from to) = (p, os)
take p os what.Half = (p, os)
take p os what.Flaw = (p, os)

abbrev take_all : Part → List Part → List What → Reading
take_all p os [] = (p, os)
take_all p os (w ∷ ws) = take_all (take p os w).0 (take p os w).1 ws

take_append : (xs ys : List What) (p : Part) (os : List Part) → take_all p os (xs ++ ys) ≡ take_all (take_all p os xs).0 (take_all p os xs).1 ys
take_append [] ys p os = refl
take_append (x ∷ xs) ys p os = take_append xs ys (take p os x).0 (take p os x).1

onward : (xs ys : List What) (p q : Part) (os ns : List Part) (r : Reading) → take_all p os xs ≡ (q, ns) → take_all q ns ys ≡ r → take_all p os (xs ++ ys) ≡ r
onward xs ys p q os ns r h k = take_append xs ys p os ∙ (ap (λ (r : Reading). take_all r.0 r.1 ys) h ∙ k)

single_found : (w : Single) (p : Part) (os : List Part) → take_all p os (lexeme w ∷ []) ≡ (put_value p (single w), os)
single_found (word text) p os = refl
single_found (prefix text) p os = refl
single_found (quoted text) p os = refl
single_found star p os = refl
single_found (range low from to high) p os = refl

conjunction_found : (j : Option Conjunction) (q : QueryForm) (os : List Part) → take_all (bare (some q None)) os (conjunction j) ≡ (bare (some q j), os)
conjunction_found None q os = refl
conjunction_found (Some (both behind)) q os = refl
conjunction_found (Some (either behind)) q os = refl

modifier_found : (m : Option Modifier) (p : Past) (os : List Part) → take_all (bare p) os (modifier m) ≡ (part p m None, os)
modifier_found None p os = refl
modifier_found (Some (sign prohibits)) p os = refl
modifier_found (Some (negation behind)) p os = refl

field_found : (f : Option FieldForm) (p : Past) (m : Option Modifier) (os : List Part) → take_all (part p m None) os (field f) ≡ (part p m f, os)
field_found None p m os = refl
field_found (Some (name text colon)) p m os = refl
field_found (Some (any colon other)) p m os = refl

mutual
  unfolding query_leaves

  query_found : (q : QueryForm) (os : List Part) → take_all (bare nothing) os (query_leaves q) ≡ (bare (some q None), os)
  query_found (first c) os = clause_found c nothing os
  query_found (next q j c) os =
      onward (query_leaves q) (conjunction j ++ clause_leaves c) (bare nothing) (bare (some q None)) os os _ (query_found q os)
      (onward (conjunction j) (clause_leaves c) (bare (some q None)) (bare (some q j)) os os _ (conjunction_found j q os) (clause_found c (some q j) os))

  clause_found : (c : ClauseForm) (p : Past) (os : List Part) → take_all (bare p) os (clause_leaves c) ≡ (bare (some (with_clause p c) None), os)
  clause_found (clause m b) p os =
      onward (modifier m) (body_leaves b) (bare p) (part p m None) os os _ (modifier_found m p os) (body_found b p m os)

  body_found : (b : BodyForm) (p : Past) (m : Option Modifier) (os : List Part)
      → take_all (part p m None) os (body_leaves b) ≡ (bare (some (with_clause p (clause m b)) None), os)
  body_found (body f v) p m os =
      onward (field f) (value_leaves v) (part p m None) (part p m f) os os _ (field_found f p m os) (value_found v (part p m f) os)

  value_found : (v : ValueForm) (p : Part) (os : List Part) → take_all p os (value_leaves v) ≡ (put_value p v, os)
  value_found (single w) p os = single_found w p os
  value_found (group q) p os =
      onward (query_leaves q) (what.Closing ∷ []) (bare nothing) (bare (some q None)) (p ∷ os) (p ∷ os) _ (query_found q (p ∷ os)) refl

abbrev text_of : Past → TextForm
text_of nothing = blank
text_of (some q j) = query q

found : (t : TextForm) → text_of (take_all (bare nothing) [] (leaves t)).0.past ≡ t
found blank = refl
found (query q) =
    ap (λ (r : Reading). text_of r.0.past)
    (onward (query_leaves q) (what.Finish ∷ []) (bare nothing) (bare (some q None)) [] [] _ (query_found q []) refl)

pub one_tree : OneTree
one_tree t u h = sym (found t) ∙ (ap (λ (ws : List What). text_of (take_all (bare nothing) [] ws).0.past) h ∙ found u)
