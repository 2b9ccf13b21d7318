-- What lexemes are: each but the last takes a letter, a flaw is wrong, behind an operator without a place of its own
-- stands a lexeme that is wrong, and `*:` tells of the one behind it.
use Rattle.std.proofs.Common.{◌≡◌, ◌+◌, ◌≤◌, ◌<◌, ◌∷◌, [], ℕ, zero, suc, List, Bool, true, false, not, cond, Option, None, Some, Result, Ok, Err, length, refl, sym, subst, ◌∙◌, arith, ⊎_elim, length-drop}
use Rattle.std.specs.Prelude.{◌||◌, ◌==◌, is_some, if◌then◌else◌}
use Rattle.std.specs.Option.{option_map_or}
use Rattle.std.specs.List.{prefix_len}
use Rattle.std.proofs.lemmas.Bool.{and_parts, and_left, or_cases, true≢false, false≢true, not-true, eqb-true}
use Rattle.query_lexemes.specs.declared.letter.Letter.{Letter}
use Rattle.query_lexemes.specs.declared.fault.QueryFault.{QueryFault}
use Rattle.query_lexemes.specs.declared.fault.QueryFault.TheVariants as fault
use Rattle.query_lexemes.specs.declared.lexeme.Lexeme.{Lexeme}
use Rattle.query_lexemes.specs.declared.lexeme.What.{What}
use Rattle.query_lexemes.specs.declared.lexeme.What.TheVariants as what
use Rattle.query_lexemes.specs.declared.lexeme.Operator.{Operator}
use Rattle.query_lexemes.specs.declared.lexeme.Bound.{Bound}
use Rattle.query_lexemes.specs.Letters.{stands, is_blank, goes_on, begins_word, is_unsupported, is_lone, belongs, run, past, skip, at_front, text_of}
use Rattle.query_lexemes.specs.Lexemes.{right, wrong, begins_other, place, tail, operator_of, is_filter, behind, prefix, plain_word, word, star, quoted, quoted_bound, run_bound, bound, between, range_close, range_to, range_between, range_from, range, special, lexeme, lexemes}
use Rattle.query_lexemes.proofs.LexemeTexts.{Holds, NextWrong, Follows}
use Rattle.query_text.specs.Reads.{is_finish}
use Rattle.query_grammar.proofs.Stars.{Tells, begins_tells}

abbrev DomainOf : {A B : Type 0} → (A → B) → Type 0
DomainOf {A} f = A

-- what runs of letters are made of
abbrev Class : Type 0
Class = DomainOf belongs

either : {A : Type 0} (P : A → Type 0) (b : Bool) (x y : A) → (b ≡ true → Holds P x) → (b ≡ false → Holds P y) → Holds P (if b then x else y)
either P true x y f g = f refl
either P false x y f g = g refl

-- ---- what is left of letters

past_short : (k : Class) (n : ℕ) (ls : List Letter) → length ls ≤ n → length (past k ls) ≤ n
unfolding past
past_short k n ls h = omega (arith, length-drop (prefix_len (belongs k) ls) ls)

tail_short : (n : ℕ) (ls : List Letter) → length ls ≤ n → length (tail ls) ≤ n
tail_short n [] h = h
tail_short n (l ∷ ls) h = omega arith

skip_short : (n : ℕ) (ls : List Letter) → length ls ≤ n → length (skip ls) ≤ n
skip_short n ls h = past_short _ n ls h

-- ---- what is said of a lexeme

abbrev Lacks : Option ℕ → List Letter → Type 0
Lacks None rest = at_front is_unsupported rest ≡ true
Lacks (Some at) rest = Unit {0}

-- what stands behind an operator without a place behind it, and behind `*:`
abbrev Ahead : What → List Letter → Type 0
Ahead (what.Operator o behind) rest = Lacks behind rest
Ahead (what.Any colon other) rest = other ≡ begins_other (skip rest)
Ahead w rest = Unit {0}

-- what goes wrong is wrong
abbrev pub Sound : What → Option QueryFault → Type 0
Sound (what.Begun from to) o = is_some o ≡ true
Sound what.Half o = is_some o ≡ true
Sound what.Flaw o = is_some o ≡ true
Sound w o = Unit {0}

-- with at most n letters behind it
abbrev Fit : ℕ → Lexeme × List Letter → Type 0
Fit n p = (length p.1 ≤ n) × Ahead p.0.what p.1 × Sound p.0.what p.0.wrong

abbrev IsBoundFit : ℕ → Result (Bound × List Letter) ℕ → Type 0
IsBoundFit n (Ok b) = length b.1 ≤ n
IsBoundFit n (Err p) = Unit {0}

abbrev IsRestFit : ℕ → Result (List Letter) ℕ → Type 0
IsRestFit n (Ok ls) = length ls ≤ n
IsRestFit n (Err p) = Unit {0}

-- ---- ranges

module _ (end n : ℕ) where
  between_quotes : (k : Class) (at : ℕ) (ls : List Letter) → length ls ≤ n → Holds (IsBoundFit n)
      (if at_front (stands 34) (past k ls) then Ok (record { at = at; text = Some (text_of (run k ls)) }, tail (past k ls)) else Err end)
  between_quotes k at ls h =
      either (IsBoundFit n) (at_front (stands 34) (past k ls)) _ _ (λ e. record { it = tail_short n (past k ls) (past_short k n ls h) }) (λ e. record { it = tt })

  quoted_bound_fit : (at : ℕ) (ls : List Letter) → length ls ≤ n → Holds (IsBoundFit n) (quoted_bound end at ls)
  unfolding quoted_bound
  quoted_bound_fit at ls h = between_quotes _ at ls h

  run_bound_fit : (at : ℕ) (w rest : List Letter) → length rest ≤ n → Holds (IsBoundFit n) (run_bound end at w rest)
  unfolding run_bound
  run_bound_fit at w rest h =
      either (IsBoundFit n) (at_front is_lone rest) _ _ (λ e. record { it = tt })
      (λ e. either (IsBoundFit n) (length w == 0) _ _ (λ e. record { it = tt }) (λ e. record { it = h }))

  bound_fit : (ls : List Letter) → length ls ≤ n → Holds (IsBoundFit n) (bound end ls)
  unfolding bound
  bound_fit ls h =
      either (IsBoundFit n) (at_front (stands 34) ls) _ _ (λ e. quoted_bound_fit (place end ls) (tail ls) (tail_short n ls h))
      (λ e. run_bound_fit (place end ls) _ _ (past_short _ n ls h))

  between_fit : (ls : List Letter) → length ls ≤ n → Holds (IsRestFit n) (between end ls)
  unfolding between
  between_fit ls h =
      either (IsRestFit n) (not (at_front is_blank ls)) _ _ (λ e. record { it = tt })
      (λ e. either (IsRestFit n) (not (at_front (stands 84) (skip ls))) _ _ (λ e. record { it = tt })
      (λ e. either (IsRestFit n) (not (at_front (stands 79) (tail (skip ls)))) _ _ (λ e. record { it = tt })
      (λ e. either (IsRestFit n) (not (at_front is_blank (tail (tail (skip ls))))) _ _ (λ e. record { it = tt })
      (λ e. record { it = skip_short n (tail (tail (skip ls))) (tail_short n (tail (skip ls)) (tail_short n (skip ls) (skip_short n ls h))) }))))

  close_fit : (at : ℕ) (low : Bool) (from to : Bound) (ls : List Letter) → length ls ≤ n → Holds (Fit n) (range_close end at low from to ls)
  unfolding range_close
  close_fit at low from to ls h =
      either (Fit n) (at_front (stands 93) ls || at_front (stands 125) ls) _ _ (λ e. record { it = (tail_short n ls h, tt, tt) }) (λ e. record { it = (omega arith, tt, refl) })

  to_fit : (at : ℕ) (low : Bool) (from : Bound) (r : Result (Bound × List Letter) ℕ) → IsBoundFit n r → Holds (Fit n) (range_to end at low from r)
  unfolding range_to
  to_fit at low from (Err p) h = record { it = (omega arith, tt, refl) }
  to_fit at low from (Ok to) h = close_fit at low from to.0 (skip to.1) (skip_short n to.1 h)

  middle_fit : (at : ℕ) (low : Bool) (from : Bound) (r : Result (List Letter) ℕ) → IsRestFit n r → Holds (Fit n) (range_between end at low from r)
  unfolding range_between
  middle_fit at low from (Err p) h = record { it = (omega arith, tt, refl) }
  middle_fit at low from (Ok rest) h = to_fit at low from (bound end rest) (bound_fit rest h).it

  from_fit : (at : ℕ) (low : Bool) (r : Result (Bound × List Letter) ℕ) → IsBoundFit n r → Holds (Fit n) (range_from end at low r)
  unfolding range_from
  from_fit at low (Err p) h = record { it = (omega arith, tt, refl) }
  from_fit at low (Ok from) h = middle_fit at low from.0 (between end from.1) (between_fit from.1 h).it

  range_fit : (at : ℕ) (low : Bool) (ls : List Letter) → length ls ≤ n → Holds (Fit n) (range end at low ls)
  unfolding range
  range_fit at low ls h = from_fit at low (bound end (skip ls)) (bound_fit (skip ls) (skip_short n ls h)).it

  -- ---- quoted texts and `*`

  in_quotes : (k : Class) (at : ℕ) (ls : List Letter) → length ls ≤ n → Holds (Fit n)
      (if at_front (stands 34) (past k ls) then (right at (what.Quoted (text_of (run k ls))), tail (past k ls))
      else (wrong at (what.Begun None None) (fault.Syntax end), []))
  in_quotes k at ls h =
      either (Fit n) (at_front (stands 34) (past k ls)) _ _ (λ e. record { it = (tail_short n (past k ls) (past_short k n ls h), tt, tt) })
      (λ e. record { it = (omega arith, tt, refl) })

  quoted_fit : (at : ℕ) (ls : List Letter) → length ls ≤ n → Holds (Fit n) (quoted end at ls)
  unfolding quoted
  quoted_fit at ls h = in_quotes _ at ls h

  star_fit : (at : ℕ) (ls : List Letter) → length ls ≤ n → Holds (Fit n) (star end at ls)
  unfolding star
  star_fit at ls h =
      either (Fit n) (at_front (stands 58) (skip ls)) _ _ (λ e. record { it = (tail_short n (skip ls) (skip_short n ls h), refl, tt) }) (λ e. record { it = (h, tt, tt) })

  -- ---- words

  lacks : (b : Bool) (p : ℕ) (l : Letter) (ls : List Letter) → is_unsupported l ≡ b → Lacks (cond b None (Some p)) (l ∷ ls)
  lacks true p l ls e = e
  lacks false p l ls e = tt

  behind_lacks : (rest : List Letter) → Lacks (behind end rest) rest
  behind_lacks [] = tt
  behind_lacks (l ∷ ls) = lacks (is_unsupported l) l.odd l ls refl

  plain_fit : (at : ℕ) (w rest : List Letter) → length rest ≤ n → Holds (Fit n) (plain_word end at w rest)
  unfolding plain_word prefix
  plain_fit at w rest h =
      either (Fit n) (at_front (stands 42) rest) _ _ (λ e. record { it = (tail_short n rest h, tt, tt) })
      (λ e. either (Fit n) (at_front (stands 58) (skip rest)) _ _ (λ e. record { it = (tail_short n (skip rest) (skip_short n rest h), tt, tt) })
      (λ e. either (Fit n) (is_filter w rest) _ _ (λ e. record { it = (h, tt, refl) }) (λ e. record { it = (h, tt, tt) })))

  named_fit : (at : ℕ) (rest : List Letter) (o : Option Operator) (d : Lexeme × List Letter) → length rest ≤ n → Holds (Fit n) d
      → Holds (Fit n) (option_map_or (λ p. (right at (what.Operator p (behind end rest)), rest)) o d)
  named_fit at rest None d k h = h
  named_fit at rest (Some p) d k h = record { it = (k, behind_lacks rest, tt) }

  word_fit : (at : ℕ) (w rest : List Letter) → (at_front is_lone rest ≡ false → length rest ≤ n) → Holds (Fit n) (word end at w rest)
  unfolding word
  word_fit at w rest h =
      either (Fit n) (at_front is_lone rest) _ _ (λ e. record { it = (omega arith, tt, refl) }) (λ e. named_fit at rest (operator_of w) (plain_word end at w rest) (h e) (plain_fit at w rest (h e)))

  special_fit : (l : Letter) (ls : List Letter) → length ls ≤ n → Holds (Fit n) (special end l ls)
  unfolding special
  special_fit l ls h =
      either (Fit n) (l.code == 43) _ _ (λ e. record { it = (h, tt, tt) })
      (λ e. either (Fit n) (l.code == 45 || l.code == 33) _ _ (λ e. record { it = (h, tt, tt) })
      (λ e. either (Fit n) (l.code == 40) _ _ (λ e. record { it = (h, tt, tt) })
      (λ e. either (Fit n) (l.code == 41) _ _ (λ e. record { it = (h, tt, tt) })
      (λ e. either (Fit n) (l.code == 34) _ _ (λ e. quoted_fit l.at ls h)
      (λ e. either (Fit n) (l.code == 91) _ _ (λ e. range_fit l.at true ls h)
      (λ e. either (Fit n) (l.code == 123) _ _ (λ e. range_fit l.at false ls h)
      (λ e. either (Fit n) (l.code == 42) _ _ (λ e. star_fit l.at ls h) (λ e. record { it = (h, tt, refl) }))))))))

-- ---- the whole

goes_short : (k : Class) (b : Bool) (l : Letter) (ls : List Letter) → belongs k l ≡ b → (belongs k l ≡ false → begins_word l ≡ false)
    → (begins_word l || is_lone l) ≡ true → at_front is_lone (past k (l ∷ ls)) ≡ false → length (past k (l ∷ ls)) ≤ length ls
unfolding past
goes_short k true l ls e w h n = rw e (omega (arith, length-drop (1 + prefix_len (belongs k) ls) (l ∷ ls)))
goes_short k false l ls e w h n =
    let a : is_lone l ≡ true = rw (w e) at h in
    let b : is_lone l ≡ false = rw e at n in
    absurd (true≢false (sym a ∙ b))

-- a lexeme takes a letter
lexeme_fit : (end : ℕ) (l : Letter) (ls : List Letter) → Holds (Fit (length ls)) (lexeme end (l ∷ ls))
unfolding lexeme
lexeme_fit end l ls =
    either (Fit (length ls)) (begins_word l || is_lone l) _ _
    (λ e. word_fit end (length ls) l.at _ _ (goes_short _ (goes_on l) l ls refl (λ f. and_left _ _ f) e))
    (λ e. special_fit end (length ls) l ls (omega arith))

wrong_at : (end : ℕ) (l : Letter) (ls : List Letter) (k : ℕ) → l.code ≡ k → l.escaped ≡ false
    → is_some ((lexeme end (skip (record { at = l.at; odd = l.odd; code = k; escaped = false } ∷ ls))).0).wrong ≡ true
    → is_some ((lexeme end (skip (l ∷ ls))).0).wrong ≡ true
wrong_at end l ls k c e =
    subst (λ (x : Letter). is_some ((lexeme end (skip (x ∷ ls))).0).wrong ≡ true) (λ i. record { at = l.at; odd = l.odd; code = sym c i; escaped = sym e i })

flaw_wrong : (end : ℕ) (l : Letter) (ls : List Letter) → is_unsupported l ≡ true → is_some ((lexeme end (skip (l ∷ ls))).0).wrong ≡ true
unfolding lexeme special past
flaw_wrong end l ls h =
    let p : (not l.escaped ≡ true) × ((l.code == 94 || l.code == 126 || l.code == 63 || l.code == 47) ≡ true) = and_parts _ _ h in
    let e : l.escaped ≡ false = not-true l.escaped p.0 in
    ⊎_elim
    (λ a. ⊎_elim
    (λ b. ⊎_elim (λ c. wrong_at end l ls 94 (eqb-true _ _ c) e refl) (λ c. wrong_at end l ls 126 (eqb-true _ _ c) e refl) (or_cases (l.code == 94) (l.code == 126) b))
    (λ c. wrong_at end l ls 63 (eqb-true _ _ c) e refl) (or_cases (l.code == 94 || l.code == 126) (l.code == 63) a))
    (λ c. wrong_at end l ls 47 (eqb-true _ _ c) e refl) (or_cases (l.code == 94 || l.code == 126 || l.code == 63) (l.code == 47) p.1)

next_wrong : (end : ℕ) (rest : List Letter) → at_front is_unsupported rest ≡ true → is_some ((lexeme end (skip rest)).0).wrong ≡ true
next_wrong end [] h = absurd (false≢true h)
next_wrong end (l ∷ ls) h = flaw_wrong end l ls h

-- ---- several lexemes

-- the first of them, where there is one
abbrev pub FirstTells : Bool → List Lexeme → Type 0
FirstTells b [] = Unit {0}
FirstTells b (x ∷ xs) = Tells b x.what

-- `*:` tells of the lexeme behind it
abbrev pub AnyTells : What → List Lexeme → Type 0
AnyTells (what.Any colon other) xs = FirstTells other xs
AnyTells w xs = Unit {0}

-- they come to the end of the text, and each is as it is
abbrev pub Ended : List Lexeme → Type 0
Ended [] = ⊥
Ended (x ∷ xs) = Sound x.what x.wrong × Follows x.what xs × AnyTells x.what xs × (is_finish x.what ≡ false → Ended xs)

front_wrong : (n end : ℕ) (rest : List Letter) → at_front is_unsupported rest ≡ true → NextWrong (lexemes n end rest)
unfolding lexemes
front_wrong zero end rest h = tt
front_wrong (suc n) end rest h = next_wrong end rest h

follows : (n end : ℕ) (w : What) (rest : List Letter) → Ahead w rest → Follows w (lexemes n end rest)
follows n end (what.Operator o None) rest h = front_wrong n end rest h
follows n end (what.Operator o (Some p)) rest h = tt
follows n end w rest h = tt

first_tells : (n end : ℕ) (b : Bool) (rest : List Letter) → b ≡ begins_other (skip rest) → FirstTells b (lexemes n end rest)
unfolding lexemes
first_tells zero end b rest h = tt
first_tells (suc n) end b rest h = subst (λ (c : Bool). Tells c ((lexeme end (skip rest)).0).what) (sym h) (begins_tells end (skip rest))

any_tells : (n end : ℕ) (w : What) (rest : List Letter) → Ahead w rest → AnyTells w (lexemes n end rest)
any_tells n end (what.Any colon other) rest h = first_tells n end other rest h
any_tells n end w rest h = tt

module _ (n end : ℕ) (more : (rest : List Letter) → length rest < n → Ended (lexemes n end rest)) where
  end_at : (ls : List Letter) → length ls < suc n → Ended ((lexeme end ls).0 ∷ lexemes n end (lexeme end ls).1)
  unfolding lexeme
  end_at [] k = (tt, tt, tt, λ e. absurd (true≢false e))
  end_at (l ∷ ls) k =
      let f : Fit (length ls) (lexeme end (l ∷ ls)) = (lexeme_fit end l ls).it in (
        f.2,
        follows n end ((lexeme end (l ∷ ls)).0).what (lexeme end (l ∷ ls)).1 f.1,
        any_tells n end ((lexeme end (l ∷ ls)).0).what (lexeme end (l ∷ ls)).1 f.1,
        λ e. more (lexeme end (l ∷ ls)).1 (omega (arith, f.0)),
      )

pub lexemes_end : (n end : ℕ) (ls : List Letter) → length ls < n → Ended (lexemes n end ls)
unfolding lexemes
lexemes_end zero end ls h = absurd (omega arith)
lexemes_end (suc n) end ls h = end_at n end (λ rest k. lexemes_end n end rest k) (skip ls) (omega (arith, skip_short (length ls) ls (omega arith)))
