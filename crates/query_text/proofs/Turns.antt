-- One turn of the reader.
use Rattle.std.proofs.Common.{◌≡◌, ℕ, ◌+◌, ◌-◌, ◌<◌, ◌≤◌, suc, Bool, true, false, List, ◌∷◌, Some, None, Ok, Err, ap, sym, arith, ◌∙◌, refl}
use Rattle.std.specs.Bool.{MatchBool, ⊤}
use Rattle.query_lexemes.specs.declared.fault.QueryFault.{QueryFault}
use Rattle.query_lexemes.specs.declared.letter.Letter.{Letter}
use Rattle.query_lexemes.specs.declared.lexeme.Lexeme.{Lexeme}
use Rattle.query_lexemes.specs.Letters.{skip}
use Rattle.query_lexemes.specs.Lexemes.{lexeme, lexemes}
use Rattle.query_text.specs.declared.level.Level.{Level}
use Rattle.query_text.specs.Clauses.{joined}
use Rattle.query_text.specs.Faults.{least, told}
use Rattle.query_text.specs.Reads.{Setting, after, is_finish, read_from}

lexemes_turn : (n i end : ℕ) (ls : List Letter) → i < n → lexemes (n - i) end ls ≡ (lexeme end (skip ls)).0 ∷ lexemes (n - (i + 1)) end (lexeme end (skip ls)).1
unfolding lexemes
lexemes_turn n i end ls more = let e : n - i ≡ suc (n - (i + 1)) = omega arith in ap (λ k. lexemes k end ls) e

read_turn : (s : Setting) (most n i end : ℕ) (l : Level) (os : List Level) (ls rest : List Letter) (x : Lexeme) → i < n → (x, rest) ≡ lexeme end (skip ls)
    → read_from s most l os (lexemes (n - i) end ls) ≡ read_from s most l os (x ∷ lexemes (n - (i + 1)) end rest)
read_turn s most n i end l os ls rest x more is =
    ap (read_from s most l os) (lexemes_turn n i end ls more ∙ ap (λ (p : Lexeme × List Letter). p.0 ∷ lexemes (n - (i + 1)) end p.1) (sym is))

-- a lexeme that tells a fault
pub turn_fault : (s : Setting) (most n i end : ℕ) (l : Level) (os : List Level) (ls rest : List Letter) (x : Lexeme) (f : QueryFault) → i < n → (x, rest) ≡ lexeme end (skip ls)
    → least (told s.fields most l os x) ≡ Some f → read_from s most l os (lexemes (n - i) end ls) ≡ Err f
unfolding read_from
turn_fault s most n i end l os ls rest x f more is tells = read_turn s most n i end l os ls rest x more is ∙ rw tells refl

-- the end of the text
pub turn_finish : (s : Setting) (most n i end : ℕ) (l : Level) (os : List Level) (ls rest : List Letter) (x : Lexeme) → i < n → (x, rest) ≡ lexeme end (skip ls)
    → least (told s.fields most l os x) ≡ None → is_finish x.what ≡ true → read_from s most l os (lexemes (n - i) end ls) ≡ Ok (joined s.op l.clauses)
unfolding read_from
turn_finish s most n i end l os ls rest x more is tells ends = read_turn s most n i end l os ls rest x more is ∙ rw (tells, ends) refl

-- another lexeme
pub turn_more : (s : Setting) (most n i end : ℕ) (l : Level) (os : List Level) (ls rest : List Letter) (x : Lexeme) → i < n → (x, rest) ≡ lexeme end (skip ls)
    → least (told s.fields most l os x) ≡ None → is_finish x.what ≡ false
    → read_from s most l os (lexemes (n - i) end ls) ≡ read_from s most (after s l os x.what).0 (after s l os x.what).1 (lexemes (n - (i + 1)) end rest)
unfolding read_from
turn_more s most n i end l os ls rest x more is tells goes = read_turn s most n i end l os ls rest x more is ∙ rw (tells, goes) refl

-- no turn is left
pub turn_none : (s : Setting) (most n i end : ℕ) (l : Level) (os : List Level) (ls : List Letter) → n ≤ i
    → read_from s most l os (lexemes (n - i) end ls) ≡ Ok (joined s.op l.clauses)
unfolding read_from lexemes
turn_none s most n i end l os ls done = let e : n - i ≡ 0 = omega arith in rw e refl

-- what is stated, where it may be wanted or not
pub stated : (b : Bool) (P : Type 0) → P → MatchBool b ⊤ P
stated true P p = tt
stated false P p = p
