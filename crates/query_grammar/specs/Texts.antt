-- Which texts read, by the forms.
use Rattle.std.specs.Prelude.{ℕ, ◌≡◌, ◌+◌, List, [], ◌∷◌, ◌++◌, length, map, true, false, if◌then◌else◌, Option, Some, None}
use Rattle.std.specs.List.{AllByRecursion, list_any}
use Rattle.std.specs.Option.{option_map_or}
use Rattle.std.specs.Result.{result_ok}
use Rattle.field_schema.specs.declared.field.Field.{Field}
use Rattle.query_tree.specs.declared.query.Query.{Query}
use Rattle.query_lexemes.specs.declared.fault.QueryFault.{QueryFault}
use Rattle.query_lexemes.specs.declared.letter.Letter.{Letter}
use Rattle.query_lexemes.specs.declared.local.Local.{Local}
use Rattle.query_lexemes.specs.declared.lexeme.Lexeme.{Lexeme}
use Rattle.query_lexemes.specs.declared.lexeme.What.{What}
use Rattle.query_lexemes.specs.Letters.{letters as letters_of}
use Rattle.query_lexemes.specs.Lexemes.{lexemes}
use Rattle.query_lexemes.specs.Local.{local, behind_mark}
use Rattle.query_text.specs.declared.reader.Parsed.{Parsed}
use Rattle.query_text.specs.Levels.{top}
use Rattle.query_text.specs.Readings.{kind_for, words_of}
use Rattle.query_text.specs.Faults.{least, told, unknown_field, bad_number, bad_bound, from_of, to_of, unsupported, too_deep, too_many}
use Rattle.query_text.specs.Reads.{Setting, no_local, after, is_finish}
use Rattle.query_grammar.specs.Forms.{TextForm, leaves as leaves_of, AreOfForms}
use Rattle.query_grammar.specs.Fitting.{Level, behind_all, AllButOperatorStand}
use Rattle.query_grammar.specs.Meaning.{meaning}
use Rattle.query_grammar.specs.Right.{text_right}

-- the first lexemes, up to the end of the text
unfoldable pub up_to_finish : List Lexeme → List Lexeme
up_to_finish [] = []
up_to_finish (x ∷ xs) = x ∷ (if is_finish x.what then [] else up_to_finish xs)

-- the lexemes of the letters of a text that ends at a place
unfoldable pub lexemes_of : ℕ → List Letter → List Lexeme
lexemes_of end ls = up_to_finish (lexemes (length ls + 1) end ls)

-- what they are
abbrev pub whats : List Lexeme → List What
whats xs = map (λ x. x.what) xs

-- a lexeme tells no fault but that it can't stand where it stands
pub record IsRight (fields : List Field) (most : ℕ) (l : Level) (os : List Level) (x : Lexeme)
    : Type 0 where
  pub itself : x.wrong ≡ None
  pub field : unknown_field fields l x.at x.what ≡ None
  pub number : bad_number (kind_for fields l) l x.at x.what ≡ None
  pub low : bad_bound (kind_for fields l) (from_of x.what) ≡ None
  pub high : bad_bound (kind_for fields l) (to_of x.what) ≡ None
  pub supported : unsupported (kind_for fields l) x.at x.what ≡ None
  pub depth : too_deep l os x.at x.what (words_of fields l x.what) ≡ None
  pub clauses : too_many most l x.at x.what (words_of fields l x.what) ≡ None

-- each of them does so where it stands
abbrev pub AllRight : Setting → ℕ → Level → List Level → List Lexeme → Type 0
AllRight s most l os [] = Unit {0}
AllRight s most l os (x ∷ xs) =
    IsRight s.fields most l os x × AllRight s most (after s l os x.what).0 (after s l os x.what).1 xs

-- the lexemes of the letters are those of a tree of the forms, and each is right
pub record AreOfQuery (s : Setting) (most : ℕ) (df : Option ℕ) (end : ℕ) (ls : List Letter)
    : Type 0 where
  pub forms : AreOfForms (whats (lexemes_of end ls))
  pub right : AllRight s most (top df) [] (lexemes_of end ls)

-- the lexemes are those of a right tree, which means the query, and nothing is wrong with them by themselves
pub record LettersMean (s : Setting) (most : ℕ) (df : Option ℕ) (end : ℕ) (ls : List Letter) (q : Query)
    : Type 0 where
  pub tree : TextForm
  pub leaves : leaves_of tree ≡ whats (lexemes_of end ls)
  pub itself : AllByRecursion (λ x. x.wrong ≡ None) (lexemes_of end ls)
  pub right : text_right s.fields most df tree ≡ true
  pub means : q ≡ meaning s df tree

-- local parameters and the letters of the query behind them, or none and all letters; nothing where
-- they have a fault
abbrev pub query_letters : ℕ → List Letter → Option (Local × List Letter)
query_letters end ls =
    option_map_or (λ params. result_ok (local end params)) (behind_mark ls) (Some (no_local, ls))

-- a text whose query is of the forms, and right
pub record IsOfQuery (s : Setting) (most : ℕ) (df : Option ℕ) (text : List ℕ) : Type 0 where
  pub params : Local
  pub letters : List Letter
  pub behind : query_letters (length text) (letters_of text) ≡ Some (params, letters)
  pub query : AreOfQuery s most df (length text) letters

-- what is read of a text: what its letters mean, and what its local parameters say
pub record TextMeans (s : Setting) (most : ℕ) (df : Option ℕ) (text : List ℕ) (read : Parsed)
    : Type 0 where
  pub params : Local
  pub letters : List Letter
  pub behind : query_letters (length text) (letters_of text) ≡ Some (params, letters)
  pub query : LettersMean s most df (length text) letters read.query
  pub cached : read.cached ≡ params.cached
  pub cost : read.cost ≡ params.cost

-- a lexeme tells the fault that counts, and those before it can stand
pub record TellsFirst
    (s : Setting) (most : ℕ) (l : Level) (os : List Level) (xs : List Lexeme) (f : QueryFault) : Type 0 where
  pub front : List Lexeme
  pub first : Lexeme
  pub rest : List Lexeme
  pub are : xs ≡ front ++ first ∷ rest
  pub goes_on : list_any is_finish (whats front) ≡ false
  pub stand : AllButOperatorStand s l os (whats front)
  pub tells :
      least (told s.fields most (behind_all s l os (whats front)).0 (behind_all s l os (whats front)).1 first)
      ≡ Some f
