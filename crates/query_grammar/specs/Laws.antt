-- Laws of reading, by the forms. A list of lexemes stands for what they are.
use Rattle.std.specs.Prelude.{ℕ, ◌≡◌, ◌↔◌, ◌⊎◌, List, [], ◌∷◌, ◌++◌, false, Option, Ok, Err}
use Rattle.std.specs.List.{list_any}
use Rattle.std.specs.Result.{IsOk}
use Rattle.query_tree.specs.declared.query.Query.{Query}
use Rattle.query_lexemes.specs.declared.fault.QueryFault.{QueryFault}
use Rattle.query_lexemes.specs.declared.letter.Letter.{Letter}
use Rattle.query_lexemes.specs.declared.lexeme.What.{What}
use Rattle.query_lexemes.specs.declared.lexeme.What.TheVariants as what
use Rattle.query_text.specs.declared.reader.Parsed.{Parsed}
use Rattle.query_text.specs.Levels.{top}
use Rattle.query_text.specs.Reads.{Setting, is_finish, query_of, reading}
use Rattle.query_grammar.specs.Forms.{TextForm, leaves, AreOfForms}
use Rattle.query_grammar.specs.Fitting.{stands, AllStand, behind_all, HasFirstFault}
use Rattle.query_grammar.specs.Texts.{lexemes_of, whats, AreOfQuery, LettersMean, IsOfQuery, TextMeans, TellsFirst}

-- lexemes can stand from the beginning to the end of a text exactly where they are those of a tree
abbrev pub StandingIsForms : Setting → Option ℕ → Type 0
StandingIsForms s df = (ws : List What)
    → AllStand s (top df) [] (ws ++ what.Finish ∷ []) ↔ AreOfForms (ws ++ what.Finish ∷ [])

-- no two trees have the same leaves
abbrev pub OneTree : Type 0
OneTree = (t u : TextForm) → leaves t ≡ leaves u → t ≡ u

-- lexemes that can stand from the beginning of a text go on to those of a tree
abbrev pub StandingGoesOn : Setting → Option ℕ → Type 0
StandingGoesOn s df = (ws : List What) → AllStand s (top df) [] ws → list_any is_finish ws ≡ false
    → (rest : List What) × AreOfForms (ws ++ (rest ++ what.Finish ∷ []))

-- with a lexeme that can't stand behind them they don't
abbrev pub NothingGoesOn : Setting → Option ℕ → Type 0
NothingGoesOn s df = (ws rest : List What) (w : What)
    → stands (behind_all s (top df) [] ws).0 (behind_all s (top df) [] ws).1 w ≡ false
    → AreOfForms (ws ++ w ∷ rest) → ⊥

-- lexemes of a whole text are those of a tree, or one is the first that can't stand
abbrev pub FormsOrFault : Setting → Option ℕ → Type 0
FormsOrFault s df = (ws : List What) → list_any is_finish ws ≡ false
    → AreOfForms (ws ++ what.Finish ∷ []) ⊎ HasFirstFault s (top df) [] (ws ++ what.Finish ∷ [])

-- the lexemes of letters come to the end of the text, once
abbrev pub LexemesEnd : Type 0
LexemesEnd = (end : ℕ) (ls : List Letter)
    → (ws : List What) × (list_any is_finish ws ≡ false) × (whats (lexemes_of end ls) ≡ ws ++ what.Finish ∷ [])

-- letters read exactly where they are of the forms, and each lexeme is right
abbrev pub LettersRead : Setting → ℕ → Option ℕ → Type 0
LettersRead s most df = (end : ℕ) (ls : List Letter)
    → IsOk (query_of s most df end ls) ↔ AreOfQuery s most df end ls

-- a text reads exactly where its query does
abbrev pub TextsRead : Setting → ℕ → Option ℕ → Type 0
TextsRead s most df = (text : List ℕ) → IsOk (reading s.fields df s.op most text) ↔ IsOfQuery s most df text

-- letters read to a query exactly where a right tree whose leaves they are means it
abbrev pub LettersReadTo : Setting → ℕ → Option ℕ → Type 0
LettersReadTo s most df = (end : ℕ) (ls : List Letter) (q : Query)
    → query_of s most df end ls ≡ Ok q ↔ LettersMean s most df end ls q

-- a text reads to what its letters mean, with what its local parameters say
abbrev pub TextsReadTo : Setting → ℕ → Option ℕ → Type 0
TextsReadTo s most df = (text : List ℕ) (read : Parsed)
    → reading s.fields df s.op most text ≡ Ok read ↔ TextMeans s most df text read

-- letters that don't read have a first lexeme that tells a fault, and the lexemes before it can stand
abbrev pub LettersRefused : Setting → ℕ → Option ℕ → Type 0
LettersRefused s most df = (end : ℕ) (ls : List Letter) (f : QueryFault)
    → query_of s most df end ls ≡ Err f → TellsFirst s most (top df) [] (lexemes_of end ls) f
