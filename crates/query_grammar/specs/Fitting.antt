-- Where a lexeme can stand, behind those before it.
use Rattle.std.specs.Prelude.{◌≡◌, ◌⊎◌, List, [], ◌∷◌, ◌++◌, length, Bool, true, false, not, ◌&&◌, ◌==◌, None}
use Rattle.std.specs.List.{list_any}
use Rattle.query_lexemes.specs.declared.lexeme.What.{What}
use Rattle.query_lexemes.specs.declared.lexeme.What.TheVariants as what
use Rattle.query_lexemes.specs.declared.lexeme.Operator.{Operator}
use Rattle.query_text.specs.Levels.{top, is_here, begins, is_between, joins}
use Rattle.query_text.specs.Faults.{operator_fits}
use Rattle.query_text.specs.Reads.{Setting, after, is_finish}

abbrev pub TypeOf : {A : Type 0} → A → Type 0
TypeOf {A} x = A

-- what `top` gives: a query that is being read
abbrev pub Level : Type 0
Level = TypeOf (top None)

-- the lexeme can stand next in a query inside others
abbrev pub stands : Level → List Level → What → Bool
stands l os (what.Word text) = true
stands l os (what.Prefix text) = true
stands l os (what.Quoted text) = true
stands l os what.Star = true
stands l os (what.Range low from to high) = true
stands l os (what.Name text colon) = is_here l
stands l os (what.Any colon other) = is_here l
stands l os (what.Operator o behind) = operator_fits o l
stands l os (what.Sign prohibits) = begins l
stands l os what.Opening = true
stands l os what.Closing = not (length os == 0) && joins l
stands l os what.Finish = length os == 0 && is_between l
stands l os (what.Begun from to) = false
stands l os what.Half = false
stands l os what.Flaw = false

-- each of them can stand where it stands, and nothing stands behind the end of the text
abbrev pub AllStand : Setting → Level → List Level → List What → Type 0
AllStand s l os [] = Unit {0}
AllStand s l os (w ∷ ws) =
    (stands l os w ≡ true)
    × (is_finish w ≡ true → ws ≡ [])
    × AllStand s (after s l os w).0 (after s l os w).1 ws

-- the query, and those that it is inside, behind all of them
abbrev pub behind_all : Setting → Level → List Level → List What → Level × List Level
behind_all s l os [] = (l, os)
behind_all s l os (w ∷ ws) = behind_all s (after s l os w).0 (after s l os w).1 ws

-- lexemes of which one is the first that can't stand
pub record HasFirstFault (s : Setting) (l : Level) (os : List Level) (ws : List What) : Type 0 where
  pub front : List What
  pub first : What
  pub rest : List What
  pub are : ws ≡ front ++ first ∷ rest
  pub stand : AllStand s l os front
  pub goes_on : list_any is_finish front ≡ false
  pub fault : stands (behind_all s l os front).0 (behind_all s l os front).1 first ≡ false

-- all of them can stand, but perhaps for an operator at their end, behind which stands a byte with a fault
-- of its own
abbrev pub AllButOperatorStand : Setting → Level → List Level → List What → Type 0
AllButOperatorStand s l os ws =
    AllStand s l os ws
    ⊎ ((front : List What) × (o : Operator) × (ws ≡ front ++ what.Operator o None ∷ []) × AllStand s l os front)
