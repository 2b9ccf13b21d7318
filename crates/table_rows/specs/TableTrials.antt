-- What the tests say of passes at one table.
use Rattle.std.specs.Prelude.{◌≡◌, ℕ, ◌+◌, ◌≤◌, List, [], ◌∷◌, ◌++◌, length, None}
use Rattle.std.specs.List.{AllByRecursion}
use Rattle.registry_machine.specs.declared.entry.Entry.TheVariants.{Open, Update, Acquire, Release}
use Rattle.searcher_table.specs.declared.pass.Pass.{Pass}
use Rattle.searcher_table.specs.declared.registrar.Registrar.{Registrar}
use Rattle.searcher_table.specs.Passes.{mine_of, announced_of, IsSamePass}
use Rattle.searcher_table.specs.Passes as pass
use Rattle.searcher_table.specs.Making.{IsNewPass}
use Rattle.searcher_table.specs.Registrars.{table_of, plan_of, places_of, IsSameRegistrar}

module _ {D U W X L : Type 0} where
  -- the new passes of callers 1 and 2
  abbrev pub ArePair : Registrar D U W X L → Pass D U W X L → Pass D U W X L → Type 0
  ArePair r one two = IsNewPass r 1 one × IsNewPass r 2 two

  -- the pass is at the registrar's table, and nothing is announced by it
  pub record IsReady (r : Registrar D U W X L) (t : Pass D U W X L) : Type 0 where
    pub table : pass.table_of t ≡ table_of r
    pub none : announced_of t ≡ None

  -- the registrar may be asked for so many calls more
  abbrev pub HasRoom : Registrar D U W X L → ℕ → Type 0
  HasRoom r n = places_of r + n ≤ 18446744073709551615

  -- the pass has one entry more, its update, and so has the journal
  pub record HasOneMore (s t : Pass D U W X L) (r q : Registrar D U W X L) (u : U) : Type 0 where
    pub pass : IsSamePass s t
    pub registrar : IsSameRegistrar r q
    pub ready : IsReady q t
    pub places : places_of q ≡ places_of r + 1
    pub mine : mine_of t ≡ mine_of s ++ Update s.caller u ∷ []

  -- the pass has one entry more, its opening of this generation, and nothing is announced by it
  pub record HasOneOpeningMore (s t : Pass D U W X L) (u : U) (g : ℕ) : Type 0 where
    pub slot : ℕ
    pub shown : X
    pub mine : mine_of t ≡ mine_of s ++ Open s.caller u g slot shown ∷ []
    pub none : announced_of t ≡ None

  -- nothing is announced by the pass s, which is now t
  pub record HasNothingOut (s t : Pass D U W X L) : Type 0 where
    pub pass : IsSamePass s t
    pub none : announced_of t ≡ None

  -- the pass has two entries more: it acquired this generation with this ticket, and released it
  abbrev pub HasHeld : Pass D U W X L → Pass D U W X L → ℕ → ℕ → Type 0
  HasHeld s t g k = mine_of t ≡ (mine_of s ++ Acquire s.caller g k ∷ []) ++ Release s.caller g [] ∷ []

  -- a table of two callers, whose doors are made with this
  pub record IsForTwo (about : W) (r : Registrar D U W X L) : Type 0 where
    pub callers : (plan_of r).callers ≡ 2
    pub setting : (plan_of r).setting.value ≡ about

  -- a call was executed by the registrar r, which is now q
  pub record HasOneCallMore (r q : Registrar D U W X L) : Type 0 where
    pub registrar : IsSameRegistrar r q
    pub places : places_of q ≡ places_of r + 1

-- so many doors, each of which shows this
abbrev pub AreShowing : {D : Type 0} → (D → ℕ) → ℕ → ℕ → List D → Type 0
AreShowing shows n count doors = (length doors ≡ count) × AllByRecursion (λ d. shows d ≡ n) doors

-- two doors, each of which shows this
abbrev pub AreTwo : {D : Type 0} → (D → ℕ) → ℕ → List D → Type 0
AreTwo shows n doors = (length doors ≡ 2) × AllByRecursion (λ d. shows d ≡ n) doors
