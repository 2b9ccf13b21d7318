-- What contracts say of a new table, and what stands while its passes are dealt.
use Rattle.std.specs.Prelude.{◌≡◌, ℕ, ◌+◌, List, [], length, slice_get, Some, None}
use Rattle.searcher_table.specs.declared.pass.Pass.{Pass}
use Rattle.searcher_table.specs.declared.registrar.Registrar.{Registrar}
use Rattle.searcher_table.specs.Passes as pass
use Rattle.searcher_table.specs.Registrars.{table_of, plan_of, seen_of, IsSameRegistrar}

module _ {D U W X L : Type 0} where
  -- the setting that the registrar's table was made with
  abbrev pub setting_of : Registrar D U W X L → W
  setting_of r = (plan_of r).setting.value

  -- the registrar's table was made with these numbers
  pub record IsFor (count warming first most : ℕ) (r : Registrar D U W X L) : Type 0 where
    pub callers : (plan_of r).callers ≡ count
    pub max_warming : (plan_of r).max_warming ≡ warming
    pub first_generation : (plan_of r).first_generation ≡ first
    pub budget : (plan_of r).budget ≡ most

  -- the registrar has seen nothing yet
  abbrev pub IsOpening : Registrar D U W X L → Type 0
  IsOpening r = seen_of r ≡ []

  -- the first caller with no pass yet
  abbrev pub next_of : Registrar D U W X L → ℕ
  next_of r = r.place.me.0.next

  -- the pass of a caller at the registrar's table, which has seen, made and announced nothing yet
  pub record IsNewPass (r : Registrar D U W X L) (c : ℕ) (t : Pass D U W X L) : Type 0 where
    pub table : pass.table_of t ≡ table_of r
    pub plan : pass.plan_of t ≡ plan_of r
    pub caller : t.caller ≡ c
    pub seen : pass.seen_of t ≡ []
    pub mine : pass.mine_of t ≡ []
    pub announced : pass.announced_of t ≡ None
    pub steps : pass.steps_of t ≡ 0

  -- each pass is that of the caller whose number is one more than its index
  abbrev pub AreDealt : Registrar D U W X L → List (Pass D U W X L) → Type 0
  AreDealt r passes = (i : ℕ) (t : Pass D U W X L) → slice_get passes i ≡ Some t → IsNewPass r (i + 1) t

  -- the same, while the registrar has seen nothing yet
  pub record ArePassesOf (r : Registrar D U W X L) (passes : List (Pass D U W X L)) : Type 0 where
    pub dealt : AreDealt r passes
    pub opening : IsOpening r

  -- so many passes are dealt that this caller is next
  abbrev pub IsNext : Registrar D U W X L → List (Pass D U W X L) → ℕ → Type 0
  IsNext r passes c = (next_of r ≡ c) × (c ≡ length passes + 1)

  -- one more pass was dealt
  pub record HasDealt (s t : Registrar D U W X L) : Type 0 where
    pub registrar : IsSameRegistrar s t
    pub seen : seen_of t ≡ seen_of s
    pub next : next_of t ≡ next_of s + 1
