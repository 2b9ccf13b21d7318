-- By which calls a seat's list goes on.
use Rattle.std.specs.Prelude.{◌≡◌, ℕ, Bool, true, false, List, [], ◌∷◌, ◌++◌, ◌&&◌, if◌then◌else◌}
use Rattle.cache_traces.specs.declared.act.Act.{Act}
use Rattle.cache_traces.specs.declared.act.Act.TheVariants.{Looked}
use Rattle.cache_traces.specs.declared.told.Told.{Told}
use Rattle.cache_traces.specs.declared.told.Told.TheVariants.{Joined}
use Rattle.cache_traces.specs.Looking.{is_joined}

-- one call more
abbrev pub GoesOnBy : {E : Type 0} → E → List E → List E → Type 0
GoesOnBy act old new = new ≡ old ++ act ∷ []

module _ {K N : Type 0} where
  -- the calls before a look-up is answered Hit or Own: it was answered Join once where it is asked again, and else not at all
  abbrev pub AskedBefore : K → ℕ → Bool → List (Act K N) → Type 0
  AskedBefore k need false acts = acts ≡ []
  AskedBefore k need true acts = (owner : ℕ) × (acts ≡ Looked k need false (Joined owner) ∷ [])

  -- a look-up, asked again after Join or not, and answered so at last
  abbrev pub AsksFor : K → ℕ → Bool → Told → List (Act K N) → List (Act K N) → Type 0
  AsksFor k need again t old new =
      (acts : List (Act K N)) × AskedBefore k need again acts × (new ≡ old ++ acts ++ Looked k need again t ∷ [])

  -- a look-up that was given up for want of memory
  abbrev pub Asked : K → ℕ → List (Act K N) → List (Act K N) → Type 0
  Asked k need old new =
      (again : Bool) × ((acts : List (Act K N)) × AskedBefore k need again acts × (new ≡ old ++ acts))

  -- what a look-up adds to its seat's list
  abbrev pub look_told : K → ℕ → Bool → Told → List (Act K N)
  look_told k need again t = if again && is_joined t then [] else Looked k need again t ∷ []
