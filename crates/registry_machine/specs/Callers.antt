-- What a caller has seen of a history, and what in it is its own.
use Rattle.std.specs.Prelude.{◌≡◌, ◌⊎◌, ℕ, List, [], ◌∷◌, ◌++◌, filter, Option, Some}
use Rattle.registry_machine.specs.declared.entry.Entry.{Entry}
use Rattle.registry_machine.specs.Entries.{caller_of, content_of}
use Rattle.registry_machine.specs.Machine.{is_some_of}

-- the entries that name the caller, in order
abbrev pub mine : {U D L : Type 0} → ℕ → List (Entry U D L) → List (Entry U D L)
mine caller h = filter (λ e. is_some_of caller (caller_of e)) h

-- what a caller had seen is the beginning of what it has seen since, and there these entries of its own were added
pub record Prolongs {U D L : Type 0} (caller : ℕ) (seen since calls : List (Entry U D L)) : Type 0 where
  pub more : List (Entry U D L)
  pub joined : since ≡ seen ++ more
  pub own : mine caller more ≡ calls

-- the entry of a call, behind that of the call which the caller had announced before, where that was executed meanwhile
abbrev pub IsOwn : {U D L : Type 0} → Option U → Entry U D L → List (Entry U D L) → Type 0
IsOwn {U} {D} {L} announced e own =
    (own ≡ e ∷ []) ⊎ ((before : Entry U D L) × (u : U) × (announced ≡ Some u) × (content_of before ≡ Some u) × (own ≡ before ∷ e ∷ []))
