-- What a call answers where want of memory is free.
use Rattle.std.specs.Prelude.{◌≡◌, Bool, Result, Ok, Err, ⊤}
use Rattle.std.specs.Bool.{MatchBool}

-- the call answers a value that is seen as the stated one, the stated error, or one that tells want of memory
abbrev pub GivesAs : {A B E : Type 0} → (A → B) → (E → Bool) → Result A E → Result B E → Type 0
GivesAs view wants (Ok x) stated = stated ≡ Ok (view x)
GivesAs view wants (Err e) stated = MatchBool (wants e) ⊤ (stated ≡ Err e)

-- the same of a value that is stated itself
abbrev pub Gives : {A E : Type 0} → (E → Bool) → Result A E → Result A E → Type 0
Gives wants answer stated = GivesAs (λ x. x) wants answer stated
