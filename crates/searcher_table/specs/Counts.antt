-- What is counted in a history, and what a caller pins by its own entries.
use Rattle.std.specs.Prelude.{ℕ, ◌≤◌, List, fold, Bool, true, false, ◌==◌, Option, None, IfSome}
use Rattle.registry_machine.specs.declared.entry.Entry.{Entry}
use Rattle.registry_machine.specs.declared.entry.Entry.TheVariants.{Acquire, NotYet, Release}
use Rattle.registry_machine.specs.Entries.{caller_of, opens as opened_by, frees as freed_by}
use Rattle.registry_machine.specs.Machine.{is_some_of, pins_after}

module _ {U X L : Type 0} where
  -- an acquire, or one for which nothing was current
  abbrev pub is_acquire : Entry U X L → Bool
  is_acquire (Acquire c g k) = true
  is_acquire (NotYet c) = true
  is_acquire _ = false

  -- one for which nothing was current
  abbrev pub is_not_yet : Entry U X L → Bool
  is_not_yet (NotYet c) = true
  is_not_yet _ = false

  -- an acquire of the generation, and a release of it
  abbrev pub acquires : ℕ → Entry U X L → Bool
  acquires g (Acquire c h k) = h == g
  acquires g _ = false

  abbrev pub releases : ℕ → Entry U X L → Bool
  releases g (Release c h l) = h == g
  releases g _ = false

  -- an opening of the generation, and its freeing
  abbrev pub opens : ℕ → Entry U X L → Bool
  opens g e = is_some_of g (opened_by e)

  abbrev pub frees : ℕ → Entry U X L → Bool
  frees g e = is_some_of g (freed_by e)

  -- what the caller pins after an entry, and after its own ones
  abbrev pub pin_after : ℕ → Option ℕ → Entry U X L → Option ℕ
  pin_after c pin e = pins_after (λ _. pin) e c

  abbrev pub pinned : ℕ → List (Entry U X L) → Option ℕ
  pinned c own = fold (pin_after c) None own

  -- who is named has a pass
  abbrev pub NamesCaller : Entry U X L → Type 0
  NamesCaller e = IfSome (caller_of e) (λ c. (1 ≤ c) × (c ≤ 64))
