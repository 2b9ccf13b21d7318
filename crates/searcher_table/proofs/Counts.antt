-- What is counted in a history: acquires and releases, by caller and in all.
use Rattle.std.proofs.Common.{◌≡◌, ℕ, zero, suc, ◌+◌, ◌*◌, ◌<◌, ◌≤◌, ◌==◌, Bool, true, false, cond, eq-eqb, ne_eqb, List, [], ◌∷◌, ◌++◌, fold, count_by, refl, sym, ap, ◌∙◌, arith, Option, Some, None, IfSome}
use mathlib.Core.Logic.{dite}
use native.Mathlib.Decide.{ℕ_discrete}
use Rattle.std.specs.List.{AllByRecursion}
use Rattle.std.proofs.lemmas.Option.{none-some}
use Rattle.registry_machine.specs.declared.entry.Entry.{Entry}
use Rattle.registry_machine.specs.declared.entry.Entry.TheVariants.{Open, TooMany, GenerationsSpent, Update, Finish, Superseded, Acquire, NotYet, Release, Free}
use Rattle.registry_machine.specs.Entries.{caller_of}
use Rattle.registry_machine.specs.Callers.{mine}
use Rattle.registry_machine.specs.Machine.{Limits, State, start, is_some_of, after, pins_after}
use Rattle.registry_machine.specs.Legal.{IsAllowed, LegalFrom, Legal, state_of}
use Rattle.registry_machine.proofs.Lists.{true_and_false, test_same}
use Rattle.searcher_table.specs.Counts.{is_acquire, is_not_yet, acquires, releases, pin_after, pinned, NamesCaller}
use Rattle.searcher_table.proofs.Places.{count_first, counts_joined}

-- ---- sums over the callers 1 to n

pub total : ℕ → (ℕ → ℕ) → ℕ
total zero f = 0
total (suc n) f = f (suc n) + total n f

pub total_same : (n : ℕ) (f h : ℕ → ℕ) → ((c : ℕ) → f c ≡ h c) → total n f ≡ total n h
unfolding total
total_same zero f h same = refl
total_same (suc n) f h same = let a = same (suc n) in let b = total_same n f h same in omega arith

pub total_sum : (n : ℕ) (f h : ℕ → ℕ) → total n (λ c. f c + h c) ≡ total n f + total n h
unfolding total
total_sum zero f h = refl
total_sum (suc n) f h = let a = total_sum n f h in omega arith

pub total_below : (n b : ℕ) (f : ℕ → ℕ) → ((c : ℕ) → f c ≤ b) → total n f ≤ n * b
unfolding total
total_below zero b f below = omega arith
total_below (suc n) b f below = let a = below (suc n) in let r = total_below n b f below in let m : suc n * b ≡ b + n * b = omega arith in omega arith

pub total_least : (n c : ℕ) (f : ℕ → ℕ) → 1 ≤ c → c ≤ n → f c ≤ total n f
unfolding total
total_least zero c f low high = absurd (omega arith)
total_least (suc n) c f low high = dite (ℕ_discrete c (suc n))
    (λ e. let a = ap f e in omega arith)
    (λ other. let r = total_least n c f low (omega arith) in omega arith)

pub total_zero : (n : ℕ) (f : ℕ → ℕ) → ((c : ℕ) → 1 ≤ c → c ≤ n → f c ≡ 0) → total n f ≡ 0
unfolding total
total_zero zero f none = refl
total_zero (suc n) f none = let a = none (suc n) (omega arith) (omega arith) in let r = total_zero n f (λ c low high. none c low (omega arith)) in omega arith

-- who has some of it
pub some_of : (n : ℕ) (f : ℕ → ℕ) → 0 < total n f → (c : ℕ) × (1 ≤ c) × (c ≤ n) × (0 < f c)
unfolding total
some_of zero f some = absurd (omega arith)
some_of (suc n) f some = dite (ℕ_discrete (f (suc n)) 0)
    (λ none. let k = some_of n f (omega arith) in (k.0, k.1, (let a = k.2 in omega arith), k.3))
    (λ here. (suc n, omega arith, omega arith, omega arith))

-- what one of them has
pub total_one : (n d w : ℕ) → 1 ≤ d → d ≤ n → total n (λ c. cond (d == c) w 0) ≡ w
unfolding total
total_one zero d w low high = absurd (omega arith)
total_one (suc n) d w low high = dite (ℕ_discrete d (suc n))
    (λ e.
    let a : cond {A = ℕ} (d == suc n) w 0 ≡ w = ap (λ b. cond b w 0) (eq-eqb d (suc n) e) in
    let r = total_zero n (λ c. cond (d == c) w 0) (λ c l h. ap (λ b. cond b w 0) (ne_eqb d c (λ s. absurd (omega arith)))) in
    omega arith)
    (λ other.
    let a : cond {A = ℕ} (d == suc n) w 0 ≡ 0 = ap (λ b. cond b w 0) (ne_eqb d (suc n) other) in
    let r = total_one n d w low (omega arith) in
    omega arith)

-- ---- one caller's pin

nothing : (b : Bool) → cond {A = ℕ} b 0 0 ≡ 0
nothing true = refl
nothing false = refl

-- whether a caller pins the generation
abbrev pub pins_it : ℕ → Option ℕ → ℕ
pins_it g pin = cond (is_some_of g pin) 1 0

swapped : (c d : ℕ) → (c == d) ≡ (d == c)
swapped c d = dite (ℕ_discrete c d) (λ e. eq-eqb c d e ∙ sym (eq-eqb d c (sym e))) (λ n. ne_eqb c d n ∙ sym (ne_eqb d c (λ e. n (sym e))))

acquire_step : (g h : ℕ) (pin : Option ℕ) (b r : Bool) → r ≡ b → (r ≡ true → pin ≡ None) → pins_it g pin + cond b (cond (h == g) 1 0) 0 ≡ cond b 0 0 + pins_it g (cond r (Some h) pin)
acquire_step g h pin true true same free = let e = ap (pins_it g) (free refl) in omega arith
acquire_step g h pin false false same free = omega arith
acquire_step g h pin true false same free = absurd (true_and_false false same refl)
acquire_step g h pin false true same free = absurd (true_and_false true refl same)

release_step : (g h : ℕ) (pin : Option ℕ) (b r : Bool) → r ≡ b → (r ≡ true → pin ≡ Some h) → pins_it g pin + cond b 0 0 ≡ cond b (cond (h == g) 1 0) 0 + pins_it g (cond r None pin)
release_step g h pin true true same is = let e = ap (pins_it g) (is refl) in omega arith
release_step g h pin false false same is = omega arith
release_step g h pin true false same is = absurd (true_and_false false same refl)
release_step g h pin false true same is = absurd (true_and_false true refl same)

-- ---- a list's elements that pass a test

module _ {A : Type 0} where
  pub counts_fewer : (p q : A → Bool) → ((x : A) → cond {A = ℕ} (p x) 1 0 ≤ cond {A = ℕ} (q x) 1 0) → (xs : List A) → count_by p xs ≤ count_by q xs
  counts_fewer p q fewer [] = omega arith
  counts_fewer p q fewer (x ∷ xs) = let a = fewer x in let r = counts_fewer p q fewer xs in let f = count_first p x xs in let h = count_first q x xs in omega arith

  pub counts_last : (p : A → Bool) (xs : List A) (x : A) → count_by p (xs ++ x ∷ []) ≡ count_by p xs + cond (p x) 1 0
  counts_last p xs x = let a = counts_joined p xs (x ∷ []) in let b = count_first p x [] in omega arith

module _ {U X L : Type 0} where
  -- what an entry adds to what is counted of a caller
  abbrev pub own_count : ℕ → (Entry U X L → Bool) → Entry U X L → ℕ
  own_count c q e = cond (is_some_of c (caller_of e)) (cond (q e) 1 0) 0

  own_by : (q : Entry U X L → Bool) (e : Entry U X L) (es : List (Entry U X L)) (b : Bool) → count_by q (cond b (e ∷ es) es) ≡ cond b (cond (q e) 1 0) 0 + count_by q es
  own_by q e es true = count_first q e es
  own_by q e es false = omega arith

  pub own_first : (c : ℕ) (q : Entry U X L → Bool) (e : Entry U X L) (es : List (Entry U X L)) → count_by q (mine c (e ∷ es)) ≡ own_count c q e + count_by q (mine c es)
  own_first c q e es = own_by q e (mine c es) (is_some_of c (caller_of e))

  -- who is counted has a pass
  abbrev pub OnlyNamed : (Entry U X L → Bool) → Type 0
  OnlyNamed q = (e : Entry U X L) → caller_of e ≡ None → q e ≡ false

  of_each : (q : Entry U X L → Bool) (e : Entry U X L) (who : Option ℕ) → caller_of e ≡ who → (caller_of e ≡ None → q e ≡ false) → IfSome who (λ c. (1 ≤ c) × (c ≤ 64))
      → total 64 (λ c. own_count c q e) ≡ cond (q e) 1 0
  of_each q e None is only named =
      let none : cond {A = ℕ} (q e) 1 0 ≡ 0 = ap (λ b. cond b 1 0) (only is) in
      total_zero 64 (λ c. own_count c q e) (λ c _ _. ap (λ o. cond (is_some_of c o) (cond {A = ℕ} (q e) 1 0) 0) is) ∙ sym none
  of_each q e (Some d) is only named =
      total_same 64 (λ c. own_count c q e) (λ c. cond (d == c) (cond (q e) 1 0) 0) (λ c. ap (λ o. cond (is_some_of c o) (cond {A = ℕ} (q e) 1 0) 0) is)
      ∙ total_one 64 d (cond (q e) 1 0) named.0 named.1

  -- what is counted is what is counted of all callers
  pub by_caller : (q : Entry U X L → Bool) → OnlyNamed q → (es : List (Entry U X L)) → AllByRecursion NamesCaller es → count_by q es ≡ total 64 (λ c. count_by q (mine c es))
  by_caller q only [] named = sym (total_zero 64 (λ c. 0) (λ _ _ _. refl))
  by_caller q only (e ∷ es) named =
      let a = count_first q e es in
      let b = of_each q e (caller_of e) refl (only e) named.0 in
      let r = by_caller q only es named.1 in
      let s = total_sum 64 (λ c. own_count c q e) (λ c. count_by q (mine c es)) in
      let t = total_same 64 (λ c. count_by q (mine c (e ∷ es))) (λ c. own_count c q e + count_by q (mine c es)) (λ c. own_first c q e es) in
      omega arith

  -- ---- pins

  -- an entry that doesn't name the caller leaves what it pins
  pub pin_else : (c : ℕ) (pins : ℕ → Option ℕ) (e : Entry U X L) → is_some_of c (caller_of e) ≡ false → pins_after pins e c ≡ pins c
  pin_else c pins (Acquire d g k) other = by_test (c == d) refl
    where
      by_test : (b : Bool) → (c == d) ≡ b → cond b (Some g) (pins c) ≡ pins c
      by_test true e = absurd (true_and_false (d == c) (eq-eqb d c (sym (test_same c d e))) other)
      by_test false e = refl
  pin_else c pins (Release d g l) other = by_test (c == d) refl
    where
      by_test : (b : Bool) → (c == d) ≡ b → cond b None (pins c) ≡ pins c
      by_test true e = absurd (true_and_false (d == c) (eq-eqb d c (sym (test_same c d e))) other)
      by_test false e = refl
  pin_else c pins (Open d u g s x) other = refl
  pin_else c pins (TooMany d u gs) other = refl
  pin_else c pins (GenerationsSpent d u) other = refl
  pin_else c pins (Update d u) other = refl
  pin_else c pins (Finish g l) other = refl
  pin_else c pins (Superseded g by l) other = refl
  pin_else c pins (NotYet d) other = refl
  pin_else c pins (Free g) other = refl

  -- what a caller pins depends on what it pinned alone
  pub pin_by : (c : ℕ) (pins : ℕ → Option ℕ) (e : Entry U X L) → pins_after pins e c ≡ pin_after c (pins c) e
  pin_by c pins (Acquire d g k) = refl
  pin_by c pins (Release d g l) = refl
  pin_by c pins (Open d u g s x) = refl
  pin_by c pins (TooMany d u gs) = refl
  pin_by c pins (GenerationsSpent d u) = refl
  pin_by c pins (Update d u) = refl
  pin_by c pins (Finish g l) = refl
  pin_by c pins (Superseded g by l) = refl
  pin_by c pins (NotYet d) = refl
  pin_by c pins (Free g) = refl

  pins_from : (c : ℕ) (s : State) (es : List (Entry U X L)) → (fold after s es).pins c ≡ fold (pin_after c) (s.pins c) (mine c es)
  pins_from c s [] = refl
  pins_from c s (e ∷ es) = by_test (is_some_of c (caller_of e)) refl (pins_from c (after s e) es)
    where
      by_test : (b : Bool) → is_some_of c (caller_of e) ≡ b → (fold after (after s e) es).pins c ≡ fold (pin_after c) ((after s e).pins c) (mine c es)
          → (fold after (after s e) es).pins c ≡ fold (pin_after c) (s.pins c) (cond b (e ∷ mine c es) (mine c es))
      by_test true is rest = rest ∙ ap (λ p. fold (pin_after c) p (mine c es)) (pin_by c s.pins e)
      by_test false is rest = rest ∙ ap (λ p. fold (pin_after c) p (mine c es)) (pin_else c s.pins e is)

  -- a caller pins what its own entries say
  pub pins_own : (l : Limits) (c : ℕ) (log : List (Entry U X L)) → (state_of l log).pins c ≡ pinned c (mine c log)
  pins_own l c log = pins_from c (start l) log

  -- ---- acquires and releases of a generation

  pub not_own : (c : ℕ) (q : Entry U X L → Bool) (e : Entry U X L) → q e ≡ false → own_count c q e ≡ 0
  not_own c q e none = ap (λ b. cond (is_some_of c (caller_of e)) (cond {A = ℕ} b 1 0) 0) none ∙ nothing (is_some_of c (caller_of e))

  balance_step : (l : Limits) (g c : ℕ) (s : State) (e : Entry U X L) → IsAllowed l s e → pins_it g (s.pins c) + own_count c (acquires g) e ≡ own_count c (releases g) e + pins_it g ((after s e).pins c)
  balance_step l g c s (Acquire d h k) may = acquire_step g h (s.pins c) (d == c) (c == d) (swapped c d) (λ e. ap s.pins (test_same c d e) ∙ may.free)
  balance_step l g c s (Release d h list) may = release_step g h (s.pins c) (d == c) (c == d) (swapped c d) (λ e. ap s.pins (test_same c d e) ∙ may)
  balance_step l g c s (Open d u h slot x) may = let a = nothing (d == c) in omega arith
  balance_step l g c s (TooMany d u gs) may = let a = nothing (d == c) in omega arith
  balance_step l g c s (GenerationsSpent d u) may = let a = nothing (d == c) in omega arith
  balance_step l g c s (Update d u) may = let a = nothing (d == c) in omega arith
  balance_step l g c s (NotYet d) may = let a = nothing (d == c) in omega arith
  balance_step l g c s (Finish h list) may = omega arith
  balance_step l g c s (Superseded h by list) may = omega arith
  balance_step l g c s (Free h) may = omega arith

  balance_from : (l : Limits) (g c : ℕ) (s : State) (es : List (Entry U X L)) → LegalFrom l s es
      → pins_it g (s.pins c) + count_by (acquires g) (mine c es) ≡ count_by (releases g) (mine c es) + pins_it g ((fold after s es).pins c)
  balance_from l g c s [] may = omega arith
  balance_from l g c s (e ∷ es) may =
      let a = own_first c (acquires g) e es in
      let b = own_first c (releases g) e es in
      let r = balance_from l g c (after s e) es may.1 in
      let t = balance_step l g c s e may.0 in
      omega arith

  -- a caller has acquired a generation as often as it has released it, and once more where it pins it
  pub balance : (l : Limits) (g c : ℕ) (log : List (Entry U X L)) → Legal l log → count_by (acquires g) (mine c log) ≡ count_by (releases g) (mine c log) + pins_it g ((state_of l log).pins c)
  balance l g c log legal = let b = balance_from l g c (start l) log legal in omega arith

  acquired_from : (g : ℕ) (s : State) (es : List (Entry U X L)) → (fold after s es).acquired g ≡ s.acquired g + count_by (acquires g) es
  acquired_from g s [] = omega arith
  acquired_from g s (e ∷ es) = let a = count_first (acquires g) e es in let r = acquired_from g (after s e) es in let t = acquired_step e in omega arith
    where
      acquired_step : (e : Entry U X L) → (after s e).acquired g ≡ s.acquired g + cond (acquires g e) 1 0
      acquired_step (Acquire d h k) = one_more (g == h) (h == g) (swapped g h)
        where
          one_more : (b r : Bool) → b ≡ r → cond b (s.acquired g + 1) (s.acquired g) ≡ s.acquired g + cond r 1 0
          one_more true true same = refl
          one_more false false same = omega arith
          one_more true false same = absurd (true_and_false true refl same)
          one_more false true same = absurd (true_and_false false same refl)
      acquired_step (Release d h list) = omega arith
      acquired_step (Open d u h slot x) = omega arith
      acquired_step (TooMany d u gs) = omega arith
      acquired_step (GenerationsSpent d u) = omega arith
      acquired_step (Update d u) = omega arith
      acquired_step (NotYet d) = omega arith
      acquired_step (Finish h list) = omega arith
      acquired_step (Superseded h by list) = omega arith
      acquired_step (Free h) = omega arith

  pub acquired_is : (l : Limits) (g : ℕ) (log : List (Entry U X L)) → (state_of l log).acquired g ≡ count_by (acquires g) log
  acquired_is l g log = let a = acquired_from g (start l) log in omega arith

  acquires_named : (g : ℕ) → OnlyNamed (acquires g)
  acquires_named g (Acquire d h k) none = absurd (none-some d (sym none))
  acquires_named g (Release d h list) none = refl
  acquires_named g (Open d u h slot x) none = refl
  acquires_named g (TooMany d u gs) none = refl
  acquires_named g (GenerationsSpent d u) none = refl
  acquires_named g (Update d u) none = refl
  acquires_named g (NotYet d) none = refl
  acquires_named g (Finish h list) none = refl
  acquires_named g (Superseded h by list) none = refl
  acquires_named g (Free h) none = refl

  releases_named : (g : ℕ) → OnlyNamed (releases g)
  releases_named g (Release d h list) none = absurd (none-some d (sym none))
  releases_named g (Acquire d h k) none = refl
  releases_named g (Open d u h slot x) none = refl
  releases_named g (TooMany d u gs) none = refl
  releases_named g (GenerationsSpent d u) none = refl
  releases_named g (Update d u) none = refl
  releases_named g (NotYet d) none = refl
  releases_named g (Finish h list) none = refl
  releases_named g (Superseded h by list) none = refl
  releases_named g (Free h) none = refl

  -- a generation was acquired as often as it was released, and once more for each caller that pins it
  pub balance_of_all : (l : Limits) (g : ℕ) (log : List (Entry U X L)) → Legal l log → AllByRecursion NamesCaller log
      → (state_of l log).acquired g ≡ count_by (releases g) log + total 64 (λ c. pins_it g ((state_of l log).pins c))
  balance_of_all l g log legal named =
      let a = acquired_is l g log in
      let b = by_caller (acquires g) (acquires_named g) log named in
      let d = by_caller (releases g) (releases_named g) log named in
      let e = total_same 64 (λ c. count_by (acquires g) (mine c log)) (λ c. count_by (releases g) (mine c log) + pins_it g ((state_of l log).pins c)) (λ c. balance l g c log legal) in
      let f = total_sum 64 (λ c. count_by (releases g) (mine c log)) (λ c. pins_it g ((state_of l log).pins c)) in
      omega arith

  -- so one that a caller pins has more acquires than releases
  pub pinned_counts : (l : Limits) (g c : ℕ) (log : List (Entry U X L)) → Legal l log → AllByRecursion NamesCaller log → 1 ≤ c → c ≤ 64 → (state_of l log).pins c ≡ Some g → count_by (releases g) log + 1 ≤ (state_of l log).acquired g
  pinned_counts l g c log legal named low high is =
      let a = balance_of_all l g log legal named in
      let b = total_least 64 c (λ d. pins_it g ((state_of l log).pins d)) low high in
      let e : pins_it g ((state_of l log).pins c) ≡ 1 = ap (pins_it g) is ∙ ap (λ t. cond {A = ℕ} t 1 0) (eq-eqb g g refl) in
      omega arith

  -- ---- how often callers acquire at all

  an_acquire : (g : ℕ) (e : Entry U X L) → cond {A = ℕ} (acquires g e) 1 0 ≤ cond {A = ℕ} (is_acquire e) 1 0
  an_acquire g (Acquire d h k) = by_test (h == g)
    where
      by_test : (b : Bool) → cond {A = ℕ} b 1 0 ≤ 1
      by_test true = omega arith
      by_test false = omega arith
  an_acquire g (Release d h list) = omega arith
  an_acquire g (Open d u h slot x) = omega arith
  an_acquire g (TooMany d u gs) = omega arith
  an_acquire g (GenerationsSpent d u) = omega arith
  an_acquire g (Update d u) = omega arith
  an_acquire g (NotYet d) = omega arith
  an_acquire g (Finish h list) = omega arith
  an_acquire g (Superseded h by list) = omega arith
  an_acquire g (Free h) = omega arith

  a_try : (e : Entry U X L) → cond {A = ℕ} (is_not_yet e) 1 0 ≤ cond {A = ℕ} (is_acquire e) 1 0
  a_try (Acquire d h k) = omega arith
  a_try (Release d h list) = omega arith
  a_try (Open d u h slot x) = omega arith
  a_try (TooMany d u gs) = omega arith
  a_try (GenerationsSpent d u) = omega arith
  a_try (Update d u) = omega arith
  a_try (NotYet d) = omega arith
  a_try (Finish h list) = omega arith
  a_try (Superseded h by list) = omega arith
  a_try (Free h) = omega arith

  tries_named : OnlyNamed is_acquire
  tries_named (Acquire d h k) none = absurd (none-some d (sym none))
  tries_named (NotYet d) none = absurd (none-some d (sym none))
  tries_named (Release d h list) none = refl
  tries_named (Open d u h slot x) none = refl
  tries_named (TooMany d u gs) none = refl
  tries_named (GenerationsSpent d u) none = refl
  tries_named (Update d u) none = refl
  tries_named (Finish h list) none = refl
  tries_named (Superseded h by list) none = refl
  tries_named (Free h) none = refl

  -- where no caller acquires more often than this, the counts are at most 64 times as many
  pub few_acquired : (l : Limits) (g most : ℕ) (log : List (Entry U X L)) → AllByRecursion NamesCaller log → ((c : ℕ) → count_by is_acquire (mine c log) ≤ most) → (state_of l log).acquired g ≤ 64 * most
  few_acquired l g most log named within =
      let a = acquired_is l g log in
      let b = counts_fewer (acquires g) is_acquire (an_acquire g) log in
      let d = by_caller is_acquire tries_named log named in
      let e = total_below 64 most (λ c. count_by is_acquire (mine c log)) within in
      omega arith

  pub few_tries : (most : ℕ) (log : List (Entry U X L)) → AllByRecursion NamesCaller log → ((c : ℕ) → count_by is_acquire (mine c log) ≤ most) → count_by is_not_yet log ≤ 64 * most
  few_tries most log named within =
      let b = counts_fewer is_not_yet is_acquire a_try log in
      let d = by_caller is_acquire tries_named log named in
      let e = total_below 64 most (λ c. count_by is_acquire (mine c log)) within in
      omega arith
