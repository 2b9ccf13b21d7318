-- What a state says of all entries before it, list by list.
use Rattle.std.proofs.Common.{◌≡◌, ℕ, ◌+◌, ◌<◌, ◌≤◌, List, [], ◌∷◌, ◌++◌, length, fold, Bool, true, false, not, cond, ◌==◌, filter, filter_map, Some, None, refl, sym, ap, ap₂, subst, ◌∙◌, arith, append_assoc}
use Rattle.std.proofs.lemmas.List.{append-nil}
use Rattle.std.proofs.lemmas.List.Elements.{filter-append}
use Rattle.std.proofs.lemmas.Grind.{common_steps}
use Rattle.std.proofs.lemmas.Bool.Decides.{nat_tests}
use Rattle.std.specs.List.{AllByRecursion, range_with_len, last_or, cons_option}
use Rattle.registry_machine.specs.declared.entry.Entry.{Entry}
use Rattle.registry_machine.specs.declared.entry.Entry.TheVariants.{Open, Finish, Superseded, Acquire}
use Rattle.registry_machine.specs.Entries.{opens, registers, ends, ticket_of}
use Rattle.registry_machine.specs.Machine.{Limits, State, is_in, after}
use Rattle.registry_machine.specs.Legal.{LegalFrom}
use Rattle.registry_machine.proofs.Lists.{same_test, other_test, test_same, test_other}
use Rattle.registry_machine.proofs.Steps.{Sound, sound_kept}

module _ {U D L : Type 0} where
  -- the current generation is the one registered last
  pub current_from : (s : State) (h : List (Entry U D L)) → (fold after s h).current ≡ last_or s.current (filter_map registers h)
  current_from s [] = refl
  current_from s (Finish g list ∷ h) = current_from (after {U = U} {D = D} {L = L} s (Finish g list)) h
  current_from s (e ∷ h) = current_from (after s e) h

  -- the acquires of a generation are those counted
  pub acquired_from : (s : State) (h : List (Entry U D L)) (g : ℕ) → (fold after s h).acquired g ≡ s.acquired g + length (filter_map (ticket_of g) h)
  acquired_from s [] g = omega arith
  acquired_from s (Acquire c x k ∷ h) g = by_test (g == x) refl (x == g) refl (acquired_from (after {U = U} {D = D} {L = L} s (Acquire c x k)) h g)
    where
      by_test : (b : Bool) → (g == x) ≡ b → (d : Bool) → (x == g) ≡ d → (fold after (after {U = U} {D = D} {L = L} s (Acquire c x k)) h).acquired g ≡ cond (g == x) (s.acquired g + 1) (s.acquired g) + length (filter_map (ticket_of g) h) → (fold after (after {U = U} {D = D} {L = L} s (Acquire c x k)) h).acquired g ≡ s.acquired g + length (filter_map (ticket_of g) (Acquire c x k ∷ h))
      by_test b e d f r = grind (arith, nat_tests, common_steps, e, f, r)
  acquired_from s (e ∷ h) g = acquired_from (after s e) h g

all_weaker : (xs : List ℕ) (m n : ℕ) → m ≤ n → AllByRecursion (λ x. n < x) xs → AllByRecursion (λ x. m < x) xs
all_weaker [] m n le h = tt
all_weaker (x ∷ xs) m n le h = (omega (arith, h.0), all_weaker xs m n le h.1)

module _ {U D L : Type 0} (l : Limits) where
  -- the i-th opening has the i-th generation
  pub opened_from : (s : State) (h : List (Entry U D L)) → LegalFrom l s h → filter_map opens h ≡ range_with_len (s.last_opened + 1) (length (filter_map opens h))
  opened_from s [] p = refl
  opened_from s (Open c u g slot d ∷ h) p =
      let fm : List ℕ = filter_map opens h in
      let k : fm ≡ range_with_len (g + 1) (length fm) = opened_from (after {U = U} {D = D} {L = L} s (Open c u g slot d)) h p.1 in
      subst (λ n. g ∷ fm ≡ n ∷ range_with_len (n + 1) (length fm)) p.0.next (ap (λ xs. g ∷ xs) k)
  opened_from s (e ∷ h) p = opened_from (after s e) h p.1

  pub opened_above : (s : State) (h : List (Entry U D L)) → LegalFrom l s h → AllByRecursion (λ g. s.last_opened < g) (filter_map opens h)
  opened_above s [] p = tt
  opened_above s (Open c u g slot d ∷ h) p =
      let k : AllByRecursion (λ x. g < x) (filter_map opens h) = opened_above (after {U = U} {D = D} {L = L} s (Open c u g slot d)) h p.1 in
      (omega (arith, p.0.next), all_weaker (filter_map opens h) s.last_opened g (omega (arith, p.0.next)) k)
  opened_above s (e ∷ h) p = opened_above (after s e) h p.1

  -- the tickets of a generation count its acquires
  pub tickets_from : (s : State) (h : List (Entry U D L)) (g : ℕ) → LegalFrom l s h → filter_map (ticket_of g) h ≡ range_with_len (s.acquired g) (length (filter_map (ticket_of g) h))
  tickets_from s [] g p = refl
  tickets_from s (Acquire c x k ∷ h) g p = by_test (x == g) refl (tickets_from (after {U = U} {D = D} {L = L} s (Acquire c x k)) h g p.1)
    where
      by_test : (b : Bool) → (x == g) ≡ b → filter_map (ticket_of g) h ≡ range_with_len (cond (g == x) (s.acquired g + 1) (s.acquired g)) (length (filter_map (ticket_of g) h)) → filter_map (ticket_of g) (Acquire c x k ∷ h) ≡ range_with_len (s.acquired g) (length (filter_map (ticket_of g) (Acquire c x k ∷ h)))
      by_test true e r =
          let same : x ≡ g = test_same x g e in
          let e' : (g == x) ≡ true = subst (λ y. (g == y) ≡ true) (sym same) (same_test g) in
          let fm : List ℕ = filter_map (ticket_of g) h in
          let r' : fm ≡ range_with_len (s.acquired g + 1) (length fm) = subst (λ b. fm ≡ range_with_len (cond b (s.acquired g + 1) (s.acquired g)) (length fm)) e' r in
          let first : k ≡ s.acquired g = sym (subst (λ y. s.acquired y ≡ k) same p.0.counted) in
          let whole : k ∷ fm ≡ s.acquired g ∷ range_with_len (s.acquired g + 1) (length fm) = cc in
          subst (λ b. cons_option (cond b (Some k) None) fm ≡ range_with_len (s.acquired g) (length (cons_option (cond b (Some k) None) fm))) (sym e) whole
      by_test false e r =
          let e' : (g == x) ≡ false = other_test g x (λ same. test_other x g e (sym same)) in
          let fm : List ℕ = filter_map (ticket_of g) h in
          let r' : fm ≡ range_with_len (s.acquired g) (length fm) = subst (λ b. fm ≡ range_with_len (cond b (s.acquired g + 1) (s.acquired g)) (length fm)) e' r in
          subst (λ b. cons_option (cond b (Some k) None) fm ≡ range_with_len (s.acquired g) (length (cons_option (cond b (Some k) None) fm))) (sym e) r'
  tickets_from s (e ∷ h) g p = tickets_from (after s e) h g p.1

-- ---- what is warming

-- one more end takes its generation out
without_one : (g : ℕ) (es xs : List ℕ) → filter (λ x. not (is_in x (g ∷ es))) xs ≡ filter (λ x. not (is_in x es)) (filter (λ x. not (x == g)) xs)
without_one g es [] = refl
without_one g es (x ∷ xs) = by_test (g == x) refl (without_one g es xs)
  where
    by_test : (b : Bool) → (g == x) ≡ b → filter (λ y. not (is_in y (g ∷ es))) xs ≡ filter (λ y. not (is_in y es)) (filter (λ y. not (y == g)) xs) → filter (λ y. not (is_in y (g ∷ es))) (x ∷ xs) ≡ filter (λ y. not (is_in y es)) (filter (λ y. not (y == g)) (x ∷ xs))
    by_test true e r = let f : (x == g) ≡ true = subst (λ y. (y == g) ≡ true) (test_same g x e) (same_test g) in rw (e, f) r
    by_test false e r =
        let f : (x == g) ≡ false = other_test x g (λ same. test_other g x e (sym same)) in
        rw (e, f) (ap (λ zs. cond (not (is_in x es)) (x ∷ zs) zs) r)

-- and nothing where that does not stand
without_none : (g : ℕ) (es xs : List ℕ) → AllByRecursion (λ x. g < x) xs → filter (λ x. not (is_in x (g ∷ es))) xs ≡ filter (λ x. not (is_in x es)) xs
without_none g es [] h = refl
without_none g es (x ∷ xs) h =
    let e : (g == x) ≡ false = other_test g x (λ same. omega (arith, h.0, same)) in
    rw e (ap (λ zs. cond (not (is_in x es)) (x ∷ zs) zs) (without_none g es xs h.1))

filter_none : (xs : List ℕ) → filter (λ x. not (is_in x [])) xs ≡ xs
filter_none [] = refl
filter_none (x ∷ xs) = ap (λ zs. x ∷ zs) (filter_none xs)

module _ {U D L : Type 0} (l : Limits) where
  ended_one : (g : ℕ) (h : List (Entry U D L)) (w : List ℕ) → AllByRecursion (λ x. g < x) (filter_map opens h) → filter (λ x. not (is_in x (filter_map ends h))) (filter (λ x. not (x == g)) w ++ filter_map opens h) ≡ filter (λ x. not (is_in x (g ∷ filter_map ends h))) (w ++ filter_map opens h)
  ended_one g h w above =
      let es : List ℕ = filter_map ends h in
      let os : List ℕ = filter_map opens h in
      filter-append (λ x. not (is_in x es)) (filter (λ x. not (x == g)) w) os ∙ (ap₂ (λ xs ys. xs ++ ys) (sym (without_one g es w)) (sym (without_none g es os above)) ∙ sym (filter-append (λ x. not (is_in x (g ∷ es))) w os))

  -- what is warming was opened and not ended
  pub warming_from : (s : State) (h : List (Entry U D L)) → Sound l s → LegalFrom l s h → (fold after s h).warming ≡ filter (λ x. not (is_in x (filter_map ends h))) (s.warming ++ filter_map opens h)
  warming_from s [] sound p = sym (filter_none (s.warming ++ []) ∙ append-nil s.warming)
  warming_from s (Open c u g slot d ∷ h) sound p = warming_from (after {U = U} {D = D} {L = L} s (Open c u g slot d)) h (sound_kept {U = U} {D = D} {L = L} l s (Open c u g slot d) p.0 sound) p.1 ∙ ap (λ xs. filter (λ x. not (is_in x (filter_map ends h))) xs) (append_assoc s.warming (g ∷ []) (filter_map opens h))
  warming_from s (Finish g list ∷ h) sound p =
      let t = after {U = U} {D = D} {L = L} s (Finish g list) in
      warming_from t h (sound_kept {U = U} {D = D} {L = L} l s (Finish g list) p.0 sound) p.1 ∙ ended_one g h s.warming (all_weaker (filter_map opens h) g s.last_opened (sound.warming_opened g p.0.warming).1 (opened_above l t h p.1))
  warming_from s (Superseded g by list ∷ h) sound p =
      let t = after {U = U} {D = D} {L = L} s (Superseded g by list) in
      warming_from t h (sound_kept {U = U} {D = D} {L = L} l s (Superseded g by list) p.0 sound) p.1 ∙ ended_one g h s.warming (all_weaker (filter_map opens h) g s.last_opened (sound.warming_opened g p.0.warming).1 (opened_above l t h p.1))
  warming_from s (e ∷ h) sound p = warming_from (after s e) h (sound_kept l s e p.0 sound) p.1

  -- and each opening counts
  pub last_from : (s : State) (h : List (Entry U D L)) → LegalFrom l s h → (fold after s h).last_opened ≡ s.last_opened + length (filter_map opens h)
  last_from s [] p = omega arith
  last_from s (Open c u g slot d ∷ h) p = let k = last_from (after {U = U} {D = D} {L = L} s (Open c u g slot d)) h p.1 in omega (arith, k, p.0.next)
  last_from s (e ∷ h) p = last_from (after s e) h p.1
