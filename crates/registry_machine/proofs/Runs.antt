-- Runs of the machine: what each allowed entry keeps lasts from each index of a legal history to every later one.
use Rattle.std.proofs.Common.{◌≡◌, ℕ, zero, suc, ◌+◌, ◌≤◌, List, [], ◌∷◌, ◌++◌, ◌-◌, take, fold, Option, Some, None, refl, sym, ap, subst, arith, append_assoc}
use Rattle.std.proofs.lemmas.List.{append-nil}
use Rattle.std.proofs.lemmas.Grind.{fold-append}
use Rattle.std.specs.Prelude.{slice_get}
use Rattle.registry_machine.specs.declared.entry.Entry.{Entry}
use Rattle.registry_machine.specs.Machine.{Limits, State, start, after}
use Rattle.registry_machine.specs.Legal.{IsAllowed, LegalFrom, Legal, state_of}

module _ {U D L : Type 0} (l : Limits) where
  pub split : (s : State) (h more : List (Entry U D L)) → LegalFrom l s (h ++ more) → LegalFrom l s h × LegalFrom l (fold after s h) more
  split s [] more p = (tt, p)
  split s (e ∷ es) more p = let k = split (after s e) es more p.1 in ((p.0, k.0), k.1)

  pub joined : (s : State) (h more : List (Entry U D L)) → LegalFrom l s h → LegalFrom l (fold after s h) more → LegalFrom l s (h ++ more)
  joined s [] more p q = q
  joined s (e ∷ es) more p q = (p.0, joined (after s e) es more p.1 q)

  pub state_joined : (h more : List (Entry U D L)) → state_of l (h ++ more) ≡ fold after (state_of l h) more
  state_joined h more = fold-append after (start l) h more

  -- the state after the first n entries
  abbrev pub state_at : List (Entry U D L) → ℕ → State
  state_at h n = state_of l (take n h)

  at_step_from : (s : State) (h : List (Entry U D L)) (n : ℕ) (e : Entry U D L) → LegalFrom l s h → slice_get h n ≡ Some e → IsAllowed l (fold after s (take n h)) e × (fold after s (take (suc n) h) ≡ after (fold after s (take n h)) e)
  at_step_from s [] n e p at = absurd (grind arith)
  at_step_from s (x ∷ xs) zero e p at = let same : x ≡ e = cc in (subst (λ y. IsAllowed l s y) same p.0, ap (after s) same)
  at_step_from s (x ∷ xs) (suc n) e p at = at_step_from (after s x) xs n e p.1 at

  pub allowed_at : (h : List (Entry U D L)) (n : ℕ) (e : Entry U D L) → Legal l h → slice_get h n ≡ Some e → IsAllowed l (state_at h n) e
  allowed_at h n e p at = (at_step_from (start l) h n e p at).0

  pub state_next : (h : List (Entry U D L)) (n : ℕ) (e : Entry U D L) → Legal l h → slice_get h n ≡ Some e → state_at h (suc n) ≡ after (state_at h n) e
  state_next h n e p at = (at_step_from (start l) h n e p at).1

  -- past the end nothing changes
  pub state_past : (s : State) (h : List (Entry U D L)) (n : ℕ) → slice_get h n ≡ None → fold after s (take (suc n) h) ≡ fold after s (take n h)
  state_past s [] zero at = refl
  state_past s [] (suc n) at = refl
  state_past s (x ∷ xs) zero at = absurd (grind arith)
  state_past s (x ∷ xs) (suc n) at = state_past (after s x) xs n at

  module _ (P : State → Type 0) (keeps : (s : State) (e : Entry U D L) → IsAllowed l s e → P s → P (after s e)) where
    next_kept : (h : List (Entry U D L)) (n : ℕ) → Legal l h → (found : Option (Entry U D L)) → slice_get h n ≡ found → P (state_at h n) → P (state_at h (suc n))
    next_kept h n p None at x = subst P (sym (state_past (start l) h n at)) x
    next_kept h n p (Some e) at x = subst P (sym (state_next h n e p at)) (keeps (state_at h n) e (allowed_at h n e p at) x)

    -- what each allowed entry keeps lasts
    pub lasts : (h : List (Entry U D L)) (m d : ℕ) → Legal l h → P (state_at h m) → P (state_at h (m + d))
    lasts h m zero p x = let e : m ≡ m + 0 = omega arith in subst (λ k. P (state_at h k)) e x
    lasts h m (suc d) p x = let e : suc (m + d) ≡ m + suc d = omega arith in subst (λ k. P (state_at h k)) e (next_kept h (m + d) p (slice_get h (m + d)) refl (lasts h m d p x))

    pub lasts_to : (h : List (Entry U D L)) (m n : ℕ) → m ≤ n → Legal l h → P (state_at h m) → P (state_at h n)
    lasts_to h m n le p x = let e : m + (n - m) ≡ n = omega arith in subst (λ k. P (state_at h k)) e (lasts h m (n - m) p x)

    -- what holds before the first entry and is kept by each holds after every prefix
    pub always : (h : List (Entry U D L)) (n : ℕ) → Legal l h → P (start l) → P (state_at h n)
    always h n p x = lasts_to h 0 n (omega arith) p x

  -- what holds of no entries and is kept by each allowed one holds of every legal history
  module _ (P : List (Entry U D L) → Type 0) (keeps : (h : List (Entry U D L)) (e : Entry U D L) → Legal l (h ++ e ∷ []) → P h → P (h ++ e ∷ [])) where
    along : (h more : List (Entry U D L)) → Legal l (h ++ more) → P h → P (h ++ more)
    along h [] p x = subst P (sym (append-nil h)) x
    along h (e ∷ es) p x =
        let same : (h ++ e ∷ []) ++ es ≡ h ++ e ∷ es = append_assoc h (e ∷ []) es in
        let p' : Legal l ((h ++ e ∷ []) ++ es) = subst (Legal l) (sym same) p in
        subst P same (along (h ++ e ∷ []) es p' (keeps h e (split (start l) (h ++ e ∷ []) es p').0 x))

    pub every_prefix : P [] → (h more : List (Entry U D L)) → Legal l (h ++ more) → P h
    every_prefix x h more p = along [] h (split (start l) h more p).0 x
