-- Each generation that was opened has its slot, or was freed once.
use Rattle.std.proofs.Common.{◌≡◌, ◌≢◌, ◌⊎◌, ℕ, ◌+◌, ◌≤◌, ◌<◌, ◌==◌, Bool, true, false, cond, List, [], ◌∷◌, fold, count_by, sym, refl, ap, ◌∙◌, subst, arith, inl, inr, ⊎_elim, ne_eqb, Option, Some, None}
use Rattle.std.proofs.lemmas.Bool.{cases_lt}
use Rattle.registry_machine.specs.declared.entry.Entry.{Entry}
use Rattle.registry_machine.specs.declared.entry.Entry.TheVariants.{Open, TooMany, GenerationsSpent, Update, Finish, Superseded, Acquire, NotYet, Release, Free}
use Rattle.registry_machine.specs.Entries.{opens as opened_by, frees as freed_by}
use Rattle.registry_machine.specs.Machine.{Limits, State, start, is_some_of, after}
use Rattle.registry_machine.specs.Legal.{IsAllowed, LegalFrom, Legal, state_of}
use Rattle.registry_machine.proofs.Lists.{true_and_false}
use Rattle.registry_machine.proofs.Stands.{opens_next}
use Rattle.registry_machine.proofs.Slots.{HasSlot, KeepsSlots, IsFreed, slots_start, slots_kept, freed_kept, freed_after}
use Rattle.searcher_table.specs.Counts.{opens, frees}
use Rattle.searcher_table.proofs.Beside.{kept_open}
use Rattle.searcher_table.proofs.Places.{count_first}
use Rattle.searcher_table.proofs.Slotted.{own_is, is_own}

is_not : (g : ℕ) (o : Option ℕ) → o ≢ Some g → is_some_of g o ≡ false
is_not g None other = refl
is_not g (Some x) other = ne_eqb x g (λ same. other (ap (λ n. Some n) same))

module _ {U X L : Type 0} (l : Limits) (g : ℕ) where
  -- a slot keeps its generation unless that is freed
  slot_kept : (s : State) (e : Entry U X L) → IsAllowed l s e → freed_by e ≢ Some g → HasSlot s g → HasSlot (after s e) g
  slot_kept s (Open c u x slot d) p not h = (h.0, kept_open s.slots slot x h.0 g p.free h.1)
  slot_kept s (Free x) p not h = (h.0, ap (λ o. cond (is_some_of x o) None o) h.1 ∙ ap (λ b. cond b None (Some g)) (ne_eqb g x (λ same. not (ap (λ n. Some n) (sym same)))))
  slot_kept s (TooMany c u gs) p not h = h
  slot_kept s (GenerationsSpent c u) p not h = h
  slot_kept s (Update c u) p not h = h
  slot_kept s (Finish x list) p not h = h
  slot_kept s (Superseded x by list) p not h = h
  slot_kept s (Acquire c x k) p not h = h
  slot_kept s (NotYet c) p not h = h
  slot_kept s (Release c x list) p not h = h

  -- a generation that is not opened yet is still to come unless it is opened
  still_to_come : (s : State) (e : Entry U X L) → IsAllowed l s e → opened_by e ≢ Some g → s.last_opened < g → (after s e).last_opened < g
  still_to_come s (Open c u x slot d) p not low = let n = p.next in let a : x ≢ g = λ same. not (ap (λ n. Some n) same) in omega arith
  still_to_come s (Free x) p not low = low
  still_to_come s (TooMany c u gs) p not low = low
  still_to_come s (GenerationsSpent c u) p not low = low
  still_to_come s (Update c u) p not low = low
  still_to_come s (Finish x list) p not low = low
  still_to_come s (Superseded x by list) p not low = low
  still_to_come s (Acquire c x k) p not low = low
  still_to_come s (NotYet c) p not low = low
  still_to_come s (Release c x list) p not low = low

  -- a test that is false counts nothing
  skips : (q : Entry U X L → Bool) (e : Entry U X L) (es : List (Entry U X L)) → q e ≡ false → count_by q (e ∷ es) ≡ count_by q es
  skips q e es out = let a = count_first q e es in let b : cond {A = ℕ} (q e) 1 0 ≡ 0 = ap (λ t. cond t 1 0) out in omega arith

  counts : (q : Entry U X L → Bool) (e : Entry U X L) (es : List (Entry U X L)) → q e ≡ true → count_by q (e ∷ es) ≡ count_by q es + 1
  counts q e es is = let a = count_first q e es in let b : cond {A = ℕ} (q e) 1 0 ≡ 1 = ap (λ t. cond t 1 0) is in omega arith

  -- once it is freed, it is freed no more
  never_again : (es : List (Entry U X L)) (s : State) → LegalFrom l s es → KeepsSlots s → IsFreed s g → count_by (frees g) es ≡ 0
  never_again [] s legal k f = refl
  never_again (e ∷ es) s legal k f =
      skips (frees g) e es (is_not g (freed_by e) (λ is. let h = (freed_after l s e g is k legal.0).0 in f.none h.0 h.1))
      ∙ never_again es (after s e) legal.1 (slots_kept l s e legal.0 k) (freed_kept l g s e legal.0 f)

  -- while it has a slot
  while_open : (es : List (Entry U X L)) (s : State) → LegalFrom l s es → KeepsSlots s → HasSlot s g → HasSlot (fold after s es) g ⊎ (count_by (frees g) es ≡ 1)
  while_open [] s legal k h = inl h
  while_open (e ∷ es) s legal k h = by_test (λ still. while_open es (after s e) legal.1 (slots_kept l s e legal.0 k) still) (is_some_of g (freed_by e)) refl
    where
      by_test : (HasSlot (after s e) g → HasSlot (fold after (after s e) es) g ⊎ (count_by (frees g) es ≡ 1)) → (b : Bool) → is_some_of g (freed_by e) ≡ b → HasSlot (fold after (after s e) es) g ⊎ (count_by (frees g) (e ∷ es) ≡ 1)
      by_test rest true is =
          let f = freed_after l s e g (own_is g (freed_by e) is) k legal.0 in
          inr (counts (frees g) e es is ∙ ap (λ n. n + 1) (never_again es (after s e) legal.1 (slots_kept l s e legal.0 k) f.1))
      by_test rest false is = ⊎_elim (λ still. inl still) (λ once. inr (skips (frees g) e es is ∙ once))
          (rest (slot_kept s e legal.0 (λ z. true_and_false (is_some_of g (freed_by e)) (ap (is_some_of g) z ∙ is_own g) is) h))

  -- and from before it is opened
  from_before : (es : List (Entry U X L)) (s : State) → LegalFrom l s es → KeepsSlots s → s.last_opened < g → 1 ≤ count_by (opens g) es → HasSlot (fold after s es) g ⊎ (count_by (frees g) es ≡ 1)
  from_before [] s legal k low some = absurd (omega arith)
  from_before (e ∷ es) s legal k low some = by_test (λ later more. from_before es (after s e) legal.1 (slots_kept l s e legal.0 k) later more) (is_some_of g (opened_by e)) refl
    where
      unfreed : frees g e ≡ false
      unfreed = is_not g (freed_by e) (λ is. let h = (freed_after l s e g is k legal.0).0 in let a = k.opened h.0 g h.1 in absurd (omega arith))

      by_test : ((after s e).last_opened < g → 1 ≤ count_by (opens g) es → HasSlot (fold after (after s e) es) g ⊎ (count_by (frees g) es ≡ 1)) → (b : Bool) → is_some_of g (opened_by e) ≡ b → HasSlot (fold after (after s e) es) g ⊎ (count_by (frees g) (e ∷ es) ≡ 1)
      by_test rest true is =
          let o = opens_next l s e g (own_is g (opened_by e) is) legal.0 in
          let next = slots_kept l s e legal.0 k in
          ⊎_elim (λ still. inl still) (λ once. inr (skips (frees g) e es unfreed ∙ once)) (while_open es (after s e) legal.1 next (next.warming g o.warming))
      by_test rest false is =
          let more = skips (opens g) e es is in
          ⊎_elim (λ still. inl still) (λ once. inr (skips (frees g) e es unfreed ∙ once))
          (rest (still_to_come s e legal.0 (λ z. true_and_false (is_some_of g (opened_by e)) (ap (is_some_of g) z ∙ is_own g) is) low) (omega arith))

  -- an entry opens no generation less than the last one
  last_grows : (s : State) (e : Entry U X L) → IsAllowed l s e → s.last_opened ≤ (after s e).last_opened
  last_grows s (Open c u x slot d) p = let n = p.next in omega arith
  last_grows s (Free x) p = omega arith
  last_grows s (TooMany c u gs) p = omega arith
  last_grows s (GenerationsSpent c u) p = omega arith
  last_grows s (Update c u) p = omega arith
  last_grows s (Finish x list) p = omega arith
  last_grows s (Superseded x by list) p = omega arith
  last_grows s (Acquire c x k) p = omega arith
  last_grows s (NotYet c) p = omega arith
  last_grows s (Release c x list) p = omega arith

  never_opened : (es : List (Entry U X L)) (s : State) → LegalFrom l s es → g ≤ s.last_opened → count_by (opens g) es ≡ 0
  never_opened [] s legal low = refl
  never_opened (e ∷ es) s legal low =
      skips (opens g) e es (is_not g (opened_by e) (λ is. let n = (opens_next l s e g is legal.0).next in absurd (omega arith)))
      ∙ never_opened es (after s e) legal.1 (let n = last_grows s e legal.0 in omega arith)

  -- so one that was opened, and has no slot at the end, was freed once
  pub freed_once : (log : List (Entry U X L)) → Legal l log → 1 ≤ count_by (opens g) log → HasSlot (state_of l log) g ⊎ (count_by (frees g) log ≡ 1)
  freed_once log legal opened = ⊎_elim
      (λ later. from_before log (start l) legal (slots_start l) later opened)
      (λ past. let n = never_opened log (start l) legal past in absurd (omega arith))
      (cases_lt (start l).last_opened g)
