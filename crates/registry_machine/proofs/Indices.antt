-- What the entries of a legal history tell, by their indices.
use Rattle.std.proofs.Common.{◌≡◌, ◌≢◌, ◌⊎◌, ℕ, zero, suc, ◌<◌, ◌≤◌, List, Bool, true, false, Option, Some, None, IfSome, refl, sym, ap, subst, ◌∙◌, inl, inr, arith, slice_get}
use Rattle.std.proofs.lemmas.Option.{same_Some, none-some}
use Rattle.registry_machine.specs.declared.entry.Entry.{Entry}
use Rattle.registry_machine.specs.declared.entry.Entry.TheVariants.{Open}
use Rattle.registry_machine.specs.Entries.{opens, registers, ends, acquires, frees}
use Rattle.registry_machine.specs.Machine.{Limits, start, is_in}
use Rattle.registry_machine.specs.Legal.{Legal}
use Rattle.registry_machine.specs.Places.{Stands}
use Rattle.registry_machine.proofs.Lists.{true_and_false}
use Rattle.registry_machine.proofs.Runs.{state_at, state_past, allowed_at, state_next, lasts_to, always}
use Rattle.registry_machine.proofs.Steps.{current_or_0, last_rises, acquired_rises, current_rises, stays_current, IsPast, stays_past, IsSkipped, stays_skipped, Sound, sound_start, sound_kept}
use Rattle.registry_machine.proofs.Slots.{KeepsSlots, HasOnly, IsFreed, slots_start, slots_kept, only_kept, freed_kept, only_after, freed_after}
use Rattle.registry_machine.proofs.Stands.{Opens, Ends, Registers, Supersedes, Acquires, opens_next, ends_warming, registers_greatest, registered_ends, supersedes_smaller, acquires_current, acquired_more, warming_more}

module _ {U D L : Type 0} (l : Limits) (h : List (Entry U D L)) (legal : Legal l h) where
  -- ---- what stands at an index

  pub opens_at : (n g : ℕ) → Stands opens h n g → Opens l (state_at l h n) (state_at l h (suc n)) g
  opens_at n g k = subst (λ t. Opens l (state_at l h n) t g) (sym (state_next l h n k.entry legal k.at)) (opens_next l (state_at l h n) k.entry g k.told (allowed_at l h n k.entry legal k.at))

  pub ends_at : (n g : ℕ) → Stands ends h n g → Ends (state_at l h n) (state_at l h (suc n)) g
  ends_at n g k = subst (λ t. Ends (state_at l h n) t g) (sym (state_next l h n k.entry legal k.at)) (ends_warming l (state_at l h n) k.entry g k.told (allowed_at l h n k.entry legal k.at))

  pub registers_at : (n g : ℕ) → Stands registers h n g → Registers (state_at l h n) (state_at l h (suc n)) g
  registers_at n g k = subst (λ t. Registers (state_at l h n) t g) (sym (state_next l h n k.entry legal k.at)) (registers_greatest l (state_at l h n) k.entry g k.told (allowed_at l h n k.entry legal k.at))

  pub supersedes_at : (n g : ℕ) → (k : Stands ends h n g) → registers k.entry ≢ Some g → Supersedes (state_at l h n) (state_at l h (suc n)) g
  supersedes_at n g k other = subst (λ t. Supersedes (state_at l h n) t g) (sym (state_next l h n k.entry legal k.at)) (supersedes_smaller l (state_at l h n) k.entry g k.told other (allowed_at l h n k.entry legal k.at))

  pub acquires_at : (n g k : ℕ) → Stands acquires h n (g, k) → Acquires (state_at l h n) (state_at l h (suc n)) g k
  acquires_at n g k a = subst (λ t. Acquires (state_at l h n) t g k) (sym (state_next l h n a.entry legal a.at)) (acquires_current l (state_at l h n) a.entry g k a.told (allowed_at l h n a.entry legal a.at))

  pub sound_at : (n : ℕ) → Sound l (state_at l h n)
  sound_at n = always l (Sound l) (sound_kept l) h n legal (sound_start l)

  -- ---- openings

  pub last_at_rises : (m n : ℕ) → m ≤ n → (state_at l h m).last_opened ≤ (state_at l h n).last_opened
  last_at_rises m n le = lasts_to l (λ s. (state_at l h m).last_opened ≤ s.last_opened) (last_rises l (state_at l h m).last_opened) h m n le legal (omega arith)

  -- generations ascend with their openings
  pub opened_in_order : (m n g x : ℕ) → Stands opens h m g → Stands opens h n x → m < n → g < x
  opened_in_order m n g x a b lt = let p = opens_at m g a in let q = opens_at n x b in let r = last_at_rises (suc m) n lt in omega (arith, p.last, q.next, r)

  -- so a generation is opened once
  pub opened_once : (m n g : ℕ) → Stands opens h m g → Stands opens h n g → m ≡ n
  opened_once m n g a b =
      let up : m < n → ⊥ = λ lt. let k = opened_in_order m n g g a b lt in omega (arith, k) in
      let down : n < m → ⊥ = λ lt. let k = opened_in_order n m g g b a lt in omega (arith, k) in
      grind (arith, up, down)

  pub opened_before : (m n g : ℕ) → Stands opens h m g → g ≤ (state_at l h n).last_opened → m < n
  opened_before m n g a below =
      let up : n ≤ m → ⊥ = λ le. let p = opens_at m g a in let r = last_at_rises n m le in omega (arith, p.next, r) in
      grind (arith, up)

  pub opened_by_then : (m n g : ℕ) → Stands opens h m g → m < n → g ≤ (state_at l h n).last_opened
  opened_by_then m n g a lt = let p = opens_at m g a in let r = last_at_rises (suc m) n lt in omega (arith, p.last, r)

  -- ---- ends

  past_after_end : (n g : ℕ) → Stands ends h n g → IsPast (state_at l h (suc n)) g
  past_after_end n g k = let e = ends_at n g k in let w = (sound_at n).warming_opened g e.warming in record { opened = omega (arith, e.last, w.1); ended = e.ended }

  pub past_at : (m n g : ℕ) → Stands ends h m g → m < n → IsPast (state_at l h n) g
  past_at m n g k lt = lasts_to l (λ s. IsPast s g) (stays_past l g) h (suc m) n lt legal (past_after_end m g k)

  -- a generation that is past at n was ended before
  pub ended_before : (m n g : ℕ) → Stands ends h m g → IsPast (state_at l h n) g → m < n
  ended_before m n g k past =
      let up : n ≤ m → ⊥ = λ le. let later : IsPast (state_at l h m) g = lasts_to l (λ s. IsPast s g) (stays_past l g) h n m le legal past in true_and_false (is_in g (state_at l h m).warming) (ends_at m g k).warming later.ended in
      grind (arith, up)

  -- one that is warming at n was not ended before
  pub ended_after : (m n g : ℕ) → Stands ends h m g → is_in g (state_at l h n).warming ≡ true → n ≤ m
  ended_after m n g k warming =
      let down : m < n → ⊥ = λ lt. true_and_false (is_in g (state_at l h n).warming) warming (past_at m n g k lt).ended in
      grind (arith, down)

  -- a generation is ended once
  pub ended_once : (m n g : ℕ) → Stands ends h m g → Stands ends h n g → m ≡ n
  ended_once m n g a b =
      let up : m < n → ⊥ = λ lt. true_and_false (is_in g (state_at l h n).warming) (ends_at n g b).warming (past_at m n g a lt).ended in
      let down : n < m → ⊥ = λ lt. true_and_false (is_in g (state_at l h m).warming) (ends_at m g a).warming (past_at n m g b lt).ended in
      grind (arith, up, down)

  -- and behind its opening
  pub ended_behind : (m n g : ℕ) → Stands opens h m g → Stands ends h n g → m < n
  ended_behind m n g a b = opened_before m n g a ((sound_at n).warming_opened g (ends_at n g b).warming).1

  -- one that was opened and not ended is warming
  pub warming_between : (m n e g : ℕ) → Stands opens h m g → Stands ends h e g → m < n → n ≤ e → is_in g (state_at l h n).warming ≡ true
  warming_between m n e g a b lt le = by_test (is_in g (state_at l h n).warming) refl
    where
      by_test : (t : Bool) → is_in g (state_at l h n).warming ≡ t → is_in g (state_at l h n).warming ≡ true
      by_test true w = w
      by_test false w = absurd (let k = ended_before e n g b (record { opened = opened_by_then m n g a lt; ended = w }) in omega (arith, k, le))

  next_warming : (n g : ℕ) (found : Option (Entry U D L)) → slice_get h n ≡ found → is_in g (state_at l h (suc n)).warming ≡ true → (is_in g (state_at l h n).warming ≡ true) ⊎ Stands opens h n g
  next_warming n g None at i = inl (subst (λ t. is_in g t.warming ≡ true) (state_past l (start l) h n at) i)
  next_warming n g (Some e) at i =
      elim (warming_more l (state_at l h n) e g (allowed_at l h n e legal at) (subst (λ t. is_in g t.warming ≡ true) (state_next l h n e legal at) i)) [ inl before ↦ inl before | inr told ↦ inr (record { entry = e; at = at; told = told }) ]

  -- what is warming was opened before
  pub warming_opened : (n g : ℕ) → is_in g (state_at l h n).warming ≡ true → (m : ℕ) × (m < n) × Stands opens h m g
  warming_opened zero g i = absurd (grind arith)
  warming_opened (suc n) g i = either (next_warming n g (slice_get h n) refl i) (warming_opened n g)
    where
      either : (is_in g (state_at l h n).warming ≡ true) ⊎ Stands opens h n g → (is_in g (state_at l h n).warming ≡ true → (m : ℕ) × (m < n) × Stands opens h m g) → (m : ℕ) × (m < suc n) × Stands opens h m g
      either (inl w) before = let b = before w in (b.0, omega (arith, b.1), b.2)
      either (inr k) before = (n, omega arith, k)

  -- so an end has its opening before it
  pub ended_opened : (n g : ℕ) → Stands ends h n g → (m : ℕ) × (m < n) × Stands opens h m g
  ended_opened n g k = warming_opened n g (ends_at n g k).warming

  -- ---- registrations

  pub current_at_rises : (m n : ℕ) → m ≤ n → current_or_0 (state_at l h m).current ≤ current_or_0 (state_at l h n).current
  current_at_rises m n le = lasts_to l (λ s. current_or_0 (state_at l h m).current ≤ current_or_0 s.current) (current_rises l (current_or_0 (state_at l h m).current)) h m n le legal (omega arith)

  as_end : (n g : ℕ) → Stands registers h n g → Stands ends h n g
  as_end n g k = record { entry = k.entry; at = k.at; told = registered_ends l (state_at l h n) k.entry g k.told }

  below_current : (now : Option ℕ) (g : ℕ) → IfSome now (λ x. x ≤ g) → current_or_0 now ≤ g
  below_current None g h = omega arith
  below_current (Some x) g h = h

  -- generations ascend with their registrations
  pub registered_in_order : (m n g x : ℕ) → Stands registers h m g → Stands registers h n x → m < n → g < x
  registered_in_order m n g x a b lt =
      let p = registers_at m g a in
      let q = below_current (state_at l h n).current x (registers_at n x b).greatest in
      let r = current_at_rises (suc m) n lt in
      let s : current_or_0 (state_at l h (suc m)).current ≡ g = ap current_or_0 p.current in
      let other : g ≡ x → ⊥ = λ same. let k = ended_once m n x (as_end m x (subst (Stands registers h m) same a)) (as_end n x b) in omega (arith, k, lt) in
      grind (arith, q, r, s, other)

  -- what is current was ended before
  pub current_ended : (n g e : ℕ) → (state_at l h n).current ≡ Some g → Stands ends h e g → e < n
  current_ended n g e now k = ended_before e n g k (let c = (sound_at n).current_opened g now in record { opened = c.1; ended = c.2 })

  -- the end of a generation that is current is its registration
  pub current_was_registered : (n g e : ℕ) → (state_at l h n).current ≡ Some g → (k : Stands ends h e g) → registers k.entry ≢ Some g → ⊥
  current_was_registered n g e now k other =
      let lt = current_ended n g e now k in
      let s = supersedes_at e g k other in
      let skipped : IsSkipped (state_at l h (suc e)) g = record { past = past_after_end e g k; never = λ same. let eq : s.by ≡ g = same_Some s.by g (sym s.still ∙ same) in omega (arith, s.greater, eq) } in
      (lasts_to l (λ t. IsSkipped t g) (stays_skipped l g) h (suc e) n lt legal skipped).never now

  -- nothing greater was registered before
  pub registered_up_to_current : (n g m x : ℕ) → (state_at l h n).current ≡ Some g → Stands registers h m x → m < n → x ≤ g
  registered_up_to_current n g m x now a lt =
      let p : current_or_0 (state_at l h (suc m)).current ≡ x = ap current_or_0 (registers_at m x a).current in
      let q : current_or_0 (state_at l h n).current ≡ g = ap current_or_0 now in
      let r = current_at_rises (suc m) n lt in omega (arith, p, q, r)

  -- where nothing is current nothing was registered before
  pub none_registered : (n m x : ℕ) → (state_at l h n).current ≡ None → Stands registers h m x → m < n → ⊥
  none_registered n m x none a lt = lasts_to l (λ s. s.current ≡ None → ⊥) (stays_current l) h (suc m) n lt legal (λ e. none-some x (sym e ∙ (registers_at m x a).current)) none

  -- ---- acquires

  pub acquired_at_rises : (g m n : ℕ) → m ≤ n → (state_at l h m).acquired g ≤ (state_at l h n).acquired g
  acquired_at_rises g m n le = lasts_to l (λ s. (state_at l h m).acquired g ≤ s.acquired g) (acquired_rises l g ((state_at l h m).acquired g)) h m n le legal (omega arith)

  -- acquired generations never descend
  pub acquired_in_order : (m n g x j k : ℕ) → Stands acquires h m (g, j) → Stands acquires h n (x, k) → m < n → g ≤ x
  acquired_in_order m n g x j k a b lt =
      let p : current_or_0 (state_at l h m).current ≡ g = ap current_or_0 (acquires_at m g j a).current in
      let q : current_or_0 (state_at l h n).current ≡ x = ap current_or_0 (acquires_at n x k b).current in
      let r = current_at_rises m n (omega arith) in omega (arith, p, q, r)

  -- tickets of one generation ascend
  pub tickets_in_order : (m n g j k : ℕ) → Stands acquires h m (g, j) → Stands acquires h n (g, k) → m < n → j < k
  tickets_in_order m n g j k a b lt = let p = (acquires_at m g j a).more in let q = (acquires_at n g k b).counted in let r = acquired_at_rises g (suc m) n lt in omega (arith, p, q, r)

  pub acquired_once : (m n g k : ℕ) → Stands acquires h m (g, k) → Stands acquires h n (g, k) → m ≡ n
  acquired_once m n g k a b =
      let up : m < n → ⊥ = λ lt. let i = tickets_in_order m n g k k a b lt in omega (arith, i) in
      let down : n < m → ⊥ = λ lt. let i = tickets_in_order n m g k k b a lt in omega (arith, i) in
      grind (arith, up, down)

  -- a lower ticket stands before
  pub lower_ticket_first : (m n g j k : ℕ) → Stands acquires h m (g, j) → Stands acquires h n (g, k) → j < k → m < n
  lower_ticket_first m n g j k a b lt =
      let down : n < m → ⊥ = λ l'. let i = tickets_in_order n m g k j b a l' in omega (arith, i, lt) in
      let same : m ≡ n → ⊥ = λ e. let p = (acquires_at m g j a).counted in let q = (acquires_at n g k b).counted in let r : (state_at l h m).acquired g ≡ (state_at l h n).acquired g = ap (λ i. (state_at l h i).acquired g) e in omega (arith, p, q, r, lt) in
      grind (arith, down, same)

  next_ticket : (n g k : ℕ) (found : Option (Entry U D L)) → slice_get h n ≡ found → k < (state_at l h (suc n)).acquired g → (k < (state_at l h n).acquired g) ⊎ Stands acquires h n (g, k)
  next_ticket n g k None at lt = inl (subst (λ t. k < t.acquired g) (state_past l (start l) h n at) lt)
  next_ticket n g k (Some e) at lt =
      elim (acquired_more l (state_at l h n) e g k (allowed_at l h n e legal at) (subst (λ t. k < t.acquired g) (state_next l h n e legal at) lt)) [ inl i ↦ inl i | inr i ↦ inr (record { entry = e; at = at; told = i }) ]

  -- each ticket below the count was given
  pub ticket_given : (n g k : ℕ) → k < (state_at l h n).acquired g → (m : ℕ) × (m < n) × Stands acquires h m (g, k)
  ticket_given zero g k lt = absurd (omega (arith, lt))
  ticket_given (suc n) g k lt = either (next_ticket n g k (slice_get h n) refl lt) (ticket_given n g k)
    where
      either : (k < (state_at l h n).acquired g) ⊎ Stands acquires h n (g, k) → (k < (state_at l h n).acquired g → (m : ℕ) × (m < n) × Stands acquires h m (g, k)) → (m : ℕ) × (m < suc n) × Stands acquires h m (g, k)
      either (inl i) before = let b = before i in (b.0, omega (arith, b.1), b.2)
      either (inr i) before = (n, omega arith, i)

  -- ---- slots

  pub slots_at : (n : ℕ) → KeepsSlots (state_at l h n)
  slots_at n = always l KeepsSlots (slots_kept l) h n legal (slots_start l)

  -- while a caller pins a generation, its slot is the one of its opening
  pub pinned_slot : (m n c : ℕ) (u : U) (g slot caller : ℕ) (d : D) → slice_get h m ≡ Some (Open c u g slot d) → m < n → (state_at l h n).pins caller ≡ Some g → (state_at l h n).slots slot ≡ Some g
  pinned_slot m n c u g slot caller d at lt pin =
      let first = only_after {U = U} {D = D} {L = L} l (state_at l h m) (Open c u g slot d) c u g slot d refl (slots_at m) (allowed_at l h m (Open c u g slot d) legal at) in
      let then' : HasOnly (state_at l h (suc m)) g slot = subst (λ t. HasOnly t g slot) (sym (state_next l h m (Open c u g slot d) legal at)) first in
      let now = lasts_to l (λ s. HasOnly s g slot) (only_kept l g slot) h (suc m) n lt legal then' in
      let has = (slots_at n).pinned caller g pin in
      subst (λ t. (state_at l h n).slots t ≡ Some g) (now.only has.0 has.1) has.1

  -- a generation is freed once
  pub freed_once : (m n g : ℕ) → Stands frees h m g → Stands frees h n g → m ≡ n
  freed_once m n g a b = let up = before m n a b in let down = before n m b a in grind (arith, up, down)
    where
      before : (m n : ℕ) → Stands frees h m g → Stands frees h n g → m < n → ⊥
      before m n a b lt =
          let p = freed_after l (state_at l h m) a.entry g a.told (slots_at m) (allowed_at l h m a.entry legal a.at) in
          let gone : IsFreed (state_at l h (suc m)) g = subst (λ t. IsFreed t g) (sym (state_next l h m a.entry legal a.at)) p.1 in
          let now = lasts_to l (λ s. IsFreed s g) (freed_kept l g) h (suc m) n lt legal gone in
          let q = freed_after l (state_at l h n) b.entry g b.told (slots_at n) (allowed_at l h n b.entry legal b.at) in
          now.none q.0.0 q.0.1
