-- What the rows say is current at a place is current there in the history.
use Rattle.std.proofs.Common.{◌≡◌, ◌⊎◌, ℕ, suc, ◌<◌, ◌≤◌, List, [], ◌∷◌, length, map, Bool, true, false, cond, ◌&&◌, nat_le, Option, Some, None, refl, sym, ap, subst, ◌∙◌, inl, inr, arith, slice_get}
use Rattle.std.proofs.lemmas.Bool.Decides.{nat_tests}
use Rattle.std.proofs.lemmas.Option.{same_Some}
use Rattle.std.specs.Option.{option_map_or}
use Rattle.registry_machine.specs.Entries.{registers, ends}
use Rattle.registry_machine.specs.Places.{rank, Stands}
use Rattle.registry_machine.proofs.Lists.{not_both, false_true}
use Rattle.registry_machine.proofs.Runs.{state_at}
use Rattle.registry_machine.proofs.Ranks.{rank_rises, rank_rises_over}
use Rattle.registry_machine.proofs.Indices.{sound_at, current_ended, current_was_registered, registered_up_to_current, none_registered, registered_in_order}
use Rattle.run_laws.specs.Rows.{SearcherRow}
use Rattle.run_laws.specs.Places.{later, last_registered, current_at}
use Rattle.run_history.specs.Tellings.{Life}
use Rattle.run_history.proofs.Elements.{In}
use Rattle.run_history.proofs.Run.{Run, life_is, life_of, ends_placed}

-- no row was registered up to p, or y is one that was registered up to p, and last
abbrev IsLast : ℕ → List SearcherRow → Option SearcherRow → Type 0
IsLast p ss None = (z : SearcherRow) → In z ss → z.registered ≡ true → z.ended ≤ p → ⊥
IsLast p ss (Some y) = In y ss × (y.registered ≡ true) × (y.ended ≤ p) × ((z : SearcherRow) → In z ss → z.registered ≡ true → z.ended ≤ p → z.ended ≤ y.ended)

counted : (p : ℕ) (s : SearcherRow) → (b : Bool) → (s.registered && nat_le s.ended p) ≡ b → ((b ≡ true) × (s.registered ≡ true) × (s.ended ≤ p)) ⊎ ((b ≡ false) × (s.registered ≡ true → s.ended ≤ p → ⊥))
counted p s b e = by_parts s.registered (nat_le s.ended p) refl refl
  where
    by_parts : (x y : Bool) → s.registered ≡ x → nat_le s.ended p ≡ y → ((b ≡ true) × (s.registered ≡ true) × (s.ended ≤ p)) ⊎ ((b ≡ false) × (s.registered ≡ true → s.ended ≤ p → ⊥))
    by_parts x y ex ey = grind (arith, nat_tests, ex, ey, e)

last_with : (p : ℕ) (s : SearcherRow) (ss : List SearcherRow) (o : Option SearcherRow) → s.registered ≡ true → s.ended ≤ p → IsLast p ss o → IsLast p (s ∷ ss) (Some (later s o))
last_with p s ss None reg le k = (inl refl, reg, le, λ z i r l. only z i r l)
  where
    only : (z : SearcherRow) → In z (s ∷ ss) → z.registered ≡ true → z.ended ≤ p → z.ended ≤ s.ended
    only z (inl e) r l = omega (arith, ap (λ x. x.ended) e)
    only z (inr i) r l = absurd (k z i r l)
last_with p s ss (Some t) reg le k = by_test (nat_le s.ended t.ended) refl
  where
    by_test : (b : Bool) → nat_le s.ended t.ended ≡ b → IsLast p (s ∷ ss) (Some (cond b t s))
    by_test true e = (inr k.0, k.1, k.2, λ z i r l. below z i r l)
      where
        below : (z : SearcherRow) → In z (s ∷ ss) → z.registered ≡ true → z.ended ≤ p → z.ended ≤ t.ended
        below z (inl same) r l = let a : s.ended ≤ t.ended = grind (arith, nat_tests) in omega (arith, a, ap (λ x. x.ended) same)
        below z (inr i) r l = k.3 z i r l
    by_test false e = (inl refl, reg, le, λ z i r l. below z i r l)
      where
        below : (z : SearcherRow) → In z (s ∷ ss) → z.registered ≡ true → z.ended ≤ p → z.ended ≤ s.ended
        below z (inl same) r l = omega (arith, ap (λ x. x.ended) same)
        below z (inr i) r l = let a : t.ended ≤ s.ended = grind (arith, nat_tests) in let b = k.3 z i r l in omega (arith, a, b)

last_without : (p : ℕ) (s : SearcherRow) (ss : List SearcherRow) (o : Option SearcherRow) → (s.registered ≡ true → s.ended ≤ p → ⊥) → IsLast p ss o → IsLast p (s ∷ ss) o
last_without p s ss None n k = λ z i r l. none z i r l
  where
    none : (z : SearcherRow) → In z (s ∷ ss) → z.registered ≡ true → z.ended ≤ p → ⊥
    none z (inl e) r l = n (subst (λ x. x.registered ≡ true) (sym e) r) (subst (λ x. x.ended ≤ p) (sym e) l)
    none z (inr i) r l = k z i r l
last_without p s ss (Some y) n k = (inr k.0, k.1, k.2, λ z i r l. below z i r l)
  where
    below : (z : SearcherRow) → In z (s ∷ ss) → z.registered ≡ true → z.ended ≤ p → z.ended ≤ y.ended
    below z (inl e) r l = absurd (n (subst (λ x. x.registered ≡ true) (sym e) r) (subst (λ x. x.ended ≤ p) (sym e) l))
    below z (inr i) r l = k.3 z i r l

last_is : (p : ℕ) (ss : List SearcherRow) → IsLast p ss (last_registered p ss)
last_is p [] = λ z i r l. i
last_is p (s ∷ ss) = by_test (s.registered && nat_le s.ended p) refl (last_is p ss)
  where
    by_test : (b : Bool) → (s.registered && nat_le s.ended p) ≡ b → IsLast p ss (last_registered p ss) → IsLast p (s ∷ ss) (cond b (Some (later s (last_registered p ss))) (last_registered p ss))
    by_test true e k = elim (counted p s true e) [ inl c ↦ last_with p s ss (last_registered p ss) c.1 c.2 k | inr c ↦ absurd (false_true (sym c.0)) ]
    by_test false e k = elim (counted p s false e) [ inl c ↦ absurd (false_true c.0) | inr c ↦ last_without p s ss (last_registered p ss) c.1 k ]

-- a registered row that ended last up to p is current there
current_is : (p : ℕ) (ss : List SearcherRow) (x : SearcherRow) → In x ss → x.registered ≡ true → x.ended ≤ p → ((y : SearcherRow) → In y ss → y.registered ≡ true → y.ended ≤ p → x.ended ≤ y.ended → y.generation ≡ x.generation) → current_at p ss ≡ x.generation
current_is p ss x i reg le only = out (last_registered p ss) (last_is p ss)
  where
    out : (o : Option SearcherRow) → IsLast p ss o → option_map_or (λ s. s.generation) o 0 ≡ x.generation
    out None k = absurd (k x i reg le)
    out (Some y) k = only y k.0 k.1 k.2 (k.3 x i reg le)

none_is : (p : ℕ) (ss : List SearcherRow) → ((z : SearcherRow) → In z ss → z.registered ≡ true → z.ended ≤ p → ⊥) → current_at p ss ≡ 0
none_is p ss none = out (last_registered p ss) (last_is p ss)
  where
    out : (o : Option SearcherRow) → IsLast p ss o → option_map_or (λ s. s.generation) o 0 ≡ 0
    out None k = refl
    out (Some y) k = absurd (none y k.0 k.1 k.2)

row_of : (ls : List Life) (z : SearcherRow) → In z (map (λ s. s.row) ls) → (s : Life) × In s ls × (s.row ≡ z)
row_of [] z i = absurd i
row_of (s ∷ ls) z (inl e) = (s, inl refl, e)
row_of (s ∷ ls) z (inr i) = let k = row_of ls z i in (k.0, inr k.1, k.2)

pub row_in : (ls : List Life) (s : Life) → In s ls → In s.row (map (λ x. x.row) ls)
row_in [] s i = absurd i
row_in (x ∷ ls) s (inl e) = inl (ap (λ y. y.row) e)
row_in (x ∷ ls) s (inr i) = inr (row_in ls s i)

module _ {U D L : Type 0} (f : Run U D L) where
  -- a row that ended up to the place before index n has its end before n
  pub ended_by : (s : Life) (n p : ℕ) → In s f.lives → rank f.history n ≡ suc p → s.row.ended ≤ p → s.ended < n
  ended_by s n p i e le =
      let k = life_is f s i in
      let after : n ≤ s.ended → ⊥ = λ ge. let r = rank_rises f.history n s.ended ge in omega (arith, k.ended, e, le, r) in
      grind (arith, after)

  pub ended_up_to : (s : Life) (n p : ℕ) → In s f.lives → rank f.history n ≡ suc p → s.ended < n → s.row.ended ≤ p
  ended_up_to s n p i e lt =
      let k = life_is f s i in
      let r = rank_rises_over f.history s.ended n k.end.entry k.end.at (ends_placed k.end.entry s.row.generation k.end.told) lt in omega (arith, k.ended, e, r)

  -- a row that says so was registered
  pub registration : (s : Life) → In s f.lives → s.row.registered ≡ true → Stands registers f.history s.ended s.row.generation
  registration s i r = let k = life_is f s i in record { entry = k.end.entry; at = k.end.at; told = k.registered.0 r }

  -- registrations of two generations stand at two indices, and the later one is greater
  later_is_greater : (s t : Life) → In s f.lives → In t f.lives → s.row.registered ≡ true → t.row.registered ≡ true → s.row.ended ≤ t.row.ended → t.row.generation ≤ s.row.generation → t.row.generation ≡ s.row.generation
  later_is_greater s t i j rs rt le up =
      let a = registration s i rs in
      let b = registration t j rt in
      let first : s.ended < t.ended → ⊥ = λ lt. let g = registered_in_order f.limits f.history f.legal s.ended t.ended s.row.generation t.row.generation a b lt in omega (arith, g, up) in
      let k = life_is f s i in
      let m = life_is f t j in
      let second : t.ended < s.ended → ⊥ = λ lt. let r = rank_rises_over f.history t.ended s.ended m.end.entry m.end.at (ends_placed m.end.entry t.row.generation m.end.told) lt in omega (arith, k.ended, m.ended, r, le) in
      let same : s.ended ≡ t.ended = grind (arith, first, second) in
      let at_s : slice_get f.history s.ended ≡ Some b.entry = subst (λ n. slice_get f.history n ≡ Some b.entry) (sym same) b.at in
      let entry : a.entry ≡ b.entry = same_Some a.entry b.entry (sym a.at ∙ at_s) in
      same_Some t.row.generation s.row.generation (sym b.told ∙ (ap registers (sym entry) ∙ a.told))

  current_row : (n g : ℕ) → (s : Life) → In s f.lives → s.row.generation ≡ g → (state_at f.limits f.history n).current ≡ Some g → (b : Bool) → s.row.registered ≡ b → s.row.registered ≡ true
  current_row n g s i e now true r = r
  current_row n g s i e now false r =
      let k = life_is f s i in
      let end : Stands ends f.history s.ended g = record { entry = k.end.entry; at = k.end.at; told = k.end.told ∙ ap Some e } in
      absurd (current_was_registered f.limits f.history f.legal n g s.ended now end (λ t. not_both s.row.registered r (k.registered.1 (t ∙ ap Some (sym e)))))

  -- what is current at n is so at the last place before it
  pub current_found : (n g p : ℕ) → n ≤ length f.history → (state_at f.limits f.history n).current ≡ Some g → rank f.history n ≡ suc p → current_at p (map (λ s. s.row) f.lives) ≡ g
  current_found n g p within now place =
      let c = (sound_at f.limits f.history f.legal n).current_opened g now in
      let l = life_of f g n (omega (arith, c.0, f.first)) within c.1 in
      let s = l.0 in
      let reg = current_row n g s l.1 l.2 now s.row.registered refl in
      let k = life_is f s l.1 in
      let end : Stands ends f.history s.ended g = record { entry = k.end.entry; at = k.end.at; told = k.end.told ∙ ap Some l.2 } in
      let lt = current_ended f.limits f.history f.legal n g s.ended now end in
      current_is p (map (λ x. x.row) f.lives) s.row (row_in f.lives s l.1) reg (ended_up_to s n p l.1 place lt) (λ y i r le later. other s l.1 l.2 reg y i r le later) ∙ l.2
    where
      other : (s : Life) → In s f.lives → s.row.generation ≡ g → s.row.registered ≡ true → (y : SearcherRow) → In y (map (λ x. x.row) f.lives) → y.registered ≡ true → y.ended ≤ p → s.row.ended ≤ y.ended → y.generation ≡ s.row.generation
      other s j e reg y i r le later =
          let m = row_of f.lives y i in
          let t = m.0 in
          let rt : t.row.registered ≡ true = ap (λ z. z.registered) m.2 ∙ r in
          let et : t.row.ended ≡ y.ended = ap (λ z. z.ended) m.2 in
          let gt : t.row.generation ≡ y.generation = ap (λ z. z.generation) m.2 in
          let lt = ended_by t n p m.1 place (omega (arith, et, le)) in
          let up = registered_up_to_current f.limits f.history f.legal n g t.ended t.row.generation now (registration t m.1 rt) lt in
          sym gt ∙ later_is_greater s t j m.1 reg rt (omega (arith, et, later)) (omega (arith, up, e))

  pub current_missing : (n p : ℕ) → (state_at f.limits f.history n).current ≡ None → rank f.history n ≡ suc p → current_at p (map (λ s. s.row) f.lives) ≡ 0
  current_missing n p none place = none_is p (map (λ s. s.row) f.lives) (λ z i r le.
      let m = row_of f.lives z i in
      let lt = ended_by m.0 n p m.1 place (let et : m.0.row.ended ≡ z.ended = ap (λ y. y.ended) m.2 in omega (arith, et, le)) in
      none_registered f.limits f.history f.legal n m.0.ended m.0.row.generation none (registration m.0 m.1 (ap (λ y. y.registered) m.2 ∙ r)) lt)
