-- Which searcher was current at an acquire, at a warming and at an end.
use Rattle.std.proofs.Common.{◌≡◌, ℕ, suc, ◌-◌, ◌<◌, ◌≤◌, List, [], ◌∷◌, length, map, Bool, true, false, nat_le, Option, Some, None, IsSome, IfSome, refl, sym, subst, inr, arith}
use Rattle.std.proofs.lemmas.Bool.Decides.{nat_tests}
use Rattle.std.proofs.lemmas.Option.{slice_get_within}
use Rattle.std.specs.List.{AllByRecursion}
use Rattle.registry_machine.specs.Entries.{acquires}
use Rattle.registry_machine.specs.Places.{rank, Stands}
use Rattle.registry_machine.proofs.Lists.{not_both}
use Rattle.registry_machine.proofs.Runs.{state_at}
use Rattle.registry_machine.proofs.Ranks.{rank_rises, rank_rises_over}
use Rattle.registry_machine.proofs.Indices.{acquires_at, registers_at, supersedes_at}
use Rattle.run_laws.specs.Places.{current_at}
use Rattle.run_laws.specs.Lawful.{ServesUnlessOlder, IsWarmedFrom, IsWarmed, TellsWarmings}
use Rattle.run_history.specs.Tellings.{Life}
use Rattle.run_history.specs.Agreement.{IsWarmedWithin, AreWarmed}
use Rattle.run_history.proofs.Elements.{In, all_in, all_from, all_map}
use Rattle.run_history.proofs.Run.{Run, life_is, opens_placed, opened_before_end}
use Rattle.run_history.proofs.Currents.{current_found, current_missing}
use Rattle.run_history.proofs.Places.{output_of}
use Rattle.run_history.proofs.Tickets.{index_from_of}

module _ {U D L : Type 0} (f : Run U D L) where
  -- what an acquire gets is current at the last place before it
  pub acquired_current : (n g k p : ℕ) → Stands acquires f.history n (g, k) → rank f.history n ≡ suc p → current_at p (map (λ s. s.row) f.lives) ≡ g
  acquired_current n g k p a place = current_found f n g p (let lt = slice_get_within f.history n a.entry a.at in omega (arith, lt)) (acquires_at f.limits f.history f.legal n g k a).current place

  -- ---- ends

  ended_place : (s : Life) → In s f.lives → rank f.history s.ended ≡ suc (s.row.ended - 1)
  ended_place s i =
      let m = life_is f s i in
      let r = rank_rises_over f.history s.opened s.ended m.opening.entry m.opening.at (opens_placed m.opening.entry s.row.generation m.opening.told) (opened_before_end f s i) in
      omega (arith, r, m.ended)

  within_end : (s : Life) → In s f.lives → s.ended ≤ length f.history
  within_end s i = let m = life_is f s i in let lt = slice_get_within f.history s.ended m.end.entry m.end.at in omega (arith, lt)

  serves : (s : Life) → In s f.lives → (b : Bool) → s.row.registered ≡ b → b ≡ nat_le (current_at (s.row.ended - 1) (map (λ x. x.row) f.lives)) s.row.generation
  serves s i true e =
      let m = life_is f s i in
      let r = registers_at f.limits f.history f.legal s.ended s.row.generation (record { entry = m.end.entry; at = m.end.at; told = m.registered.0 e }) in
      by_current (state_at f.limits f.history s.ended).current refl r.greatest
    where
      by_current : (now : Option ℕ) → (state_at f.limits f.history s.ended).current ≡ now → IfSome now (λ x. x ≤ s.row.generation) → true ≡ nat_le (current_at (s.row.ended - 1) (map (λ x. x.row) f.lives)) s.row.generation
      by_current None now le = let c = current_missing f s.ended (s.row.ended - 1) now (ended_place s i) in subst (λ x. true ≡ nat_le x s.row.generation) (sym c) (grind (arith, nat_tests))
      by_current (Some x) now le = let c = current_found f s.ended x (s.row.ended - 1) (within_end s i) now (ended_place s i) in subst (λ y. true ≡ nat_le y s.row.generation) (sym c) (grind (arith, nat_tests, le))
  serves s i false e =
      let m = life_is f s i in
      let r = supersedes_at f.limits f.history f.legal s.ended s.row.generation m.end (λ h. not_both s.row.registered e (m.registered.1 h)) in
      let c = current_found f s.ended r.by (s.row.ended - 1) (within_end s i) r.current (ended_place s i) in
      let g = r.greater in
      subst (λ y. false ≡ nat_le y s.row.generation) (sym c) (grind (arith, nat_tests, g))

  -- a searcher is registered exactly where no greater generation is current
  pub greatest_serves : AllByRecursion (ServesUnlessOlder (output_of f.rows f.lives)) (map (λ s. s.row) f.lives)
  greatest_serves = all_map (λ s. s.row) (ServesUnlessOlder (output_of f.rows f.lives)) f.lives (all_from (λ s. ServesUnlessOlder (output_of f.rows f.lives) s.row) f.lives (λ s i. serves s i s.row.registered refl))

  -- ---- warmings

  -- the acquire for a warming, between the places of opening and end
  pub record IsWarming (s : Life) : Type 0 where
    pub index : ℕ
    pub pin : ℕ × ℕ
    pub from : s.row.from ≡ Some pin
    pub acquire : Stands acquires f.history index pin
    pub opened : s.row.opened < rank f.history index
    pub ended : rank f.history index ≤ s.row.ended

  pub warming_of : (s : Life) → In s f.lives → IsWarmedWithin s → IsWarming s
  warming_of s i w =
      let m = life_is f s i in
      let x = index_from_of f s w.0 i w.1 in
      let a = rank_rises_over f.history s.opened w.0 m.opening.entry m.opening.at (opens_placed m.opening.entry s.row.generation m.opening.told) w.2 in
      let b = rank_rises f.history w.0 s.ended (let lt = w.3 in omega (arith, lt)) in
      record { index = w.0; pin = x.0; from = x.1; acquire = x.2; opened = omega (arith, a, m.opened); ended = omega (arith, b, m.ended) }

  is_warmed : (s : Life) → In s f.lives → IsWarmedWithin s → IsWarmed (output_of f.rows f.lives) s.row
  is_warmed s i w =
      let k = warming_of s i w in
      let p = rank f.history k.index - 1 in
      let place : rank f.history k.index ≡ suc p = omega (arith, k.opened) in
      let current = acquired_current k.index k.pin.0 k.pin.1 p k.acquire place in
      let from : IsWarmedFrom (map (λ x. x.row) f.lives) s.row k.pin = (p, omega (arith, k.opened), omega (arith, k.opened, k.ended), current) in
      subst (λ o. IsSome o × IfSome o (IsWarmedFrom (map (λ x. x.row) f.lives) s.row)) (sym k.from) (refl, from)

  tells_warmings : (ls : List Life) → ((s : Life) → In s ls → In s f.lives) → AreWarmed f.config ls → TellsWarmings f.config (output_of f.rows f.lives) (map (λ s. s.row) ls)
  tells_warmings [] inside w = tt
  tells_warmings (s ∷ ls) inside w = (w.0, all_map (λ x. x.row) (IsWarmed (output_of f.rows f.lives)) ls (all_from (λ x. IsWarmed (output_of f.rows f.lives) x.row) ls (λ x i. is_warmed x (inside x (inr i)) (all_in IsWarmedWithin ls w.1 x i))))

  -- each later searcher was warmed from one that was current while it was warming
  pub warmings_told : TellsWarmings f.config (output_of f.rows f.lives) (map (λ s. s.row) f.lives)
  warmings_told = tells_warmings f.lives (λ s i. i) f.agrees.warmings
