-- How a run stays ready for its next requests.
use Rattle.std.proofs.Common.{◌≡◌, ℕ, ◌+◌, ◌≤◌, ap, ◌∙◌, arith}
use Rattle.search_model.specs.Live.{Change}
use Rattle.client_runner.specs.declared.runner.Runner.{Runner}
use Rattle.client_runner.specs.Rooms.{HasRoom, StaysReady}
use Rattle.client_runner.specs.Standings.{Standing, acquired, changed, opened, standing}

-- the same numbers
pub ready_kept : (n : ℕ) (old new : Runner) → new.place ≡ old.place → new.current.generation ≡ old.current.generation → new.current.acquired ≡ old.current.acquired
    → new.index.numbers ≡ old.index.numbers → HasRoom n old → HasRoom n new
ready_kept n old new place generation acquired numbers h = record {
  place = omega (arith, place, h.place);
  generation = omega (arith, generation, h.generation);
  acquired = omega (arith, acquired, h.acquired);
  numbers = omega (arith, numbers, h.numbers);
}

module _ (old new : Runner) (numbers : new.index.numbers ≤ old.index.numbers + 1) where
  -- by the numbers alone
  pub stays : new.place ≤ old.place + 2 → new.current.generation ≤ old.current.generation + 1 → new.current.acquired ≤ old.current.acquired + 1 → StaysReady old new
  stays place generation acquired n h = record {
    place = omega (arith, place, h.place);
    generation = omega (arith, generation, h.generation);
    acquired = omega (arith, acquired, h.acquired);
    numbers = omega (arith, numbers, h.numbers);
  }

  place_of : (st : Standing) → standing new ≡ st → new.place ≡ st.place
  place_of st e = ap (λ (x : Standing). x.place) e

  generation_of : (st : Standing) → standing new ≡ st → new.current.generation ≡ st.current.generation
  generation_of st e = ap (λ (x : Standing). x.current.generation) e

  acquired_of : (st : Standing) → standing new ≡ st → new.current.acquired ≡ st.current.acquired
  acquired_of st e = ap (λ (x : Standing). x.current.acquired) e

  -- where it stands as before
  pub stays_same : standing new ≡ standing old → StaysReady old new
  stays_same e =
      let place : new.place ≡ old.place = place_of (standing old) e in
      let generation : new.current.generation ≡ old.current.generation = generation_of (standing old) e in
      let count : new.current.acquired ≡ old.current.acquired = acquired_of (standing old) e in
      stays (omega (arith, place)) (omega (arith, generation)) (omega (arith, count))

  -- where a change took a place
  pub stays_changed : (change : Change) → standing new ≡ changed change (standing old) → StaysReady old new
  stays_changed change e =
      let place : new.place ≡ old.place + 1 = place_of (changed change (standing old)) e in
      let generation : new.current.generation ≡ old.current.generation = generation_of (changed change (standing old)) e in
      let count : new.current.acquired ≡ old.current.acquired = acquired_of (changed change (standing old)) e in
      stays (omega (arith, place)) (omega (arith, generation)) (omega (arith, count))

  -- where a searcher was opened
  pub stays_opened : standing new ≡ opened (standing old) → StaysReady old new
  stays_opened e =
      let place : new.place ≡ old.place + 2 = place_of (opened (standing old)) e in
      let generation : new.current.generation ≡ old.current.generation + 1 = generation_of (opened (standing old)) e in
      let count : new.current.acquired ≡ 0 = acquired_of (opened (standing old)) e in
      stays (omega (arith, place)) (omega (arith, generation)) (omega (arith, count))
