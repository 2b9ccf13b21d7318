-- The current word, told apart into its parts.
use Rattle.std.proofs.Common.{◌≡◌, ℕ, ◌*◌, ◌/◌, ◌%◌, ◌≤◌, ◌<◌, List, sym, ap, ◌∙◌, arith, inl, inr, ⊎_elim, Option, Some, None}
use Rattle.std.specs.Prelude.{slice_index}
use Rattle.std.specs.Option.{option_map}
use Rattle.registry_machine.specs.declared.entry.Entry.{Entry}
use Rattle.registry_machine.specs.Machine.{Limits, State}
use Rattle.registry_machine.specs.Legal.{Legal, state_of}
use Rattle.searcher_table.specs.declared.board.Plan.{Plan}
use Rattle.searcher_table.specs.Words.{limits, packed, current_word}
use Rattle.searcher_table.specs.Rule.{CountsTooEarly, IsPacked, Two}
use Rattle.searcher_table.specs.Steps.{TellsNone, TellsGeneration, TellsCurrent}
use Rattle.searcher_table.proofs.Counts.{few_acquired, few_tries}
use Rattle.searcher_table.proofs.Standing.{sound, bounded}
use Rattle.searcher_table.proofs.Beside.{open_below, first_within}

-- the parts of a packed word
pub generation_of : (g slot n : ℕ) → slot < 128 → n < 4294967296 → packed g slot n / 549755813888 ≡ g
generation_of g slot n a b = omega arith

pub slot_of : (g slot n : ℕ) → slot < 128 → n < 4294967296 → packed g slot n / 4294967296 % 128 ≡ slot
slot_of g slot n a b = omega arith

pub count_of : (g slot n : ℕ) → slot < 128 → n < 4294967296 → packed g slot n % 4294967296 ≡ n
count_of g slot n a b = omega arith

module _ {W U X L : Type 0} (p : Plan W) (log : List (Entry U X L)) (words : List ℕ) (legal : Legal (limits p) log) (two : Two p log words) where
  -- how far the parts go
  pub record IsSmall (k : IsPacked (limits p) log (slice_index words current_word)) : Type 0 where
    pub slot : k.slot < 70
    pub least : 1 ≤ k.generation
    pub most : k.generation ≤ 33554431
    pub count : (state_of (limits p) log).acquired k.generation ≤ 64 * p.budget

  pub small : (k : IsPacked (limits p) log (slice_index words current_word)) → IsSmall k
  small k =
      let c = (sound (limits p) log legal).current_opened k.generation k.current in
      let b = bounded (limits p) log (first_within p two.sizes) legal in
      record {
        slot = open_below p log k.slot k.generation two.sizes legal k.opened;
        least = (let a = c.0 in let f = two.sizes.generation.0 in omega arith);
        most = (let a = c.1 in let l = b.last in omega arith);
        count = few_acquired (limits p) k.generation p.budget log two.named two.within;
      }

  pub tells : TellsCurrent (limits p) log (slice_index words current_word)
  tells = ⊎_elim
      (λ (k : CountsTooEarly (limits p) log (slice_index words current_word)). inl record {
        none = k.none;
        early = (let a = few_tries p.budget log two.named two.within in let b = k.counted in let s = two.sizes.budget in omega arith);
      })
      (λ (k : IsPacked (limits p) log (slice_index words current_word)).
      let i = small k in
      let s : State = state_of (limits p) log in
      let n : ℕ = s.acquired k.generation in
      let few : n < 4294967296 = (let a = i.count in let b = two.sizes.budget in omega arith) in
      let low : k.slot < 128 = (let a = i.slot in omega arith) in
      let is = k.word_is in
      let g = ap (λ w. w / 549755813888) is ∙ generation_of k.generation k.slot n low few in
      let t = ap (λ w. w / 4294967296 % 128) is ∙ slot_of k.generation k.slot n low few in
      let c = ap (λ w. w % 4294967296) is ∙ count_of k.generation k.slot n low few in
      inr record {
        current = k.current ∙ ap (λ x. Some x) (sym g);
        opened = ap s.slots t ∙ k.opened ∙ ap (λ x. Some x) (sym g);
        below = (let a = i.slot in omega arith);
        count = ap s.acquired g ∙ sym c;
        some = (let a = i.least in omega arith);
        few = (let a = i.count in let b = two.sizes.budget in omega arith);
      })
      two.current

-- what is told of the current generation and its acquires
module _ {U X L : Type 0} (l : Limits) (log : List (Entry U X L)) (n : ℕ) (t : TellsCurrent l log n) where
  abbrev with_count : Option (ℕ × ℕ)
  with_count = option_map (λ g. (g, (state_of l log).acquired g)) (state_of l log).current

  pub none_is : n < 549755813888 → with_count ≡ None
  none_is low = ⊎_elim
      (λ (k : TellsNone l log n). ap (λ o. option_map (λ g. (g, (state_of l log).acquired g)) o) k.none)
      (λ (k : TellsGeneration l log n). let a = k.some in absurd (omega arith))
      t

  pub some_is : 549755813888 ≤ n → with_count ≡ Some (n / 549755813888, n % 4294967296)
  some_is high = ⊎_elim
      (λ (k : TellsNone l log n). let a = k.early in absurd (omega arith))
      (λ (k : TellsGeneration l log n). ap (λ o. option_map (λ g. (g, (state_of l log).acquired g)) o) k.current ∙ ap (λ x. Some (n / 549755813888, x)) k.count)
      t
