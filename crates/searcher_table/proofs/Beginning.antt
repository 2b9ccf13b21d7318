-- A table keeps the rule as it is made.
use Rattle.std.proofs.Common.{◌≡◌, ◌≢◌, ℕ, zero, suc, ◌+◌, ◌*◌, ◌-◌, ◌%◌, ◌<◌, ◌≤◌, List, [], ◌∷◌, length, map, length-set, set, get_or, get_or-set_same, get_or-set_other, refl, sym, ap, ◌∙◌, subst, inl, ⊎_elim, arith, None}
use mathlib.Core.Option.{some, some-injective, some-ne-none}
use Rattle.std.specs.Prelude.{slice_index, replicate, min, ◌^◌}
use lib.ListN.{get_elem?}
use Rattle.std.specs.Int.{bit_at}
use Rattle.std.specs.List.{AllByRecursion}
use Rattle.std.proofs.lemmas.Bool.{cases_lt}
use Rattle.std.proofs.lemmas.List.{length-map}
use Rattle.std.proofs.lemmas.Nat.Bits.{bit_at_ones, bit_at_ones_above}
use Rattle.std.proofs.lemmas.Option.{same_Some, none-some}
use Rattle.atomic_table.specs.Table.{opening}
use Rattle.searcher_table.specs.declared.board.Cell.{Cell}
use Rattle.searcher_table.specs.declared.board.Cell.TheVariants.{Empty}
use Rattle.searcher_table.specs.declared.board.Plan.{Plan}
use Rattle.searcher_table.specs.declared.board.Task.TheVariants.{Idle}
use Rattle.searcher_table.specs.Words.{current_word, mask_word, bit_of, call_word, HasSizes}
use Rattle.searcher_table.specs.Rule.{World, Fits, Kept, opened}
use Rattle.searcher_table.proofs.Frame.{Each}
use Rattle.searcher_table.proofs.Beside.{few_slots}
use Rattle.searcher_table.specs.Doors.{cell_of}
use Rattle.searcher_table.proofs.Doors.{cell_below}
use Rattle.searcher_table.proofs.Slotted.{idle_duty}

-- the first seat of a table, of which it is true what it knows
each_one : {A : Type 0} (F : ℕ → A → Type 0) (a : A) → F 0 a → Each F (a ∷ [])
each_one F a own zero x e = subst (F 0) (some-injective a x e) own
each_one F a own (suc j) x e = absurd (some-ne-none x (sym e))

-- a cell of empty ones is empty
empty_there : {D U : Type 0} (cells : List (Cell D U)) (k : ℕ) → AllByRecursion (λ x. x ≡ Empty) cells → k < length cells → get_elem? (map some cells) k ≡ some (some Empty)
empty_there [] k all below = absurd (omega arith)
empty_there (x ∷ xs) zero all below = ap (λ y. some (some y)) all.0
empty_there (x ∷ xs) (suc k) all below = empty_there xs k all.1 (omega arith)

-- each word of so many is 0
pub all_zero : (n i : ℕ) → ◌≡◌ {A = ℕ} (get_or (replicate n 0) i 0) 0
all_zero zero i = refl
all_zero (suc n) zero = refl
all_zero (suc n) (suc i) = all_zero n i

-- the words of a new table: its slots are free, and all else is 0
abbrev pub first_words : ℕ → List ℕ
first_words slots = set (set (replicate 1168 0) 24 (2 ^ min slots 64 - 1)) 32 (2 ^ (slots - 64) - 1)

module _ (slots : ℕ) (few : slots ≤ 70) where
  word_else : (i : ℕ) → i ≢ 24 → i ≢ 32 → slice_index (first_words slots) i ≡ 0
  word_else i a b = get_or-set_other (set (replicate 1168 0) 24 (2 ^ min slots 64 - 1)) 32 i (2 ^ (slots - 64) - 1) 0 b ∙ get_or-set_other (replicate 1168 0) 24 i (2 ^ min slots 64 - 1) 0 a ∙ all_zero 1168 i

  word_low : slice_index (first_words slots) 24 ≡ 2 ^ min slots 64 - 1
  word_low = get_or-set_other (set (replicate 1168 0) 24 (2 ^ min slots 64 - 1)) 32 24 (2 ^ (slots - 64) - 1) 0 (λ z. absurd (omega arith)) ∙ get_or-set_same (replicate 1168 0) 24 (2 ^ min slots 64 - 1) 0 (omega arith)

  word_high : slice_index (first_words slots) 32 ≡ 2 ^ (slots - 64) - 1
  word_high = get_or-set_same (set (replicate 1168 0) 24 (2 ^ min slots 64 - 1)) 32 (2 ^ (slots - 64) - 1) 0 (let a = length-set (replicate 1168 0) 24 (2 ^ min slots 64 - 1) in omega arith)

  -- the bits are those of the slots
  first_bit : (slot : ℕ) → slot < 128 → (slot < slots → bit_of (first_words slots) slot ≡ 1) × (bit_of (first_words slots) slot ≡ 1 → slot < slots)
  first_bit slot low = ⊎_elim
      (λ below.
      let at : mask_word slot ≡ 24 = omega arith in
      let rest : slot % 64 ≡ slot = omega arith in
      let is : bit_of (first_words slots) slot ≡ bit_at (2 ^ min slots 64 - 1) slot = (λ i. bit_at (slice_index (first_words slots) (at i)) (rest i)) ∙ ap (λ n. bit_at n slot) word_low in (
        λ within. is ∙ bit_at_ones (min slots 64) slot (omega arith),
        λ one. ⊎_elim (λ within. within) (λ past. let z = is ∙ bit_at_ones_above (min slots 64) slot (omega arith) in absurd (omega arith)) (cases_lt slot slots),
      ))
      (λ above.
      let at : mask_word slot ≡ 32 = omega arith in
      let rest : slot % 64 ≡ slot - 64 = omega arith in
      let is : bit_of (first_words slots) slot ≡ bit_at (2 ^ (slots - 64) - 1) (slot - 64) = (λ i. bit_at (slice_index (first_words slots) (at i)) (rest i)) ∙ ap (λ n. bit_at n (slot - 64)) word_high in (
        λ within. is ∙ bit_at_ones (slots - 64) (slot - 64) (omega arith),
        λ one. ⊎_elim (λ within. within) (λ past. let z = is ∙ bit_at_ones_above (slots - 64) (slot - 64) (omega arith) in absurd (omega arith)) (cases_lt slot slots),
      ))
      (cases_lt slot 64)

module _ {D W U X L : Type 0} where
  pub opens : (setting : D → W) (docs : D → X) (deeds : D → List L) (p : Plan W) (cells : List (Cell D U)) → HasSizes p → length cells ≡ (p.callers + p.max_warming + 2) * 64 → AllByRecursion (λ x. x ≡ Empty) cells → Kept {D = D} {W = W} {U = U} {X = X} {L = L} setting docs deeds p (opening (first_words (p.callers + p.max_warming + 2)) cells (opened p))
  opens setting docs deeds p cells sizes count empty =
      let w : World U X L = record { log = []; pending = λ _. None; pass_at = λ _. 0; hand_at = λ _. 0; registrar_at = 0; next = 1; tasks = λ _. Idle; fresh_at = λ _. 0; filling = None } in
      let slots : ℕ = p.callers + p.max_warming + 2 in
      let few = few_slots p sizes in
      let words : List ℕ = first_words slots in
      record {
        words = length-set (set (replicate 1168 0) 24 (2 ^ min slots 64 - 1)) 32 (2 ^ (slots - 64) - 1) ∙ length-set (replicate 1168 0) 24 (2 ^ min slots 64 - 1);
        world = w;
        legal = tt;
        two = record {
          sizes = sizes;
          current = inl record { none = refl; counted = word_else slots few current_word (λ z. absurd (omega arith)) (λ z. absurd (omega arith)) };
          named = tt;
          within = λ _. omega arith;
        };
        three = record {
          masks = λ slot low. record {
            free = λ one. record { below = (first_bit slots few slot low).1 one; none = refl; unclaimed = λ z. none-some slot z };
            marked = λ f. (first_bit slots few slot low).0 f.below;
          };
          counts = λ slot g _ is. absurd (none-some g is);
          begun = λ _. tt;
          drained = λ slot g is _ _. absurd (none-some g is);
          alone = λ c d a b g is _. absurd (idle_duty a g is);
        };
        four = record {
          size = length-map cells some ∙ (let n = count in omega arith);
          doors = λ slot g _ is. absurd (none-some g is);
          spare = λ slot c below _ low within _. (let a = cell_below slot c slots below low (let b = sizes.callers in omega arith) in (Empty, empty_there cells (cell_of slot c) empty (omega arith), refl));
          opened = λ slot g is. absurd (none-some g is);
          filled = λ c low laid_so. absurd (omega arith);
        };
        one = record {
          calls = λ c low few. word_else slots (few_slots p sizes) (call_word c) (λ z. absurd (omega arith)) (λ z. absurd (omega arith));
          fits = each_one (Fits p w) (opened p) record {
            plan = λ q e. same_Some q p (sym e);
            seen = ([], refl);
            told = ([], refl);
            pass = λ c. absurd (omega arith);
            hand = λ h e. absurd (none-some h e);
            fresh = λ h e. absurd (none-some h e);
            registrar = λ _. record { here = refl; seen = record { rest = []; grown = refl; quiet = tt }; next = refl; nobody = refl; task = refl; filling = refl; final = λ _ _. refl };
            back = tt;
          };
          undealt = λ _ _. (refl, refl, refl);
          first = omega arith;
          few = omega arith;
          over = λ n _ is. absurd (none-some n is);
        };
      }

  -- by the numbers that were put into the mask words
  pub opens_with : (setting : D → W) (docs : D → X) (deeds : D → List L) (p : Plan W) (a b : ℕ) (cells : List (Cell D U)) → HasSizes p → length cells ≡ (p.callers + p.max_warming + 2) * 64 → AllByRecursion (λ x. x ≡ Empty) cells → a ≡ 2 ^ min (p.callers + p.max_warming + 2) 64 - 1 → b ≡ 2 ^ (p.callers + p.max_warming + 2 - 64) - 1
      → Kept {D = D} {W = W} {U = U} {X = X} {L = L} setting docs deeds p (opening (set (set (replicate 1168 0) 24 a) 32 b) cells (opened p))
  opens_with setting docs deeds p a b cells sizes count empty low high = subst (λ (z : ℕ × ℕ). Kept {D = D} {W = W} {U = U} {X = X} {L = L} setting docs deeds p (opening (set (set (replicate 1168 0) 24 z.0) 32 z.1) cells (opened p))) (λ i. (sym low i, sym high i)) (opens setting docs deeds p cells sizes count empty)
