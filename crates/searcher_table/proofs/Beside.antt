-- Steps on the words of callers leave part two of the rule.
use Rattle.std.proofs.Common.{◌≡◌, ℕ, ◌+◌, ◌≤◌, ◌<◌, ◌==◌, Bool, true, false, cond, List, [], ◌∷◌, ◌++◌, count_by, set, get_or-set_other, refl, sym, ap, ◌∙◌, subst, arith, inl, inr, ⊎_elim, Option, Some, None}
use Rattle.std.specs.Prelude.{slice_index}
use Rattle.std.specs.List.{AllByRecursion}
use Rattle.std.proofs.lemmas.Option.{none-some}
use Rattle.registry_machine.specs.declared.entry.Entry.{Entry}
use Rattle.registry_machine.specs.declared.entry.Entry.TheVariants.{Open}
use Rattle.registry_machine.specs.Callers.{mine}
use Rattle.registry_machine.specs.Machine.{Limits, State, after}
use Rattle.registry_machine.specs.Legal.{CanOpen, Legal, state_of}
use Rattle.registry_machine.proofs.Lists.{test_same}
use Rattle.searcher_table.specs.declared.board.Plan.{Plan}
use Rattle.searcher_table.specs.Words.{HasSizes, limits, packed, current_word, call_word}
use Rattle.searcher_table.specs.Counts.{is_acquire, is_not_yet, releases, NamesCaller}
use Rattle.searcher_table.specs.Rule.{CountsTooEarly, IsPacked, SaysCurrent, Two}
use Rattle.searcher_table.proofs.Frame.{own_joined}
use Rattle.searcher_table.proofs.Places.{counts_joined}
use Rattle.searcher_table.proofs.Counts.{own_count, own_first, not_own, counts_last, balance_of_all}
use Rattle.searcher_table.proofs.Quiet.{state_next}
use Rattle.searcher_table.proofs.Standing.{bounded, sound}

-- the words that part two speaks of are the same
abbrev pub AreSame : List ℕ → List ℕ → Type 0
AreSame words news = (i : ℕ) → i < 640 → slice_index news i ≡ slice_index words i

-- a caller's word is none of them
pub call_beside : (words : List ℕ) (c x : ℕ) → AreSame words (set words (call_word c) x)
call_beside words c x i low = get_or-set_other words (call_word c) i x 0 (λ e. absurd (omega arith))

-- what holds of all but the last, and of the last
pub all_snoc : {A : Type 0} (F : A → Type 0) (xs : List A) (a : A) → AllByRecursion F xs → F a → AllByRecursion F (xs ++ a ∷ [])
all_snoc F [] a all last = (last, tt)
all_snoc F (x ∷ xs) a all last = (all.0, all_snoc F xs a all.1 last)

module _ {W : Type 0} (p : Plan W) where
  -- the greatest number of slots, and that there is a first generation
  pub few_slots : HasSizes p → (limits p).slots ≤ 70
  few_slots s = let a = s.callers in let b = s.warming in omega arith

  pub first_within : HasSizes p → (limits p).first_generation ≤ (limits p).last_generation + 1
  first_within s = let a = s.generation.1 in omega arith

module _ {W U X L : Type 0} (p : Plan W) where
  -- an open slot's word is among them
  pub open_below : (log : List (Entry U X L)) (slot g : ℕ) → HasSizes p → Legal (limits p) log → (state_of (limits p) log).slots slot ≡ Some g → slot < 70
  open_below log slot g s legal is = let a = (bounded (limits p) log (first_within p s) legal).below slot g is in let b = few_slots p s in omega arith

  -- where the current word alone is the same
  pub two_slots : (log : List (Entry U X L)) (words news : List ℕ) → slice_index news current_word ≡ slice_index words current_word → Two p log words → Two p log news
  two_slots log words news same two = record {
    sizes = two.sizes;
    current = subst (SaysCurrent (limits p) log) (sym same) two.current;
    named = two.named;
    within = two.within;
  }

  pub two_words : (log : List (Entry U X L)) (words news : List ℕ) → AreSame words news → Two p log words → Two p log news
  two_words log words news same two = two_slots log words news (same current_word (omega arith)) two

-- what a slot is open for is so after an opening in another one
pub kept_open : (slots : ℕ → Option ℕ) (free x slot g : ℕ) → slots free ≡ None → slots slot ≡ Some g → cond (slot == free) (Some x) (slots slot) ≡ Some g
kept_open slots free x slot g none is = by_test (slot == free) refl
  where
    by_test : (b : Bool) → (slot == free) ≡ b → cond b (Some x) (slots slot) ≡ Some g
    by_test true e = absurd (none-some g (sym none ∙ ap slots (sym (test_same slot free e)) ∙ is))
    by_test false e = is

-- an entry with which no count and no pin changes, though it may open a generation
pub record Apart {U X L : Type 0} (l : Limits) (log : List (Entry U X L)) (e : Entry U X L) : Type 0 where
  pub current : (after (state_of l log) e).current ≡ (state_of l log).current
  pub acquired : (g : ℕ) → (after (state_of l log) e).acquired g ≡ (state_of l log).acquired g
  pub stays : (slot g : ℕ) → (state_of l log).current ≡ Some g → (state_of l log).slots slot ≡ Some g → (after (state_of l log) e).slots slot ≡ Some g
  pub early : is_not_yet e ≡ false
  pub acquire : is_acquire e ≡ false
  pub released : (g : ℕ) → releases g e ≡ false

module _ {U X L : Type 0} where
  -- what is counted of a caller after an entry more
  pub own_last : (c : ℕ) (q : Entry U X L → Bool) (log : List (Entry U X L)) (e : Entry U X L) → count_by q (mine c (log ++ e ∷ [])) ≡ count_by q (mine c log) + own_count c q e
  own_last c q log e =
      let a = ap (count_by q) (own_joined c log (e ∷ [])) in
      let b = counts_joined q (mine c log) (mine c (e ∷ [])) in
      let d = own_first c q e [] in
      omega arith

  pub not_counted : (q : Entry U X L → Bool) (log : List (Entry U X L)) (e : Entry U X L) → q e ≡ false → count_by q (log ++ e ∷ []) ≡ count_by q log
  not_counted q log e none = let a = counts_last q log e in let b : cond {A = ℕ} (q e) 1 0 ≡ 0 = ap (λ t. cond t 1 0) none in omega arith

  -- the next generation was never released
  pub never_released : (l : Limits) (log : List (Entry U X L)) (g : ℕ) → Legal l log → AllByRecursion NamesCaller log → g ≡ (state_of l log).last_opened + 1 → count_by (releases g) log ≡ 0
  never_released l log g legal named next =
      let a = (sound l log legal).never_above g (omega arith) in
      let b = balance_of_all l g log legal named in
      omega arith

  pub opening_apart : (l : Limits) (log : List (Entry U X L)) (c : ℕ) (u : U) (g slot : ℕ) (x : X) → CanOpen l (state_of l log) g slot → Apart l log (Open c u g slot x)
  opening_apart l log c u g free x may =
      let s : State = state_of l log in
      record {
        current = refl;
        acquired = λ _. refl;
        stays = λ slot h _ is. kept_open s.slots free g slot h may.free is;
        early = refl;
        acquire = refl;
        released = λ _. refl;
      }

module _ {W U X L : Type 0} (p : Plan W) where
  pub two_entry : (log : List (Entry U X L)) (e : Entry U X L) (words news : List ℕ) → slice_index news current_word ≡ slice_index words current_word → Apart (limits p) log e → NamesCaller e → Two p log words → Two p (log ++ e ∷ []) news
  two_entry log e words news word apart named two =
      let l = limits p in
      let next = state_next l log e in
      record {
        sizes = two.sizes;
        current = ⊎_elim
            (λ (k : CountsTooEarly l log (slice_index words current_word)). inl record {
              none = ap (λ (s : State). s.current) next ∙ apart.current ∙ k.none;
              counted = word ∙ k.counted ∙ sym (not_counted is_not_yet log e apart.early);
            })
            (λ (k : IsPacked l log (slice_index words current_word)). inr record {
              generation = k.generation;
              slot = k.slot;
              current = ap (λ (s : State). s.current) next ∙ apart.current ∙ k.current;
              opened = ap (λ (s : State). s.slots k.slot) next ∙ apart.stays k.slot k.generation k.current k.opened;
              word_is = word ∙ k.word_is ∙ ap (packed k.generation k.slot) (sym (ap (λ (s : State). s.acquired k.generation) next ∙ apart.acquired k.generation));
            })
            two.current;
        named = all_snoc NamesCaller log e two.named named;
        within = λ c. let a = own_last c is_acquire log e in let b = not_own c is_acquire e apart.acquire in let w = two.within c in omega arith;
      }
