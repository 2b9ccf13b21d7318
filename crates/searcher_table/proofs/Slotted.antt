-- What each kind of step leaves of masks, of the words of slots, and of what is begun.
use Rattle.std.proofs.Common.{◌≡◌, ◌≢◌, ◌⊎◌, ℕ, ◌+◌, ◌*◌, ◌%◌, ◌<◌, ◌≤◌, Bool, true, false, not, ◌||◌, cond, eq-eqb, ne_eqb, List, [], ◌∷◌, ◌++◌, sym, refl, ap, ◌∙◌, subst, inl, inr, ⊎_elim, arith, Option, Some, None}
use mathlib.Core.Logic.{dite}
use native.Mathlib.Decide.{ℕ_discrete}
use Rattle.std.specs.Prelude.{slice_index}
use Rattle.std.specs.Int.{bit_at}
use Rattle.std.proofs.lemmas.Option.{same_Some, none-some}
use Rattle.registry_machine.specs.declared.entry.Entry.{Entry}
use Rattle.registry_machine.specs.declared.entry.Entry.TheVariants.{Acquire, Release}
use Rattle.registry_machine.specs.Machine.{State, is_in, is_some_of, after}
use Rattle.registry_machine.proofs.Lists.{true_and_false, test_same}
use Rattle.searcher_table.specs.declared.board.Plan.{Plan}
use Rattle.searcher_table.specs.declared.board.Task.{Task}
use Rattle.searcher_table.specs.declared.board.Task.TheVariants.{Idle, Found, Claimed, Filled, Filling, Unsettled, Duty, Back, Emptied}
use Rattle.searcher_table.specs.Words.{slot_word, mask_word, bit_of, limits}
use Rattle.searcher_table.specs.Tasks.{unsettled, is_settled, IsFree, IsClear, IsUnsettled, IsDuty, IsTask, Three}
use Rattle.registry_machine.specs.Legal.{state_of}
use Rattle.searcher_table.specs.Rule.{released}
use Rattle.searcher_table.proofs.Quiet.{state_next}
use Rattle.searcher_table.proofs.Frame.{put, put_here, put_else}
use Rattle.searcher_table.proofs.Beside.{AreSame}

-- the words of masks and slots are the same
abbrev pub SlotsSame : List ℕ → List ℕ → Type 0
SlotsSame words news = (i : ℕ) → 24 ≤ i → i < 640 → slice_index news i ≡ slice_index words i

pub slots_same : (words news : List ℕ) → AreSame words news → SlotsSame words news
slots_same words news same i low high = same i high

-- ---- tests

pub is_own : (g : ℕ) → is_some_of g (Some g) ≡ true
is_own g = eq-eqb g g refl

pub own_is : (g : ℕ) (o : Option ℕ) → is_some_of g o ≡ true → o ≡ Some g
own_is g None e = absurd (true_and_false false e refl)
own_is g (Some h) e = ap (λ n. Some n) (test_same h g e)

three_tests : (a b c : Bool) → not (a || b || c) ≡ true → (a ≡ false) × (b ≡ false) × (c ≡ false)
three_tests true b c e = absurd (true_and_false false e refl)
three_tests false true c e = absurd (true_and_false false e refl)
three_tests false false true e = absurd (true_and_false false e refl)
three_tests false false false e = (refl, refl, refl)

-- a settled generation is not warming, not current, and was told
pub settled_parts : (s : State) (own : Task) (g : ℕ) → is_settled s own g ≡ true → (is_in g s.warming ≡ false) × (s.current ≢ Some g) × (unsettled own ≢ Some g)
settled_parts s own g e =
    let t = three_tests (is_in g s.warming) (is_some_of g s.current) (is_some_of g (unsettled own)) e in (
      t.0,
      λ is. true_and_false (is_some_of g s.current) (ap (is_some_of g) is ∙ is_own g) t.1,
      λ is. true_and_false (is_some_of g (unsettled own)) (ap (is_some_of g) is ∙ is_own g) t.2,
    )

-- what is kept where the test holds
pub cond_same : (b : Bool) (x y : ℕ) → (b ≡ true → x ≡ y) → cond b x 0 ≡ cond b y 0
cond_same true x y same = same refl
cond_same false x y same = refl

pub idle_duty : (slot g : ℕ) → Idle ≡ Duty slot g → ⊥
idle_duty slot g e = let p : Idle ≡ Duty slot g = e in absurd (cc)

pub duty_parts : (a b g h : ℕ) → Duty a g ≡ Duty b h → (a ≡ b) × (g ≡ h)
duty_parts a b g h e = (ap slot_in e, ap generation_in e)
  where
    slot_in : Task → ℕ
    slot_in (Duty slot x) = slot
    slot_in _ = 0

    generation_in : Task → ℕ
    generation_in (Duty slot x) = x
    generation_in _ = 0

module _ {W : Type 0} (p : Plan W) (s t : State) (own now : Task) (rel new : ℕ → ℕ) (words news : List ℕ) (c : ℕ) where
  -- what another seat has begun stays true, by what a step leaves of each kind
  pub map_task : ((slot : ℕ) → c ≡ 0 → IsFree (limits p) s own slot → IsFree (limits p) t now slot) → ((slot : ℕ) → c ≡ 0 → s.slots slot ≡ None → t.slots slot ≡ None)
      → ((slot : ℕ) → c ≡ 0 → IsClear (limits p) s words slot → IsClear (limits p) t news slot) → (a : Task) → ((slot g total : ℕ) → c ≡ 0 → a ≡ Unsettled slot g total → IsUnsettled s slot g total → IsUnsettled t slot g total)
      → ((slot g : ℕ) → a ≡ Duty slot g → IsDuty p s own rel c slot g → IsDuty p t now new c slot g) → IsTask p s own rel words c a → IsTask p t now new news c a
  map_task free none clear Idle untold duty h = tt
  map_task free none clear (Found slot) untold duty h = (h.0, free slot h.0 h.1)
  map_task free none clear (Claimed slot) untold duty h = (h.0, h.1, none slot h.0 h.2)
  map_task free none clear (Filled slot n) untold duty h = (h.0, clear slot h.0 h.1)
  map_task free none clear (Filling slot n) untold duty h = (h.0, clear slot h.0 h.1)
  map_task free none clear (Unsettled slot g total) untold duty h = (h.0, untold slot g total h.0 refl h.1)
  map_task free none clear (Duty slot g) untold duty h = duty slot g refl h
  map_task free none clear Back untold duty h = tt
  map_task free none clear (Emptied n) untold duty h = tt

  -- and so for a caller
  pub map_duty : c ≢ 0 → (a : Task) → ((slot g : ℕ) → a ≡ Duty slot g → IsDuty p s own rel c slot g → IsDuty p t now new c slot g) → IsTask p s own rel words c a → IsTask p t now new news c a
  map_duty other a duty h = map_task (λ _ z _. absurd (other z)) (λ _ z _. absurd (other z)) (λ _ z _. absurd (other z)) a (λ _ _ _ z _ _. absurd (other z)) duty h

-- what is begun where one seat begins something else
module _ {W : Type 0} (p : Plan W) (s : State) (own : Task) (rel : ℕ → ℕ) (words : List ℕ) (tasks : ℕ → Task) (c : ℕ) (a : Task) where
  pub begun_by : IsTask p s own rel words c a → ((d : ℕ) → d ≢ c → IsTask p s own rel words d (tasks d)) → (d : ℕ) → IsTask p s own rel words d (put c a tasks d)
  begun_by mine others d = dite (ℕ_discrete d c)
      (λ same. subst (λ (n : ℕ × Task). IsTask p s own rel words n.0 n.1) (λ i. (sym same i, sym (ap (put c a tasks) same ∙ put_here c a tasks) i)) mine)
      (λ other. subst (λ (n : Task). IsTask p s own rel words d n) (sym (put_else c a tasks d other)) (others d other))

-- whose duty a generation is then
module _ (tasks : ℕ → Task) (c : ℕ) (a : Task) where
  pub duty_still : (d slot g : ℕ) → tasks d ≡ Duty slot g → d ≢ c → put c a tasks d ≡ Duty slot g
  duty_still d slot g is other = put_else c a tasks d other ∙ is

  pub was_duty : (d slot g : ℕ) → put c a tasks d ≡ Duty slot g → ((d ≡ c) × (a ≡ Duty slot g)) ⊎ ((d ≢ c) × (tasks d ≡ Duty slot g))
  was_duty d slot g is = dite (ℕ_discrete d c)
      (λ same. inl (same, sym (ap (put c a tasks) same ∙ put_here c a tasks) ∙ is))
      (λ other. inr (other, sym (put_else c a tasks d other) ∙ is))

-- a pass that has begun nothing is taken back
module _ {W : Type 0} (p : Plan W) (s : State) (rel : ℕ → ℕ) (tasks : ℕ → Task) (words : List ℕ) (c : ℕ) where
  back_duty : (slot g : ℕ) → Back ≡ Duty slot g → ⊥
  back_duty slot g e = let q : Back ≡ Duty slot g = e in absurd (cc)

  pub three_back : 1 ≤ c → tasks c ≡ Idle → Three p s rel (tasks 0) tasks words → Three p s rel (put c Back tasks 0) (put c Back tasks) words
  three_back low idle three = subst (λ (own : Task). Three p s rel own (put c Back tasks) words) (sym (put_else c Back tasks 0 (λ z. absurd (omega arith)))) record {
    masks = three.masks;
    counts = three.counts;
    begun = begun_by p s (tasks 0) rel words tasks c Back tt (λ d _. three.begun d);
    drained = λ slot g is settled out. let d = three.drained slot g is settled out in
        (d.0, duty_still tasks c Back d.0 slot g d.1 (λ z. idle_duty slot g (sym idle ∙ ap tasks (sym z) ∙ d.1)));
    alone = λ d e x y g i j. ⊎_elim
        (λ (m : (d ≡ c) × (Back ≡ Duty x g)). absurd (back_duty x g m.1))
        (λ (m : (d ≢ c) × (tasks d ≡ Duty x g)). ⊎_elim
        (λ (n : (e ≡ c) × (Back ≡ Duty y g)). absurd (back_duty y g n.1))
        (λ (n : (e ≢ c) × (tasks e ≡ Duty y g)). three.alone d e x y g m.1 n.1)
        (was_duty tasks c Back e y g j))
        (was_duty tasks c Back d x g i);
  }

-- ---- the words

pub bit_same : (words news : List ℕ) → SlotsSame words news → (slot : ℕ) → slot < 128 → bit_of news slot ≡ bit_of words slot
bit_same words news same slot low = ap (λ n. bit_at n (slot % 64)) (same (mask_word slot) (omega arith) (omega arith))

module _ {W : Type 0} (p : Plan W) (s : State) (rel : ℕ → ℕ) (tasks : ℕ → Task) (few : (limits p).slots ≤ 70) where
  pub three_words : (words news : List ℕ) → SlotsSame words news → Three p s rel (tasks 0) tasks words → Three p s rel (tasks 0) tasks news
  three_words words news same three = record {
    masks = λ slot low. let m = three.masks slot low in let e = bit_same words news same slot low in record { free = λ one. m.free (sym e ∙ one); marked = λ f. e ∙ m.marked f };
    counts = λ slot g low is. same (slot_word slot) (omega arith) (omega arith) ∙ three.counts slot g low is;
    begun = λ c. map_task p s s (tasks 0) (tasks 0) rel rel words news c (λ _ _ f. f) (λ _ _ f. f)
        (λ slot _ (h : IsClear (limits p) s words slot). let b = h.below in record { below = h.below; none = h.none; word_is = same (slot_word slot) (omega arith) (omega arith) ∙ h.word_is })
        (tasks c) (λ _ _ _ _ _ f. f) (λ _ _ _ f. f) (three.begun c);
    drained = three.drained;
    alone = three.alone;
  }

  -- the same with other functions that count as much
  pub three_counts : (new : ℕ → ℕ) (words : List ℕ) → ((g : ℕ) → new g ≡ rel g) → Three p s rel (tasks 0) tasks words → Three p s new (tasks 0) tasks words
  three_counts new words same three = subst (λ (f : ℕ → ℕ). Three p s f (tasks 0) tasks words) (λ i g. sym (same g) i) three

module _ {W : Type 0} (U X L : Type 0) (p : Plan W) (s : State) (rel : ℕ → ℕ) (tasks : ℕ → Task) (words : List ℕ) (three : Three p s rel (tasks 0) tasks words) where
  -- ---- an acquire

  count_kept : (c g k h : ℕ) → h ≢ g → (after {U = U} {D = X} {L = L} s (Acquire c g k)).acquired h ≡ s.acquired h
  count_kept c g k h other = ap (λ b. cond b (s.acquired h + 1) (s.acquired h)) (ne_eqb h g other)

  pub three_acquired : (c g k : ℕ) → s.current ≡ Some g → tasks c ≡ Idle → Three p (after {U = U} {D = X} {L = L} s (Acquire c g k)) rel (tasks 0) tasks words
  three_acquired c g k current idle =
      let t : State = after {U = U} {D = X} {L = L} s (Acquire c g k) in
      let apart : (h : ℕ) → is_settled s (tasks 0) h ≡ true → h ≢ g = λ h settled same. (settled_parts s (tasks 0) h settled).1 (current ∙ ap (λ n. Some n) (sym same)) in
      record {
        masks = λ slot low. let m = three.masks slot low in record {
          free = λ one. let f = m.free one in record { below = f.below; none = f.none; unclaimed = f.unclaimed };
          marked = λ f. m.marked record { below = f.below; none = f.none; unclaimed = f.unclaimed };
        };
        counts = λ slot h low is. three.counts slot h low is
            ∙ ap (λ n. rel h + n) (cond_same (is_settled s (tasks 0) h) ((s.acquired h + 1) * 4294967296) ((t.acquired h + 1) * 4294967296)
            (λ settled. ap (λ n. (n + 1) * 4294967296) (sym (count_kept c g k h (apart h settled)))));
        begun = λ d. map_task p s t (tasks 0) (tasks 0) rel rel words words d
            (λ slot _ (f : IsFree (limits p) s (tasks 0) slot). record { below = f.below; none = f.none; unclaimed = f.unclaimed })
            (λ slot _ f. f)
            (λ slot _ (f : IsClear (limits p) s words slot). record { below = f.below; none = f.none; word_is = f.word_is })
            (tasks d)
            (λ slot h total _ _ (f : IsUnsettled s slot h total). record {
              opened = f.opened;
              not_warming = f.not_warming;
              not_current = f.not_current;
              total_is = count_kept c g k h (λ same. f.not_current (current ∙ ap (λ n. Some n) (sym same))) ∙ f.total_is;
            })
            (λ slot h has (f : IsDuty p s (tasks 0) rel d slot h). record {
              opened = f.opened;
              settled = f.settled;
              drained = f.drained ∙ sym (count_kept c g k h (apart h f.settled));
              unpinned = ap (λ b. cond b (Some g) (s.pins d)) (ne_eqb d c (λ same. idle_duty slot h (sym idle ∙ ap tasks (sym same) ∙ has))) ∙ f.unpinned;
              within = f.within;
            })
            (three.begun d);
        drained = λ slot h is settled same. three.drained slot h is settled (same ∙ count_kept c g k h (apart h settled));
        alone = three.alone;
      }

  -- ---- a release

  -- by the caller c, who pinned the generation g in this slot
  pub three_released : (c g slot : ℕ) (ls : List L) (new : ℕ → ℕ) (news : List ℕ) (a : Task) → c ≢ 0 → c ≤ p.callers → slot < 70 → s.slots slot ≡ Some g → tasks c ≡ Idle → rel g + 1 ≤ s.acquired g
      → ((b : ℕ) → s.slots b ≡ Some g → b ≡ slot) → new g ≡ rel g + 1 → ((h : ℕ) → h ≢ g → new h ≡ rel h)
      → slice_index news (slot_word slot) ≡ slice_index words (slot_word slot) + 1 → ((i : ℕ) → i ≢ slot_word slot → slice_index news i ≡ slice_index words i)
      → (is_settled s (tasks 0) g ≡ true → new g ≡ s.acquired g → a ≡ Duty slot g) → (a ≡ Idle) ⊎ ((a ≡ Duty slot g) × (is_settled s (tasks 0) g ≡ true) × (new g ≡ s.acquired g))
      → Three p (after {U = U} {D = X} {L = L} s (Release c g ls)) new (tasks 0) (put c a tasks) news
  three_released c g slot ls new news a some few low here idle left one more others up same must is =
      let t : State = after {U = U} {D = X} {L = L} s (Release c g ls) in
      let undrained : (d b : ℕ) → tasks d ≡ Duty b g → ⊥ = λ d b has.
      (let f : IsDuty p s (tasks 0) rel d b g = subst (λ (n : Task). IsTask p s (tasks 0) rel words d n) has (three.begun d) in let e = f.drained in absurd (omega arith)) in
      let bits : (b : ℕ) → b < 128 → bit_of news b ≡ bit_of words b = λ b few. ap (λ n. bit_at n (b % 64)) (same (mask_word b) (λ z. absurd (omega arith))) in
      record {
        masks = λ b small. let m = three.masks b small in let e = bits b small in record {
          free = λ is. let f = m.free (sym e ∙ is) in record { below = f.below; none = f.none; unclaimed = f.unclaimed };
          marked = λ f. e ∙ m.marked record { below = f.below; none = f.none; unclaimed = f.unclaimed };
        };
        counts = λ b h small is. dite (ℕ_discrete b slot)
            (λ eq.
            let at : h ≡ g = same_Some h g (sym is ∙ ap s.slots eq ∙ here) in
            let w = three.counts slot g low here in
            let v = ap (λ n. slice_index news (slot_word n)) eq in
            let n = ap new at in
            let k : cond (is_settled s (tasks 0) h) ((s.acquired h + 1) * 4294967296) 0 ≡ cond (is_settled s (tasks 0) g) ((s.acquired g + 1) * 4294967296) 0 = ap (λ x. cond (is_settled s (tasks 0) x) ((s.acquired x + 1) * 4294967296) 0) at in
            omega arith)
            (λ away.
            let apart : h ≢ g = λ at. away (one b (is ∙ ap (λ n. Some n) at)) in
            same (slot_word b) (λ z. away (omega arith)) ∙ three.counts b h small is ∙ ap (λ n. n + cond (is_settled s (tasks 0) h) ((s.acquired h + 1) * 4294967296) 0) (sym (others h apart)));
        begun = begun_by p t (tasks 0) new news tasks c a
            (⊎_elim
            (λ (z : a ≡ Idle). subst (λ (n : Task). IsTask p t (tasks 0) new news c n) (sym z) tt)
            (λ (z : (a ≡ Duty slot g) × (is_settled s (tasks 0) g ≡ true) × (new g ≡ s.acquired g)). subst (λ (n : Task). IsTask p t (tasks 0) new news c n) (sym z.0) record {
              opened = here;
              settled = z.1;
              drained = z.2;
              unpinned = ap (λ b. cond b None (s.pins c)) (eq-eqb c c refl);
              within = few;
            })
            is)
            (λ d other. map_task p s t (tasks 0) (tasks 0) rel new words news d
            (λ b _ (f : IsFree (limits p) s (tasks 0) b). record { below = f.below; none = f.none; unclaimed = f.unclaimed })
            (λ b _ f. f)
            (λ b _ (f : IsClear (limits p) s words b). record {
              below = f.below;
              none = f.none;
              word_is = same (slot_word b) (λ z. let e : b ≡ slot = omega arith in none-some g (sym f.none ∙ ap s.slots e ∙ here)) ∙ f.word_is;
            })
            (tasks d)
            (λ b h total _ _ (f : IsUnsettled s b h total). record { opened = f.opened; not_warming = f.not_warming; not_current = f.not_current; total_is = f.total_is })
            (λ b h has (f : IsDuty p s (tasks 0) rel d b h). record {
              opened = f.opened;
              settled = f.settled;
              drained = others h (λ at. undrained d b (has ∙ ap (Duty b) at)) ∙ f.drained;
              unpinned = ap (λ z. cond z None (s.pins d)) (ne_eqb d c other) ∙ f.unpinned;
              within = f.within;
            })
            (three.begun d));
        drained = λ b h is settled out. dite (ℕ_discrete h g)
            (λ at. (
              c,
              put_here c a tasks ∙ must (ap (is_settled s (tasks 0)) (sym at) ∙ settled) (ap new (sym at) ∙ out ∙ ap s.acquired at)
                  ∙ (λ i. Duty (sym (one b (is ∙ ap (λ n. Some n) at)) i) (sym at i)),
            ))
            (λ away. let d = three.drained b h is settled (sym (others h away) ∙ out) in
            (d.0, duty_still tasks c a d.0 b h d.1 (λ z. idle_duty b h (sym idle ∙ ap tasks (sym z) ∙ d.1))));
        alone = λ d e x y h i j. ⊎_elim
            (λ (m : (d ≡ c) × (a ≡ Duty x h)). ⊎_elim
            (λ (n : (e ≡ c) × (a ≡ Duty y h)). m.0 ∙ sym n.0)
            (λ (n : (e ≢ c) × (tasks e ≡ Duty y h)). absurd (new_duty h x m.1 e y n.1))
            (was_duty tasks c a e y h j))
            (λ (m : (d ≢ c) × (tasks d ≡ Duty x h)). ⊎_elim
            (λ (n : (e ≡ c) × (a ≡ Duty y h)). absurd (new_duty h y n.1 d x m.1))
            (λ (n : (e ≢ c) × (tasks e ≡ Duty y h)). three.alone d e x y h m.1 n.1)
            (was_duty tasks c a e y h j))
            (was_duty tasks c a d x h i);
      }
    where
      new_duty : (h x : ℕ) → a ≡ Duty x h → (d y : ℕ) → tasks d ≡ Duty y h → ⊥
      new_duty h x has d y theirs = ⊎_elim
          (λ (z : a ≡ Idle). idle_duty x h (sym z ∙ has))
          (λ (z : (a ≡ Duty slot g) × (is_settled s (tasks 0) g ≡ true) × (new g ≡ s.acquired g)).
          let at : h ≡ g = (duty_parts x slot h g (sym has ∙ z.0)).1 in
          let f : IsDuty p s (tasks 0) rel d y g = subst (λ (n : Task). IsTask p s (tasks 0) rel words d n) (theirs ∙ ap (Duty y) at) (three.begun d) in
          let e = f.drained in absurd (omega arith))
          is

-- the same of the history with one entry more
module _ {W U X L : Type 0} (p : Plan W) (log : List (Entry U X L)) (e : Entry U X L) (own : Task) (tasks : ℕ → Task) (words : List ℕ) where
  pub three_after : {rel : ℕ → ℕ} → ((g : ℕ) → released (log ++ e ∷ []) g ≡ rel g) → Three p (after (state_of (limits p) log) e) rel own tasks words → Three p (state_of (limits p) (log ++ e ∷ [])) (released (log ++ e ∷ [])) own tasks words
  three_after {rel} same three = subst (λ (z : State × (ℕ → ℕ)). Three p z.0 z.1 own tasks words) (λ i. (sym (state_next (limits p) log e) i, λ g. sym (same g) i)) three
