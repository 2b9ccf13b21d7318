-- What the steps that free, find, claim, clear and open a slot leave of masks, of the words of slots, and of what is begun.
use Rattle.std.proofs.Common.{◌≡◌, ◌≢◌, ◌⊎◌, ℕ, ◌+◌, ◌*◌, ◌<◌, ◌==◌, Bool, true, false, not, ◌||◌, cond, eq-eqb, ne_eqb, List, [], ◌∷◌, ◌++◌, sym, refl, ap, ◌∙◌, subst, inl, inr, ⊎_elim, arith, Option, Some, None}
use mathlib.Core.Logic.{dite}
use native.Mathlib.Decide.{ℕ_discrete}
use Rattle.std.specs.Prelude.{slice_index}
use Rattle.std.proofs.lemmas.Option.{same_Some, none-some}
use Rattle.registry_machine.specs.declared.entry.Entry.TheVariants.{Open, Free}
use Rattle.registry_machine.specs.Machine.{State, is_in, is_some_of, after}
use Rattle.registry_machine.proofs.Lists.{true_and_false, test_same, in_append, in_last_here}
use Rattle.searcher_table.specs.declared.board.Plan.{Plan}
use Rattle.searcher_table.specs.declared.board.Task.{Task}
use Rattle.searcher_table.specs.declared.board.Task.TheVariants.{Idle, Found, Claimed, Filled, Duty}
use Rattle.searcher_table.specs.Words.{slot_word, bit_of, limits}
use Rattle.searcher_table.specs.Tasks.{claimed, unsettled, is_settled, IsFree, IsMarked, IsClear, IsUnsettled, IsDuty, IsTask, Three}
use Rattle.searcher_table.proofs.Frame.{put}
use Rattle.searcher_table.proofs.Standing.{at_open}
use Rattle.searcher_table.proofs.Slotted.{is_own, idle_duty, map_task, map_duty, begun_by, duty_still, was_duty, duty_parts, settled_parts}

-- what a slot was open for before a freeing
pub at_freed : (x g : ℕ) (o : Option ℕ) → cond (is_some_of x o) None o ≡ Some g → (o ≡ Some g) × (g ≢ x)
at_freed x g None h = absurd (none-some g h)
at_freed x g (Some y) h = by_test (y == x) refl h
  where
    by_test : (b : Bool) → (y == x) ≡ b → cond b None (Some y) ≡ Some g → (◌≡◌ {A = Option ℕ} (Some y) (Some g)) × (g ≢ x)
    by_test true e h = absurd (none-some g h)
    by_test false e h = (h, λ same. true_and_false (y == x) (eq-eqb y x (same_Some y g h ∙ same)) e)

pub none_before : (x : ℕ) (o : Option ℕ) → cond (is_some_of x o) None o ≡ None → (o ≡ None) ⊎ (o ≡ Some x)
none_before x None h = inl refl
none_before x (Some y) h = by_test (y == x) refl h
  where
    by_test : (b : Bool) → (y == x) ≡ b → cond b None (Some y) ≡ None → (◌≡◌ {A = Option ℕ} (Some y) None) ⊎ (◌≡◌ {A = Option ℕ} (Some y) (Some x))
    by_test true e h = inr (ap (λ n. Some n) (test_same y x e))
    by_test false e h = inl h

-- a generation is as settled as before, where as much is told
settled_same : (s : State) (own now : Task) (g : ℕ) → unsettled now ≡ unsettled own → is_settled s now g ≡ is_settled s own g
settled_same s own now g same = ap (λ o. not (is_in g s.warming || is_some_of g s.current || is_some_of g o)) same

-- what is no duty is nobody's
abbrev pub IsNoDuty : Task → Type 0
IsNoDuty a = (slot g : ℕ) → a ≢ Duty slot g

module _ {W : Type 0} (p : Plan W) (s : State) (rel : ℕ → ℕ) (tasks : ℕ → Task) (words : List ℕ) (three : Three p s rel (tasks 0) tasks words) where
  -- ---- the registrar begins something else: the machine's state and the counts are the same
  pub three_begun : (a : Task) (news : List ℕ) → IsNoDuty (tasks 0) → IsNoDuty a → unsettled a ≡ unsettled (tasks 0) → IsTask p s a rel news 0 a
      → ((slot : ℕ) → slot < 128 → IsMarked (limits p) s a news slot)
      → ((slot g : ℕ) → slot < 70 → s.slots slot ≡ Some g → slice_index news (slot_word slot) ≡ slice_index words (slot_word slot))
      → Three p s rel a (put 0 a tasks) news
  three_begun a news was is told mine masks same = record {
    masks = masks;
    counts = λ slot g low is. same slot g low is ∙ three.counts slot g low is ∙ ap (λ b. rel g + cond b ((s.acquired g + 1) * 4294967296) 0) (sym (settled_same s (tasks 0) a g told));
    begun = begun_by p s a rel news tasks 0 a mine (λ d other. map_duty p s s (tasks 0) a rel rel words news d other (tasks d)
        (λ slot g has (f : IsDuty p s (tasks 0) rel d slot g). record { opened = f.opened; settled = settled_same s (tasks 0) a g told ∙ f.settled; drained = f.drained; unpinned = f.unpinned; within = f.within })
        (three.begun d));
    drained = λ slot g is settled out. let d = three.drained slot g is (sym (settled_same s (tasks 0) a g told) ∙ settled) out in
        (d.0, duty_still tasks 0 a d.0 slot g d.1 (λ z. was slot g (ap tasks (sym z) ∙ d.1)));
    alone = λ d e x y g i j. ⊎_elim
        (λ (m : (d ≡ 0) × (a ≡ Duty x g)). absurd (is x g m.1))
        (λ (m : (d ≢ 0) × (tasks d ≡ Duty x g)). ⊎_elim
        (λ (n : (e ≡ 0) × (a ≡ Duty y g)). absurd (is y g n.1))
        (λ (n : (e ≢ 0) × (tasks e ≡ Duty y g)). three.alone d e x y g m.1 n.1)
        (was_duty tasks 0 a e y g j))
        (was_duty tasks 0 a d x g i);
  }

  -- a free slot was found
  pub three_found : (slot : ℕ) → claimed (tasks 0) ≡ None → unsettled (tasks 0) ≡ None → IsNoDuty (tasks 0) → IsFree (limits p) s (tasks 0) slot → Three p s rel (Found slot) (put 0 (Found slot) tasks) words
  three_found slot none told was free =
      let to : (b : ℕ) → IsFree (limits p) s (tasks 0) b → IsFree (limits p) s (Found slot) b = λ b f. record { below = f.below; none = f.none; unclaimed = λ e. none-some b e } in
      three_begun (Found slot) words was (λ b g e. let q : Found slot ≡ Duty b g = e in absurd (cc)) (sym told) (refl, to slot free)
      (λ b low. let m = three.masks b low in record {
        free = λ one. to b (m.free one);
        marked = λ f. m.marked record { below = f.below; none = f.none; unclaimed = λ e. none-some b (sym none ∙ e) };
      })
      (λ _ _ _ _. refl)

  -- it is claimed: its bit is 0, and the others are as they were
  pub three_claimed : (slot : ℕ) (news : List ℕ) → tasks 0 ≡ Found slot → bit_of news slot ≡ 0 → ((b : ℕ) → b < 128 → b ≢ slot → bit_of news b ≡ bit_of words b)
      → ((b : ℕ) → slice_index news (slot_word b) ≡ slice_index words (slot_word b)) → Three p s rel (Claimed slot) (put 0 (Claimed slot) tasks) news
  three_claimed slot news is none others same =
      let mine : IsTask p s (tasks 0) rel words 0 (Found slot) = subst (λ (t : Task). IsTask p s (tasks 0) rel words 0 t) is (three.begun 0) in
      let f = mine.1 in
      three_begun (Claimed slot) news (λ b g e. let q : Found slot ≡ Duty b g = sym is ∙ e in absurd (cc)) (λ b g e. let q : Claimed slot ≡ Duty b g = e in absurd (cc))
      (sym (ap unsettled is)) (refl, f.below, f.none)
      (λ b low. dite (ℕ_discrete b slot)
      (λ eq. record {
        free = λ one. let z = ap (bit_of news) eq in absurd (omega arith);
        marked = λ g. absurd (g.unclaimed (ap (λ n. Some n) (sym eq)));
      })
      (λ away. let m = three.masks b low in let e = others b low away in record {
        free = λ one. let g = m.free (sym e ∙ one) in record { below = g.below; none = g.none; unclaimed = λ z. away (sym (same_Some slot b z)) };
        marked = λ g. e ∙ m.marked record { below = g.below; none = g.none; unclaimed = λ z. none-some b (sym (ap claimed is) ∙ z) };
      }))
      (λ b _ _ _. same b)

  -- its word is 0
  pub three_cleared : (slot : ℕ) (news : List ℕ) → tasks 0 ≡ Claimed slot → slice_index news (slot_word slot) ≡ 0 → ((b : ℕ) → b < 128 → bit_of news b ≡ bit_of words b)
      → ((b : ℕ) → b ≢ slot → slice_index news (slot_word b) ≡ slice_index words (slot_word b)) → Three p s rel (Filled slot 0) (put 0 (Filled slot 0) tasks) news
  three_cleared slot news is zero bits same =
      let mine : IsTask p s (tasks 0) rel words 0 (Claimed slot) = subst (λ (t : Task). IsTask p s (tasks 0) rel words 0 t) is (three.begun 0) in
      let claim : claimed (tasks 0) ≡ Some slot = ap claimed is in
      three_begun (Filled slot 0) news (λ b g e. let q : Claimed slot ≡ Duty b g = sym is ∙ e in absurd (cc)) (λ b g e. let q : Filled slot 0 ≡ Duty b g = e in absurd (cc))
      (sym (ap unsettled is)) (refl, record { below = mine.1; none = mine.2; word_is = zero })
      (λ b low. let m = three.masks b low in let e = bits b low in record {
        free = λ one. let g = m.free (sym e ∙ one) in record { below = g.below; none = g.none; unclaimed = λ z. g.unclaimed (claim ∙ z) };
        marked = λ g. e ∙ m.marked record { below = g.below; none = g.none; unclaimed = λ z. g.unclaimed (sym claim ∙ z) };
      })
      (λ b g _ opened. same b (λ eq. none-some g (sym mine.2 ∙ ap s.slots (sym eq) ∙ opened)))

  -- doors are laid into it
  pub three_filled : (slot : ℕ) (a : Task) → claimed (tasks 0) ≡ Some slot → claimed a ≡ Some slot → unsettled (tasks 0) ≡ None → unsettled a ≡ None → IsNoDuty (tasks 0) → IsNoDuty a → IsTask p s a rel words 0 a
      → Three p s rel a (put 0 a tasks) words
  three_filled slot a was is old none no_duty still mine = three_begun a words no_duty still (none ∙ sym old) mine
      (λ b low. let m = three.masks b low in record {
        free = λ one. let f = m.free one in record { below = f.below; none = f.none; unclaimed = λ z. f.unclaimed (was ∙ sym is ∙ z) };
        marked = λ f. m.marked record { below = f.below; none = f.none; unclaimed = λ z. f.unclaimed (is ∙ sym was ∙ z) };
      })
      (λ _ _ _ _. refl)

  -- nothing is claimed before nor after
  pub three_beside : (a : Task) → claimed (tasks 0) ≡ None → claimed a ≡ None → unsettled (tasks 0) ≡ None → unsettled a ≡ None → IsNoDuty (tasks 0) → IsNoDuty a → IsTask p s a rel words 0 a → Three p s rel a (put 0 a tasks) words
  three_beside a was is old none no_duty still mine = three_begun a words no_duty still (none ∙ sym old) mine
      (λ b low. let m = three.masks b low in record {
        free = λ one. let f = m.free one in record { below = f.below; none = f.none; unclaimed = λ z. none-some b (sym is ∙ z) };
        marked = λ f. m.marked record { below = f.below; none = f.none; unclaimed = λ z. none-some b (sym was ∙ z) };
      })
      (λ _ _ _ _. refl)

module _ {W : Type 0} (U X L : Type 0) (p : Plan W) (s : State) (rel : ℕ → ℕ) (tasks : ℕ → Task) (words : List ℕ) (three : Three p s rel (tasks 0) tasks words) where
  -- ---- an opening in the slot that was cleared
  pub three_opened : (c : ℕ) (u : U) (g slot n : ℕ) (x : X) → tasks 0 ≡ Filled slot n → rel g ≡ 0 → ((b h : ℕ) → s.slots b ≡ Some h → h ≢ g)
      → Three p (after {U = U} {D = X} {L = L} s (Open c u g slot x)) rel Idle (put 0 Idle tasks) words
  three_opened c u g slot n x is never olds =
      let t : State = after {U = U} {D = X} {L = L} s (Open c u g slot x) in
      let mine : IsTask p s (tasks 0) rel words 0 (Filled slot n) = subst (λ (a : Task). IsTask p s (tasks 0) rel words 0 a) is (three.begun 0) in
      let clear : IsClear (limits p) s words slot = mine.1 in
      let claim : claimed (tasks 0) ≡ Some slot = ap claimed is in
      let told : unsettled (tasks 0) ≡ None = ap unsettled is in
      let other : (b : ℕ) → b ≢ slot → t.slots b ≡ s.slots b = λ b away. ap (λ z. cond z (Some g) (s.slots b)) (ne_eqb b slot away) in
      let here : t.slots slot ≡ Some g = ap (λ z. cond z (Some g) (s.slots slot)) (eq-eqb slot slot refl) in
      let as_settled : (h : ℕ) → h ≢ g → is_settled t Idle h ≡ is_settled s (tasks 0) h = λ h apart.
      (λ i. not (still_in h apart i || is_some_of h s.current || is_some_of h (sym told i))) in
      let not_settled : is_settled t Idle g ≡ false = ap (λ z. not (z || is_some_of g s.current || is_some_of g (unsettled Idle))) (in_last_here g s.warming) in
      let was : (b h : ℕ) → s.slots b ≡ Some h → b ≢ slot = λ b h opened eq. none-some h (sym clear.none ∙ ap s.slots (sym eq) ∙ opened) in
      record {
        masks = λ b low. let m = three.masks b low in record {
          free = λ one. let f = m.free one in record { below = f.below; none = other b (λ eq. f.unclaimed (claim ∙ ap (λ n. Some n) (sym eq))) ∙ f.none; unclaimed = λ z. none-some b z };
          marked = λ f.
              let away : b ≢ slot = λ eq. none-some g (sym f.none ∙ ap t.slots eq ∙ here) in
              m.marked record { below = f.below; none = sym (other b away) ∙ f.none; unclaimed = λ z. away (sym (same_Some slot b (sym claim ∙ z))) };
        };
        counts = λ b h low opened. ⊎_elim
            (λ (k : (b ≡ slot) × (g ≡ h)).
            let w = clear.word_is in
            let v = ap (λ n. slice_index words (slot_word n)) k.0 in
            let r = ap rel k.1 in
            let n : cond (is_settled t Idle h) ((t.acquired h + 1) * 4294967296) 0 ≡ 0 = ap (λ z. cond z ((t.acquired h + 1) * 4294967296) 0) (ap (is_settled t Idle) (sym k.1) ∙ not_settled) in
            omega arith)
            (λ (k : s.slots b ≡ Some h). three.counts b h low k ∙ ap (λ z. rel h + cond z ((s.acquired h + 1) * 4294967296) 0) (sym (as_settled h (olds b h k))))
            (at_open s.slots slot g b h opened);
        begun = begun_by p t Idle rel words tasks 0 Idle tt (λ d away. map_duty p s t (tasks 0) Idle rel rel words words d away (tasks d)
            (λ b h has (f : IsDuty p s (tasks 0) rel d b h). record {
              opened = other b (was b h f.opened) ∙ f.opened;
              settled = as_settled h (olds b h f.opened) ∙ f.settled;
              drained = f.drained;
              unpinned = f.unpinned;
              within = f.within;
            })
            (three.begun d));
        drained = λ b h opened settled out. ⊎_elim
            (λ (k : (b ≡ slot) × (g ≡ h)). absurd (true_and_false (is_settled t Idle g) (ap (is_settled t Idle) k.1 ∙ settled) not_settled))
            (λ (k : s.slots b ≡ Some h). let d = three.drained b h k (sym (as_settled h (olds b h k)) ∙ settled) out in
            (d.0, duty_still tasks 0 Idle d.0 b h d.1 (λ z. let q : Filled slot n ≡ Duty b h = sym is ∙ ap tasks (sym z) ∙ d.1 in absurd (cc))))
            (at_open s.slots slot g b h opened);
        alone = λ d e y z h i j. ⊎_elim
            (λ (m : (d ≡ 0) × (Idle ≡ Duty y h)). absurd (idle_duty y h m.1))
            (λ (m : (d ≢ 0) × (tasks d ≡ Duty y h)). ⊎_elim
            (λ (n : (e ≡ 0) × (Idle ≡ Duty z h)). absurd (idle_duty z h n.1))
            (λ (n : (e ≢ 0) × (tasks e ≡ Duty z h)). three.alone d e y z h m.1 n.1)
            (was_duty tasks 0 Idle e z h j))
            (was_duty tasks 0 Idle d y h i);
      }
    where
      last_in : (b c : Bool) → b ≡ false → (c || b) ≡ c
      last_in false true e = refl
      last_in false false e = refl
      last_in true c e = absurd (true_and_false true refl e)

      still_in : (h : ℕ) → h ≢ g → is_in h (s.warming ++ g ∷ []) ≡ is_in h s.warming
      still_in h apart = in_append h s.warming (g ∷ []) ∙ last_in (is_in h (g ∷ [])) (is_in h s.warming) (ap (λ b. b || false) (ne_eqb g h (λ z. apart (sym z))))

  -- ---- a freeing by whose duty it is
  pub three_freed : (c slot g : ℕ) (own : Task) (news : List ℕ) → tasks c ≡ Duty slot g → slot < (limits p).slots → ((b : ℕ) → s.slots b ≡ Some g → b ≡ slot) → claimed own ≡ claimed (tasks 0) → unsettled own ≡ unsettled (tasks 0)
      → (claimed (tasks 0) ≢ Some slot)
      → bit_of news slot ≡ 1 → ((b : ℕ) → b < 128 → b ≢ slot → bit_of news b ≡ bit_of words b) → ((b : ℕ) → slice_index news (slot_word b) ≡ slice_index words (slot_word b))
      → Three p (after {U = U} {D = X} {L = L} s (Free g)) rel own (put c Idle tasks) news
  three_freed c slot g own news has below one claim told unclaimed marked others same =
      let t : State = after {U = U} {D = X} {L = L} s (Free g) in
      let duty : IsDuty p s (tasks 0) rel c slot g = subst (λ (a : Task). IsTask p s (tasks 0) rel words c a) has (three.begun c) in
      let here : t.slots slot ≡ None = ap (λ o. cond (is_some_of g o) None o) duty.opened ∙ ap (λ z. cond z None (Some g)) (is_own g) in
      let kept : (b h : ℕ) → h ≢ g → s.slots b ≡ Some h → t.slots b ≡ Some h = λ b h apart is. ap (λ o. cond (is_some_of g o) None o) is ∙ ap (λ z. cond z None (Some h)) (ne_eqb h g apart) in
      let none : (b : ℕ) → s.slots b ≡ None → t.slots b ≡ None = λ b is. ap (λ o. cond (is_some_of g o) None o) is in
      let unmine : (d b h : ℕ) → d ≢ c → tasks d ≡ Duty b h → h ≢ g = λ d b h away is eq. away (three.alone d c b slot g (is ∙ ap (Duty b) eq) has) in
      record {
        masks = λ b low. dite (ℕ_discrete b slot)
            (λ eq. record {
              free = λ _. record { below = (let x = below in omega arith); none = ap t.slots eq ∙ here; unclaimed = λ z. unclaimed (sym claim ∙ z ∙ ap (λ n. Some n) eq) };
              marked = λ _. ap (bit_of news) eq ∙ marked;
            })
            (λ away. let m = three.masks b low in let e = others b low away in record {
              free = λ is. let f = m.free (sym e ∙ is) in record { below = f.below; none = none b f.none; unclaimed = λ z. f.unclaimed (sym claim ∙ z) };
              marked = λ f. e ∙ m.marked record { below = f.below; none = ⊎_elim (λ z. z) (λ z. absurd (away (one b z))) (none_before g (s.slots b) f.none); unclaimed = λ z. f.unclaimed (claim ∙ z) };
            });
        counts = λ b h low opened. same b ∙ three.counts b h low (at_freed g h (s.slots b) opened).0 ∙ ap (λ o. rel h + cond (not (is_in h s.warming || is_some_of h s.current || is_some_of h o)) ((s.acquired h + 1) * 4294967296) 0) (sym told);
        begun = begun_by p t own rel news tasks c Idle tt (λ d away. map_task p s t (tasks 0) own rel rel words news d
            (λ b _ (f : IsFree (limits p) s (tasks 0) b). record { below = f.below; none = none b f.none; unclaimed = λ z. f.unclaimed (sym claim ∙ z) })
            (λ b _ f. none b f)
            (λ b _ (f : IsClear (limits p) s words b). record { below = f.below; none = none b f.none; word_is = same b ∙ f.word_is })
            (tasks d)
            (λ b h total z is (f : IsUnsettled s b h total). record {
              opened = kept b h (λ eq. (settled_parts s (tasks 0) g duty.settled).2 (ap (λ n. unsettled (tasks n)) (sym z) ∙ ap unsettled is ∙ ap (λ n. Some n) eq)) f.opened;
              not_warming = f.not_warming;
              not_current = f.not_current;
              total_is = f.total_is;
            })
            (λ b h is (f : IsDuty p s (tasks 0) rel d b h). record {
              opened = kept b h (unmine d b h away is) f.opened;
              settled = ap (λ o. not (is_in h s.warming || is_some_of h s.current || is_some_of h o)) told ∙ f.settled;
              drained = f.drained;
              unpinned = f.unpinned;
              within = f.within;
            })
            (three.begun d));
        drained = λ b h opened settled out.
            let o = at_freed g h (s.slots b) opened in
            let d = three.drained b h o.0 (ap (λ z. not (is_in h s.warming || is_some_of h s.current || is_some_of h z)) (sym told) ∙ settled) out in
            (d.0, duty_still tasks c Idle d.0 b h d.1 (λ z. o.1 (duty_parts b slot h g (sym d.1 ∙ ap tasks z ∙ has)).1));
        alone = λ d e y z h i j. ⊎_elim
            (λ (m : (d ≡ c) × (Idle ≡ Duty y h)). absurd (idle_duty y h m.1))
            (λ (m : (d ≢ c) × (tasks d ≡ Duty y h)). ⊎_elim
            (λ (n : (e ≡ c) × (Idle ≡ Duty z h)). absurd (idle_duty z h n.1))
            (λ (n : (e ≢ c) × (tasks e ≡ Duty z h)). three.alone d e y z h m.1 n.1)
            (was_duty tasks c Idle e z h j))
            (was_duty tasks c Idle d y h i);
      }
