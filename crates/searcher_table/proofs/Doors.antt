-- What each kind of step leaves of part four of the rule.
use Rattle.std.proofs.Common.{◌≡◌, ◌≢◌, ◌⊎◌, ℕ, ◌+◌, ◌*◌, ◌<◌, ◌≤◌, cond, eq-eqb, ne_eqb, List, [], ◌∷◌, ◌++◌, length, length-set, set, sym, refl, ap, ◌∙◌, subst, inl, inr, ⊎_elim, arith, Option, Some, None}
use mathlib.Core.Option.{some, some-injective}
use mathlib.Core.Option as maybe
use mathlib.Core.Logic.{dite}
use native.Mathlib.Decide.{ℕ_discrete}
use lib.ListN.{get_elem?}
use Rattle.std.proofs.lemmas.Option.{same_Some, none-some}
use Rattle.std.proofs.lemmas.List.Sums.{fold-append}
use Rattle.atomic_table.proofs.Lists.{set_here, set_else}
use Rattle.registry_machine.specs.declared.entry.Entry.{Entry}
use Rattle.registry_machine.specs.declared.entry.Entry.TheVariants.{Open, Free}
use Rattle.registry_machine.specs.Machine.{State, after}
use Rattle.registry_machine.specs.Legal.{state_of}
use Rattle.searcher_table.specs.declared.board.Cell.{Cell}
use Rattle.searcher_table.specs.declared.board.Cell.TheVariants.{Empty, Full}
use Rattle.searcher_table.specs.declared.board.Plan.{Plan}
use Rattle.searcher_table.specs.declared.board.Task.{Task}
use Rattle.searcher_table.specs.declared.board.Task.TheVariants.{Idle, Found, Claimed, Filled, Filling, Unsettled, Duty, Back, Emptied}
use Rattle.searcher_table.specs.Words.{limits}
use Rattle.searcher_table.specs.Tasks.{claimed, emptied, IsTask}
use Rattle.searcher_table.specs.Doors.{cell_of, laid, reached, IsIn, IsOld, shown_after, left_after, held_after, shown_in, left_in, held_in, told_in, IsDoorLeft, IsDoorAt, IsLeft, IsLeftAt, Four}
use Rattle.searcher_table.proofs.Quiet.{state_next}
use Rattle.searcher_table.proofs.Slotting.{at_freed, none_before}

abbrev Homes : Type 0 → Type 0 → Type 0
Homes D U = List (maybe.Option (Cell D U))

-- ---- cells

-- other callers' and other slots' cells are other numbers
pub cell_apart : (a b c d : ℕ) → 1 ≤ b → b ≤ 64 → 1 ≤ d → d ≤ 64 → cell_of a b ≡ cell_of c d → (a ≡ c) × (b ≡ d)
cell_apart a b c d low few low' few' e = (omega arith, omega arith)

pub cell_below : (slot c n : ℕ) → slot < n → 1 ≤ c → c ≤ 64 → cell_of slot c < 64 * n
cell_below slot c n below low few = omega arith

-- ---- what a generation shows

module _ {U X L : Type 0} where
  pub shown_next : (log : List (Entry U X L)) (e : Entry U X L) (h : ℕ) → shown_in (log ++ e ∷ []) h ≡ shown_after (shown_in log) e h
  shown_next log e h = ap (λ (f : ℕ → Option X). f h) (fold-append shown_after (λ _. None) log (e ∷ []))

  -- and what the caller's door to it is left with
  pub left_next : (log : List (Entry U X L)) (e : Entry U X L) (h c : ℕ) → left_in (log ++ e ∷ []) h c ≡ left_after (left_in log) e h c
  left_next log e h c = ap (λ (f : ℕ → ℕ → List L). f h c) (fold-append left_after (λ _ _. []) log (e ∷ []))

  pub told_next : (log : List (Entry U X L)) (e : Entry U X L) (h c : ℕ) → told_in (log ++ e ∷ []) h c ≡ (shown_after (shown_in log) e h, left_after (left_in log) e h c)
  told_next log e h c i = (shown_next log e h i, left_next log e h c i)

  -- and the generation that a slot was opened for last
  pub held_next : (log : List (Entry U X L)) (e : Entry U X L) (b : ℕ) → held_in (log ++ e ∷ []) b ≡ held_after (held_in log) e b
  held_next log e b = ap (λ (f : ℕ → Option ℕ). f b) (fold-append held_after (λ _. None) log (e ∷ []))

-- ---- what the registrar's task says of cells

-- nothing is out for good
pub in_it : (own : Task) (k : ℕ) → emptied own ≡ None → IsIn own k
in_it own k none n e = absurd (none-some n (sym none ∙ e))

-- the registrar has laid what it had, and has nothing more out; or it has laid nothing
pub record StillFills (own a : Task) : Type 0 where
  pub within : (k : ℕ) → IsIn a k → IsIn own k
  pub old : (slot c : ℕ) → 1 ≤ c → IsOld a slot c → IsOld own slot c
  pub laid_is : (laid a ≡ laid own) ⊎ ((laid a).1 ≡ 0)

pub fills_on : (own a : Task) → a ≡ own → StillFills own a
fills_on own a is = record { within = λ k h n e. h n (ap emptied is ∙ e); old = λ slot c _ h. subst (λ (z : Task). IsOld z slot c) is h; laid_is = inl (ap laid is) }

-- who has claimed nothing fills nothing
pub claims_none : (a : Task) → claimed a ≡ None → (reached a ≡ None) × ((laid a).1 ≡ 0)
claims_none Idle e = (refl, refl)
claims_none (Found slot) e = (refl, refl)
claims_none (Claimed slot) e = (refl, refl)
claims_none (Filled slot n) e = absurd (none-some slot (sym e))
claims_none (Filling slot n) e = absurd (none-some slot (sym e))
claims_none (Unsettled slot g total) e = (refl, refl)
claims_none (Duty slot g) e = (refl, refl)
claims_none Back e = (refl, refl)
claims_none (Emptied n) e = (refl, refl)

pub fills_none : (own a : Task) → reached own ≡ None → (laid own).1 ≡ 0 → emptied own ≡ None → (laid a).1 ≡ 0 → StillFills own a
fills_none own a none bare all zero = record {
  within = λ k _. in_it own k all;
  old = λ slot c low _. record { unfilled = λ _. omega arith; home = λ e. none-some (cell_of slot c) (sym none ∙ e); within = in_it own (cell_of slot c) all };
  laid_is = inr zero;
}

module _ {W : Type 0} (p : Plan W) (s : State) (own : Task) (rel : ℕ → ℕ) (words : List ℕ) where
  -- the slot that is filled is opened for none
  pub filled_none : (a : Task) → IsTask p s own rel words 0 a → 1 ≤ (laid a).1 → s.slots (laid a).0 ≡ None
  filled_none Idle h more = absurd (omega arith)
  filled_none (Found slot) h more = absurd (omega arith)
  filled_none (Claimed slot) h more = absurd (omega arith)
  filled_none (Filled slot n) h more = h.1.none
  filled_none (Filling slot n) h more = h.1.none
  filled_none (Unsettled slot g total) h more = absurd (omega arith)
  filled_none (Duty slot g) h more = absurd (omega arith)
  filled_none Back h more = absurd (omega arith)
  filled_none (Emptied n) h more = absurd (omega arith)

module _ {D W U X L : Type 0} (setting : D → W) (docs : D → X) (deeds : D → List L) (p : Plan W) where
  -- a door that lies in a cell that is as it was, and shows as much
  door_still : (homes news : Homes D U) (k : ℕ) (a b : Option X × List L) → get_elem? news k ≡ get_elem? homes k → b ≡ a → IsDoorAt setting docs deeds p homes k a → IsDoorAt setting docs deeds p news k b
  door_still homes news k a b same is d = (d.0, same ∙ d.1, subst (λ (o : Option X × List L). IsDoorLeft setting docs deeds p o d.0) (sym is) d.2)

  -- and so for what an earlier generation left
  left_same : (o m : Option ℕ) (f h : ℕ → Option X × List L) (x : Cell D U) → m ≡ o → ((g : ℕ) → o ≡ Some g → h g ≡ f g) → IsLeft setting docs deeds p o f x → IsLeft setting docs deeds p m h x
  left_same o m f h x is same l = subst (λ (z : Option ℕ). IsLeft setting docs deeds p z h x) (sym is) (by_held o same l)
    where
      by_held : (z : Option ℕ) → ((g : ℕ) → z ≡ Some g → h g ≡ f g) → IsLeft setting docs deeds p z f x → IsLeft setting docs deeds p z h x
      by_held None same l = l
      by_held (Some g) same l = (l.0, l.1, subst (λ (y : Option X × List L). IsDoorLeft setting docs deeds p y l.0) (sym (same g refl)) l.2)

  left_still : (homes news : Homes D U) (k : ℕ) (o m : Option ℕ) (f h : ℕ → Option X × List L) → get_elem? news k ≡ get_elem? homes k → m ≡ o → ((g : ℕ) → o ≡ Some g → h g ≡ f g) → IsLeftAt setting docs deeds p homes k o f → IsLeftAt setting docs deeds p news k m h
  left_still homes news k o m f h cell is same x = (x.0, cell ∙ x.1, left_same o m f h x.0 is same x.2)

  -- a generation's door is what it leaves
  pub door_left : (homes : Homes D U) (k g : ℕ) (o : Option ℕ) (f : ℕ → Option X × List L) → o ≡ Some g → IsDoorAt setting docs deeds p homes k (f g) → IsLeftAt setting docs deeds p homes k o f
  door_left homes k g o f is d = (Full d.0, d.1, subst (λ (z : Option ℕ). IsLeft setting docs deeds p {U = U} z f (Full d.0)) (sym is) (d.0, refl, d.2))

  -- ---- where no cell changes

  pub four_beside : (s t : State) (told now : ℕ → ℕ → Option X × List L) (held has : ℕ → Option ℕ) (own a : Task) (filling : Option X) (homes : Homes D U) → ((b : ℕ) → t.slots b ≡ s.slots b) → ((c : ℕ) → t.pins c ≡ s.pins c) → ((g c : ℕ) → now g c ≡ told g c)
      → ((b : ℕ) → has b ≡ held b) → StillFills own a → Four setting docs deeds p s told held own filling homes → Four setting docs deeds p t now has a filling homes
  four_beside s t told now held has own a filling homes slots pins same holds still four = record {
    size = four.size;
    doors = λ b g c opened low few free within. door_still homes homes (cell_of b c) (told g c) (now g c) refl (same g c) (four.doors b g c (sym (slots b) ∙ opened) low few (λ e. free (pins c ∙ e)) (still.within (cell_of b c) within));
    spare = λ b c below none low few old. left_still homes homes (cell_of b c) (held b) (has b) (λ g. told g c) (λ g. now g c) refl (holds b) (λ g _. same g c) (four.spare b c below (sym (slots b) ∙ none) low few (still.old b c low old));
    opened = λ b g is. holds b ∙ four.opened b g (sym (slots b) ∙ is);
    filled = λ c low few within. ⊎_elim
        (λ (e : laid a ≡ laid own). subst (λ (z : ℕ × ℕ). IsDoorAt setting docs deeds p homes (cell_of z.0 c) (filling, [])) (sym e) (four.filled c low (let n = ap (λ (z : ℕ × ℕ). z.1) e in omega arith) within))
        (λ (z : (laid a).1 ≡ 0). absurd (omega arith))
        still.laid_is;
  }

  -- the same machine, where the registrar begins something that fills nothing
  pub four_begun : (s : State) (told : ℕ → ℕ → Option X × List L) (held : ℕ → Option ℕ) (own a : Task) (filling : Option X) (homes : Homes D U) → reached own ≡ None → (laid own).1 ≡ 0 → emptied own ≡ None → (laid a).1 ≡ 0 → Four setting docs deeds p s told held own filling homes → Four setting docs deeds p s told held a filling homes
  four_begun s told held own a filling homes none bare all zero four = four_beside s s told told held held own a filling homes (λ _. refl) (λ _. refl) (λ _ _. refl) (λ _. refl) (fills_none own a none bare all zero) four

  -- an entry with which no slot, no pin and no generation's documents change
  pub four_entry : (log : List (Entry U X L)) (e : Entry U X L) (own a : Task) (filling : Option X) (homes : Homes D U) → ((b : ℕ) → (after (state_of (limits p) log) e).slots b ≡ (state_of (limits p) log).slots b)
      → ((c : ℕ) → (after (state_of (limits p) log) e).pins c ≡ (state_of (limits p) log).pins c) → ((f : ℕ → Option X) (h : ℕ) → shown_after f e h ≡ f h) → ((f : ℕ → ℕ → List L) (h c : ℕ) → left_after f e h c ≡ f h c) → ((f : ℕ → Option ℕ) (b : ℕ) → held_after f e b ≡ f b) → StillFills own a
      → Four setting docs deeds p (state_of (limits p) log) (told_in log) (held_in log) own filling homes → Four setting docs deeds p (state_of (limits p) (log ++ e ∷ [])) (told_in (log ++ e ∷ [])) (held_in (log ++ e ∷ [])) a filling homes
  four_entry log e own a filling homes slots pins shown left holds still four =
      let next = state_next (limits p) log e in
      four_beside (state_of (limits p) log) (state_of (limits p) (log ++ e ∷ [])) (told_in log) (told_in (log ++ e ∷ [])) (held_in log) (held_in (log ++ e ∷ [])) own a filling homes
      (λ b. ap (λ (z : State). z.slots b) next ∙ slots b) (λ c. ap (λ (z : State). z.pins c) next ∙ pins c) (λ h c. told_next log e h c ∙ (λ i. (shown (shown_in log) h i, left (left_in log) h c i))) (λ b. held_next log e b ∙ holds (held_in log) b) still four

  -- ---- where the cell of one caller in an open slot changes

  pub four_own : (s t : State) (told now : ℕ → ℕ → Option X × List L) (held has : ℕ → Option ℕ) (own : Task) (filling : Option X) (homes news : Homes D U) (slot g c : ℕ) → Four setting docs deeds p s told held own filling homes → p.callers ≤ 64 → s.slots slot ≡ Some g → 1 ≤ c → c ≤ 64
      → ((b : ℕ) → s.slots b ≡ Some g → b ≡ slot) → (1 ≤ (laid own).1 → s.slots (laid own).0 ≡ None)
      → ((b : ℕ) → t.slots b ≡ s.slots b) → ((d : ℕ) → d ≢ c → t.pins d ≡ s.pins d) → ((h : ℕ) → h ≢ g → s.pins c ≢ Some h) → ((h d : ℕ) → (h ≢ g) ⊎ (d ≢ c) → now h d ≡ told h d) → ((b : ℕ) → has b ≡ held b) → ((b : ℕ) → held b ≡ Some g → b ≡ slot)
      → length news ≡ length homes → ((k : ℕ) → k ≢ cell_of slot c → get_elem? news k ≡ get_elem? homes k) → (t.pins c ≢ Some g → IsDoorAt setting docs deeds p news (cell_of slot c) (now g c))
      → Four setting docs deeds p t now has own filling news
  four_own s t told now held has own filling homes news slot g c four few_callers here low few one filling_none slots pins unpinned same holds held_once long cells mine =
      let apart : (b e : ℕ) → 1 ≤ e → e ≤ p.callers → (b ≢ slot) ⊎ (e ≢ c) → get_elem? news (cell_of b e) ≡ get_elem? homes (cell_of b e) = λ b e some within away.
      cells (cell_of b e) (λ z. let q = cell_apart b e slot c some (omega arith) low few z in ⊎_elim (λ n. n q.0) (λ n. n q.1) away) in
      let closed : (b : ℕ) → s.slots b ≡ None → b ≢ slot = λ b none eq. none-some g (sym none ∙ ap s.slots eq ∙ here) in
      record {
        size = long ∙ four.size;
        doors = λ b h e opened some within free inside.
            let was : s.slots b ≡ Some h = sym (slots b) ∙ opened in
            let other_slot : b ≢ slot → h ≢ g = λ away at. away (one b (was ∙ ap (λ n. Some n) at)) in
            let old : (s.pins e ≢ Some h) → (b ≢ slot) ⊎ (e ≢ c) → IsDoorAt setting docs deeds p news (cell_of b e) (now h e) = λ unpinned' away.
            door_still homes news (cell_of b e) (told h e) (now h e) (apart b e some within away) (same h e (⊎_elim (λ z. inl (other_slot z)) (λ z. inr z) away)) (four.doors b h e was some within unpinned' inside) in
            dite (ℕ_discrete e c)
            (λ is. dite (ℕ_discrete b slot)
            (λ eq.
            let at : h ≡ g = same_Some h g (sym was ∙ ap s.slots eq ∙ here) in
            let m = mine (λ z. free (ap t.pins is ∙ z ∙ ap (λ n. Some n) (sym at))) in
            let cell : cell_of b e ≡ cell_of slot c = λ i. cell_of (eq i) (is i) in
            (m.0, ap (get_elem? news) cell ∙ m.1, subst (λ (z : ℕ × ℕ). IsDoorLeft setting docs deeds p (now z.0 z.1) m.0) (λ i. (sym at i, sym is i)) m.2))
            (λ away. old (λ z. unpinned h (other_slot away) (ap s.pins (sym is) ∙ z)) (inl away)))
            (λ other. old (λ z. free (pins e other ∙ z)) (inr other));
        spare = λ b e below none some within old.
            let was : s.slots b ≡ None = sym (slots b) ∙ none in
            left_still homes news (cell_of b e) (held b) (has b) (λ h. told h e) (λ h. now h e) (apart b e some within (inl (closed b was))) (holds b)
            (λ h is. same h e (inl (λ at. closed b was (held_once b (is ∙ ap (λ n. Some n) at))))) (four.spare b e below was some within old);
        opened = λ b h is. holds b ∙ four.opened b h (sym (slots b) ∙ is);
        filled = λ e some laid_so within.
            let none = filling_none (omega arith) in
            door_still homes news (cell_of (laid own).0 e) (filling, []) (filling, []) (apart (laid own).0 e some within (inl (closed (laid own).0 none))) refl (four.filled e some laid_so within);
      }

  -- ---- where the registrar fills a slot

  pub four_reached : (s : State) (told : ℕ → ℕ → Option X × List L) (held : ℕ → Option ℕ) (slot n : ℕ) (filling : Option X) (homes : Homes D U) → p.callers ≤ 64 → s.slots slot ≡ None → n < p.callers
      → Four setting docs deeds p s told held (Filled slot n) filling homes → Four setting docs deeds p s told held (Filling slot n) filling (set homes (cell_of slot (n + 1)) maybe.none)
  four_reached s told held slot n filling homes few none more four =
      let news : Homes D U = set homes (cell_of slot (n + 1)) maybe.none in
      let elsewhere : (k : ℕ) → k ≢ cell_of slot (n + 1) → get_elem? news k ≡ get_elem? homes k = λ k away. set_else homes (cell_of slot (n + 1)) k maybe.none away in
      record {
        size = length-set homes (cell_of slot (n + 1)) maybe.none ∙ four.size;
        doors = λ b g c opened low within free inside. door_still homes news (cell_of b c) (told g c) (told g c)
            (elsewhere (cell_of b c) (λ z. let q = cell_apart b c slot (n + 1) low (omega arith) (omega arith) (omega arith) z in none-some g (sym none ∙ ap s.slots (sym q.0) ∙ opened))) refl (four.doors b g c opened low within free inside);
        spare = λ b c below is low within old. left_still homes news (cell_of b c) (held b) (held b) (λ g. told g c) (λ g. told g c) (elsewhere (cell_of b c) (λ z. old.home (ap (λ k. Some k) (sym z)))) refl (λ _ _. refl)
            (four.spare b c below is low within record { unfilled = old.unfilled; home = λ z. none-some (cell_of b c) z; within = old.within });
        opened = four.opened;
        filled = λ c low laid_so within. door_still homes news (cell_of slot c) (filling, []) (filling, [])
            (elsewhere (cell_of slot c) (λ z. let q = cell_apart slot c slot (n + 1) low (omega arith) (omega arith) (omega arith) z in let a = q.1 in absurd (omega arith))) refl (four.filled c low laid_so within);
      }

  -- what it fills with may be said again
  pub four_refilled : (s : State) (told : ℕ → ℕ → Option X × List L) (held : ℕ → Option ℕ) (slot n : ℕ) (filling new : Option X) (homes : Homes D U) → (n ≢ 0 → filling ≡ new)
      → Four setting docs deeds p s told held (Filling slot n) filling homes → Four setting docs deeds p s told held (Filling slot n) new homes
  four_refilled s told held slot n filling new homes same four = record {
    size = four.size;
    doors = four.doors;
    spare = four.spare;
    opened = four.opened;
    filled = λ c low laid_so within. door_still homes homes (cell_of slot c) (filling, []) (new, []) refl (λ i. (sym (same (λ z. absurd (omega arith))) i, [])) (four.filled c low laid_so within);
  }

  pub four_laid : (s : State) (told : ℕ → ℕ → Option X × List L) (held : ℕ → Option ℕ) (slot n : ℕ) (d : D) (homes : Homes D U) → p.callers ≤ 64 → slot < (limits p).slots → s.slots slot ≡ None → n < p.callers → setting d ≡ p.setting.value → deeds d ≡ []
      → Four setting docs deeds p s told held (Filling slot n) (Some (docs d)) homes → Four setting docs deeds p s told held (Filled slot (n + 1)) (Some (docs d)) (set homes (cell_of slot (n + 1)) (some (Full d)))
  four_laid s told held slot n d homes few below none more is unused four =
      let k : ℕ = cell_of slot (n + 1) in
      let news : Homes D U = set homes k (some (Full d)) in
      let elsewhere : (j : ℕ) → j ≢ k → get_elem? news j ≡ get_elem? homes j = λ j away. set_else homes k j (some (Full d)) away in
      let in_it : k < 64 * (limits p).slots = cell_below slot (n + 1) (limits p).slots below (omega arith) (omega arith) in
      let long = four.size in
      let here : get_elem? news k ≡ some (some (Full d)) = set_here homes k (some (Full d)) (omega arith) in
      record {
        size = length-set homes k (some (Full d)) ∙ four.size;
        doors = λ b g c opened low within free inside. door_still homes news (cell_of b c) (told g c) (told g c)
            (elsewhere (cell_of b c) (λ z. let q = cell_apart b c slot (n + 1) low (omega arith) (omega arith) (omega arith) z in none-some g (sym none ∙ ap s.slots (sym q.0) ∙ opened))) refl (four.doors b g c opened low within free inside);
        spare = λ b c under is low within old.
            let away : cell_of b c ≢ k = λ z. let q = cell_apart b c slot (n + 1) low (omega arith) (omega arith) (omega arith) z in let a = q.1 in let m = old.unfilled q.0 in absurd (omega arith) in
            left_still homes news (cell_of b c) (held b) (held b) (λ g. told g c) (λ g. told g c) (elsewhere (cell_of b c) away) refl (λ _ _. refl)
            (four.spare b c under is low within record { unfilled = λ z. let m = old.unfilled z in omega arith; home = λ z. away (sym (same_Some k (cell_of b c) z)); within = old.within });
        opened = four.opened;
        filled = λ c low laid_so within. dite (ℕ_discrete c (n + 1))
            (λ eq. (d, ap (λ e. get_elem? news (cell_of slot e)) eq ∙ here, (record { setting_is = is; shows = refl }, unused)))
            (λ away. door_still homes news (cell_of slot c) (Some (docs d), []) (Some (docs d), [])
            (elsewhere (cell_of slot c) (λ z. away (cell_apart slot c slot (n + 1) low (omega arith) (omega arith) (omega arith) z).1)) refl (four.filled c low (omega arith) within));
      }

  -- ---- an opening in the slot that was filled

  pub four_opened : (s : State) (told now : ℕ → ℕ → Option X × List L) (held has : ℕ → Option ℕ) (slot n c g : ℕ) (u : U) (x : X) (homes : Homes D U) → n ≡ p.callers → s.slots slot ≡ None → ((b h : ℕ) → s.slots b ≡ Some h → h ≢ g)
      → ((h d : ℕ) → h ≡ g → now h d ≡ (Some x, [])) → ((h d : ℕ) → h ≢ g → now h d ≡ told h d)
      → ((b h : ℕ) → held b ≡ Some h → h ≢ g) → has slot ≡ Some g → ((b : ℕ) → b ≢ slot → has b ≡ held b)
      → Four setting docs deeds p s told held (Filled slot n) (Some x) homes → Four setting docs deeds p (after {L = L} s (Open c u g slot x)) now has Idle (Some x) homes
  four_opened s told now held has slot n c g u x homes all none olds new same held_olds has_new has_old four =
      let t : State = after {L = L} s (Open c u g slot x) in
      let elsewhere : (b : ℕ) → b ≢ slot → t.slots b ≡ s.slots b = λ b away. ap (λ z. cond z (Some g) (s.slots b)) (ne_eqb b slot away) in
      let here : t.slots slot ≡ Some g = ap (λ z. cond z (Some g) (s.slots slot)) (eq-eqb slot slot refl) in
      record {
        size = four.size;
        doors = λ b h d opened low within free _. dite (ℕ_discrete b slot)
            (λ eq.
            let at : h ≡ g = same_Some h g (sym opened ∙ ap t.slots eq ∙ here) in
            let y = four.filled d low (omega arith) within in
            (y.0, ap (λ a. get_elem? homes (cell_of a d)) eq ∙ y.1, subst (λ (o : Option X × List L). IsDoorLeft setting docs deeds p o y.0) (sym (new h d at)) y.2))
            (λ away.
            let was : s.slots b ≡ Some h = sym (elsewhere b away) ∙ opened in
            door_still homes homes (cell_of b d) (told h d) (now h d) refl (same h d (olds b h was)) (four.doors b h d was low within free (λ m z. absurd (none-some m z))));
        spare = λ b d below is low within old.
            let away : b ≢ slot = λ eq. none-some g (sym is ∙ ap t.slots eq ∙ here) in
            left_still homes homes (cell_of b d) (held b) (has b) (λ h. told h d) (λ h. now h d) refl (has_old b away) (λ h z. same h d (held_olds b h z))
            (four.spare b d below (sym (elsewhere b away) ∙ is) low within record { unfilled = λ z. absurd (away z); home = λ z. none-some (cell_of b d) z; within = λ m z. absurd (none-some m z) });
        opened = λ b h is. dite (ℕ_discrete b slot)
            (λ eq. ap has eq ∙ has_new ∙ sym (sym is ∙ ap t.slots eq ∙ here))
            (λ away. has_old b away ∙ four.opened b h (sym (elsewhere b away) ∙ is));
        filled = λ d low laid_so within. absurd (omega arith);
      }

  -- ---- a cell that is emptied for good

  pub four_emptied : (s : State) (told : ℕ → ℕ → Option X × List L) (held : ℕ → Option ℕ) (n k : ℕ) (filling : Option X) (homes : Homes D U) → n ≤ k
      → Four setting docs deeds p s told held (Emptied n) filling homes → Four setting docs deeds p s told held (Emptied (k + 1)) filling (set homes k maybe.none)
  four_emptied s told held n k filling homes more four =
      let news : Homes D U = set homes k maybe.none in
      let elsewhere : (j : ℕ) → IsIn (Emptied (k + 1)) j → get_elem? news j ≡ get_elem? homes j = λ j inside. set_else homes k j maybe.none (λ z. let a = inside (k + 1) refl in absurd (omega arith)) in
      let still : (j : ℕ) → IsIn (Emptied (k + 1)) j → IsIn (Emptied n) j = λ j inside m is. let a = inside (k + 1) refl in let b = same_Some n m is in omega arith in
      record {
        size = length-set homes k maybe.none ∙ four.size;
        doors = λ b g c opened low within free inside. door_still homes news (cell_of b c) (told g c) (told g c) (elsewhere (cell_of b c) inside) refl (four.doors b g c opened low within free (still (cell_of b c) inside));
        spare = λ b c below none low within old. left_still homes news (cell_of b c) (held b) (held b) (λ g. told g c) (λ g. told g c) (elsewhere (cell_of b c) old.within) refl (λ _ _. refl)
            (four.spare b c below none low within record { unfilled = λ _. omega arith; home = λ z. none-some (cell_of b c) z; within = still (cell_of b c) old.within });
        opened = four.opened;
        filled = λ c low laid_so within. absurd (omega arith);
      }

  -- ---- a freeing

  pub four_freed : (s : State) (told : ℕ → ℕ → Option X × List L) (held : ℕ → Option ℕ) (own a : Task) (g : ℕ) (filling : Option X) (homes : Homes D U) → ((c : ℕ) → s.pins c ≢ Some g) → reached a ≡ reached own → laid a ≡ laid own → emptied a ≡ emptied own
      → Four setting docs deeds p s told held own filling homes → Four setting docs deeds p (after {U = U} {D = X} {L = L} s (Free g)) told held a filling homes
  four_freed s told held own a g filling homes nobody out same empties four = record {
    size = four.size;
    doors = λ b h c opened low within free inside. four.doors b h c (at_freed g h (s.slots b) opened).0 low within free (λ n e. inside n (empties ∙ e));
    spare = λ b c below is low within old. ⊎_elim
        (λ (z : s.slots b ≡ None). four.spare b c below z low within record { unfilled = λ e. let n = ap (λ (y : ℕ × ℕ). y.1) same in let m = old.unfilled (e ∙ sym (ap (λ (y : ℕ × ℕ). y.0) same)) in omega arith; home = λ e. old.home (out ∙ e); within = λ n e. old.within n (empties ∙ e) })
        (λ (z : s.slots b ≡ Some g). door_left homes (cell_of b c) g (held b) (λ h. told h c) (four.opened b g z) (four.doors b g c z low within (nobody c) (λ n e. old.within n (empties ∙ e))))
        (none_before g (s.slots b) is);
    opened = λ b h is. four.opened b h (at_freed g h (s.slots b) is).0;
    filled = λ c low laid_so within. subst (λ (z : ℕ × ℕ). IsDoorAt setting docs deeds p homes (cell_of z.0 c) (filling, [])) (sym same) (four.filled c low (let n = ap (λ (z : ℕ × ℕ). z.1) same in omega arith) within);
  }
