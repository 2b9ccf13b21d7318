-- Putting the value back keeps the rule, where it fits and keeps of every other seat what it kept before.
use Rattle.std.proofs.Common.{◌≡◌, ◌≢◌, ℕ, ◌<◌, true, true≢false, eq-eqb, ne_eqb, List, [], ◌∷◌, set, sym, refl, ap, ◌∙◌, subst, arith, length-set, get_or-set_same, Option, Some, None}
use mathlib.Core.Option.{some}
use mathlib.Core.Option as maybe
use native.Mathlib.Decide.{ℕ_discrete}
use mathlib.Core.Logic.{dite}
use lib.ListN.{get_elem?}
use Rattle.std.specs.Prelude.{slice_index}
use Rattle.atomic_table.specs.Table.{Me, Allows, gives, step, stepped, rest}
use Rattle.atomic_table.proofs.Lists.{set_here}
use Rattle.view_cells.specs.declared.board.Setting.{Setting}
use Rattle.view_cells.specs.declared.board.Listing.{Listing}
use Rattle.view_cells.specs.declared.board.Known.{Known}
use Rattle.view_cells.specs.Lists.{names, AreDistinct, entries_of, with_first, first_number}
use Rattle.view_cells.specs.Rule.{number, Holds, Kept, HoldsByLock, OwnsLists}
use Rattle.view_cells.specs.Steps.{LetGo}
use Rattle.view_cells.proofs.Frame.{each_set, told}

module _ {E : Type 0} where
  -- the first list changes, and the numbers stay
  pub same_names : (es : List E) (ls : List (Listing E)) (n : ℕ) → names n (with_first es ls) ≡ names n ls
  same_names es [] n = refl
  same_names es (l ∷ ls) n = refl

  pub same_number : (es : List E) (ls : List (Listing E)) → first_number (with_first es ls) ≡ first_number ls
  same_number es [] = refl
  same_number es (l ∷ ls) = refl

  same_distinct : (es : List E) (ls : List (Listing E)) → AreDistinct ls → AreDistinct (with_first es ls)
  same_distinct es [] d = d
  same_distinct es (l ∷ ls) d = d

  pub first_is : (es : List E) (ls : List (Listing E)) → names (first_number ls) ls ≡ true → entries_of (first_number ls) (with_first es ls) ≡ es
  first_is es [] has = absurd (true≢false (sym has))
  first_is es (l ∷ ls) has = rw (eq-eqb l.number l.number refl) refl

  pub others_stay : (es : List E) (ls : List (Listing E)) (n : ℕ) → n ≢ first_number ls → entries_of n (with_first es ls) ≡ entries_of n ls
  others_stay es [] n other = refl
  others_stay es (l ∷ ls) n other = rw (ne_eqb l.number n (λ e. other (sym e))) refl

module _ {T W E : Type 0} (Fit : W → T → Type 0) (entries : T → ℕ → List E) (about : Setting W) where
  abbrev M : Type 0
  M = Me (Option T) (Known T W E)

  -- the value that a seat carries
  abbrev cell : Option T → List (ℕ × Option T)
  cell x = (0, x) ∷ []

  abbrev carried_or : Option T → List (ℕ × Option T) → Option T
  carried_or x [] = x
  carried_or x (y ∷ ys) = y.1

  -- what the seat knows once the value is back
  abbrev pub after_put_back : Known T W E → T → Known T W E
  after_put_back k new = record k { taken = None; lists = with_first (entries new (number k)) k.lists }

  pub put_in : (lock : ℕ) (home back : maybe.Option (maybe.Option (Option T))) (knows : List (Known T W E)) (old new : T) (owner : ℕ → ℕ) (id : ℕ) (k : Known T W E)
      → Holds Fit entries about lock home knows old owner → get_elem? knows id ≡ some k → k.taken ≡ Some old → back ≡ some (some (Some new)) → Fit about.view.value new
      → ((n : ℕ) → n < about.seats → n ≢ number k → entries new n ≡ entries old n)
      → Holds Fit entries about 0 back (set knows id (after_put_back k new)) new owner
  put_in lock home back knows old new owner id k h at out is fits same =
      let w : Known T W E = after_put_back k new in
      let mine = h.by_lock id k at old out in
      let own = h.lists id k at (number k) mine.2 in
      record {
        value_fits = fits;
        at_home = λ _. is;
        if_locked = λ n. absurd (n refl);
        by_lock = each_set (λ _ u. HoldsByLock Fit entries about 0 back (set knows id w) new owner u) knows id w
            (λ t e. let no : None ≡ Some t = e in cc)
            (λ j u other e t is'. let b = h.by_lock j u e t is' in
            let n : number u ≡ number k = (let p = b.1 in let q = mine.1 in omega arith) in
            let o = h.lists j u e (number u) b.2 in
            absurd (other (sym o.2 ∙ ap owner n ∙ own.2)));
        lists = each_set (OwnsLists Fit entries about 0 back (set knows id w) new owner) knows id w
            (λ n has. let o = h.lists id k at n (sym (same_names (entries new (number k)) k.lists n) ∙ has) in (
              o.0,
              o.1,
              o.2,
              dite (ℕ_discrete n (number k))
                  (λ e. subst (λ (m : ℕ). entries new m ≡ entries_of m w.lists) (sym e) (sym (first_is (entries new (number k)) k.lists mine.2)))
                  (λ e. same n o.1 e ∙ o.3 ∙ sym (others_stay (entries new (number k)) k.lists n e)),
            ))
            (λ j u other e n has. let o = h.lists j u e n has in (
              o.0,
              o.1,
              o.2,
              same n o.1 (λ e'. other (sym o.2 ∙ ap owner e' ∙ own.2)) ∙ o.3,
            ));
        distinct = each_set (λ _ (u : Known T W E). AreDistinct u.lists) knows id w (same_distinct (entries new (number k)) k.lists (h.distinct id k at)) (λ j u _ e. h.distinct j u e);
      }

  some_of : {x y : Option T} → cell x ≡ cell y → x ≡ y
  some_of {x} {y} p = ap (carried_or x) p

  pub lets_go : (slots id : ℕ) (me : M) (old new : T) → slots ≡ 1 → me.0.taken ≡ Some old → me.1 ≡ (0, Some new) ∷ []
      → ((setting : Setting W) → me.0.setting ≡ Some setting → Fit setting.view.value new × ((n : ℕ) → n < setting.seats → n ≢ number me.0 → entries new n ≡ entries old n))
      → Allows (Kept Fit entries about) slots id me 8 (λ _. 0) (λ _. LetGo Fit entries (step slots 8 0 0 maybe.none) me 0)
  lets_go slots id me old new one out carried may s kept deep at small =
      let lock : ℕ = slice_index s.words 8 in
      let home : maybe.Option (maybe.Option (Option T)) = get_elem? s.homes 0 in
      let k : Known T W E = me.0 in
      let h = kept.holds in
      let back : List (maybe.Option (Option T)) = set s.homes 0 (some (Some new)) in
      let is_old : old ≡ kept.value = (h.by_lock id k at old out).0 in
      let h' : Holds Fit entries about lock home s.views old kept.owner = subst (λ (t : T). Holds Fit entries about lock home s.views t kept.owner) (sym is_old) h in
      let mine = h.by_lock id k at old out in
      let may' = may about (h.lists id k at (number k) mine.2).0 in
      let long = kept.words in
      let put = put_in lock home (get_elem? back 0) s.views old new kept.owner id k h' at out (set_here s.homes 0 (some (Some new)) (omega arith)) may'.0 may'.1 in (
        after_put_back k new,
        gives,
        tt,
        subst (λ (c : List (ℕ × Option T)). Kept Fit entries about (stepped s 8 0 id c (after_put_back k new) gives)) (sym carried) record {
          words = length-set s.words 8 0 ∙ kept.words;
          value = new;
          owner = kept.owner;
          holds = subst (λ (l : ℕ). Holds Fit entries about l (get_elem? back 0) (set s.views id (after_put_back k new)) new kept.owner) (sym (get_or-set_same s.words 8 0 0 (omega arith))) put;
        },
        λ value is.
            let p : Some new ≡ Some value = some_of (sym carried ∙ is) in
            let e : new ≡ value = cc in
            let bare : rest me.1 ≡ [] = ap rest carried in
            λ i. (after_put_back k (e i), bare i),
      )

  -- the step that puts a value back, of a seat that has written it into its cell
  pub puts_back : (slots id : ℕ) (held me : M) (n : ℕ) (key : Setting W) (old new : T) → slots ≡ 1 → held.0.taken ≡ Some old → held.1 ≡ (0, None) ∷ []
      → me ≡ (held.0, (0, Some new) ∷ rest held.1) → held.0.setting ≡ Some key → n ≡ number held.0 → Fit key.view.value new
      → ((m : ℕ) → m < key.seats → m ≢ n → entries new m ≡ entries old m)
      → Allows (Kept Fit entries about) slots id me 8 (λ _. 0) (λ _. LetGo Fit entries (step slots 8 0 0 maybe.none) me 0)
  puts_back slots id held me n key old new one out bare wrote told is fits others =
      lets_go slots id me old new one (ap (λ (m : M). m.0.taken) wrote ∙ out) (ap (λ (m : M). m.1) wrote ∙ ap (λ (cs : List (ℕ × Option T)). (0, Some new) ∷ rest cs) bare)
      (λ setting e.
      let p : Some setting ≡ Some key = sym e ∙ ap (λ (m : M). m.0.setting) wrote ∙ told in
      let same : key ≡ setting = cc in
      let same_number : number me.0 ≡ n = ap (λ (m : M). number m.0) wrote ∙ sym is in
      subst (λ (x : Setting W). Fit x.view.value new × ((m : ℕ) → m < x.seats → m ≢ number me.0 → entries new m ≡ entries old m)) same
      (fits, λ m few other. others m few (λ q. other (q ∙ sym same_number))))

  -- what the seat knows once the value is back
  pub record IsBack (held after : M) (n : ℕ) (new : T) : Type 0 where
    pub setting : after.0.setting ≡ held.0.setting
    pub number : n ≡ first_number after.0.lists
    pub named : names n after.0.lists ≡ true
    pub lists : after.0.lists ≡ with_first (entries new n) held.0.lists
    pub own : entries_of n after.0.lists ≡ entries new n
    pub idle : after.0.taken ≡ None
    pub bare : after.1 ≡ []

  pub is_back : (slots : ℕ) (held me after : M) (n : ℕ) (new : T) → held.1 ≡ (0, None) ∷ [] → me ≡ (held.0, (0, Some new) ∷ rest held.1) → n ≡ number held.0
      → names n held.0.lists ≡ true → LetGo Fit entries (step slots 8 0 0 maybe.none) me 0 after → IsBack held after n new
  is_back slots held me after n new bare wrote is has went =
      let es : List E = entries new n in
      let before : me ≡ (held.0, (0, Some new) ∷ []) = wrote ∙ ap (λ (cs : List (ℕ × Option T)). (held.0, (0, Some new) ∷ rest cs)) bare in
      let last : after ≡ (record held.0 { taken = None; lists = with_first es held.0.lists }, []) =
      went new (ap (λ (m : M). m.1) before)
      ∙ ap (λ (m : M). (record m.0 { taken = None; lists = with_first (entries new (number m.0)) m.0.lists }, [])) before
      ∙ ap (λ (k : ℕ). (record held.0 { taken = None; lists = with_first (entries new k) held.0.lists }, [])) (sym is) in
      let lists : after.0.lists ≡ with_first es held.0.lists = ap (λ (m : M). m.0.lists) last in
      let number' : n ≡ first_number after.0.lists = is ∙ sym (same_number es held.0.lists) ∙ ap first_number (sym lists) in
      record {
        setting = ap (λ (m : M). m.0.setting) last;
        number = number';
        named = ap (names n) lists ∙ same_names es held.0.lists n ∙ has;
        lists = lists;
        own = ap (entries_of n) lists ∙ subst (λ (k : ℕ). entries_of k (with_first es held.0.lists) ≡ es) (sym is) (first_is es held.0.lists (subst (λ (k : ℕ). names k held.0.lists ≡ true) is has));
        idle = ap (λ (m : M). m.0.taken) last;
        bare = ap (λ (m : M). m.1) last;
      }
