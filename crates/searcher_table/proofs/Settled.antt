-- What the registrar's steps tell that end a warming and settle a slot.
use Rattle.std.proofs.Common.{◌≡◌, ◌≢◌, ℕ, ◌+◌, ◌<◌, ◌==◌, ◌||◌, Bool, true, false, not, cond, eq-eqb, ne_eqb, List, [], ◌∷◌, ◌++◌, length, filter, count_by, sym, refl, ap, ◌∙◌, subst, inl, inr, arith, Option, Some, None}
use Rattle.std.specs.List.{AllByRecursion}
use Rattle.atomic_table.specs.Table.{Me}
use Rattle.registry_machine.specs.declared.entry.Entry.{Entry}
use Rattle.registry_machine.specs.declared.entry.Entry.TheVariants.{Finish, Superseded, Free}
use Rattle.registry_machine.specs.Entries.{has_place}
use Rattle.registry_machine.specs.Orders.{Ascends}
use Rattle.registry_machine.specs.Machine.{Limits, State, start, is_in, after}
use Rattle.registry_machine.specs.Legal.{IsAllowed, Legal, state_of}
use Rattle.registry_machine.proofs.Lists.{true_and_false, test_same}
use Rattle.registry_machine.proofs.Runs.{split}
use Rattle.searcher_table.specs.declared.board.Cell.{Cell}
use Rattle.searcher_table.specs.declared.board.Plan.{Plan}
use Rattle.searcher_table.specs.declared.board.Known.{Known}
use Rattle.searcher_table.specs.declared.board.Task.{Task}
use Rattle.searcher_table.specs.declared.board.Task.TheVariants.{Idle, Unsettled, Duty}
use Rattle.searcher_table.specs.declared.board.Fresh.{Fresh}
use Rattle.searcher_table.specs.declared.registrar.Registrar.{Registrar}
use Rattle.std.specs.Prelude.{slice_get}
use Rattle.std.specs.Arc.{arc_value}
use Rattle.atomic_table.specs.Seated.{TableId}
use Rattle.searcher_table.specs.declared.board.Link.{Link}
use Rattle.searcher_table.specs.Spares.{AreAt}
use Rattle.searcher_table.proofs.Row.{each_and_last}
use Rattle.searcher_table.specs.Words.{limits}
use Rattle.searcher_table.specs.Views.{HasNoPlaceSince}
use Rattle.searcher_table.specs.Warming.{listed, number_of, last_in, current_in, warming_in}
use Rattle.searcher_table.specs.Steps.{settled_by, HasMade, HasTold}
use Rattle.searcher_table.specs.Claims.{IsOpener, HasBegun}
use Rattle.searcher_table.specs.Registrars.{plan_of}
use Rattle.searcher_table.specs.Publishing.{HasSettled}
use Rattle.searcher_table.proofs.Quiet.{quiet_trans, quiet_since}
use Rattle.searcher_table.proofs.Places.{same_places}
use Rattle.searcher_table.proofs.Standing.{sound}
use Rattle.searcher_table.proofs.Preparing.{begun_by}
use Rattle.searcher_table.proofs.Registering.{HasEntered}

-- ---- settling

pub tells_more : (found slot g total : ℕ) → found ≡ total → settled_by found slot g total ≡ Duty slot g
tells_more found slot g total same = ap (λ b. cond b (Duty slot g) Idle) (eq-eqb found total same)

pub tells_less : (found slot g total : ℕ) → found ≢ total → settled_by found slot g total ≡ Idle
tells_less found slot g total other = ap (λ b. cond b (Duty slot g) Idle) (ne_eqb found total other)

module _ {D W U X L : Type 0} (p : Plan W) (slot g total found : ℕ) (me mid : Me (Cell D U) (Known W U X L)) (o : IsOpener p me.0 (Unsettled slot g total)) (x : HasTold slot g total found me mid) where
  begun : HasBegun p me.0 mid.0 (settled_by found slot g total)
  begun = begun_by p me mid (Unsettled slot g total) (settled_by found slot g total) me.0.fresh o x.turned

  sees : mid.0.seen ≡ x.turned.log
  sees = ap (λ (m : Me (Cell D U) (Known W U X L)). m.0.seen) x.turned.after

  -- where some caller still has to release
  pub settled_kept : found ≢ total → HasSettled p me.0 mid.0 g total
  settled_kept other = record {
    opener = record { plan = begun.opener.plan; role = begun.opener.role; task = begun.opener.task ∙ tells_less found slot g total other };
    legal = begun.legal;
    back = begun.back;
    hand = begun.hand;
    log = x.turned.log;
    seen = x.turned.covers.places o.role;
    since = begun.seen;
    settled = record { ended = inl (λ z. other (sym x.released ∙ z), sees) };
  }

  -- the registrar's duty
  pub has_duty : found ≡ total → IsOpener p mid.0 (Duty slot g)
  has_duty same = record { plan = begun.opener.plan; role = begun.opener.role; task = begun.opener.task ∙ tells_more found slot g total same }

  -- and where nobody uses the generation any more
  pub settled_freed : (new : Me (Cell D U) (Known W U X L)) → found ≡ total → HasMade (Free g) Idle mid new → HasSettled p me.0 new.0 g total
  settled_freed new same m =
      let y = m.entered in
      let is = ap (λ (z : Me (Cell D U) (Known W U X L)). z.0) y.after in
      let last : new.0.seen ≡ y.log ++ Free g ∷ [] = ap (λ (k : Known W U X L). k.seen) is in
      let quiet : HasNoPlaceSince y.log mid.0.seen = y.covers.places begun.opener.role in
      let end : HasNoPlaceSince new.0.seen y.log = subst (λ (l : List (Entry U X L)). HasNoPlaceSince l y.log) (sym last) record { rest = Free g ∷ []; grown = refl; quiet = (refl, tt) } in
      record {
        opener = record {
          plan = ap (λ (k : Known W U X L). k.plan) is ∙ begun.opener.plan;
          role = ap (λ (k : Known W U X L). k.registrar) is ∙ begun.opener.role;
          task = ap (λ (k : Known W U X L). k.task) is;
        };
        legal = subst (λ (l : List (Entry U X L)). Legal (limits p) l) (sym last) (y.legal p begun.opener.plan);
        back = ap (λ (k : Known W U X L). k.back) is ∙ begun.back;
        hand = ap (λ (k : Known W U X L). k.hand) is;
        log = x.turned.log;
        seen = x.turned.covers.places o.role;
        since = quiet_trans me.0.seen mid.0.seen new.0.seen begun.seen (quiet_trans mid.0.seen y.log new.0.seen quiet end);
        settled = record { ended = inr (x.released ∙ same, record { before = y.log; seen = subst (λ (l : List (Entry U X L)). HasNoPlaceSince y.log l) sees quiet; last = last }) };
      }

-- ---- what is warming then

none_removed : (g : ℕ) (xs : List ℕ) → AllByRecursion (λ y. g < y) xs → length (filter (λ x. not (x == g)) xs) ≡ length xs
none_removed g [] all = refl
none_removed g (x ∷ xs) all =
    let r = none_removed g xs all.1 in
    let e : length (filter (λ y. not (y == g)) (x ∷ xs)) ≡ length (x ∷ filter (λ y. not (y == g)) xs) = ap (λ b. length (cond (not b) (x ∷ filter (λ y. not (y == g)) xs) (filter (λ y. not (y == g)) xs))) (ne_eqb x g (λ z. let a = all.0 in absurd (omega arith))) in
    omega arith

removed_one : (g : ℕ) (xs : List ℕ) → Ascends xs → is_in g xs ≡ true → length (filter (λ x. not (x == g)) xs) + 1 ≡ length xs
removed_one g [] up is = absurd (true_and_false false is refl)
removed_one g (x ∷ xs) up is = by_test (removed_one g xs up.1) (x == g) refl is
  where
    rest : List ℕ
    rest = filter (λ y. not (y == g)) xs

    by_test : (is_in g xs ≡ true → length rest + 1 ≡ length xs) → (b : Bool) → (x == g) ≡ b → (b || is_in g xs) ≡ true → length (cond (not (x == g)) (x ∷ rest) rest) + 1 ≡ length (x ∷ xs)
    by_test one true e is =
        let same = test_same x g e in
        let n = none_removed g xs (subst (λ (n : ℕ). AllByRecursion (λ y. n < y) xs) same up.0) in
        let c : length (cond (not (x == g)) (x ∷ rest) rest) ≡ length rest = ap (λ b. length (cond (not b) (x ∷ rest) rest)) e in
        omega arith
    by_test one false e is =
        let r = one is in
        let c : length (cond (not (x == g)) (x ∷ rest) rest) ≡ length (x ∷ rest) = ap (λ b. length (cond (not b) (x ∷ rest) rest)) e in
        omega arith

-- a number that is not 0
pub some_number : (o : Option ℕ) (n : ℕ) → n ≡ number_of o → 0 < n → o ≡ Some n
some_number None n is some = absurd (omega arith)
some_number (Some m) n is some = ap (λ k. Some k) (sym is)

module _ {D U W X L : Type 0} (r : Registrar D U W X L) (other : Known W U X L) (new : Me (Cell D U) (Known W U X L)) (e : Entry U X L) (task : Task) (fresh : Option Fresh) (x : HasEntered r other new e task fresh) where
  abbrev l : Limits
  l = limits (plan_of r)

  abbrev without : ℕ → List ℕ
  without g = filter (λ y. not (y == g)) (listed r.warming)

  -- what the registrar keeps then
  pub record HasOneLess (n : Known W U X L) (g now : ℕ) : Type 0 where
    pub last : r.last ≡ last_in (plan_of r) n.seen
    pub warming : without g ≡ warming_in (plan_of r) n.seen
    pub current : now ≡ current_in (plan_of r) n.seen
    pub places : r.places + 1 ≡ count_by has_place n.seen
    pub fewer : length (without g) + 1 ≡ length (listed r.warming)

  allowed : IsAllowed l (state_of l x.log) e
  allowed = (split l (start l) x.log (e ∷ []) (subst (λ (h : List (Entry U X L)). Legal l h) x.seen x.legal)).1.0

  -- by an entry that ends the warming of this generation
  pub one_less : (n : Known W U X L) (g now : ℕ) → has_place e ≡ true → (after (state_of l x.log) e).last_opened ≡ (state_of l x.log).last_opened → (after (state_of l x.log) e).warming ≡ filter (λ y. not (y == g)) (state_of l x.log).warming
      → is_in g (state_of l x.log).warming ≡ true → now ≡ number_of (after (state_of l x.log) e).current → HasNoPlaceSince n.seen new.0.seen → HasOneLess n g now
  one_less n g now placed last warming is current quiet =
      let o = quiet_since l n.seen new.0.seen quiet in
      let legal_log = (split l (start l) x.log (e ∷ []) (subst (λ (h : List (Entry U X L)). Legal l h) x.seen x.legal)).0 in
      let same : (state_of l x.log).warming ≡ listed r.warming = x.openings.warming ∙ sym r.warming_are in
      record {
        last = r.last_is ∙ sym (o.last ∙ ap (λ (z : State). z.last_opened) x.state ∙ last ∙ x.openings.last);
        warming = ap (filter (λ y. not (y == g))) (sym same) ∙ sym (o.warming ∙ ap (λ (z : State). z.warming) x.state ∙ warming);
        current = current ∙ sym (ap number_of (o.current ∙ ap (λ (z : State). z.current) x.state));
        places = (let a = x.places placed in let b = same_places n.seen new.0.seen quiet in omega arith);
        fewer = removed_one g (listed r.warming) (subst Ascends same (sound l x.log legal_log).ascending) (ap (is_in g) (sym same) ∙ is);
      }

module _ {D U W X L : Type 0} (r : Registrar D U W X L) (other : Known W U X L) (new : Me (Cell D U) (Known W U X L)) (task : Task) (fresh : Option Fresh) (g : ℕ) (list : List L) where
  pub less_finish : (x : HasEntered r other new (Finish g list) task fresh) (n : Known W U X L) → HasNoPlaceSince n.seen new.0.seen → HasOneLess r other new (Finish g list) task fresh x n g g
  less_finish x n quiet = one_less r other new (Finish g list) task fresh x n g g refl refl refl (allowed r other new (Finish g list) task fresh x).warming refl quiet

  pub less_superseded : (by : ℕ) (x : HasEntered r other new (Superseded g by list) task fresh) (n : Known W U X L) → HasNoPlaceSince n.seen new.0.seen → HasOneLess r other new (Superseded g by list) task fresh x n g r.current
  less_superseded by x n quiet = one_less r other new (Superseded g by list) task fresh x n g r.current refl refl refl (allowed r other new (Superseded g by list) task fresh x).warming (r.current_is ∙ sym (ap number_of x.openings.current)) quiet

module _ {D U W X L : Type 0} where
  -- a reference more to the table
  pub one_back : (t s : TableId) (old new : List (Link D U W X L)) (l : Link D U W X L) → AreAt s old → new ≡ old ++ l ∷ [] → (arc_value l.table).shared.table_id ≡ s → t ≡ s → AreAt t new
  one_back t s old new l all is at same = λ i m here.
      each_and_last (λ (z : Link D U W X L). (arc_value z.table).shared.table_id ≡ s) old l all at i m (ap (λ (ls : List (Link D U W X L)). slice_get ls i) (sym is) ∙ here) ∙ sym same
