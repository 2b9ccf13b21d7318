-- What a step tells of a registrar.
use Rattle.std.proofs.Common.{◌≡◌, ◌≢◌, ℕ, ◌+◌, ◌<◌, ◌≤◌, true, cond, List, [], ◌∷◌, ◌++◌, length, eq-eqb, ne_eqb, count_by, refl, sym, ap, ◌∙◌, subst, arith, Option, Some, None}
use Rattle.atomic_table.specs.Table.{Me}
use Rattle.registry_machine.specs.declared.entry.Entry.{Entry}
use Rattle.registry_machine.specs.declared.entry.Entry.TheVariants.{Open, TooMany, GenerationsSpent, Update}
use Rattle.registry_machine.specs.Entries.{has_place}
use Rattle.registry_machine.specs.Machine.{State, after}
use Rattle.registry_machine.specs.Legal.{Legal, state_of}
use Rattle.searcher_table.specs.declared.board.Call.TheVariants.{Open as ToOpen, Update as ToUpdate}
use Rattle.searcher_table.specs.declared.board.Cell.{Cell}
use Rattle.searcher_table.specs.declared.board.Known.{Known}
use Rattle.searcher_table.specs.declared.board.Task.{Task}
use Rattle.searcher_table.specs.declared.board.Task.TheVariants.{Idle, Filled}
use Rattle.searcher_table.specs.declared.board.Fresh.{Fresh}
use Rattle.searcher_table.specs.declared.board.Plan.{Plan}
use Rattle.searcher_table.specs.declared.registrar.Registrar.{Registrar}
use Rattle.searcher_table.specs.declared.board.Hand.{Hand}
use Rattle.searcher_table.specs.declared.shown.Shown.{Ghosts}
use Rattle.searcher_table.specs.declared.tokens.Announced.{Announced}
use Rattle.searcher_table.specs.Words.{limits, last_generation}
use Rattle.searcher_table.specs.Warming.{listed, number_of, last_in, current_in, warming_in}
use Rattle.searcher_table.specs.Views.{StartsWith, HasNoPlaceSince}
use Rattle.searcher_table.specs.Steps.{opening_of, answer_of, joined, Covers, HasExecuted}
use Rattle.searcher_table.specs.Registrars.{plan_of, seen_of, answer_to}
use Rattle.searcher_table.proofs.Passing.{Knows, knows}
use Rattle.searcher_table.proofs.Quiet.{HasSameOpenings, same_trans, quiet_here, quiet_trans, quiet_since, state_next}
use Rattle.searcher_table.proofs.Places.{same_places, one_place_more}

module _ {D U W X L : Type 0} where
  -- the registrar's seat, which has seen no entry with a place more
  pub record Goes (r : Registrar D U W X L) (k : Known W U X L) : Type 0 where
    pub seen : HasNoPlaceSince k.seen (seen_of r)
    pub plan : k.plan ≡ r.place.me.0.plan
    pub role : k.registrar ≡ r.place.me.0.registrar
    pub back : k.back ≡ r.place.me.0.back

  pub goes : (r : Registrar D U W X L) → Goes r r.place.me.0
  goes r = record { seen = quiet_here (seen_of r); plan = refl; role = refl; back = refl }

  -- a step of the registrar has this entry
  pub record HasEntered (r : Registrar D U W X L) (other : Known W U X L) (new : Me (Cell D U) (Known W U X L)) (e : Entry U X L) (task : Task) (fresh : Option Fresh) : Type 0 where
    pub log : List (Entry U X L)
    pub quiet : HasNoPlaceSince log (seen_of r)
    pub covers : StartsWith log other.seen
    pub seen : new.0.seen ≡ log ++ e ∷ []
    pub plan : new.0.plan ≡ r.place.me.0.plan
    pub role : new.0.registrar ≡ r.place.me.0.registrar
    pub back : new.0.back ≡ r.place.me.0.back
    pub hand : new.0.hand ≡ None
    pub task_is : new.0.task ≡ task
    pub fresh_is : new.0.fresh ≡ fresh
    pub legal : Legal (limits (plan_of r)) new.0.seen
    pub places : has_place e ≡ true → r.places + 1 ≡ count_by has_place new.0.seen
    pub openings : HasSameOpenings (state_of (limits (plan_of r)) (seen_of r)) (state_of (limits (plan_of r)) log)
    pub state : state_of (limits (plan_of r)) new.0.seen ≡ after (state_of (limits (plan_of r)) log) e

  pub executed : (r : Registrar D U W X L) (k other : Known W U X L) (me new : Me (Cell D U) (Known W U X L)) (e : Entry U X L) (task : Task) (fresh : Option Fresh) → Goes r k → me.0 ≡ joined k other → HasExecuted e task fresh me new → HasEntered r other new e task fresh
  executed r k other me new e task fresh g is x =
      let log : List (Entry U X L) = x.log in
      let v : Covers (joined k other) log = subst (λ (m : Known W U X L). Covers m log) is x.covers in
      let n : Knows me.0 new.0 (log ++ e ∷ []) x.pending None = knows me new (log ++ e ∷ []) x.pending None x.after in
      let quiet = quiet_trans (seen_of r) k.seen log g.seen (v.places (g.role ∙ r.role)) in
      record {
        log = log;
        quiet = quiet;
        covers = v.told;
        seen = n.seen;
        plan = n.plan ∙ ap (λ (m : Known W U X L). m.plan) is ∙ g.plan;
        role = n.registrar ∙ ap (λ (m : Known W U X L). m.registrar) is ∙ g.role;
        back = n.back ∙ ap (λ (m : Known W U X L). m.back) is ∙ g.back;
        hand = n.hand;
        task_is = ap (λ (m : Me (Cell D U) (Known W U X L)). m.0.task) x.after;
        fresh_is = ap (λ (m : Me (Cell D U) (Known W U X L)). m.0.fresh) x.after;
        legal = subst (λ (l : List (Entry U X L)). Legal (limits (plan_of r)) l) (sym n.seen) (x.legal (plan_of r) (ap (λ (m : Known W U X L). m.plan) is ∙ g.plan ∙ r.told));
        places = λ has.
            let a = r.counted in
            let b = same_places log (seen_of r) quiet in
            let c = one_place_more log e has in
            let d = ap (count_by has_place) n.seen in
            omega arith;
        openings = quiet_since (limits (plan_of r)) log (seen_of r) quiet;
        state = ap (state_of (limits (plan_of r))) n.seen ∙ state_next (limits (plan_of r)) log e;
      }

  pub executed_log : (r : Registrar D U W X L) (k other : Known W U X L) (me new : Me (Cell D U) (Known W U X L)) (e : Entry U X L) (task : Task) (fresh : Option Fresh) (g : Goes r k) (is : me.0 ≡ joined k other) (x : HasExecuted e task fresh me new)
      → (executed r k other me new e task fresh g is x).log ≡ x.log
  unfolding executed
  executed_log r k other me new e task fresh g is x = refl

  -- what the registrar keeps of openings is true of a history with the same ones
  pub record Mirrors (r : Registrar D U W X L) (new : List (Entry U X L)) : Type 0 where
    pub last : r.last ≡ last_in (plan_of r) new
    pub warming : listed r.warming ≡ warming_in (plan_of r) new
    pub current : r.current ≡ current_in (plan_of r) new

  pub mirrors : (r : Registrar D U W X L) (new : List (Entry U X L)) → HasSameOpenings (state_of (limits (plan_of r)) (seen_of r)) (state_of (limits (plan_of r)) new) → Mirrors r new
  mirrors r new o = record {
    last = r.last_is ∙ sym o.last;
    warming = r.warming_are ∙ sym o.warming;
    current = r.current_is ∙ sym (ap number_of o.current);
  }

  -- an entry that opens and ends nothing
  pub entered_mirrors : (r : Registrar D U W X L) (other : Known W U X L) (new : Me (Cell D U) (Known W U X L)) (e : Entry U X L) (task : Task) (fresh : Option Fresh) → (x : HasEntered r other new e task fresh)
      → HasSameOpenings (state_of (limits (plan_of r)) x.log) (after (state_of (limits (plan_of r)) x.log) e) → Mirrors r new.0.seen
  entered_mirrors r other new e task fresh x o =
      let l = limits (plan_of r) in
      mirrors r new.0.seen (subst (λ (t : State). HasSameOpenings (state_of l (seen_of r)) t) (sym x.state)
      (same_trans (state_of l (seen_of r)) (state_of l x.log) (after (state_of l x.log) e) x.openings o))

  -- and one that opens the next generation
  pub record HasOneMore (r : Registrar D U W X L) (new : List (Entry U X L)) : Type 0 where
    pub last : r.last + 1 ≡ last_in (plan_of r) new
    pub warming : listed r.warming ++ (r.last + 1) ∷ [] ≡ warming_in (plan_of r) new
    pub current : r.current ≡ current_in (plan_of r) new

  pub opened_mirrors : (r : Registrar D U W X L) (other : Known W U X L) (new : Me (Cell D U) (Known W U X L)) (h : Hand U) (slot : ℕ) (shown : X) (task : Task) (fresh : Option Fresh) → HasEntered r other new (opening_of (plan_of r) (seen_of r) h slot shown) task fresh
      → HasOneMore r new.0.seen
  opened_mirrors r other new h slot shown task fresh x = record {
    last = ap (λ n. n + 1) r.last_is ∙ sym (ap (λ (z : State). z.last_opened) x.state);
    warming = (λ i. (r.warming_are ∙ sym x.openings.warming) i ++ (r.last_is i + 1) ∷ []) ∙ sym (ap (λ (z : State). z.warming) x.state);
    current = r.current_is ∙ sym (ap (λ (z : State). number_of z.current) x.state ∙ ap number_of x.openings.current);
  }

  -- the registrar has seen a history with no place more
  pub record HasSeen (r : Registrar D U W X L) (new : Known W U X L) : Type 0 where
    pub seen : HasNoPlaceSince new.seen (seen_of r)
    pub legal : Legal (limits (plan_of r)) new.seen
    pub places : r.places ≡ count_by has_place new.seen
    pub mirrors : Mirrors r new.seen

  pub has_seen : (r : Registrar D U W X L) (k new : Known W U X L) (log : List (Entry U X L)) → k.seen ≡ seen_of r → k.plan ≡ r.place.me.0.plan → k.registrar ≡ r.place.me.0.registrar → Covers k log → new.seen ≡ log → HasSeen r new
  has_seen r k new log same plan role covers sees =
      let quiet : HasNoPlaceSince new.seen (seen_of r) = subst (λ (z : List (Entry U X L) × List (Entry U X L)). HasNoPlaceSince z.0 z.1) (λ i. (sym sees i, same i)) (covers.places (role ∙ r.role)) in
      record {
        seen = quiet;
        legal = subst (λ (l : List (Entry U X L)). Legal (limits (plan_of r)) l) (sym sees) (covers.legal (plan_of r) (plan ∙ r.told));
        places = r.counted ∙ sym (same_places new.seen (seen_of r) quiet);
        mirrors = mirrors r new.seen (quiet_since (limits (plan_of r)) new.seen (seen_of r) quiet);
      }

  -- once it has taken another seat in
  pub met : (r : Registrar D U W X L) (other : Known W U X L) (me new : Me (Cell D U) (Known W U X L)) (log : List (Entry U X L)) → me ≡ (joined r.place.me.0 other, r.place.me.1) → Covers me.0 log → new.0.seen ≡ log → HasSeen r new.0
  met r other me new log is covers sees = has_seen r me.0 new.0 log (ap (λ (m : Me (Cell D U) (Known W U X L)). m.0.seen) is) (ap (λ (m : Me (Cell D U) (Known W U X L)). m.0.plan) is)
      (ap (λ (m : Me (Cell D U) (Known W U X L)). m.0.registrar) is) covers sees

  -- what the registrar's numbers say of what it has seen: as many are warming as may be
  pub is_full : (r : Registrar D U W X L) (found : List ℕ) → found ≡ listed r.warming → r.max_warming ≤ length found → length (warming_in (plan_of r) (seen_of r)) ≡ (plan_of r).max_warming
  is_full r found is high = let w = ap length r.warming_are in let t = r.most in let n = r.enough in let got = ap length is in omega arith

  -- or there is room for one more
  pub has_room : (r : Registrar D U W X L) (found : List ℕ) → found ≡ listed r.warming → length found < r.max_warming → length (warming_in (plan_of r) (seen_of r)) < (plan_of r).max_warming
  has_room r found is low = let w = ap length r.warming_are in let t = r.most in let got = ap length is in omega arith

  -- the last generation was opened
  pub none_left : (r : Registrar D U W X L) → 33554431 ≤ r.last → last_in (plan_of r) (seen_of r) ≡ last_generation
  none_left r high = let l = r.last_is in let n = r.within in omega arith

module _ {D U W X L : Type 0} {shows : Ghosts D W X L} where
  abbrev hand_of : Announced D U W X L shows → Hand U
  hand_of a = record { caller = a.caller; asked = a.asked }

  -- the entry of an update
  pub updates : (r : Registrar D U W X L) (a : Announced D U W X L shows) → a.asked.call ≡ ToUpdate → answer_to r a ≡ Update a.caller a.asked.content
  updates r a is = ap (λ call. answer_of call (plan_of r) (seen_of r) (hand_of a)) is

  -- and of an opening where as many are warming as may be, and where no generation is left
  pub refuses_full : (r : Registrar D U W X L) (a : Announced D U W X L shows) → a.asked.call ≡ ToOpen → length (warming_in (plan_of r) (seen_of r)) ≡ (plan_of r).max_warming
      → answer_to r a ≡ TooMany a.caller a.asked.content (warming_in (plan_of r) (seen_of r))
  refuses_full r a is full =
      let gs : List ℕ = warming_in (plan_of r) (seen_of r) in
      ap (λ call. answer_of call (plan_of r) (seen_of r) (hand_of a)) is
      ∙ ap (λ b. cond b (TooMany a.caller a.asked.content gs) (GenerationsSpent a.caller a.asked.content)) (eq-eqb (length gs) (plan_of r).max_warming full)

  pub refuses_spent : (r : Registrar D U W X L) (a : Announced D U W X L shows) → a.asked.call ≡ ToOpen → length (warming_in (plan_of r) (seen_of r)) ≢ (plan_of r).max_warming
      → answer_to r a ≡ GenerationsSpent a.caller a.asked.content
  refuses_spent r a is room =
      let gs : List ℕ = warming_in (plan_of r) (seen_of r) in
      ap (λ call. answer_of call (plan_of r) (seen_of r) (hand_of a)) is
      ∙ ap (λ b. cond b (TooMany a.caller a.asked.content gs) (GenerationsSpent a.caller a.asked.content)) (ne_eqb (length gs) (plan_of r).max_warming room)

  -- what the step by which the registrar answers a call leaves, once it has taken that call in
  pub answered : (r : Registrar D U W X L) (a : Announced D U W X L shows) (me new : Me (Cell D U) (Known W U X L)) → me ≡ (joined r.place.me.0 a.place.me.0, r.place.me.1)
      → ((h : Hand U) (p : Plan W) → me.0.hand ≡ Some h → me.0.plan ≡ Some p → HasExecuted (answer_of h.asked.call p me.0.seen h) me.0.task me.0.fresh me new)
      → HasEntered r a.place.me.0 new (answer_to r a) Idle me.0.fresh
  answered r a me new is x =
      let plan : me.0.plan ≡ Some (plan_of r) = ap (λ (m : Me (Cell D U) (Known W U X L)). m.0.plan) is ∙ r.told in
      let hand : me.0.hand ≡ Some (hand_of a) = ap (λ (m : Me (Cell D U) (Known W U X L)). m.0.hand) is ∙ a.in_hand in
      let task : me.0.task ≡ Idle = ap (λ (m : Me (Cell D U) (Known W U X L)). m.0.task) is ∙ r.idle in
      executed r r.place.me.0 a.place.me.0 me new (answer_to r a) Idle me.0.fresh (goes r) (ap (λ (m : Me (Cell D U) (Known W U X L)). m.0) is)
      (subst (λ (z : List (Entry U X L) × Task). HasExecuted (answer_of a.asked.call (plan_of r) z.0 (hand_of a)) z.1 me.0.fresh me new) (λ i. (ap (λ (m : Me (Cell D U) (Known W U X L)). m.0.seen) is i, task i)) (x (hand_of a) (plan_of r) hand plan))

  -- and the step by which it opens the next generation in the slot that it has claimed, which shows this
  pub opened : (shown : X) (r : Registrar D U W X L) (a : Announced D U W X L shows) (k : Known W U X L) (slot n : ℕ) (me new : Me (Cell D U) (Known W U X L)) → Goes r k → me.0 ≡ joined k a.place.me.0 → k.task ≡ Filled slot n → k.filling ≡ Some shown
      → ((h : Hand U) (p : Plan W) (b m : ℕ) (x : X) → me.0.hand ≡ Some h → me.0.plan ≡ Some p → me.0.task ≡ Filled b m → me.0.filling ≡ Some x
      → HasExecuted (opening_of p me.0.seen h b x) Idle (Some (record { generation = (state_of (limits p) me.0.seen).last_opened + 1; slot = b })) me new)
      → HasEntered r a.place.me.0 new (opening_of (plan_of r) (seen_of r) (hand_of a) slot shown) Idle (Some (record { generation = last_in (plan_of r) (seen_of r) + 1; slot = slot }))
  opened shown r a k slot n me new g is full kind x =
      let l = limits (plan_of r) in
      let plan : me.0.plan ≡ Some (plan_of r) = ap (λ (m : Known W U X L). m.plan) is ∙ g.plan ∙ r.told in
      let hand : me.0.hand ≡ Some (hand_of a) = ap (λ (m : Known W U X L). m.hand) is ∙ a.in_hand in
      let task : me.0.task ≡ Filled slot n = ap (λ (m : Known W U X L). m.task) is ∙ full in
      let filling : me.0.filling ≡ Some shown = ap (λ (m : Known W U X L). m.filling) is ∙ kind in
      let last : (state_of l me.0.seen).last_opened ≡ (state_of l (seen_of r)).last_opened = ap (λ (m : Known W U X L). (state_of l m.seen).last_opened) is ∙ (quiet_since l k.seen (seen_of r) g.seen).last in
      executed r k a.place.me.0 me new (opening_of (plan_of r) (seen_of r) (hand_of a) slot shown) Idle (Some (record { generation = last_in (plan_of r) (seen_of r) + 1; slot = slot })) g is
      (subst (λ (n : ℕ). HasExecuted (Open a.caller a.asked.content (n + 1) slot shown) Idle (Some (record { generation = n + 1; slot = slot })) me new) last (x (hand_of a) (plan_of r) slot n shown hand plan task filling))
