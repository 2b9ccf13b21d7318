-- What a step tells of a pass.
use Rattle.std.proofs.Common.{◌≡◌, ℕ, ◌+◌, ◌≤◌, List, [], ◌∷◌, ◌++◌, count_by, length, length-append, sym, refl, ap, ◌∙◌, subst, arith, Option, Some, None}
use Rattle.atomic_table.specs.Table.{Me}
use Rattle.registry_machine.specs.declared.entry.Entry.{Entry}
use Rattle.registry_machine.specs.Callers.{mine}
use Rattle.registry_machine.specs.Legal.{Legal}
use Rattle.searcher_table.specs.declared.board.Asked.{Asked}
use Rattle.searcher_table.specs.declared.board.Plan.{Plan}
use Rattle.searcher_table.specs.declared.board.Hand.{Hand}
use Rattle.searcher_table.specs.declared.board.Known.{Known}
use Rattle.searcher_table.specs.declared.board.Task.{Task}
use Rattle.searcher_table.specs.declared.board.Fresh.{Fresh}
use Rattle.searcher_table.specs.declared.pass.Pass.{Pass}
use Rattle.searcher_table.specs.Words.{limits}
use Rattle.searcher_table.specs.Views.{StartsWith, GoesOn}
use Rattle.searcher_table.specs.Steps.{looked, joined, kept_back, Covers}
use Rattle.searcher_table.specs.Passes.{plan_of, seen_of, mine_of, announced_of, IsSamePass, HasSeenMore, HasLooked}
use Rattle.searcher_table.specs.Counts.{is_acquire, pinned}
use Rattle.searcher_table.proofs.Frame.{own_joined}
use Rattle.searcher_table.proofs.OwnStep.{pinned_still, acquires_still}

-- what a seat knows after a step
pub record Knows {W U X L : Type 0} (k n : Known W U X L) (log : List (Entry U X L)) (pending : ℕ → Option (Asked U)) (held : Option (Hand U)) : Type 0 where
  pub plan : n.plan ≡ k.plan
  pub caller : n.caller ≡ k.caller
  pub mine : n.mine ≡ mine k.caller log
  pub announced : n.announced ≡ pending k.caller
  pub hand : n.hand ≡ held
  pub seen : n.seen ≡ log
  pub steps : n.steps ≡ k.steps + 1
  pub registrar : n.registrar ≡ k.registrar
  pub next : n.next ≡ k.next
  pub back : n.back ≡ k.back

module _ {S W U X L : Type 0} where
  pub knows : {task : Task} {fresh : Option Fresh} (me new : Me S (Known W U X L)) (log : List (Entry U X L)) (pending : ℕ → Option (Asked U)) (hand : Option (Hand U))
      → new ≡ (record (looked me.0 log pending) { hand = hand; task = task; fresh = fresh }, me.1) → Knows me.0 new.0 log pending hand
  knows me new log pending hand is = record {
    plan = ap (λ (m : Me S (Known W U X L)). m.0.plan) is;
    caller = ap (λ (m : Me S (Known W U X L)). m.0.caller) is;
    mine = ap (λ (m : Me S (Known W U X L)). m.0.mine) is;
    announced = ap (λ (m : Me S (Known W U X L)). m.0.announced) is;
    hand = ap (λ (m : Me S (Known W U X L)). m.0.hand) is;
    seen = ap (λ (m : Me S (Known W U X L)). m.0.seen) is;
    steps = ap (λ (m : Me S (Known W U X L)). m.0.steps) is;
    registrar = ap (λ (m : Me S (Known W U X L)). m.0.registrar) is;
    next = ap (λ (m : Me S (Known W U X L)). m.0.next) is;
    back = ap (λ (m : Me S (Known W U X L)). m.0.back) is;
  }

-- what is joined to a list and leaves it as it was is nothing
pub nothing_more : {A : Type 0} (xs ys : List A) → xs ++ ys ≡ xs → ys ≡ []
nothing_more xs [] e = refl
nothing_more xs (y ∷ ys) e = let n = length-append xs (y ∷ ys) in let m = ap length e in absurd (omega arith)

-- what a step by a seat that has taken in another one leaves
pub knows_joined : {W U X L : Type 0} {n : Known W U X L} (k o : Known W U X L) {log : List (Entry U X L)} {pending : ℕ → Option (Asked U)} {held : Option (Hand U)}
    → Knows (joined k o) n log pending held → Knows k n log pending held
knows_joined k o a = record {
  plan = a.plan;
  caller = a.caller;
  mine = a.mine;
  announced = a.announced;
  hand = a.hand;
  seen = a.seen;
  steps = a.steps;
  registrar = a.registrar;
  next = a.next;
  back = a.back;
}

-- what a step by a seat leaves, once its hand is out
pub knows_kept : {W U X L : Type 0} {k n : Known W U X L} {log : List (Entry U X L)} {pending : ℕ → Option (Asked U)} {held : Option (Hand U)}
    → Knows k n log pending held → Knows k (kept_back n) log pending None
knows_kept a = record {
  plan = a.plan;
  caller = a.caller;
  mine = a.mine;
  announced = a.announced;
  hand = refl;
  seen = a.seen;
  steps = a.steps;
  registrar = a.registrar;
  next = a.next;
  back = a.back;
}

module _ {D U W X L : Type 0} where
  -- a history that goes on from what the pass has seen, and is legal
  pub record Sees (s : Pass D U W X L) (log : List (Entry U X L)) : Type 0 where
    pub seen : StartsWith log (seen_of s)
    pub legal : Legal (limits (plan_of s)) log

  pub sees : (s : Pass D U W X L) (log : List (Entry U X L)) → Covers s.place.me.0 log → Sees s log
  sees s log c = record { seen = c.seen; legal = c.legal (plan_of s) s.told }

  pub sees_joined : (s : Pass D U W X L) (o : Known W U X L) (log : List (Entry U X L)) → Covers (joined s.place.me.0 o) log → Sees s log
  sees_joined s o log c = record { seen = c.seen; legal = c.legal (plan_of s) s.told }

  module _ (s : Pass D U W X L) (n : Known W U X L) (log : List (Entry U X L)) (pending : ℕ → Option (Asked U)) (held : Option (Hand U)) (k : Knows s.place.me.0 n log pending held) where
    -- the caller's own entries are known
    pub own_after : n.mine ≡ mine s.caller n.seen
    own_after = k.mine ∙ (λ i. mine (s.numbered i) (sym k.seen i))

    pub caller_after : n.caller ≡ s.caller
    caller_after = k.caller ∙ s.numbered

    pub back_after : n.back ≡ []
    back_after = k.back ∙ s.none_back

    pub plan_after : n.plan ≡ Some (plan_of s)
    plan_after = k.plan ∙ s.told

    -- where what was announced was executed meanwhile or not, nothing is pinned, and nothing more was acquired
    module _ (calls : 1 ≤ s.place.me.0.caller → GoesOn s.place.me.0.caller s.place.me.0.mine s.place.me.0.announced (mine s.place.me.0.caller log) (pending s.place.me.0.caller)) where
      goes : GoesOn s.place.me.0.caller s.place.me.0.mine s.place.me.0.announced n.mine (pending s.place.me.0.caller)
      goes = let m = s.numbered in let r = s.ranged in
          subst (λ (es : List (Entry U X L)). GoesOn s.place.me.0.caller s.place.me.0.mine s.place.me.0.announced es (pending s.place.me.0.caller)) (sym k.mine) (calls (omega arith))

      pub unpinned_after : pinned s.caller n.mine ≡ None
      unpinned_after = ap (λ c. pinned c n.mine) (sym s.numbered) ∙ pinned_still s.place.me.0.caller s.place.me.0.mine n.mine s.place.me.0.announced (pending s.place.me.0.caller) goes
          ∙ ap (λ c. pinned c s.place.me.0.mine) s.numbered ∙ s.unpinned

      pub tried_after : s.made ≡ count_by is_acquire n.mine
      tried_after = s.tried ∙ sym (acquires_still s.place.me.0.caller s.place.me.0.mine n.mine s.place.me.0.announced (pending s.place.me.0.caller) goes)

  -- what is seen after a step prolongs what was seen
  pub seen_more : (s t : Pass D U W X L) (log : List (Entry U X L)) (own : List (Entry U X L)) → IsSamePass s t → seen_of t ≡ log → t.place.me.0.steps ≡ s.place.me.0.steps + 1
      → (c : Sees s log) → mine s.caller c.seen.0 ≡ own → HasSeenMore s t own
  seen_more s t log own same sees steps c is = record {
    pass = same;
    sound = record {
      legal = subst (λ (q : Plan W). Legal (limits q) (seen_of t)) (sym same.plan) (subst (λ (l : List (Entry U X L)). Legal (limits (plan_of s)) l) (sym sees) c.legal);
      own = t.own;
    };
    prolongs = record { more = c.seen.0; joined = sees ∙ c.seen.1; own = is };
    steps = steps;
  }

  -- where the caller has no entry more in the history
  pub none_more : (s : Pass D U W X L) (log : List (Entry U X L)) (c : Sees s log) → mine s.place.me.0.caller log ≡ s.place.me.0.mine → mine s.caller c.seen.0 ≡ []
  none_more s log c is =
      nothing_more (mine s.caller (seen_of s)) (mine s.caller c.seen.0)
      (sym (own_joined s.caller (seen_of s) c.seen.0) ∙ ap (mine s.caller) (sym c.seen.1) ∙ ap (λ n. mine n log) (sym s.numbered) ∙ is ∙ s.own)

  pub has_looked : (s t : Pass D U W X L) (log : List (Entry U X L)) (pending : ℕ → Option (Asked U)) (held : Option (Hand U)) → IsSamePass s t → Knows s.place.me.0 t.place.me.0 log pending held
      → Sees s log → (1 ≤ s.place.me.0.caller → GoesOn s.place.me.0.caller s.place.me.0.mine s.place.me.0.announced (mine s.place.me.0.caller log) (pending s.place.me.0.caller))
      → HasLooked s t
  has_looked s t log pending held same k c calls = record {
    own = mine s.caller c.seen.0;
    more = seen_more s t log (mine s.caller c.seen.0) same k.seen k.steps c refl;
    calls =
        let one : 1 ≤ s.place.me.0.caller = (let n = s.numbered in let r = s.ranged in omega arith) in
        subst (λ (n : ℕ). GoesOn n (mine_of s) (announced_of s) (mine_of t) (announced_of t)) s.numbered
        (subst (λ (l : List (Entry U X L)). GoesOn s.place.me.0.caller (mine_of s) (announced_of s) l (announced_of t)) (sym k.mine)
        (subst (λ (a : Option (Asked U)). GoesOn s.place.me.0.caller (mine_of s) (announced_of s) (mine s.place.me.0.caller log) a) (sym k.announced) (calls one)));
  }
