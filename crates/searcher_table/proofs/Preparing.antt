-- What the registrar's steps tell while it claims a slot.
use Rattle.std.proofs.Common.{◌≡◌, ℕ, List, sym, ap, ◌∙◌, subst, Option, Some, None}
use Rattle.atomic_table.specs.Table.{Me}
use Rattle.registry_machine.specs.declared.entry.Entry.{Entry}
use Rattle.registry_machine.specs.Legal.{Legal, state_of}
use Rattle.searcher_table.specs.declared.board.Cell.{Cell}
use Rattle.searcher_table.specs.declared.board.Plan.{Plan}
use Rattle.searcher_table.specs.declared.board.Known.{Known}
use Rattle.searcher_table.specs.declared.board.Task.{Task}
use Rattle.searcher_table.specs.declared.board.Fresh.{Fresh}
use Rattle.searcher_table.specs.Words.{limits}
use Rattle.searcher_table.specs.Views.{HasNoPlaceSince}
use Rattle.searcher_table.specs.Steps.{HasTurned, HasWiped}
use Rattle.searcher_table.specs.Claims.{IsOpener, HasBegun, IsForNone}
use Rattle.searcher_table.specs.declared.registrar.Registrar.{Registrar}
use Rattle.searcher_table.specs.Registrars.{plan_of}
use Rattle.searcher_table.proofs.Quiet.{quiet_trans}
use Rattle.searcher_table.proofs.Registering.{Goes}

module _ {D W U X L : Type 0} (p : Plan W) where
  pub begun_by : (me new : Me (Cell D U) (Known W U X L)) (a b : Task) (fresh : Option Fresh) → IsOpener p me.0 a → HasTurned b fresh me new → HasBegun p me.0 new.0 b
  begun_by me new a b fresh o x =
      let is = ap (λ (m : Me (Cell D U) (Known W U X L)). m.0) x.after in
      let sees : new.0.seen ≡ x.log = ap (λ (k : Known W U X L). k.seen) is in
      record {
        opener = record {
          plan = ap (λ (k : Known W U X L). k.plan) is ∙ o.plan;
          role = ap (λ (k : Known W U X L). k.registrar) is ∙ o.role;
          task = ap (λ (k : Known W U X L). k.task) is;
        };
        seen = subst (λ (l : List (Entry U X L)). HasNoPlaceSince l me.0.seen) (sym sees) (x.covers.places o.role);
        legal = subst (λ (l : List (Entry U X L)). Legal (limits p) l) (sym sees) (x.covers.legal p o.plan);
        back = ap (λ (k : Known W U X L). k.back) is;
        hand = ap (λ (k : Known W U X L). k.hand) is;
      }

  pub for_none : (slot : ℕ) (me new : Me (Cell D U) (Known W U X L)) → me.0.plan ≡ Some p → HasWiped slot me new → IsForNone p new.0 slot
  for_none slot me new told x =
      let z = x.free p told in
      record { below = z.0; none = subst (λ (l : List (Entry U X L)). (state_of (limits p) l).slots slot ≡ None) (sym (ap (λ (m : Me (Cell D U) (Known W U X L)). m.0.seen) x.turned.after)) z.1 }

module _ {W U X L : Type 0} (p : Plan W) where
  pub begun_on : (k m n : Known W U X L) (a b : Task) → HasBegun p k m a → HasBegun p m n b → HasBegun p k n b
  begun_on k m n a b x y = record {
    opener = y.opener;
    seen = quiet_trans k.seen m.seen n.seen x.seen y.seen;
    legal = y.legal;
    back = y.back ∙ x.back;
    hand = y.hand;
  }

-- the registrar's seat while it claims
module _ {D U W X L : Type 0} where
  pub goes_on : (r : Registrar D U W X L) (k : Known W U X L) (a : Task) → HasBegun (plan_of r) r.place.me.0 k a → Goes r k
  goes_on r k a b = record { seen = b.seen; plan = b.opener.plan ∙ sym r.told; role = b.opener.role ∙ sym r.role; back = b.back }
