-- What a row tells of the entry that it tells.
use Rattle.std.proofs.Common.{◌≡◌, ℕ, Bool, true, false, cond, Option, Some, None, IsSome, refl, sym, subst, inl, inr, arith}
use Rattle.std.specs.Option.{option_and_then, option_map}
use Rattle.script_form.specs.declared.config.Config.{Config}
use Rattle.registry_machine.specs.declared.entry.Entry.{Entry}
use Rattle.registry_machine.specs.Entries.{caller_of, has_place, opens, ends, acquires}
use Rattle.run_laws.specs.Rows.{Verb, query}
use Rattle.run_laws.specs.Calls.{Told}
use Rattle.run_laws.specs.Bounds.{is_commit, is_query, opened_by}
use Rattle.run_laws.specs.Places.{change_of}
use Rattle.run_laws.specs.Acquires.{pin_of}
use Rattle.run_laws.specs.Lawful.{IsIdle}
use Rattle.run_history.specs.Tellings.{Reading, TellsUpdate, TellsOpening, TellsTooMany, TellsAcquire, Tells}
use Rattle.run_history.specs.Agreement.{change_told}
use Rattle.run_history.proofs.Wants.{answer_by_query, searcher_by_commit, changed_by, opening_changes_nothing}

-- all that matters of a row that tells an entry with place p
pub record Tellings {U D L : Type 0} (r : Reading U D) (c : Config) (t : Told) (p : ℕ) (e : Entry U D L) : Type 0 where
  pub place : has_place e ≡ true → t.row.place ≡ Some p
  pub no_place : has_place e ≡ false → t.row.place ≡ None
  pub named : IsSome (caller_of e)
  pub no_end : ends e ≡ None
  pub pin : pin_of t ≡ acquires e
  pub opened : opened_by t ≡ opens e
  pub changed : has_place e ≡ true → change_of c t ≡ change_told r e

abbrev pin_as : Bool → Option ℕ → Option ℕ → Option (ℕ × ℕ)
pin_as b g k = cond b (option_and_then {U = ℕ × ℕ} (λ x. option_map {U = ℕ × ℕ} (λ y. (x, y)) k) g) None

abbrev open_as : Bool → Option ℕ → Option ℕ
open_as b g = cond b g None

no_pin_either : (b : Bool) (k : Option ℕ) → pin_as b None k ≡ None
no_pin_either true k = refl
no_pin_either false k = refl

no_ticket_either : (b : Bool) (g : Option ℕ) → pin_as b g None ≡ None
no_ticket_either true None = refl
no_ticket_either true (Some x) = refl
no_ticket_either false g = refl

no_pin : (v : Verb) (g k : Option ℕ) → g ≡ None → pin_as (is_query v) g k ≡ None
no_pin v g k e = subst (λ o. pin_as (is_query v) o k ≡ None) (sym e) (no_pin_either (is_query v) k)

no_pin_without_ticket : (v : Verb) (g k : Option ℕ) → k ≡ None → pin_as (is_query v) g k ≡ None
no_pin_without_ticket v g k e = subst (λ o. pin_as (is_query v) g o ≡ None) (sym e) (no_ticket_either (is_query v) g)

no_opening_either : (b : Bool) → open_as b None ≡ None
no_opening_either true = refl
no_opening_either false = refl

no_opening : (v : Verb) (g : Option ℕ) → g ≡ None → open_as (is_commit v) g ≡ None
no_opening v g e = subst (λ o. open_as (is_commit v) o ≡ None) (sym e) (no_opening_either (is_commit v))

pinned_as : (v : Verb) (g k : Option ℕ) (x y : ℕ) → v ≡ query → g ≡ Some x → k ≡ Some y → pin_as (is_query v) g k ≡ Some (x, y)
pinned_as v g k x y a b d = subst (λ w. pin_as (is_query w) g k ≡ Some (x, y)) (sym a) (subst (λ o. pin_as true o k ≡ Some (x, y)) (sym b) (subst (λ o. pin_as true (Some x) o ≡ Some (x, y)) (sym d) refl))

module _ {U D L : Type 0} (r : Reading U D) (c : Config) (t : Told) (p : ℕ) where
  update_tells : (e : Entry U D L) → TellsUpdate r c t p e → Tellings r c t p e
  update_tells e k = subst (Tellings r c t p) (sym k.entry) (record {
    place = λ x. k.numbers.place;
    no_place = λ x. absurd (grind arith);
    named = refl;
    no_end = refl;
    pin = no_pin t.call.verb t.row.generation t.row.ticket k.numbers.generation;
    opened = no_opening t.call.verb t.row.generation k.numbers.generation;
    changed = λ x. changed_by c t (r.change k.content) k.wanted;
  })

  opening_tells : (e : Entry U D L) → TellsOpening r c t p e → Tellings r c t p e
  opening_tells e k = subst (Tellings r c t p) (sym k.entry) (record {
    place = λ x. k.numbers.place;
    no_place = λ x. absurd (grind arith);
    named = refl;
    no_end = refl;
    pin = no_pin_without_ticket t.call.verb t.row.generation t.row.ticket k.numbers.ticket;
    opened = subst (λ v. cond (is_commit v) t.row.generation None ≡ Some k.generation) (sym (searcher_by_commit t.call.verb c t.call k.wanted)) k.numbers.generation;
    changed = λ x. opening_changes_nothing c t k.wanted;
  })

  too_many_tells : (e : Entry U D L) → TellsTooMany r c t p e → Tellings r c t p e
  too_many_tells e k = subst (Tellings r c t p) (sym k.entry) (record {
    place = λ x. k.numbers.place;
    no_place = λ x. absurd (grind arith);
    named = refl;
    no_end = refl;
    pin = no_pin t.call.verb t.row.generation t.row.ticket k.numbers.generation;
    opened = no_opening t.call.verb t.row.generation k.numbers.generation;
    changed = λ x. opening_changes_nothing c t k.wanted;
  })

  acquire_tells : (e : Entry U D L) → TellsAcquire c t e → Tellings r c t p e
  acquire_tells e k = subst (Tellings r c t p) (sym k.entry) (record {
    place = λ x. absurd (grind arith);
    no_place = λ x. k.numbers.place;
    named = refl;
    no_end = refl;
    pin = pinned_as t.call.verb t.row.generation t.row.ticket k.generation k.ticket (answer_by_query t.call.verb c t.call k.asked k.wanted) k.numbers.generation k.numbers.ticket;
    opened = unopened t.call.verb (answer_by_query t.call.verb c t.call k.asked k.wanted);
    changed = λ x. absurd (grind arith);
  })
    where
      unopened : (v : Verb) → v ≡ query → cond (is_commit v) t.row.generation None ≡ None
      unopened v a = subst (λ w. cond (is_commit w) t.row.generation None ≡ None) (sym a) refl

  pub tellings : (e : Entry U D L) → Tells r c t p e → Tellings r c t p e
  tellings e (inl k) = update_tells e k
  tellings e (inr (inl k)) = opening_tells e k
  tellings e (inr (inr (inl k))) = too_many_tells e k
  tellings e (inr (inr (inr k))) = acquire_tells e k

-- an idle row has no place, pin or generation
pub idle_pin : (t : Told) → IsIdle t.row → pin_of t ≡ None
idle_pin t k = no_pin t.call.verb t.row.generation t.row.ticket k.generation

pub idle_opened : (t : Told) → IsIdle t.row → opened_by t ≡ None
idle_opened t k = no_opening t.call.verb t.row.generation k.generation
