-- The warmings that ended, as a history goes on.
use Rattle.std.proofs.Common.{◌≡◌, ℕ, ◌+◌, ◌≤◌, List, [], ◌∷◌, ◌++◌, length, Bool, true, false, cond, not, filter, filter_map, Some, None, append-nil, refl, sym, ap, subst, ◌∙◌, arith}
use Rattle.std.specs.Prelude.{vec_capacity, ◌==◌, ◌||◌}
use Rattle.std.specs.List.{AllByRecursion, cons_option}
use Rattle.std.proofs.lemmas.List.{map-append}
use Rattle.std.proofs.lemmas.List.Elements.{filter_map-append}
use Rattle.registry_machine.specs.declared.entry.Entry.{Entry}
use Rattle.registry_machine.specs.declared.entry.Entry.TheVariants.{Open, TooMany, GenerationsSpent, Update, Finish, Superseded, Acquire, NotYet, Release, Free}
use Rattle.registry_machine.specs.Entries.{has_place, ends}
use Rattle.registry_machine.specs.Machine.{is_in, start}
use Rattle.registry_machine.specs.Legal.{Legal, IsAllowed, state_of}
use Rattle.registry_machine.proofs.Lists.{true_and_false}
use Rattle.registry_machine.proofs.Runs.{split}
use Rattle.searcher_table.specs.declared.registrar.Registrar.{Registrar}
use Rattle.searcher_table.specs.Words.{limits}
use Rattle.searcher_table.specs.Views.{HasNoPlaceSince}
use Rattle.searcher_table.specs.Registrars.{plan_of, seen_of}
use Rattle.searcher_table.specs.Openings.{warming_of}
use Rattle.searcher_table.proofs.Quiet.{quiet_since}
use Rattle.registry_core.specs.declared.change.Change.{Change}
use Rattle.registry_core.specs.declared.ended.Ended.{Ended}
use Rattle.registry_core.specs.declared.locked.Locked.{Locked}
use Rattle.registry_core.specs.Finishes.{generations}
use Rattle.registry_core.specs.Keeping.{HasEnds}
use Rattle.registry_core.proofs.Next.{HasNext}

module _ {U X L : Type 0} where
  quiet_ends : (es : List (Entry U X L)) → AllByRecursion (λ e. has_place e ≡ false) es → filter_map ends es ≡ []
  quiet_ends [] q = refl
  quiet_ends (Acquire c g k ∷ es) q = quiet_ends es q.1
  quiet_ends (NotYet c ∷ es) q = quiet_ends es q.1
  quiet_ends (Release c g l ∷ es) q = quiet_ends es q.1
  quiet_ends (Free g ∷ es) q = quiet_ends es q.1
  quiet_ends (Open c u g slot d ∷ es) q = absurd (true_and_false true refl q.0)
  quiet_ends (TooMany c u gs ∷ es) q = absurd (true_and_false true refl q.0)
  quiet_ends (GenerationsSpent c u ∷ es) q = absurd (true_and_false true refl q.0)
  quiet_ends (Update c u ∷ es) q = absurd (true_and_false true refl q.0)
  quiet_ends (Finish g l ∷ es) q = absurd (true_and_false true refl q.0)
  quiet_ends (Superseded g by l ∷ es) q = absurd (true_and_false true refl q.0)

  pub ends_since : (log seen : List (Entry U X L)) → HasNoPlaceSince log seen → filter_map ends log ≡ filter_map ends seen
  ends_since log seen h = ap (filter_map ends) h.grown ∙ filter_map-append ends seen h.rest ∙ ap (λ l. filter_map ends seen ++ l) (quiet_ends h.rest h.quiet) ∙ append-nil (filter_map ends seen)

module _ {D U S X L : Type 0} (r s : Registrar D (Change U) S X L) (e : Entry (Change U) X L) (h : HasNext r s e) where
  pub ends_next : filter_map ends (seen_of s) ≡ filter_map ends (seen_of r) ++ cons_option (ends e) []
  ends_next = ends_since (seen_of s) (h.before ++ e ∷ []) h.after ∙ filter_map-append ends h.before (e ∷ []) ∙ ap (λ l. l ++ cons_option (ends e) []) (ends_since h.before (seen_of r) h.since)

  -- it was allowed behind what came before
  pub allowed_next : IsAllowed (limits (plan_of r)) (state_of (limits (plan_of r)) h.before) e
  allowed_next =
      let l = limits (plan_of r) in
      let legal : Legal l ((h.before ++ e ∷ []) ++ h.after.rest) = subst (Legal l) h.after.grown (subst (λ p. Legal (limits p) (seen_of s)) h.registrar.plan h.legal) in
      (split l (start l) h.before (e ∷ []) (split l (start l) (h.before ++ e ∷ []) h.after.rest legal).0).1.0

  same_warming : (state_of (limits (plan_of r)) h.before).warming ≡ warming_of r
  same_warming = (quiet_since (limits (plan_of r)) h.before (seen_of r) h.since).warming

  -- what was warming before it was so in what the registrar had seen
  pub warming_before : (g : ℕ) → is_in g (state_of (limits (plan_of r)) h.before).warming ≡ true → is_in g (warming_of r) ≡ true
  warming_before g is = ap (is_in g) (sym same_warming) ∙ is

-- at least one is gone
pub one_gone : (g : ℕ) (xs : List ℕ) → is_in g xs ≡ true → length (filter (λ x. not (x == g)) xs) + 1 ≤ length xs
one_gone g [] is = absurd (true_and_false false is refl)
one_gone g (x ∷ xs) is = by_test (one_gone g xs) (x == g) refl is
  where
    rest : List ℕ
    rest = filter (λ y. not (y == g)) xs

    fewer : (ys : List ℕ) → length (filter (λ y. not (y == g)) ys) ≤ length ys
    fewer [] = omega arith
    fewer (y ∷ ys) = by (y == g) (fewer ys)
      where
        by : (b : Bool) → length (filter (λ z. not (z == g)) ys) ≤ length ys → length (cond (not b) (y ∷ filter (λ z. not (z == g)) ys) (filter (λ z. not (z == g)) ys)) ≤ length (y ∷ ys)
        by true le = omega arith
        by false le = omega arith

    by_test : (is_in g xs ≡ true → length rest + 1 ≤ length xs) → (b : Bool) → (x == g) ≡ b → (b || is_in g xs) ≡ true → length (cond (not (x == g)) (x ∷ rest) rest) + 1 ≤ length (x ∷ xs)
    by_test one true e is =
        let n = fewer xs in
        let c : length (cond (not (x == g)) (x ∷ rest) rest) ≡ length rest = ap (λ b. length (cond (not b) (x ∷ rest) rest)) e in
        omega arith
    by_test one false e is =
        let r = one is in
        let c : length (cond (not (x == g)) (x ∷ rest) rest) ≡ length (x ∷ rest) = ap (λ b. length (cond (not b) (x ∷ rest) rest)) e in
        omega arith

module _ {D U W S X L : Type 0} (l m : Locked D U W S X L) (e : Entry (Change U) X L) (k : HasEnds l) (h : HasNext l.registrar m.registrar e) (space : length m.finishes.items + m.warming ≤ vec_capacity m.finishes) where
  -- no warming has ended
  pub ends_stay : ends e ≡ None → m.finishes.items ≡ l.finishes.items → HasEnds m
  ends_stay none items = record {
    are = ap generations items ∙ k.are ∙ sym (ends_next l.registrar m.registrar e h ∙ ap (λ o. filter_map ends (seen_of l.registrar) ++ cons_option o []) none ∙ append-nil (filter_map ends (seen_of l.registrar)));
    space = space;
  }

  -- this one has
  pub ends_more : (x : Ended) → ends e ≡ Some x.finish.generation → m.finishes.items ≡ l.finishes.items ++ x ∷ [] → HasEnds m
  ends_more x one items = record {
    are = ap generations items ∙ map-append (λ y. y.finish.generation) l.finishes.items (x ∷ []) ∙ ap (λ g. g ++ x.finish.generation ∷ []) k.are ∙ sym (ends_next l.registrar m.registrar e h ∙ ap (λ o. filter_map ends (seen_of l.registrar) ++ cons_option o []) one);
    space = space;
  }
