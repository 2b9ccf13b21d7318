-- What a history tells in the journal, as it goes on.
use Rattle.std.proofs.Common.{◌≡◌, ℕ, ◌+◌, List, [], ◌∷◌, ◌++◌, length, true, false, cond, count_by, Option, Some, None, append-nil, refl, ap, ◌∙◌, arith}
use Rattle.std.specs.List.{AllByRecursion, cons_option}
use Rattle.std.proofs.lemmas.List.Elements.{filter_map-append}
use Rattle.registry_machine.specs.declared.entry.Entry.{Entry}
use Rattle.registry_machine.specs.declared.entry.Entry.TheVariants.{Open, TooMany, GenerationsSpent, Update, Finish, Superseded, Acquire, NotYet, Release, Free}
use Rattle.registry_machine.specs.Entries.{has_place}
use Rattle.registry_machine.proofs.Lists.{true_and_false}
use Rattle.searcher_table.specs.Views.{HasNoPlaceSince}
use Rattle.searcher_table.proofs.Places.{count_first}
use Rattle.registry_core.specs.declared.change.Change.{Change}
use Rattle.registry_core.specs.declared.journal.Placed.{Placed}
use Rattle.registry_core.specs.Journal.{placed_of, journal_of, update_of, updates_of, with_update}

with_option : {U : Type 0} (us : List U) (o : Option U) → us ++ cons_option o [] ≡ with_update us o
with_option us None = append-nil us
with_option us (Some u) = refl

module _ {U X L : Type 0} where
  -- entries without a place tell nothing, and are no updates
  quiet_journal : (es : List (Entry (Change U) X L)) → AllByRecursion (λ e. has_place e ≡ false) es → journal_of es ≡ []
  quiet_journal [] q = refl
  quiet_journal (Acquire c g k ∷ es) q = quiet_journal es q.1
  quiet_journal (NotYet c ∷ es) q = quiet_journal es q.1
  quiet_journal (Release c g l ∷ es) q = quiet_journal es q.1
  quiet_journal (Free g ∷ es) q = quiet_journal es q.1
  quiet_journal (Open c u g slot d ∷ es) q = absurd (true_and_false true refl q.0)
  quiet_journal (TooMany c u gs ∷ es) q = absurd (true_and_false true refl q.0)
  quiet_journal (GenerationsSpent c u ∷ es) q = absurd (true_and_false true refl q.0)
  quiet_journal (Update c u ∷ es) q = absurd (true_and_false true refl q.0)
  quiet_journal (Finish g l ∷ es) q = absurd (true_and_false true refl q.0)
  quiet_journal (Superseded g by l ∷ es) q = absurd (true_and_false true refl q.0)

  quiet_updates : (es : List (Entry (Change U) X L)) → AllByRecursion (λ e. has_place e ≡ false) es → updates_of es ≡ []
  quiet_updates [] q = refl
  quiet_updates (Acquire c g k ∷ es) q = quiet_updates es q.1
  quiet_updates (NotYet c ∷ es) q = quiet_updates es q.1
  quiet_updates (Release c g l ∷ es) q = quiet_updates es q.1
  quiet_updates (Free g ∷ es) q = quiet_updates es q.1
  quiet_updates (Open c u g slot d ∷ es) q = absurd (true_and_false true refl q.0)
  quiet_updates (TooMany c u gs ∷ es) q = absurd (true_and_false true refl q.0)
  quiet_updates (GenerationsSpent c u ∷ es) q = absurd (true_and_false true refl q.0)
  quiet_updates (Update c u ∷ es) q = absurd (true_and_false true refl q.0)
  quiet_updates (Finish g l ∷ es) q = absurd (true_and_false true refl q.0)
  quiet_updates (Superseded g by l ∷ es) q = absurd (true_and_false true refl q.0)

  pub journal_since : (log seen : List (Entry (Change U) X L)) → HasNoPlaceSince log seen → journal_of log ≡ journal_of seen
  journal_since log seen h =
      ap journal_of h.grown ∙ filter_map-append placed_of seen h.rest ∙ ap (λ l. journal_of seen ++ l) (quiet_journal h.rest h.quiet) ∙ append-nil (journal_of seen)

  pub updates_since : (log seen : List (Entry (Change U) X L)) → HasNoPlaceSince log seen → updates_of log ≡ updates_of seen
  updates_since log seen h =
      ap updates_of h.grown ∙ filter_map-append update_of seen h.rest ∙ ap (λ l. updates_of seen ++ l) (quiet_updates h.rest h.quiet) ∙ append-nil (updates_of seen)

  -- one entry more
  pub journal_next : (log : List (Entry (Change U) X L)) (e : Entry (Change U) X L) (p : Placed U (List ℕ)) → placed_of e ≡ Some p → journal_of (log ++ e ∷ []) ≡ journal_of log ++ p ∷ []
  journal_next log e p is = filter_map-append placed_of log (e ∷ []) ∙ ap (λ o. journal_of log ++ cons_option o []) is

  pub updates_next : (log : List (Entry (Change U) X L)) (e : Entry (Change U) X L) → updates_of (log ++ e ∷ []) ≡ with_update (updates_of log) (update_of e)
  updates_next log e = filter_map-append update_of log (e ∷ []) ∙ with_option (updates_of log) (update_of e)

  -- the journal has an entry for each place
  told_once : (e : Entry (Change U) X L) (js : List (Placed U (List ℕ))) → length (cons_option (placed_of e) js) ≡ cond (has_place e) 1 0 + length js
  told_once (Acquire c g k) js = omega arith
  told_once (NotYet c) js = omega arith
  told_once (Release c g l) js = omega arith
  told_once (Free g) js = omega arith
  told_once (Open c u g slot d) js = omega arith
  told_once (TooMany c u gs) js = omega arith
  told_once (GenerationsSpent c u) js = omega arith
  told_once (Update c u) js = omega arith
  told_once (Finish g l) js = omega arith
  told_once (Superseded g by l) js = omega arith

  pub places_told : (log : List (Entry (Change U) X L)) → length (journal_of log) ≡ count_by has_place log
  places_told [] = refl
  places_told (e ∷ es) =
      let one = told_once e (journal_of es) in
      let rest = places_told es in
      let f = count_first has_place e es in
      omega arith
