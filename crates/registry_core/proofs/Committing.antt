-- What a caller has seen after a commit.
use Rattle.std.proofs.Common.{◌≡◌, ℕ, List, [], ◌∷◌, ◌++◌, append_assoc, Some, None, refl, sym, ap, subst, ◌∙◌}
use Rattle.std.specs.Prelude.{Result, Ok, Err, IfOk, IfErr}
use Rattle.atomic_table.specs.Seated.{TableId}
use Rattle.registry_machine.specs.declared.entry.Entry.{Entry}
use Rattle.registry_machine.specs.declared.entry.Entry.TheVariants.{Open, TooMany, GenerationsSpent}
use Rattle.registry_machine.specs.Entries.{caller_of}
use Rattle.registry_machine.specs.Callers.{Prolongs}
use Rattle.view_cells.specs.Seats.{view_of, IsSameSeat}
use Rattle.searcher_table.specs.declared.board.Asked.{Asked}
use Rattle.searcher_table.specs.declared.board.Call.TheVariants.{Open as ToOpen}
use Rattle.searcher_table.specs.declared.pass.Pass.{Pass}
use Rattle.searcher_table.specs.declared.shown.Shown.{Ghosts}
use Rattle.searcher_table.specs.declared.tokens.Announced.{Announced}
use Rattle.searcher_table.specs.declared.tokens.Opening.{Opening}
use Rattle.searcher_table.specs.declared.tokens.OpenRefusal.{OpenRefusal}
use Rattle.searcher_table.specs.declared.tokens.OpenRefusal.TheVariants.{TooMany as AsTooMany, GenerationsSpent as AsSpent}
use Rattle.searcher_table.specs.declared.tokens.Sighting.{Sighting}
use Rattle.searcher_table.specs.Warming.{listed}
use Rattle.searcher_table.specs.Views.{StartsWith}
use Rattle.searcher_table.specs.Passes.{seen_of, announced_of, sighted, IsSamePass, HasAnnounced, IsAnnouncedBy, HasWithdrawn, HasMet}
use Rattle.searcher_table.specs.Registrars.{table_of, plan_of}
use Rattle.registry_core.specs.declared.caller.Caller.{Caller}
use Rattle.registry_core.specs.declared.change.Change.{Change}
use Rattle.registry_core.specs.declared.commit.CommitRefusal.{CommitRefusal}
use Rattle.registry_core.specs.declared.fresh.Fresh.{Fresh}
use Rattle.registry_core.specs.declared.writer.Writer as writer
use Rattle.registry_core.specs.Making.{IsNewDoor}
use Rattle.registry_core.specs.Entering.{HasEntryAt}
use Rattle.registry_core.specs.Opening.{IsExecuted, IsOpened, opening_entry, refusal_entry}
use Rattle.registry_core.specs.Callers.{HasProlonged, HasEntered}
use Rattle.registry_core.specs.Commits.{for_line, answer_of, HasCommitted, IsNotCommitted}
use Rattle.registry_core.proofs.Changing.{same_on, joins_on, meets_one, meets_none}

-- what is announced
abbrev pub to_open : {U : Type 0} → ℕ → Asked (Change U)
to_open line = record { call = ToOpen; content = for_line line }

module _ {D U S X L : Type 0} {shows : Ghosts D S X L} where
  -- an entry of a call is this one, where it equals it
  abbrev turned : {a : Announced D (Change U) S X L shows} {e f : Entry (Change U) X L} {at : ℕ} {us : List U} {log : List (Entry (Change U) X L)} → e ≡ f → HasEntryAt a e at us log → HasEntryAt a f at us log
  turned is h = record { before = h.before; covers = h.covers; updates = h.updates; place = h.place; entry = h.entry ∙ ap (λ e. h.before ++ e ∷ []) is }

  module _ (s p t : Pass D (Change U) S X L) (a : Announced D (Change U) S X L shows) (note : Sighting D (Change U) S X L shows) (asked : Asked (Change U)) (announced : HasAnnounced s p asked) (by : IsAnnouncedBy p asked a) where
    -- the call is its caller's
    pub own_caller : a.caller ≡ s.caller
    own_caller = by.caller ∙ announced.more.pass.caller

    -- it was executed
    module _ (e : Entry (Change U) X L) (at : ℕ) (us : List U) (placed : HasEntryAt a e at us (sighted note)) (own : caller_of e ≡ Some s.caller) (met : HasMet p t note) where
      first : Prolongs p.caller (seen_of p) (seen_of t) (e ∷ []) × (announced_of t ≡ None) × StartsWith (seen_of t) (placed.before ++ e ∷ [])
      first = meets_one p t note placed.before e met (subst (λ l. StartsWith placed.before l) by.seen placed.covers) placed.entry (own ∙ ap (λ n. Some n) (sym announced.more.pass.caller))

      pub none_after : announced_of t ≡ None
      none_after = first.1

      pub more_after : Prolongs s.caller (seen_of s) (seen_of t) (e ∷ [])
      more_after = joins_on s p t announced.more.pass announced.more.prolongs first.0

      pub past_after : StartsWith placed.before (seen_of s)
      past_after =
          let more = announced.more.prolongs in
          let c = placed.covers in
          (more.more ++ c.0, c.1 ∙ ap (λ l. l ++ c.0) (by.seen ∙ more.joined) ∙ append_assoc (seen_of s) more.more c.0)

      pub stands_after : StartsWith (seen_of t) (placed.before ++ e ∷ [])
      stands_after = first.2

    pub same_after : HasMet p t note → IsSamePass s t
    same_after met = same_on announced.more.pass met.looked.more.pass

    -- nothing is announced any more, however it was executed
    pub none_executed : (with : S) (Right : List U → X → Type 0) (table : TableId) (r : Result (Opening D (Change U) S X L × D) OpenRefusal) → IsExecuted with Right table a (sighted note) r → HasMet p t note → announced_of t ≡ None
    none_executed with Right table (Ok o) x met = none_after (opening_entry a o.0.generation x.slot x.shown) o.0.at x.us x.placed (ap (λ n. Some n) own_caller) met
    none_executed with Right table (Err (AsTooMany at gens)) x met = none_after (refusal_entry a (AsTooMany at gens)) at x.0 x.1 (ap (λ n. Some n) own_caller) met
    none_executed with Right table (Err (AsSpent at)) x met = none_after (refusal_entry a (AsSpent at)) at x.0 x.1 (ap (λ n. Some n) own_caller) met

module _ {D U W S X L : Type 0} {shows : Ghosts D S X L} (w : writer.Ghosts W D U S X L) (s t : Caller D U W S X L) (p : Pass D (Change U) S X L) (a : Announced D (Change U) S X L shows) (note : Sighting D (Change U) S X L shows) (line : ℕ) (announced : HasAnnounced s.pass p (to_open line))
    (by : IsAnnouncedBy p (to_open line) a) (seat : IsSameSeat s.lock t.lock) where
  -- the entry stands alone
  abbrev entered : (e : Entry (Change U) X L) (at : ℕ) (us : List U) (placed : HasEntryAt a e at us (sighted note)) → caller_of e ≡ Some s.pass.caller → HasMet p t.pass note → HasEntered s t e at
  entered e at us placed own met = record {
    prolonged = record {
      caller = record { pass = same_after s.pass p t.pass a note (to_open line) announced by met; seat = seat };
      sound = met.looked.more.sound;
      prolongs = more_after s.pass p t.pass a note (to_open line) announced by e at us placed own met;
    };
    before = placed.before;
    past = past_after s.pass p t.pass a note (to_open line) announced by e at us placed own met;
    place = placed.place;
    stands = stands_after s.pass p t.pass a note (to_open line) announced by e at us placed own met;
  }

  asks : a.asked.content ≡ for_line line
  asks = ap (λ q. q.content) by.asked

  caller_is : a.caller ≡ s.pass.caller
  caller_is = own_caller s.pass p t.pass a note (to_open line) announced by

  -- a commit opened a generation
  pub committed : (o : Opening D (Change U) S X L) (own : D) → IsOpened (plan_of (view_of s.lock).registrar.value).setting.value w.shows (table_of (view_of s.lock).registrar.value) a o own (sighted note) → HasMet p t.pass note
      → HasCommitted shows w s t line o.at (record { opening = o; own = own; from = None })
  committed o own x met =
      let is : opening_entry a o.generation x.slot x.shown ≡ Open s.pass.caller (for_line line) o.generation x.slot x.shown = λ i. Open (caller_is i) (asks i) o.generation x.slot x.shown in record {
        slot = x.slot;
        shown = x.shown;
        entered = entered (Open s.pass.caller (for_line line) o.generation x.slot x.shown) o.at x.us (turned is x.placed) refl met;
        right = subst (λ us. w.shows us x.shown) (sym x.placed.updates) x.right;
        own = subst (λ v. IsNewDoor shows v x.shown own) (ap (λ q. q.setting.value) (sym s.at_table.plan)) x.door;
        from = refl;
        place = refl;
        covers = subst (λ l. StartsWith (seen_of t.pass) l) (sym x.seen) met.covers;
        here = x.table_is ∙ sym s.at_table.table ∙ sym (same_after s.pass p t.pass a note (to_open line) announced by met).table;
      }

  -- it was executed
  answers_ok : (r : Result (Opening D (Change U) S X L × D) OpenRefusal) → IsExecuted (plan_of (view_of s.lock).registrar.value).setting.value w.shows (table_of (view_of s.lock).registrar.value) a (sighted note) r → HasMet p t.pass note
      → IfOk (answer_of r) (λ c. HasCommitted shows w s t line c.0 c.1)
  answers_ok (Ok o) x met = committed o.0 o.1 x met
  answers_ok (Err (AsTooMany at gens)) x met = tt
  answers_ok (Err (AsSpent at)) x met = tt

  answers_err : (r : Result (Opening D (Change U) S X L × D) OpenRefusal) → IsExecuted (plan_of (view_of s.lock).registrar.value).setting.value w.shows (table_of (view_of s.lock).registrar.value) a (sighted note) r → HasMet p t.pass note
      → IfErr (answer_of r) (IsNotCommitted s t line)
  answers_err (Ok o) x met = tt
  answers_err (Err (AsTooMany at gens)) x met =
      let is : refusal_entry a (AsTooMany at gens) ≡ TooMany s.pass.caller (for_line line) (listed gens) = λ i. TooMany (caller_is i) (asks i) (listed gens) in
      entered (TooMany s.pass.caller (for_line line) (listed gens)) at x.0 (turned is x.1) refl met
  answers_err (Err (AsSpent at)) x met =
      let is : refusal_entry a (AsSpent at) ≡ GenerationsSpent s.pass.caller (for_line line) = λ i. GenerationsSpent (caller_is i) (asks i) in
      entered (GenerationsSpent s.pass.caller (for_line line)) at x.0 (turned is x.1) refl met

  module _ (r : Result (Opening D (Change U) S X L × D) OpenRefusal) (x : IsExecuted (plan_of (view_of s.lock).registrar.value).setting.value w.shows (table_of (view_of s.lock).registrar.value) a (sighted note) r) (met : HasMet p t.pass note) (answer : Result (ℕ × Fresh D U S X L) CommitRefusal)
      (is : answer ≡ answer_of r) where
    pub answered_ok : IfOk answer (λ c. HasCommitted shows w s t line c.0 c.1)
    answered_ok = subst (λ q. IfOk q (λ c. HasCommitted shows w s t line c.0 c.1)) (sym is) (answers_ok r x met)

    pub answered_err : IfErr answer (IsNotCommitted s t line)
    answered_err = subst (λ q. IfErr q (IsNotCommitted s t line)) (sym is) (answers_err r x met)

  -- it was not
  pub uncommitted : (q : Pass D (Change U) S X L) → HasWithdrawn p q → HasMet q t.pass note → HasProlonged s t []
  uncommitted q back met =
      let quiet = meets_none q t.pass note back.announced met in
      record {
        caller = record { pass = same_on (same_on announced.more.pass back.more.pass) met.looked.more.pass; seat = seat };
        sound = met.looked.more.sound;
        prolongs = joins_on s.pass q t.pass (same_on announced.more.pass back.more.pass) (joins_on s.pass p q announced.more.pass announced.more.prolongs back.more.prolongs) quiet.0;
      }
