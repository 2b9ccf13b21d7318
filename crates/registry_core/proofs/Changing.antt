-- What a caller has seen after its calls.
use Rattle.std.proofs.Common.{◌≡◌, ℕ, ◌<◌, List, [], ◌∷◌, ◌++◌, length, append_assoc, Some, None, sym, ap, subst, ◌∙◌}
use Rattle.std.specs.Prelude.{IsSome, Option, Result, Err, IfErr}
use Rattle.registry_machine.specs.declared.entry.Entry.{Entry}
use Rattle.registry_machine.specs.declared.entry.Entry.TheVariants.{Update}
use Rattle.registry_machine.specs.Entries.{caller_of}
use Rattle.registry_machine.specs.Callers.{mine, Prolongs}
use Rattle.view_cells.specs.declared.seat.Seat.{Seat}
use Rattle.view_cells.specs.Seats.{view_of, IsSameSeat}
use Rattle.searcher_table.specs.declared.board.Asked.{Asked}
use Rattle.searcher_table.specs.declared.board.Call.TheVariants.{Update as ToUpdate}
use Rattle.searcher_table.specs.declared.pass.Pass.{Pass}
use Rattle.searcher_table.specs.declared.shown.Shown.{Ghosts}
use Rattle.searcher_table.specs.declared.tokens.Announced.{Announced}
use Rattle.searcher_table.specs.declared.tokens.Sighting.{Sighting}
use Rattle.searcher_table.specs.Views.{StartsWith, GoesOn}
use Rattle.searcher_table.specs.Passes.{seen_of, mine_of, announced_of, sighted, IsSamePass, HasAnnounced, IsAnnouncedBy, HasWithdrawn, HasMet}
use Rattle.searcher_table.specs.Registrars.{table_of, plan_of}
use Rattle.registry_core.specs.declared.caller.Caller.{Caller}
use Rattle.registry_core.specs.declared.caller.UpdateRefusal.{UpdateRefusal}
use Rattle.registry_core.specs.declared.caller.UpdateRefusal.TheVariants.{Full, NoMemory}
use Rattle.registry_core.specs.declared.change.Change.{Change}
use Rattle.registry_core.specs.declared.locked.Terms.{Terms}
use Rattle.registry_core.specs.Keeping.{IsTableOf}
use Rattle.registry_core.specs.Entering.{IsAccepted, IsCause}
use Rattle.registry_core.specs.Journal.{updates_of}
use Rattle.registry_core.specs.Callers.{most_of, HasProlonged, HasChanged, IsNotChanged}
use Rattle.registry_core.proofs.Own.{prolongs_on, still, none_own, executed_alone}

module _ {D V S X L : Type 0} where
  -- one pass through two calls
  pub same_on : {s t u : Pass D V S X L} → IsSamePass s t → IsSamePass t u → IsSamePass s u
  same_on a b = record { table = b.table ∙ a.table; plan = b.plan ∙ a.plan; caller = b.caller ∙ a.caller }

  -- its own entries are those that it has seen
  goes_seen : (s t : Pass D V S X L) → IsSamePass s t → GoesOn s.caller (mine_of s) (announced_of s) (mine_of t) (announced_of t)
      → GoesOn s.caller (mine s.caller (seen_of s)) (announced_of s) (mine s.caller (seen_of t)) (announced_of t)
  goes_seen s t same g = subst (λ m. GoesOn s.caller m (announced_of s) (mine s.caller (seen_of t)) (announced_of t)) s.own
      (subst (λ m. GoesOn s.caller (mine_of s) (announced_of s) m (announced_of t)) (t.own ∙ ap (λ c. mine c (seen_of t)) same.caller) g)

  -- what two calls prolong
  pub joins_on : (s t u : Pass D V S X L) {own more : List (Entry V X L)} → IsSamePass s t → Prolongs s.caller (seen_of s) (seen_of t) own → Prolongs t.caller (seen_of t) (seen_of u) more → Prolongs s.caller (seen_of s) (seen_of u) (own ++ more)
  joins_on s t u {own} {more} same a b = prolongs_on a (subst (λ c. Prolongs c (seen_of t) (seen_of u) more) same.caller b)

  module _ {shows : Ghosts D S X L} where
    -- where nothing is announced, a look sees no entry more of the caller's
    pub meets_none : (s t : Pass D V S X L) (note : Sighting D V S X L shows) → announced_of s ≡ None → HasMet s t note → Prolongs s.caller (seen_of s) (seen_of t) [] × (announced_of t ≡ None)
    meets_none s t note none met =
        let more = met.looked.more in
        let k = still (announced_of s) none (goes_seen s t more.pass met.looked.calls) in
        (subst (λ own. Prolongs s.caller (seen_of s) (seen_of t) own) (none_own more.prolongs k.0) more.prolongs, k.1)

    -- a call that was executed is all that its caller has more
    pub meets_one : (s t : Pass D V S X L) (note : Sighting D V S X L shows) (before : List (Entry V X L)) (e : Entry V X L) → HasMet s t note → StartsWith before (seen_of s) → sighted note ≡ before ++ e ∷ [] → caller_of e ≡ Some s.caller
        → Prolongs s.caller (seen_of s) (seen_of t) (e ∷ []) × (announced_of t ≡ None) × StartsWith (seen_of t) (before ++ e ∷ [])
    meets_one s t note before e met past is own =
        let more = met.looked.more in
        let stands : StartsWith (seen_of t) (before ++ e ∷ []) = subst (λ l. StartsWith (seen_of t) l) is met.covers in
        let k = executed_alone before e more.prolongs (goes_seen s t more.pass met.looked.calls) past stands own in
        (subst (λ l. Prolongs s.caller (seen_of s) (seen_of t) l) k.0 more.prolongs, k.1, stands)

module _ {D U S X L : Type 0} where
  -- the pass is at the table that its seat names
  pub table_on : {T E : Type 0} (s t : Seat T (Terms D U S X L) E) (p q : Pass D (Change U) S X L) → IsTableOf (view_of s) p → IsSameSeat s t → IsSamePass p q → IsTableOf (view_of t) q
  table_on s t p q at seat same = record {
    table = same.table ∙ at.table ∙ ap (λ v. table_of v.registrar.value) (sym seat.view);
    plan = same.plan ∙ at.plan ∙ ap (λ v. plan_of v.registrar.value) (sym seat.view);
  }

-- the cause of a refusal
pub cause_in : {U X L A B : Type 0} (most : ℕ) (log : List (Entry (Change U) X L)) (update : Option U) {r : Result B (UpdateRefusal × A)} {why : UpdateRefusal} {call : A} → r ≡ Err (why, call) → IfErr r (λ x. IsCause most log update x.0)
    → IsCause most log update why
cause_in {U} {X} {L} {A} {B} most log update is cause = subst (λ (r : Result B (UpdateRefusal × A)). IfErr r (λ x. IsCause most log update x.0)) is cause

-- what is announced
abbrev pub to_update : {U : Type 0} → Change U → Asked (Change U)
to_update change = record { call = ToUpdate; content = change }

module _ {D U S X L : Type 0} {shows : Ghosts D S X L} (s p t : Pass D (Change U) S X L) (a : Announced D (Change U) S X L shows) (note : Sighting D (Change U) S X L shows) (change : Change U) (most : ℕ)
    (announced : HasAnnounced s p (to_update change)) (by : IsAnnouncedBy p (to_update change) a) where
  -- it was accepted
  module _ (at : ℕ) (accepted : IsAccepted a at most (sighted note)) (met : HasMet p t note) where
    abbrev entry : Entry (Change U) X L
    entry = Update s.caller change

    entry_is : Update a.caller a.asked.content ≡ entry
    entry_is i = Update ((by.caller ∙ announced.more.pass.caller) i) (ap (λ q. q.content) by.asked i)

    first : Prolongs p.caller (seen_of p) (seen_of t) (entry ∷ []) × (announced_of t ≡ None) × StartsWith (seen_of t) (accepted.placed.before ++ entry ∷ [])
    first = meets_one p t note accepted.placed.before entry met (subst (λ l. StartsWith accepted.placed.before l) by.seen accepted.placed.covers)
        (accepted.placed.entry ∙ ap (λ e. accepted.placed.before ++ e ∷ []) entry_is) (ap (λ n. Some n) (sym announced.more.pass.caller))

    pub same_changed : IsSamePass s t
    same_changed = same_on announced.more.pass met.looked.more.pass

    pub none_changed : announced_of t ≡ None
    none_changed = first.1

    pub more_changed : Prolongs s.caller (seen_of s) (seen_of t) (Update s.caller change ∷ [])
    more_changed = joins_on s p t announced.more.pass announced.more.prolongs first.0

    pub past_changed : StartsWith accepted.placed.before (seen_of s)
    past_changed =
        let more = announced.more.prolongs in
        let c = accepted.placed.covers in
        (more.more ++ c.0, c.1 ∙ ap (λ l. l ++ c.0) (by.seen ∙ more.joined) ∙ append_assoc (seen_of s) more.more c.0)

    pub stands_changed : StartsWith (seen_of t) (accepted.placed.before ++ Update s.caller change ∷ [])
    stands_changed = first.2

    pub few_changed : IsSome change.update → length (updates_of accepted.placed.before) < most
    few_changed some =
        let r = accepted.room (subst (λ (v : Change U). IsSome v.update) (sym (ap (λ q. q.content) by.asked)) some) in
        subst (λ us. length us < most) (sym accepted.placed.updates) r

  -- it was refused
  module _ (q : Pass D (Change U) S X L) (back : HasWithdrawn p q) (met : HasMet q t note) where
    quiet : Prolongs q.caller (seen_of q) (seen_of t) [] × (announced_of t ≡ None)
    quiet = meets_none q t note back.announced met

    pub same_refused : IsSamePass s t
    same_refused = same_on (same_on announced.more.pass back.more.pass) met.looked.more.pass

    pub none_refused : announced_of t ≡ None
    none_refused = quiet.1

    pub more_refused : Prolongs s.caller (seen_of s) (seen_of t) []
    more_refused = joins_on s q t (same_on announced.more.pass back.more.pass) (joins_on s p q announced.more.pass announced.more.prolongs back.more.prolongs) quiet.0

module _ {D U W S X L : Type 0} {shows : Ghosts D S X L} (s t : Caller D U W S X L) (p : Pass D (Change U) S X L) (a : Announced D (Change U) S X L shows) (note : Sighting D (Change U) S X L shows) (change : Change U)
    (announced : HasAnnounced s.pass p (to_update change)) (by : IsAnnouncedBy p (to_update change) a) (seat : IsSameSeat s.lock t.lock) where
  pub changed : (at : ℕ) → IsAccepted a at (most_of s) (sighted note) → HasMet p t.pass note → HasChanged s t change at
  changed at accepted met = record {
    entered = record {
      prolonged = record {
        caller = record { pass = same_changed s.pass p t.pass a note change (most_of s) announced by at accepted met; seat = seat };
        sound = met.looked.more.sound;
        prolongs = more_changed s.pass p t.pass a note change (most_of s) announced by at accepted met;
      };
      before = accepted.placed.before;
      past = past_changed s.pass p t.pass a note change (most_of s) announced by at accepted met;
      place = accepted.placed.place;
      stands = stands_changed s.pass p t.pass a note change (most_of s) announced by at accepted met;
    };
    room = few_changed s.pass p t.pass a note change (most_of s) announced by at accepted met;
  }

  pub refused : (q : Pass D (Change U) S X L) → HasWithdrawn p q → HasMet q t.pass note → (why : UpdateRefusal) → IsCause (most_of s) (sighted note) change.update why → IsNotChanged s t change.update why
  refused q back met = by_cause
    where
      prolonged : HasProlonged s t []
      prolonged = record {
        caller = record { pass = same_refused s.pass p t.pass a note change (most_of s) announced by q back met; seat = seat };
        sound = met.looked.more.sound;
        prolongs = more_refused s.pass p t.pass a note change (most_of s) announced by q back met;
      }

      by_cause : (why : UpdateRefusal) → IsCause (most_of s) (sighted note) change.update why → IsNotChanged s t change.update why
      by_cause (Full updates) cause = (record { prolonged = prolonged; told = cause.0; before = sighted note; stands = met.covers; accepted = cause.1 ∙ sym cause.0 }, cause.2)
      by_cause NoMemory cause = prolonged
