-- A caller that announces a call, has it executed and meets what has seen it has just this entry more.
use Rattle.std.proofs.Common.{true, ◌≡◌, ℕ, ◌+◌, List, [], ◌∷◌, ◌++◌, length, length-append, append-nil, append_assoc, count_by, refl, sym, ap, ◌∙◌, subst, ⊎_elim, arith, Option, Some, None}
use Rattle.std.proofs.lemmas.List.{append_cancel_left}
use Rattle.registry_machine.specs.declared.entry.Entry.{Entry}
use Rattle.registry_machine.specs.declared.entry.Entry.TheVariants.{Open, TooMany, GenerationsSpent, Update, Acquire, Release}
use Rattle.registry_machine.specs.Entries.{caller_of, has_place}
use Rattle.registry_machine.specs.Callers.{mine}
use Rattle.searcher_table.specs.declared.board.Call.TheVariants.{Open as ToOpen, Update as ToUpdate}
use Rattle.searcher_table.specs.declared.shown.Shown.{Ghosts}
use Rattle.searcher_table.specs.declared.pass.Pass.{Pass}
use Rattle.searcher_table.specs.declared.registrar.Registrar.{Registrar}
use Rattle.searcher_table.specs.declared.tokens.Announced.{Announced}
use Rattle.searcher_table.specs.declared.tokens.Sighting.{Sighting}
use Rattle.searcher_table.specs.declared.tokens.Opening.{Opening}
use Rattle.searcher_table.specs.declared.tokens.OpenRefusal.{OpenRefusal}
use Rattle.searcher_table.specs.declared.tokens.OpenRefusal.TheVariants.{TooMany as AsTooMany, GenerationsSpent as AsSpent}
use Rattle.searcher_table.specs.Warming.{listed}
use Rattle.searcher_table.specs.Openings.{HasOpened, IsRefused}
use Rattle.std.proofs.lemmas.Option.{none-some}
use Rattle.searcher_table.specs.declared.board.Asked.{Asked}
use Rattle.searcher_table.specs.declared.pin.Pin.{Pin}
use Rattle.searcher_table.specs.Pins.{HasAcquired, HasReleased, HasFreed, plan_of as plan_of_pin}
use Rattle.searcher_table.specs.Views.{IsStill, WasExecuted, GoesOn}
use Rattle.searcher_table.specs.Passes.{seen_of, mine_of, announced_of, sighted, HasSeenMore, HasLooked, HasAnnounced, HasMet, IsAnnouncedBy}
use Rattle.searcher_table.specs.Making.{IsNewPass, AreDealt}
use Rattle.searcher_table.specs.Registrars.{seen_of as seen_by, IsUnchanged, IsSightingOf, HasEntry, HasUpdated}
use Rattle.table_rows.specs.TableTrials.{HasNothingOut, HasHeld, HasOneMore, HasOneOpeningMore, HasOneCallMore}
use Rattle.std.specs.Prelude.{slice_get}
use Rattle.searcher_table.proofs.Row.{got_here, got_before}
use Rattle.searcher_table.proofs.Frame.{own_joined}
use Rattle.searcher_table.proofs.Passing.{nothing_more}
use Rattle.searcher_table.proofs.Places.{same_places, one_place_more}
use Rattle.searcher_table.proofs.Execute.{own_entry}

module _ {A : Type 0} where
  -- an element of a list of one
  lone : (xs ys : List A) (x y : A) → xs ++ x ∷ ys ≡ y ∷ [] → x ≡ y
  lone [] ys x y e = let p : x ∷ ys ≡ y ∷ [] = e in cc
  lone (z ∷ zs) ys x y e = let n = ap length e in let m = length-append zs (x ∷ ys) in absurd (omega arith)

  never_empty : (xs ys : List A) (x : A) → xs ++ x ∷ ys ≡ [] → ⊥
  never_empty xs ys x e = let n = ap length e in let m = length-append xs (x ∷ ys) in omega arith

module _ {U X L : Type 0} where
  -- what a caller with nothing announced has after a step
  still : (c : ℕ) (had has : List (Entry U X L)) (a b : Option (Asked U)) → a ≡ None → GoesOn c had a has b → (has ≡ had) × (b ≡ None)
  still c had has a b none calls = ⊎_elim
      (λ (x : IsStill c had a has b). (x.mine, x.announced ∙ none))
      (λ (x : WasExecuted c had a has b). absurd (none-some x.asked (sym none ∙ x.announced)))
      calls

module _ {D U W X L : Type 0} where
  -- a step that sees no entry of the caller leaves its own entries
  pub same_own : (s t : Pass D U W X L) → HasSeenMore s t [] → mine_of t ≡ mine_of s
  same_own s t m =
      t.own ∙ (λ i. mine (m.pass.caller i) (m.prolongs.joined i)) ∙ own_joined s.caller (seen_of s) m.prolongs.more
      ∙ ap (λ es. mine s.caller (seen_of s) ++ es) m.prolongs.own ∙ append-nil (mine s.caller (seen_of s)) ∙ sym s.own

  -- where nothing is announced, a look finds nothing announced
  pub none_still : (s t : Pass D U W X L) → HasLooked s t → announced_of s ≡ None → announced_of t ≡ None
  none_still s t l none = ⊎_elim
      (λ (x : IsStill s.caller (mine_of s) (announced_of s) (mine_of t) (announced_of t)). x.announced ∙ none)
      (λ (x : WasExecuted s.caller (mine_of s) (announced_of s) (mine_of t) (announced_of t)). x.none)
      l.calls

  -- an acquire and its release are two entries more, whether or not the release was the last one
  pub two_more : (s : Pass D U W X L) (pin : Pin D U W X L) (t : Pass D U W X L) → announced_of s ≡ None → HasAcquired s pin → HasReleased (λ _. []) pin t → HasNothingOut s t × HasHeld s t pin.generation pin.ticket
  two_more s pin t none got gone =
      let a = got.entered in
      let b = gone.entered in
      let x = still s.caller s.place.me.0.mine (mine s.caller a.before) s.place.me.0.announced pin.place.me.0.announced none a.calls in
      let y = still pin.caller pin.place.me.0.mine (mine pin.caller b.before) pin.place.me.0.announced gone.after.announced x.1 b.calls in
      let z : (t.place.me.0.mine ≡ gone.after.mine) × (t.place.me.0.announced ≡ None) = ⊎_elim
      (λ (e : t.place.me.0 ≡ gone.after). (ap (λ k. k.mine) e, ap (λ k. k.announced) e ∙ y.1))
      (λ (f : HasFreed (plan_of_pin pin) pin.caller gone.after t.place.me.0 pin.generation). still pin.caller gone.after.mine t.place.me.0.mine gone.after.announced t.place.me.0.announced y.1 f.calls)
      gone.ended in (
        record {
          pass = record { table = sym gone.same.table ∙ got.same.table; plan = sym gone.same.plan ∙ got.same.plan; caller = sym gone.same.caller ∙ got.same.caller };
          none = z.1;
        },
        z.0 ∙ b.grown ∙ (λ i. (y.0 ∙ a.grown ∙ ap (λ l. l ++ Acquire s.caller pin.generation pin.ticket ∷ []) x.0) i ++ Release (got.same.caller i) pin.generation [] ∷ []),
      )

  -- the last two of two passes
  pub pair : (r : Registrar D U W X L) (all xs ys : List (Pass D U W X L)) (two one : Pass D U W X L) → all ≡ xs ++ two ∷ [] → xs ≡ ys ++ one ∷ [] → AreDealt r all → length all ≡ 2 → IsNewPass r 1 one × IsNewPass r 2 two
  pair r all xs ys two one is is' dealt len =
      let long : length xs ≡ 1 = (let a = ap length is in let b = length-append xs (two ∷ []) in omega arith) in
      let none : length ys ≡ 0 = (let a = ap length is' in let b = length-append ys (one ∷ []) in omega arith) in
      let whole : AreDealt r (xs ++ two ∷ []) = subst (λ (l : List (Pass D U W X L)). AreDealt r l) is dealt in (
        subst (λ (n : ℕ). IsNewPass r (n + 1) one) none (whole (length ys) one (got_before xs (two ∷ []) (length ys) one (ap (λ l. slice_get l (length ys)) is' ∙ got_here ys one))),
        subst (λ (n : ℕ). IsNewPass r (n + 1) two) long (whole (length xs) two (got_here xs two)),
      )

module _ {D U W X L : Type 0} {shows : Ghosts D W X L} where
  pub grown : (s t : Pass D U W X L) (a : Announced D U W X L shows) (r q : Registrar D U W X L) (note : Sighting D U W X L shows) (e : Entry U X L) → caller_of e ≡ Some a.caller
      → a.caller ≡ s.caller → a.place.me.0.seen ≡ seen_of s → HasEntry r q a e → sighted note ≡ seen_by q → HasMet s t note
      → (mine_of t ≡ mine_of s ++ e ∷ []) × (announced_of t ≡ None)
  grown s t a r q note e named by from up told met =
      let c : ℕ = s.caller in
      let k : List (Entry U X L) = up.covers.0 in
      let rest : List (Entry U X L) = met.covers.0 in
      let before : List (Entry U X L) = seen_of s ++ k in
      let begins : up.before ≡ before = up.covers.1 ∙ ap (λ l. l ++ k) from in
      let whole : seen_of t ≡ (before ++ e ∷ []) ++ rest = met.covers.1 ∙ ap (λ l. l ++ rest) (told ∙ up.entry ∙ ap (λ l. l ++ e ∷ []) begins) in
      let more : List (Entry U X L) = mine c k ++ e ∷ mine c rest in
      let is : mine_of t ≡ mine_of s ++ more =
      t.own ∙ (λ i. mine (met.looked.more.pass.caller i) (whole i)) ∙ own_joined c (before ++ e ∷ []) rest
      ∙ ap (λ l. l ++ mine c rest) (own_entry a.caller c before e named (sym by) ∙ ap (λ l. l ++ e ∷ []) (own_joined c (seen_of s) k ∙ ap (λ l. l ++ mine c k) (sym s.own)))
      ∙ append_assoc (mine_of s ++ mine c k) (e ∷ []) (mine c rest) ∙ append_assoc (mine_of s) (mine c k) (e ∷ mine c rest) in
      ⊎_elim
      (λ (x : IsStill c (mine_of s) (announced_of s) (mine_of t) (announced_of t)).
      absurd (never_empty (mine c k) (mine c rest) e (nothing_more (mine_of s) more (sym is ∙ x.mine))))
      (λ (x : WasExecuted c (mine_of s) (announced_of s) (mine_of t) (announced_of t)).
      let same : e ≡ x.entry = lone (mine c k) (mine c rest) e x.entry (append_cancel_left (mine_of s) more (x.entry ∷ []) (sym is ∙ x.mine)) in
      (x.mine ∙ ap (λ y. mine_of s ++ y ∷ []) (sym same), x.none))
      met.looked.calls

  pub one_more : (s m t : Pass D U W X L) (u : U) (a : Announced D U W X L shows) (r q v : Registrar D U W X L) (note : Sighting D U W X L shows)
      → HasAnnounced s m (record { call = ToUpdate; content = u }) → IsAnnouncedBy m (record { call = ToUpdate; content = u }) a → HasUpdated r q a → IsUnchanged q v → IsSightingOf v note → HasMet m t note
      → a.place.table_id ≡ r.place.table_id → HasOneMore s t r v u
  one_more s m t u a r q v note said by up same told met here =
      let g = grown m t a r q note (Update a.caller a.asked.content) refl by.caller by.seen up (told.seen ∙ same.seen) met in
      let caller : a.caller ≡ s.caller = by.caller ∙ said.more.pass.caller in
      let first = said.more.pass in
      let last = met.looked.more.pass in
      record {
        pass = record { table = last.table ∙ first.table; plan = last.plan ∙ first.plan; caller = last.caller ∙ first.caller };
        registrar = record { table = same.registrar.table ∙ up.registrar.table; plan = same.registrar.plan ∙ up.registrar.plan };
        ready = record { table = last.table ∙ sym by.table ∙ here ∙ sym (same.registrar.table ∙ up.registrar.table); none = g.1 };
        places =
            let i = ap (count_by has_place) same.seen in
            let j = ap (count_by has_place) up.entry in
            let k = one_place_more up.before (Update a.caller a.asked.content) refl in
            let l = same_places up.before (seen_by r) up.seen in
            omega arith;
        mine = g.0 ∙ (λ i. same_own s m said.more i ++ Update (caller i) (by.asked i).content ∷ []);
      }

  -- the same of an opening that has its next generation, where the pass meets what the opening has seen
  pub one_opening_more : (s m t : Pass D U W X L) (u : U) (a : Announced D U W X L shows) (r q : Registrar D U W X L) (doors : List D) (docs : D → X) (o : Opening D U W X L) (note : Sighting D U W X L shows)
      → HasAnnounced s m (record { call = ToOpen; content = u }) → IsAnnouncedBy m (record { call = ToOpen; content = u }) a → HasOpened docs r q a doors o → sighted note ≡ o.seat.me.0.seen → HasMet m t note
      → HasOneOpeningMore s t u o.generation
  one_opening_more s m t u a r q doors docs o note said by up told met =
      let g = grown m t a r q note (Open a.caller a.asked.content o.generation up.slot up.shown) refl by.caller by.seen up.entry (told ∙ up.seen) met in
      let caller : a.caller ≡ s.caller = by.caller ∙ said.more.pass.caller in
      record {
        slot = up.slot;
        shown = up.shown;
        mine = g.0 ∙ (λ i. same_own s m said.more i ++ Open (caller i) (by.asked i).content o.generation up.slot up.shown ∷ []);
        none = g.1;
      }

  -- an entry with a place is one call more
  pub one_call_more : (r q : Registrar D U W X L) (a : Announced D U W X L shows) (e : Entry U X L) → HasEntry r q a e → has_place e ≡ true → HasOneCallMore r q
  one_call_more r q a e up has = record {
    registrar = up.registrar;
    places =
        let j = ap (count_by has_place) up.entry in
        let k = one_place_more up.before e has in
        let l = same_places up.before (seen_by r) up.seen in
        omega arith;
  }

  -- and so is a refusal
  pub refused_counts : (r q : Registrar D U W X L) (a : Announced D U W X L shows) (why : OpenRefusal) → IsRefused r q a why → HasOneCallMore r q
  refused_counts r q a (AsTooMany at gens) is = one_call_more r q a (TooMany a.caller a.asked.content (listed gens)) is.entry refl
  refused_counts r q a (AsSpent at) is = one_call_more r q a (GenerationsSpent a.caller a.asked.content) is.entry refl
