-- What a caller has seen after it met another, and after its pins.
use Rattle.std.proofs.Common.{◌≡◌, ◌⊎◌, ℕ, List, [], ◌∷◌, ◌++◌, append_assoc, Some, None, inl, inr, refl, sym, ap, subst, ◌∙◌}
use Rattle.registry_machine.specs.declared.entry.Entry.{Entry}
use Rattle.registry_machine.specs.declared.entry.Entry.TheVariants.{NotYet, Release, Free}
use Rattle.registry_machine.specs.Entries.{caller_of}
use Rattle.registry_machine.specs.Callers.{mine, Prolongs}
use Rattle.view_cells.specs.declared.seat.Seat.{Seat}
use Rattle.view_cells.specs.Seats.{IsSameSeat}
use Rattle.searcher_table.specs.declared.board.Known.{Known}
use Rattle.searcher_table.specs.declared.board.Plan.{Plan}
use Rattle.searcher_table.specs.declared.pass.Pass.{Pass}
use Rattle.searcher_table.specs.declared.pin.Pin.{Pin}
use Rattle.searcher_table.specs.declared.pin.AcquireRefusal.{AcquireRefusal}
use Rattle.searcher_table.specs.declared.pin.AcquireRefusal.TheVariants.{NotYet as IsNotYet, Spent}
use Rattle.searcher_table.specs.Passes as pass
use Rattle.searcher_table.specs.Passes.{seen_of, announced_of}
use Rattle.searcher_table.specs.Pins.{plan_of, HasEntered, HasFreed, HasReleased, IsPinOf, IsNotAcquired}
use Rattle.searcher_table.proofs.Frame.{own_joined}
use Rattle.searcher_table.proofs.Passing.{nothing_more}
use Rattle.registry_core.specs.declared.caller.Caller.{Caller}
use Rattle.registry_core.specs.declared.change.Change.{Change}
use Rattle.registry_core.specs.declared.locked.Terms.{Terms}
use Rattle.registry_core.specs.Keeping.{IsTableOf, IsPinnedAt}
use Rattle.registry_core.specs.Holding.{IsNotPinned}
use Rattle.registry_core.proofs.Own.{own_first, still, prolongs_on}

-- the same seat
pub same_seat : {T W E : Type 0} (s : Seat T W E) → IsSameSeat s s
same_seat s = record { table = refl; view = refl; count = refl; number = refl }

module _ {W U X L : Type 0} (p : Plan W) (c : ℕ) (k n : Known W U X L) where
  -- where nothing was announced, an entry of the caller's own is all that it has more
  pub enters_one : (e : Entry U X L) → k.mine ≡ mine c k.seen → k.announced ≡ None → caller_of e ≡ Some c → HasEntered p c k n e → Prolongs c k.seen n.seen (e ∷ []) × (n.announced ≡ None)
  enters_one e own none is h =
      let s = still k.announced none h.calls in
      let before = h.seen in
      let nothing : mine c before.0 ≡ [] = nothing_more (mine c k.seen) (mine c before.0) (sym (own_joined c k.seen before.0) ∙ ap (mine c) (sym before.1) ∙ s.0 ∙ own) in (
        record {
          more = before.0 ++ e ∷ [];
          joined = h.last ∙ ap (λ l. l ++ e ∷ []) before.1 ∙ append_assoc k.seen before.0 (e ∷ []);
          own = own_joined c before.0 (e ∷ []) ∙ (λ i. nothing i ++ own_first c e [] is i);
        },
        s.1,
      )

  -- and a freeing is none of its entries
  pub frees_none : (g : ℕ) → k.mine ≡ mine c k.seen → k.announced ≡ None → HasFreed p c k n g → Prolongs c k.seen n.seen [] × (n.announced ≡ None)
  frees_none g own none h =
      let s = still k.announced none h.calls in
      let before = h.seen in
      let whole : n.seen ≡ k.seen ++ (before.0 ++ Free g ∷ []) = h.last ∙ ap (λ l. l ++ Free g ∷ []) before.1 ∙ append_assoc k.seen before.0 (Free g ∷ []) in (
        record {
          more = before.0 ++ Free g ∷ [];
          joined = whole;
          own = nothing_more (mine c k.seen) (mine c (before.0 ++ Free g ∷ [])) (sym (own_joined c k.seen (before.0 ++ Free g ∷ [])) ∙ ap (mine c) (sym whole) ∙ sym h.own ∙ s.0 ∙ own);
        },
        s.1,
      )

module _ {D V S X L : Type 0} (pin : Pin D V S X L) (t : Pass D V S X L) where
  -- after a release the caller has that entry more
  pub releases_one : (deeds : D → List L) → pin.place.me.0.announced ≡ None → HasReleased deeds pin t → Prolongs pin.caller pin.place.me.0.seen (seen_of t) (Release pin.caller pin.generation (deeds pin.door) ∷ []) × (announced_of t ≡ None)
  releases_one deeds none h = by h.ended
    where
      e : Entry V X L
      e = Release pin.caller pin.generation (deeds pin.door)

      a : Prolongs pin.caller pin.place.me.0.seen h.after.seen (e ∷ []) × (h.after.announced ≡ None)
      a = enters_one (plan_of pin) pin.caller pin.place.me.0 h.after e pin.own none refl h.entered

      by : ((t.place.me.0 ≡ h.after) ⊎ HasFreed (plan_of pin) pin.caller h.after t.place.me.0 pin.generation) → Prolongs pin.caller pin.place.me.0.seen (seen_of t) (e ∷ []) × (announced_of t ≡ None)
      by (inl same) = subst (λ (k : Known S V X L). Prolongs pin.caller pin.place.me.0.seen k.seen (e ∷ []) × (k.announced ≡ None)) (sym same) a
      by (inr freed) =
          let b = frees_none (plan_of pin) pin.caller h.after t.place.me.0 pin.generation h.entered.own a.1 freed in
          (prolongs_on a.0 b.0, b.1)

module _ {D U S X L : Type 0} (v : Terms D U S X L) (p : Pass D (Change U) S X L) (q : Pin D (Change U) S X L) (same : IsPinOf p q) where
  -- the pin is at the table of its pass, and the other way round
  pub pinned_at : IsTableOf v p → IsPinnedAt v q
  pinned_at at = record { table = same.table ∙ at.table; plan = same.plan ∙ at.plan }

  pub unpinned_at : IsPinnedAt v q → IsTableOf v p
  unpinned_at at = record { table = sym same.table ∙ at.table; plan = sym same.plan ∙ at.plan }

module _ {D U W S X L : Type 0} (s t : Caller D U W S X L) (seat : IsSameSeat s.lock t.lock) where
  pub not_pinned : (why : AcquireRefusal) → IsNotAcquired s.pass t.pass why → IsNotPinned s t why
  not_pinned IsNotYet early = record {
    early = early;
    prolongs = (enters_one (pass.plan_of s.pass) s.pass.caller s.pass.place.me.0 t.pass.place.me.0 (NotYet s.pass.caller) s.pass.own s.free refl early.entered).0;
    seat = seat;
  }
  not_pinned (Spent made) spent = (spent, seat)

-- nothing is announced after a pin that was refused
pub refused_none : {D V S X L : Type 0} (p q : Pass D V S X L) → announced_of p ≡ None → (why : AcquireRefusal) → IsNotAcquired p q why → announced_of q ≡ None
refused_none p q none IsNotYet early = (enters_one (pass.plan_of p) p.caller p.place.me.0 q.place.me.0 (NotYet p.caller) p.own none refl early.entered).1
refused_none p q none (Spent made) spent = ap announced_of spent.same ∙ none

-- it is at the same table
pub refused_at : {D U S X L : Type 0} (v : Terms D U S X L) (p q : Pass D (Change U) S X L) → IsTableOf v p → (why : AcquireRefusal) → IsNotAcquired p q why → IsTableOf v q
refused_at v p q at IsNotYet early = record { table = early.same.table ∙ at.table; plan = early.same.plan ∙ at.plan }
refused_at v p q at (Spent made) spent = subst (IsTableOf v) (sym spent.same) at
