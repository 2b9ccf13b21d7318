-- Withdrawing keeps the rule: what was announced is no longer pending, and has no entry.
use Rattle.std.proofs.Common.{◌≡◌, ◌≢◌, ℕ, ◌≤◌, List, [], set, sym, refl, ap, ◌∙◌, subst, ⊎_elim, arith, length-set, Option, Some, None}
use mathlib.Core.Option.{some}
use mathlib.Core.Option as maybe
use Rattle.std.specs.Prelude.{slice_index}
use Rattle.std.specs.List.{AllByRecursion}
use Rattle.std.proofs.lemmas.Option.{none-some}
use Rattle.atomic_table.specs.Table.{Me, Allows, keeps, step}
use Rattle.registry_machine.specs.Machine.{Limits}
use Rattle.registry_machine.specs.Legal.{state_of}
use Rattle.registry_machine.specs.Callers.{mine}
use Rattle.searcher_table.specs.declared.board.Asked.{Asked}
use Rattle.searcher_table.specs.declared.board.Cell.{Cell}
use Rattle.searcher_table.specs.declared.board.Plan.{Plan}
use Rattle.searcher_table.specs.declared.board.Hand.{Hand}
use Rattle.searcher_table.specs.declared.board.Own.{Own}
use Rattle.searcher_table.specs.declared.board.Known.{Known}
use Rattle.searcher_table.specs.Words.{call_word, code, limits}
use Rattle.searcher_table.specs.Views.{IsStill, WasExecuted, GoesOn}
use Rattle.searcher_table.specs.Rule.{World, IsPass, IsHand, IsBack, released, Kept}
use Rattle.searcher_table.specs.Steps.{looked, Withdrawn}
use Rattle.searcher_table.proofs.Frame.{put, put_here, put_else, moved, Leaves, own_task, one_after, covers}
use Rattle.searcher_table.proofs.Beside.{AreSame, call_beside, few_slots, two_words}
use Rattle.searcher_table.proofs.Slotted.{three_words, slots_same}
use Rattle.searcher_table.proofs.Handing.{calls_after, another, other_hand}

-- a pass whose call is pending has all its caller's entries
pub still_pending : {W U X L : Type 0} (w : World U X L) (id : ℕ) (k : Known W U X L) (asked : Asked U) → IsPass w id k → w.pending k.caller ≡ Some asked
    → mine k.caller w.log ≡ k.mine
still_pending {W} {U} {X} {L} w id k asked f pending = ⊎_elim
    (λ (e : IsStill k.caller k.mine k.announced (mine k.caller w.log) (w.pending k.caller)). e.mine)
    (λ (e : WasExecuted k.caller k.mine k.announced (mine k.caller w.log) (w.pending k.caller)). absurd (none-some asked (sym e.none ∙ pending)))
    f.calls

-- the call is the seat's, and whatever the others know stays true
leaves : {W U X L : Type 0} (l : Limits) (w : World U X L) (id : ℕ) (c : ℕ) → w.pass_at c ≡ id → w.hand_at c ≡ id → Leaves W l w (moved w w.log (put c None w.pending) w.hand_at w.tasks w.fresh_at) id
leaves {W} {U} {X} {L} l w id c here hand =
    record {
      log = λ _ s. s;
      passes = λ j u other _ (g : IsPass w j u).
          let n : u.caller ≢ c = another w id j c u.caller here g.here other in
          record { here = g.here; dealt = g.dealt; calls = subst (λ a. GoesOn u.caller u.mine u.announced (mine u.caller w.log) a) (sym (put_else c None w.pending u.caller n)) g.calls; task = g.task };
      hands = λ j h other (g : IsHand w j h).
          record { here = g.here; pending = put_else c None w.pending h.caller (other_hand w id j c h.caller hand g.here other) ∙ g.pending };
      freshes = λ j h other g. record { here = g.here; warming = g.warming };
      registrars = λ j u other g. record { here = g.here; seen = g.seen; next = g.next; nobody = g.nobody; task = g.task; filling = g.filling; final = g.final };
      backs = λ j o other (g : IsBack w j o).
          let n : o.caller ≢ c = another w id j c o.caller here g.here other in
          record { here = g.here; dealt = g.dealt; mine = g.mine; none = put_else c None w.pending o.caller n ∙ g.none; done = g.done };
    }

module _ {D W U X L : Type 0} (setting : D → W) (docs : D → X) (deeds : D → List L) (p : Plan W) where
  pub withdraws : (slots id : ℕ) (me : Me (Cell D U) (Known W U X L)) (i : ℕ) (h : Hand U) → i ≡ call_word me.0.caller → 1 ≤ me.0.caller → me.0.caller ≤ 64 → me.0.hand ≡ Some h → h.caller ≡ me.0.caller → me.0.back ≡ []
      → Allows (Kept setting docs deeds p) slots id me i (λ _. 0) (λ _. Withdrawn (step slots i 0 0 maybe.none) me 0)
  withdraws slots id me i h at_word low few has own bare s kept deep at small =
      let w = kept.world in
      let k = me.0 in
      let c : ℕ = k.caller in
      let all = kept.one.fits id k at in
      let f = all.pass low in
      let hand = all.hand h has in
      let here : w.hand_at c ≡ id = ap w.hand_at (sym own) ∙ hand.here in
      let pending : w.pending c ≡ Some h.asked = ap w.pending (sym own) ∙ hand.pending in
      let now : ℕ → Option (Asked U) = put c None w.pending in (
        record (looked k w.log now) { hand = None },
        keeps,
        tt,
        record {
          words = length-set s.words i 0 ∙ kept.words;
          world = moved w w.log now w.hand_at w.tasks w.fresh_at;
          legal = kept.legal;
          four = kept.four;
          three = three_words p (state_of (limits p) w.log) (released w.log) w.tasks (few_slots p kept.two.sizes) s.words (set s.words i 0) (slots_same s.words (set s.words i 0) (subst (λ (n : ℕ). AreSame s.words (set s.words n 0)) (sym at_word) (call_beside s.words c 0))) kept.three;
          two = two_words p w.log s.words (set s.words i 0) (subst (λ (n : ℕ). AreSame s.words (set s.words n 0)) (sym at_word) (call_beside s.words c 0)) kept.two;
          one = one_after p w w.log now w.hand_at w.tasks w.fresh_at id k None k.task k.fresh s.words (set s.words i 0) s.views kept.one at (leaves (limits p) w id c f.here here)
              (λ d l g. subst (λ (n : ℕ). slice_index (set s.words n 0) (call_word d) ≡ code (now d)) (sym at_word) (calls_after s.words w.pending c 0 None kept.words few refl kept.one.calls d l g))
              (λ d past. let u = kept.one.undealt d past in (put_else c None w.pending d (λ e. let deal = f.dealt in absurd (omega arith)) ∙ u.0, u.1, u.2))
              kept.one.over
              record {
                hands = (λ g e. absurd (none-some g e));
                freshes = λ h e. (let g = all.fresh h e in record { here = g.here; warming = g.warming });
                begun = own_task p w id k all;
                backs =
                    (subst (λ (os : List (Own U X L)). AllByRecursion (IsBack (moved w w.log now w.hand_at w.tasks w.fresh_at) id) os) (sym bare) tt);
              };
        },
        record {
          log = w.log;
          pending = now;
          covers = covers p w id k all kept.legal;
          mine = still_pending w id k h.asked f pending;
          none = put_here c None w.pending;
          after = refl;
        },
      )
