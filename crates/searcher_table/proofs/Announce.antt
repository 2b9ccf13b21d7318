-- Announcing keeps the rule: the caller's word was 0, and what it announces is pending.
use Rattle.std.proofs.Common.{◌≡◌, ◌≢◌, ℕ, ◌≤◌, List, [], set, sym, refl, ap, ◌∙◌, subst, ⊎_elim, arith, length-set, Option, Some, None}
use mathlib.Core.Option.{some}
use mathlib.Core.Option as maybe
use prog.Atomic.{either}
use Rattle.std.specs.Prelude.{◌==◌, slice_index}
use Rattle.std.specs.List.{AllByRecursion}
use Rattle.std.proofs.lemmas.Option.{same_Some, none-some}
use Rattle.atomic_table.specs.Table.{State, Me, Act, Allows, keeps, step, stepped, Valid, carried_after}
use Rattle.atomic_table.proofs.Lists.{exchanged}
use Rattle.registry_machine.specs.Machine.{Limits}
use Rattle.registry_machine.specs.Legal.{state_of}
use Rattle.registry_machine.specs.Callers.{mine}
use Rattle.searcher_table.specs.declared.board.Asked.{Asked}
use Rattle.searcher_table.specs.declared.board.Cell.{Cell}
use Rattle.searcher_table.specs.declared.board.Cell.TheVariants.{Said}
use Rattle.searcher_table.specs.declared.board.Plan.{Plan}
use Rattle.searcher_table.specs.declared.board.Hand.{Hand}
use Rattle.searcher_table.specs.declared.board.Own.{Own}
use Rattle.searcher_table.specs.declared.board.Known.{Known}
use Rattle.searcher_table.specs.Words.{call_word, code_of, code, limits}
use Rattle.searcher_table.specs.Views.{IsStill, WasExecuted, GoesOn}
use Rattle.searcher_table.specs.Rule.{World, IsPass, IsHand, IsBack, released, Kept}
use Rattle.searcher_table.specs.Steps.{looked, HasAnnounced, Announced}
use Rattle.searcher_table.proofs.Frame.{put, put_here, put_else, moved, Leaves, own_task, one_after, covers}
use Rattle.searcher_table.proofs.Beside.{AreSame, call_beside, few_slots, two_words}
use Rattle.searcher_table.proofs.Slotted.{three_words, slots_same}
use Rattle.searcher_table.proofs.Handing.{calls_after, another}

-- a pass with nothing announced has all its caller's entries, and nothing is pending
pub nothing_pending : {W U X L : Type 0} (w : World U X L) (id : ℕ) (k : Known W U X L) → IsPass w id k → k.announced ≡ None
    → (mine k.caller w.log ≡ k.mine) × (w.pending k.caller ≡ None)
nothing_pending {W} {U} {X} {L} w id k f none = ⊎_elim
    (λ (e : IsStill k.caller k.mine k.announced (mine k.caller w.log) (w.pending k.caller)). (e.mine, e.announced ∙ none))
    (λ (e : WasExecuted k.caller k.mine k.announced (mine k.caller w.log) (w.pending k.caller)). absurd (none-some e.asked (sym none ∙ e.announced)))
    f.calls

-- what is said, of a value that says something
abbrev said_or : {D U : Type 0} → Asked U → maybe.Option (Cell D U) → Asked U
said_or a (maybe.some (Said b)) = b
said_or a _ = a

pub said_same : {D U : Type 0} (a b : Asked U) → ◌≡◌ {A = Cell D U} (Said a) (Said b) → a ≡ b
said_same {D} {U} a b e = ap (λ (c : Cell D U). said_or a (maybe.some c)) e

-- the announced call is the seat's, and whatever the others know stays true
pub leaves : {W U X L : Type 0} (l : Limits) (asked : Asked U) (w : World U X L) (id : ℕ) (k : Known W U X L) → IsPass w id k → w.pending k.caller ≡ None
    → Leaves W l w (moved w w.log (put k.caller (Some asked) w.pending) (put k.caller id w.hand_at) w.tasks w.fresh_at) id
leaves {W} {U} {X} {L} l asked w id k f free =
    let c : ℕ = k.caller in
    let now : ℕ → Option (Asked U) = put c (Some asked) w.pending in
    record {
      log = λ _ s. s;
      passes = λ j u other _ (g : IsPass w j u).
          let n : u.caller ≢ c = another w id j c u.caller f.here g.here other in
          record { here = g.here; dealt = g.dealt; calls = subst (λ a. GoesOn u.caller u.mine u.announced (mine u.caller w.log) a) (sym (put_else c (Some asked) w.pending u.caller n)) g.calls; task = g.task };
      hands = λ j h other (g : IsHand w j h).
          let n : h.caller ≢ c = λ e. none-some h.asked (sym free ∙ ap w.pending (sym e) ∙ g.pending) in
          record { here = put_else c id w.hand_at h.caller n ∙ g.here; pending = put_else c (Some asked) w.pending h.caller n ∙ g.pending };
      freshes = λ j h other g. record { here = g.here; warming = g.warming };
      registrars = λ j u other g. record { here = g.here; seen = g.seen; next = g.next; nobody = g.nobody; task = g.task; filling = g.filling; final = g.final };
      backs = λ j o other (g : IsBack w j o).
          let n : o.caller ≢ c = another w id j c o.caller f.here g.here other in
          record { here = g.here; dealt = g.dealt; mine = g.mine; none = put_else c (Some asked) w.pending o.caller n ∙ g.none; done = g.done };
    }

module _ {D W U X L : Type 0} (setting : D → W) (docs : D → X) (deeds : D → List L) (p : Plan W) where
  abbrev Goes : ℕ → ℕ → Me (Cell D U) (Known W U X L) → ℕ → ℕ → Asked U → State (Cell D U) (Known W U X L) → ℕ → Type 0
  Goes slots id me i new asked s x = (v : Known W U X L) × (a : Act (Cell D U)) × Valid s.homes me.1 a × Kept setting docs deeds p (stepped s i x id me.1 v a)
      × Announced (step slots i 0 new (some (Said asked))) me (slice_index s.words i) (v, carried_after me.1 a)

  pub announces : (slots id : ℕ) (me : Me (Cell D U) (Known W U X L)) (i new : ℕ) (asked : Asked U) → i ≡ call_word me.0.caller → 1 ≤ me.0.caller → me.0.caller ≤ 64 → new ≡ code_of asked.call → me.0.announced ≡ None → me.0.back ≡ []
      → Allows (Kept setting docs deeds p) slots id me i (λ n. either (n == 0) new n) (Announced (step slots i 0 new (some (Said asked))) me)
  announces slots id me i new asked at_word low few is none bare s kept deep at small =
      let w = kept.world in
      let k = me.0 in
      let c : ℕ = k.caller in
      let all = kept.one.fits id k at in
      let f = all.pass low in
      let still = nothing_pending w id k f none in
      let now : ℕ → Option (Asked U) = put c (Some asked) w.pending in
      let hands : ℕ → ℕ = put c id w.hand_at in
      let hand : Hand U = record { caller = c; asked = asked } in
      let word : slice_index s.words i ≡ 0 = ap (λ n. slice_index s.words n) at_word ∙ kept.one.calls c low few ∙ ap code still.1 in
      let v : Known W U X L = record (looked k w.log now) { hand = Some hand } in
      let made : HasAnnounced asked me (v, me.1) = record {
        log = w.log;
        pending = now;
        covers = covers p w id k all kept.legal;
        mine = still.0;
        pending_is = put_here c (Some asked) w.pending;
        after = refl;
      } in
      exchanged (slice_index s.words i) 0 new (Goes slots id me i new asked s)
      (λ free. (
        v,
        keeps,
        tt,
        record {
          words = length-set s.words i new ∙ kept.words;
          world = moved w w.log now hands w.tasks w.fresh_at;
          legal = kept.legal;
          four = kept.four;
          three = three_words p (state_of (limits p) w.log) (released w.log) w.tasks (few_slots p kept.two.sizes) s.words (set s.words i new) (slots_same s.words (set s.words i new) (subst (λ (n : ℕ). AreSame s.words (set s.words n new)) (sym at_word) (call_beside s.words c new))) kept.three;
          two = two_words p w.log s.words (set s.words i new) (subst (λ (n : ℕ). AreSame s.words (set s.words n new)) (sym at_word) (call_beside s.words c new)) kept.two;
          one = one_after p w w.log now hands w.tasks w.fresh_at id k (Some hand) k.task k.fresh s.words (set s.words i new) s.views kept.one at (leaves (limits p) asked w id k f still.1)
              (λ d l h. subst (λ (n : ℕ). slice_index (set s.words n new) (call_word d) ≡ code (now d)) (sym at_word) (calls_after s.words w.pending c new (Some asked) kept.words few is kept.one.calls d l h))
              (λ d past. let u = kept.one.undealt d past in (put_else c (Some asked) w.pending d (λ e. let deal = f.dealt in absurd (omega arith)) ∙ u.0, u.1, u.2))
              kept.one.over
              record {
                hands = (λ h e. let same : hand ≡ h = same_Some hand h e in subst (λ (x : Hand U). IsHand (moved w w.log now hands w.tasks w.fresh_at) id x) same record { here = put_here c id w.hand_at; pending = put_here c (Some asked) w.pending });
                freshes = λ h e. (let g = all.fresh h e in record { here = g.here; warming = g.warming });
                begun = own_task p w id k all;
                backs =
                    (subst (λ (os : List (Own U X L)). AllByRecursion (IsBack (moved w w.log now hands w.tasks w.fresh_at) id) os) (sym bare) tt);
              };
        },
        λ said e. subst (λ (a : Asked U). HasAnnounced a me (v, me.1)) (ap (said_or asked) e) made,
      ))
      (λ busy. absurd (busy word))
