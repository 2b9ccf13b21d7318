use Rattle.std.proofs.Common.{◌≡◌, ℕ, List, ◌∷◌, ◌++◌, append-nil, true, sym, ap, ◌∙◌, arith}
use Rattle.std.proofs.lemmas.Grind.{common_steps}
use Rattle.std.specs.List.{before_first}
use Rattle.std.specs.Str.Lines.{lines}
use Rattle.script_form.specs.Lines.{is_marker}
use Rattle.script_form.proofs.Configs.{feed, joined, joined_more}
use Rattle.script_form.proofs.Markers.{before_later}
use Rattle.script_form.proofs.config.before_marker.Goals as goal
use Rattle.script_form.proofs.config.before_marker.Goals.{then-begun+in_ok-push, else-begun}

pub loop-rest-preserved : goal.loop-rest-preserved
loop-rest-preserved c =
    let line : List ℕ = c.next_line.result.0.now in
    let others : List (List ℕ) = lines c.next_line.result.1.now in
    let fed : c.if-begun.text.items ≡ c.loop-rest.text.items ++ feed c.loop-rest.begun =
    elim c.if-begun.branch [ then-begun+in_ok-push w ↦ grind (arith, common_steps) | else-begun w ↦ grind (arith, common_steps, append-nil) ] in
    let more : c.extend_from_slice.new.self.items ≡ c.if-begun.text.items ++ line = grind (arith, common_steps) in
    let later : before_first is_marker (lines c.loop-rest.rest.now) ≡ line ∷ before_first is_marker others =
    ap (before_first is_marker) c.next_line.ensures.split ∙ before_later is_marker line others (sym c.is_marker.ensures ∙ c.if-is_marker.false) in
    ap (λ (text : List ℕ). joined true text (before_first is_marker others)) (more ∙ ap (λ (text : List ℕ). text ++ line) fed)
    ∙ sym (joined_more c.loop-rest.begun c.loop-rest.text.items line (before_first is_marker others))
    ∙ ap (joined c.loop-rest.begun c.loop-rest.text.items) (sym later)
    ∙ c.loop-rest.invariant
