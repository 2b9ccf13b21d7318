use Rattle.std.proofs.Common.{◌≡◌, ℕ, ◌+◌, ◌-◌, List, ◌∷◌, length, take, drop, length-drop, Option, Some, sym, ap, subst, ◌∙◌, arith, take_all}
use Rattle.std.specs.Str.Lines.{lines}
use Rattle.memchr.specs.Find.{IsFirstByte, is_byte}
use Rattle.script_form.proofs.Cuts.{lines_at, lines_one}
use Rattle.script_form.proofs.lines.next_line.Goals as goal

pub returns-in-Some-clause-split : goal.returns-in-Some-clause-split
returns-in-Some-clause-split c =
    let bs : List ℕ = c.args.bytes.now in
    let at : ℕ = c.in-Some.end in
    let found : IsFirstByte (is_byte 10) bs (Some at) = subst (λ (r : Option ℕ). IsFirstByte (is_byte 10) bs r) c.in-Some.is c.memchr.ensures in
    let whole : take (length bs - (at + 1)) (drop (at + 1) bs) ≡ drop (at + 1) bs = grind (arith, take_all, length-drop) in
    lines_at bs (take (length bs - (at + 1)) (drop (at + 1) bs)) at found whole
    ∙ ap (λ x. x ∷ lines (take (length bs - (at + 1)) (drop (at + 1) bs))) (sym c.without_return.ensures)

pub returns-in-None-clause-split : goal.returns-in-None-clause-split
returns-in-None-clause-split c =
    let bs : List ℕ = c.args.bytes.now in
    lines_one bs c.requires (subst (λ (r : Option ℕ). IsFirstByte (is_byte 10) bs r) c.in-None.is c.memchr.ensures)
