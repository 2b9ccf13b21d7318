use Rattle.std.proofs.Common.{Some, ap, sym, ◌∙◌, ◌++◌, ◌∷◌, []}
use Rattle.shared_cells.proofs.Copies.{number_within, one_further}
use Rattle.shared_cells.proofs.cell.copies.Goals as goal

pub key-requires : goal.key-requires
key-requires g c = number_within c.args.cells.now.keys c.args.numbers.now c.loop-number.number-index 0 c.requires c.loop-number-test.true

pub loop-number-preserved : goal.loop-number-preserved
loop-number-preserved g c =
    one_further c.args.cells.now.keys c.args.numbers.now c.loop-number.number-index 0 c.loop-number.keys.items c.key.result.now c.loop-number-test.true c.loop-number.invariant c.key.ensures
    ∙ ap (λ k. Some (c.loop-number.keys.items ++ k ∷ [])) (sym c.in_ok-key.ensures) ∙ ap Some (sym c.in_ok-push.ensures.items)
