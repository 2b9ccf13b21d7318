use Rattle.std.proofs.Common.{ℕ, true, not, ◌≡◌, ap, sym, ◌∙◌}
use Rattle.std.specs.Cmp.{first_so, nat_cmp_total}
use Rattle.std.specs.FinSet.{contains, contains-difference}
use Rattle.sort_window.proofs.Among.{within_live}
use Rattle.index_rows.proofs.asking.chosen.Goals as goal

pub returns : goal.returns
returns c =
    let live = c.live.result.now in
    let out = c.args.left_out.now in
    within_live live c.in-Ok.rest c.args.probe.now.view.now.seen c.live.ensures.numbers (λ n h.
    first_so (contains live n) (not (contains out n)) (sym (contains-difference nat_cmp_total live out n) ∙ ap (λ s. contains s n) (sym c.in-Ok.ensures) ∙ h))
