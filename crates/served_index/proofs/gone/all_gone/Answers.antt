use Rattle.std.proofs.Common.{ap, ◌∙◌}
use Rattle.std.specs.Prelude.{◌||◌}
use Rattle.std.specs.FinSet.{contains, contains-union, contains-from_list_nat}
use Rattle.std.specs.Cmp.{nat_cmp_total}
use Rattle.served_index.proofs.gone.all_gone.Goals as goal

pub returns-clause-same : goal.returns-clause-same
returns-clause-same c = λ n.
    c.in_ok-numbers.ensures.listing.same n ∙ ap (λ s. contains s n) c.in-Ok.ensures
    ∙ contains-union nat_cmp_total c.in_ok-before.before c.args.found.now n
    ∙ ap (λ b. b || contains c.args.found.now n) (ap (λ s. contains s n) c.in_ok-before.ensures ∙ contains-from_list_nat c.args.gone.now n)

pub returns-clause-below : goal.returns-clause-below
returns-clause-below c = c.in_ok-numbers.ensures.listing.documents
