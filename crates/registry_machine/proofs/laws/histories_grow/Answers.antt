use Rattle.std.proofs.Common.{◌≡◌, true, ◌∷◌, []}
use Rattle.registry_machine.specs.Machine.{start}
use Rattle.registry_machine.proofs.Runs.{split, joined, allowed_at, every_prefix}
use Rattle.registry_machine.proofs.laws.histories_grow.Goals as goal

pub returns-clause-grown : goal.returns-clause-grown
returns-clause-grown g c l h e legal allowed = joined l (start l) h (e ∷ []) legal (allowed, tt)

pub returns-clause-allowed : goal.returns-clause-allowed
returns-clause-allowed g c l h n e legal at = allowed_at l h n e legal at

pub returns-clause-prefix : goal.returns-clause-prefix
returns-clause-prefix g c l h more legal = (split l (start l) h more legal).0

pub returns-clause-kept : goal.returns-clause-kept
returns-clause-kept g c l p first keeps h more legal = every_prefix l (λ xs. p xs ≡ true) keeps first h more legal
