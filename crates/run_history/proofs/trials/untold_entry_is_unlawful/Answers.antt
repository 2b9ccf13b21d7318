use Rattle.run_history.proofs.TrialsAlone.{told_but_one_alone}
use Rattle.std.proofs.Common.{◌≡◌, ℕ, arith}
use Rattle.run_history.proofs.trials.untold_entry_is_unlawful.Goals as goal

zero_one : ◌≡◌ {A = ℕ} 0 1 → ⊥
zero_one e = omega (arith, e)

pub returns-clause-unlawful : goal.returns-clause-unlawful
returns-clause-unlawful c h = zero_one h.one_history.places.1.1.1.0

pub returns-clause-alone : goal.returns-clause-alone
returns-clause-alone c = told_but_one_alone
