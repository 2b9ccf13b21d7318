use Rattle.run_history.proofs.TrialsAlone.{later_end_alone}
use Rattle.std.proofs.Common.{◌≡◌, ℕ, arith}
use Rattle.run_history.proofs.trials.wrong_end_is_unlawful.Goals as goal

two_one : ◌≡◌ {A = ℕ} 2 1 → ⊥
two_one e = omega (arith, e)

pub returns-clause-unlawful : goal.returns-clause-unlawful
returns-clause-unlawful c h = two_one h.one_history.first.2

pub returns-clause-alone : goal.returns-clause-alone
returns-clause-alone c = later_end_alone
