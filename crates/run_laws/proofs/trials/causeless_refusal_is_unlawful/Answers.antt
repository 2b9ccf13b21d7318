use Rattle.run_laws.proofs.Alone.{refused_without_cause_alone}
use Rattle.run_laws.proofs.trials.causeless_refusal_is_unlawful.Goals as goal

pub returns-clause-unlawful : goal.returns-clause-unlawful
returns-clause-unlawful c h = refused_without_cause_alone.breaks h.answered

pub returns-clause-alone : goal.returns-clause-alone
returns-clause-alone c = refused_without_cause_alone
