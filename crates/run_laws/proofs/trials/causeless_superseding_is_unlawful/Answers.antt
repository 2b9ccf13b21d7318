use Rattle.run_laws.proofs.Alone.{superseded_by_none_alone}
use Rattle.run_laws.proofs.trials.causeless_superseding_is_unlawful.Goals as goal

pub returns-clause-unlawful : goal.returns-clause-unlawful
returns-clause-unlawful c h = superseded_by_none_alone.breaks h.greatest_serves

pub returns-clause-alone : goal.returns-clause-alone
returns-clause-alone c = superseded_by_none_alone
