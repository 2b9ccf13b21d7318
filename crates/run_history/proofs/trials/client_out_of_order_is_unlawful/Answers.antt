use Rattle.run_history.proofs.TrialsAlone.{told_backwards_alone}
use Rattle.run_laws.proofs.Alone.{places_are_swapped_alone}
use Rattle.run_history.proofs.trials.client_out_of_order_is_unlawful.Goals as goal

pub returns-clause-unlawful : goal.returns-clause-unlawful
returns-clause-unlawful c h = places_are_swapped_alone.breaks h.keeps_order

pub returns-clause-alone : goal.returns-clause-alone
returns-clause-alone c = told_backwards_alone
