use Rattle.std.proofs.Common.{refl}
use Rattle.std.specs.Fmt.{digits}
use Rattle.request_form.proofs.laws.messages_tell_the_fault.Goals as goal

pub returns-clause-query : goal.returns-clause-query
unfolding digits
returns-clause-query c = refl

pub returns-clause-filter : goal.returns-clause-filter
unfolding digits
returns-clause-filter c = refl

pub returns-clause-sort : goal.returns-clause-sort
unfolding digits
returns-clause-sort c = refl

pub returns-clause-delete : goal.returns-clause-delete
unfolding digits
returns-clause-delete c = refl
