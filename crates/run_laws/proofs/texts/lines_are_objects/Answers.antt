use Rattle.run_laws.proofs.Written.{line_written, request_line_is_object, searcher_line_is_object}
use Rattle.run_laws.proofs.texts.lines_are_objects.Goals as goal

pub returns-clause-members : goal.returns-clause-members
returns-clause-members c = line_written

pub returns-clause-requests : goal.returns-clause-requests
returns-clause-requests c = request_line_is_object

pub returns-clause-searchers : goal.returns-clause-searchers
returns-clause-searchers c = searcher_line_is_object
