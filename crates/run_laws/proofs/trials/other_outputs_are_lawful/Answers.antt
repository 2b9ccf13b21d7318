use Rattle.run_laws.proofs.Others.{nothing_is_lawful, overtaken_is_lawful, warming_told_is_lawful, memory_is_lawful, query_memory_is_lawful, overtaken_text_is}
use Rattle.run_laws.proofs.trials.other_outputs_are_lawful.Goals as goal

pub returns-clause-nothing : goal.returns-clause-nothing
returns-clause-nothing c = nothing_is_lawful

pub returns-clause-overtaken : goal.returns-clause-overtaken
returns-clause-overtaken c = overtaken_is_lawful

pub returns-clause-warming : goal.returns-clause-warming
returns-clause-warming c = warming_told_is_lawful

pub returns-clause-memory : goal.returns-clause-memory
returns-clause-memory c = memory_is_lawful

pub returns-clause-served : goal.returns-clause-served
returns-clause-served c = query_memory_is_lawful

pub returns-clause-superseded : goal.returns-clause-superseded
returns-clause-superseded c = overtaken_text_is
