-- What the end of a warming tells.
use Rattle.std.specs.Prelude.{ℕ, List}
use Rattle.searcher_table.specs.declared.tokens.Published.{Published}
use Rattle.searcher_table.specs.declared.tokens.Published.TheVariants.{Registered as AsRegistered, Superseded as AsSuperseded}
use Rattle.registry_core.specs.declared.journal.Happened.{Happened}
use Rattle.registry_core.specs.declared.journal.Happened.TheVariants.{Registered as WasRegistered, Superseded as WasSuperseded}
use Rattle.registry_core.specs.declared.finish.Finished.{Finished}
use Rattle.registry_core.specs.declared.finish.Finished.TheVariants.{Registered, Superseded}

-- in the journal
abbrev pub published_told : {U : Type 0} → ℕ → Published → Happened U (List ℕ)
published_told g (AsRegistered at old) = WasRegistered g
published_told g (AsSuperseded by at) = WasSuperseded g by

-- to the caller
abbrev pub finished_by : Published → Finished
finished_by (AsRegistered at old) = Registered at
finished_by (AsSuperseded by at) = Superseded by at
