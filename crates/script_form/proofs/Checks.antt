-- Checks in a row.
use Rattle.std.proofs.Common.{Result, Err, refl}
use Rattle.field_schema.specs.Outcome.{Gives}
use Rattle.script_form.specs.ReadConfig.{is_no_memory}
use Rattle.script_form.specs.Results.{result_then}
use Rattle.script_form.specs.declared.config.ConfigRefusal.{ConfigRefusal}
use Rattle.script_form.specs.declared.config.ConfigRefusal.TheVariants as refusal

-- the first check that fails is told for all of them
pub stops : {A B : Type 0} (e : ConfigRefusal) (r : Result A ConfigRefusal) (next : A → Result B ConfigRefusal) → Gives is_no_memory (Err e) r → Gives is_no_memory (Err e) (result_then r next)
stops (refusal.Fault fault) r next h = rw h refl
stops refusal.NoMemory r next h = tt
