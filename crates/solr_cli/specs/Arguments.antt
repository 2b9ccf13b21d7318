-- What the arguments of the program become.
use Rattle.std.specs.Prelude.{◌≡◌, ◌≢◌, ℕ, List, [], drop, Result, Ok, Err, IfOk}
use Rattle.std.specs.declared.alloc.Global.{Global}
use Rattle.std.specs.declared.io.Error.{Error}
use Rattle.std.specs.declared.io.ErrorKind.TheVariants.{OutOfMemory}
use Rattle.std.specs.declared.string.String.{String}
use Rattle.std.specs.declared.vec.IntoIter.{IntoIter}
use Rattle.std.specs.declared.vec.Vec.{Vec}
use Rattle.std.specs.IoError.{error_kind}
use Rattle.std.specs.Vec.Iter.{into_iter_items}
use Rattle.field_schema.specs.declared.memory.NoMemory.{NoMemory}

-- the words are the arguments behind the program's name; there are none where an argument is no text, and where memory was wanting for the arguments it is told
abbrev pub AreWords : Result (IntoIter (String Global) Global) Error → Result (Vec (String Global) Global) NoMemory → Type 0
AreWords (Ok args) words = IfOk words (λ ws. ws.items ≡ drop 1 (into_iter_items args))
AreWords (Err error) (Ok words) = (error_kind error ≢ OutOfMemory) × (words.items ≡ [])
AreWords (Err error) (Err no_memory) = error_kind error ≡ OutOfMemory
