-- The machine's calls at results.
use Rattle.std.specs.Prelude.{ℕ}
use Rattle.cache_machine.specs.declared.look.Look.{Look}
use Rattle.cache_machine.specs.Machine.{Cache, look_answer, after_look, finished}
use Rattle.result_cache.specs.declared.entry.Entry.{Entry}
use Rattle.result_cache.specs.declared.key.ResultKey.{ResultKey}
use Rattle.result_cache.specs.Keys.{result_key_eq}
use Rattle.result_cache.specs.Entries.{result_weight, serves, is_short}

-- keys with their entries, and by seat the key whose result its caller is computing
abbrev pub Results : Type 0
Results = Cache ResultKey Entry

abbrev pub result_answer : ResultKey → ℕ → Results → Look ResultKey Entry
result_answer key need c = look_answer result_key_eq (serves need) key c

abbrev pub after_result_look : ResultKey → ℕ → ℕ → Results → Results
after_result_look key need seat c = after_look result_key_eq (serves need) key seat c

-- an entry is kept where it lists at most so many
abbrev pub result_given : ℕ → Entry → ℕ → Results → Results
result_given seat e most c = finished result_key_eq result_weight seat e (is_short most e) c
