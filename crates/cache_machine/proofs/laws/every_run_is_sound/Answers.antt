use Rattle.cache_machine.proofs.Sound.{sound_empty, sound_run}
use Rattle.cache_machine.specs.Machine.{empty_cache}
use Rattle.cache_machine.proofs.laws.every_run_is_sound.Goals as goal

pub returns : goal.returns
returns g c weight size greatest seats steps to run =
    sound_run g.met.K.Eq.laws weight steps (empty_cache size greatest seats) to run (sound_empty g.met.K.Eq.laws weight size greatest seats)
