-- The generator's configuration reads.
use Rattle.std.proofs.Common.{◌≡◌, Ok, refl}
use Rattle.std.specs.Str.{is_utf8, chars}
use lib.Utf8.{encode}
use Rattle.serde_json.proofs.OnLiterals.{serde_json_on_literals}
use Rattle.script_form.specs.ReadConfig.{text_config}
use Rattle.script_maker.specs.MadeConfig.{config_line, made_config}

pub config_reads : text_config config_line ≡ Ok made_config
unfolding serde_json_on_literals is_utf8 chars encode
config_reads = refl
