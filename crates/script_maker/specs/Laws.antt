-- What holds of scripts that are written, and of those that are made.
use Rattle.std.specs.Prelude.{◌≡◌, ℕ, List, Ok, false}
use Rattle.std.specs.List.{All}
use Rattle.std.specs.Str.Lines.{lines}
use Rattle.script_form.specs.Lines.{script_lines, too_large}
use Rattle.script_form.specs.Ranges.{IsWithin}
use Rattle.script_form.specs.ReadConfig.{config_of}
use Rattle.script_form.specs.ReadScript.{most_clients, script_of}
use Rattle.script_form.specs.declared.script.What.{What}
use Rattle.script_maker.specs.MadeConfig.{made_config}
use Rattle.script_maker.specs.Made.{made, made_lines}
use Rattle.script_maker.specs.Written.{IsPlainLine, numbered, script_text}

-- so many documents may be made
abbrev pub IsCount : ℕ → Type 0
IsCount n = IsWithin 1 20000 n

-- a script of plain lines reads, as a text, to what it was written of
abbrev pub PlainLinesReadBack : Type 0
PlainLinesReadBack = (asked : List What) → All IsPlainLine asked →
    script_of most_clients (lines (script_text asked)) ≡ Ok (numbered 1 asked)

-- a made script has the generator's configuration
abbrev pub MadeConfigReads : Type 0
MadeConfigReads = (n : ℕ) → IsCount n → config_of (made n) ≡ Ok made_config

-- its lines read to what the turns ask for
abbrev pub MadeScriptReads : Type 0
MadeScriptReads = (n : ℕ) → IsCount n →
    script_of most_clients (script_lines (made n)) ≡ Ok (numbered 1 (made_lines n))

-- and it passes no limit
abbrev pub MadeIsWithinLimits : Type 0
MadeIsWithinLimits = (n : ℕ) → IsCount n → too_large (made n) ≡ false
