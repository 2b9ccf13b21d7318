-- What each configuration and each script that is read keep.
use Rattle.std.specs.Prelude.{◌≡◌, ℕ, ◌≤◌, List, length, map, Ok, ⊤, slice_get, IsSomeAnd, IsTrue, MatchOption}
use Rattle.std.specs.Bool.{MatchBool}
use Rattle.std.specs.List.{All, range_with_len}
use Rattle.field_schema.specs.Schema.{Fields, IsSchema}
use Rattle.request_form.specs.Ranges.{IsRequest}
use Rattle.script_form.specs.declared.config.Config.{Config}
use Rattle.script_form.specs.declared.config.WarmSetting.{WarmSetting}
use Rattle.script_form.specs.declared.script.Line.{Line}
use Rattle.script_form.specs.declared.script.What.{What}
use Rattle.script_form.specs.declared.script.What.TheVariants as what
use Rattle.script_form.specs.ReadConfig.{config_of}
use Rattle.script_form.specs.ReadScript.{front_of, script_of}

-- from low to high
abbrev pub IsWithin : ℕ → ℕ → ℕ → Type 0
IsWithin low high n = (low ≤ n) × (n ≤ high)

-- a percentage, or a number of entries
abbrev pub IsWarmSetting : WarmSetting → Type 0
IsWarmSetting warm = MatchBool warm.percent (warm.number ≤ 100) (warm.number ≤ 4096)

-- the place of an indexed field
abbrev pub IsIndexed : Fields → ℕ → Type 0
IsIndexed s n = IsSomeAnd (slice_get s.list n) (λ f. IsTrue f.indexed)

pub record IsConfig (c : Config) : Type 0 where
  pub schema : IsSchema c.schema
  pub filter_size : IsWithin 1 4096 c.filter_size
  pub filter_warm : IsWarmSetting c.filter_warm
  pub result_size : IsWithin 1 4096 c.result_size
  pub result_warm : IsWarmSetting c.result_warm
  pub document_size : IsWithin 1 4096 c.document_size
  pub window : IsWithin 1 4096 c.window
  pub most_docs : IsWithin 1 4096 c.most_docs
  pub max_warming : IsWithin 1 4 c.max_warming
  pub most_clauses : IsWithin 1 65535 c.most_clauses
  pub warmers : IsWithin 1 4 c.warmers
  pub df : MatchOption c.df ⊤ (IsIndexed c.schema)
  pub first : All IsRequest c.first
  pub fresh : All IsRequest c.fresh

-- a configuration that some input begins with keeps them
abbrev pub ReadConfigIsWithinRanges : Type 0
ReadConfigIsWithinRanges = (input : List ℕ) (c : Config) → config_of input ≡ Ok c → IsConfig c

-- ---- scripts

-- the client that a line asks for, where it asks for something, is one of so many
abbrev pub HasClient : ℕ → What → Type 0
HasClient clients (what.Add client body) = IsWithin 1 clients client
HasClient clients (what.Delete client body) = IsWithin 1 clients client
HasClient clients (what.Query client body) = IsWithin 1 clients client
HasClient clients (what.Commit client body) = IsWithin 1 clients client
HasClient clients what.PhaseEnd = ⊤
HasClient clients what.Nothing = ⊤

-- lines numbered from 1, of so many clients
pub record IsScript (clients : ℕ) (ls : List Line) : Type 0 where
  pub numbers : map (λ l. l.number) ls ≡ range_with_len 1 (length ls)
  pub asked : All (λ l. HasClient clients l.what) ls

-- the lines before a script's first fault are such lines, and no more than there are in all
abbrev pub ReadFrontIsScript : Type 0
ReadFrontIsScript = (clients : ℕ) (ls : List (List ℕ)) → IsScript clients (front_of clients ls).lines × (length (front_of clients ls).lines ≤ length ls)

-- a script without a fault is such lines, one for each
abbrev pub ReadScriptIsScript : Type 0
ReadScriptIsScript = (clients : ℕ) (ls : List (List ℕ)) (read : List Line) → script_of clients ls ≡ Ok read → IsScript clients read × (length read ≡ length ls)
