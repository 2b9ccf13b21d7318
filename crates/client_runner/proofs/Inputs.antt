-- What follows for an input that reads.
use Rattle.std.proofs.Common.{◌≡◌, refl, sym, ◌∙◌, ap, ℕ, zero, suc, map, ◌+◌, ◌<◌, ◌≤◌, List, [], ◌∷◌, length, Bool, true, false, ◌||◌, cond, nat_lt, Option, Some, None, Result, Ok, Err, arith, subst}
use Rattle.std.proofs.lemmas.Bool.Decides.{nat_tests}
use Rattle.std.specs.List.{AllByRecursion, range_with_len}
use Rattle.run_laws.specs.Lawful.{Ascends}
use Rattle.script_form.specs.declared.config.Config.{Config}
use Rattle.script_form.specs.declared.script.Line.{Line}
use Rattle.script_form.specs.declared.script.LineFault.{LineFault}
use Rattle.script_form.specs.declared.script.What.{What}
use Rattle.script_form.specs.Lines.{most_input, most_lines, too_large, lines_too_large, script_lines}
use Rattle.script_form.specs.declared.script.Front.{Front}
use Rattle.script_form.specs.declared.script.LineName.{LineName}
use Rattle.script_form.specs.declared.script.ScriptRefusal.TheVariants as refusal
use Rattle.script_form.specs.ReadConfig.{config_of}
use Rattle.script_form.specs.ReadScript.{most_clients}
use Rattle.script_form.specs.Ranges.{IsConfig, IsScript}
use Rattle.script_form.proofs.Ranges.{config_is}
use Rattle.searcher_core.specs.Shows.{AreSizes}
use Rattle.client_runner.specs.Sizes.{sizes_of}

first_false : (a b : Bool) → (a || b) ≡ false → a ≡ false
first_false true b h = h
first_false false b h = refl

second_false : (a b : Bool) → (a || b) ≡ false → b ≡ false
second_false true b h = absurd (grind (arith, nat_tests))
second_false false b h = h

not_less : (m n : ℕ) → nat_lt m n ≡ false → n ≤ m
not_less m n h = grind (arith, nat_tests)

less : (m n : ℕ) → m < n → nat_lt m n ≡ true
less m n h = grind (arith, nat_tests)

-- an input within the limits is no longer than the greatest
pub within_input : (input : List ℕ) → too_large input ≡ false → length input ≤ most_input
unfolding too_large
within_input input h = not_less most_input (length input) (first_false (nat_lt most_input (length input)) (lines_too_large (script_lines input)) h)

-- and has no more lines than the most
pub within_lines : (input : List ℕ) → too_large input ≡ false → length (script_lines input) ≤ most_lines
unfolding too_large
within_lines input h =
    let lines_within = second_false (nat_lt most_input (length input)) (lines_too_large (script_lines input)) h in
    not_less most_lines (length (script_lines input)) (first_false (nat_lt most_lines (length (script_lines input))) _ lines_within)

-- an input that is longer passes the limits
pub beyond_input : (input : List ℕ) → most_input < length input → too_large input ≡ true
unfolding too_large
beyond_input input h = ap (λ b. b || lines_too_large (script_lines input)) (less most_input (length input) h)

-- ---- the configuration

-- at least one searcher may be warming
pub some_warming : (input : List ℕ) (c : Config) → config_of input ≡ Ok c → 1 ≤ c.max_warming
some_warming input c h = (config_is input c h).max_warming.0

-- the caches' sizes are in their limits
pub sizes_are : (input : List ℕ) (c : Config) → config_of input ≡ Ok c → AreSizes (sizes_of c)
sizes_are input c h =
    let is : IsConfig c = config_is input c h in
    record { filters = is.filter_size; results = is.result_size; documents = is.document_size; window = is.window; most_docs = is.most_docs }

-- ---- the script

above : (m k n : ℕ) → k < n → AllByRecursion (λ q. k < q) (range_with_len n m)
above zero k n h = tt
above (suc m) k n h = (h, above m k (n + 1) (omega (arith, h)))

range_ascends : (m n : ℕ) → Ascends (range_with_len n m)
range_ascends zero n = tt
range_ascends (suc m) n = (above m n (n + 1) (omega arith), range_ascends m (n + 1))

-- so they ascend
pub numbers_ascend : (script : List Line) → IsScript most_clients script → Ascends (map (λ line. line.number) script)
numbers_ascend script is = subst Ascends (sym is.numbers) (range_ascends (length script) 1)
