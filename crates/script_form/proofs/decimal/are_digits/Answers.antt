use Rattle.std.proofs.Common.{rules, tests, ◌≡◌, ◌<◌, ◌&&◌, ℕ, List, length, Bool, sym, ap, ◌∙◌, arith}
use Rattle.std.specs.Char.{is_ascii_digit}
use Rattle.std.specs.List.{list_all}
use Rattle.std.specs.Str.{all_ascii_digits}
use Rattle.std.proofs.lemmas.Bool.{lt-ltb}
use Rattle.std.proofs.lemmas.Iterator.Adapters.{YieldsList-from_bytes}
use Rattle.std.proofs.lemmas.Iterator.Search.{all_from_yields_List}
use Rattle.script_form.proofs.Decimals.{all_digits}
use Rattle.script_form.proofs.decimal.are_digits.Goals as goal

pub returns-then-not-is_empty : goal.returns-then-not-is_empty
returns-then-not-is_empty c =
    let text : List ℕ = c.args.text.now in
    let each : c.all.result ≡ list_all is_ascii_digit text =
    all_from_yields_List is_ascii_digit _ _ c.all.result c.all.ensures.ran (YieldsList-from_bytes text cc) (λ x b q k. search (rules, tests)) in
    let some : 0 < length text = grind arith in
    each ∙ all_digits text ∙ ap (λ (b : Bool). b && all_ascii_digits text) (sym (lt-ltb 0 (length text) some))
