use Rattle.std.proofs.Common.{rules, tests, ◌≡◌, ℕ, List, ◌∙◌}
use Rattle.std.specs.Char.{is_ascii_digit}
use Rattle.std.specs.List.{list_all}
use Rattle.std.proofs.lemmas.Iterator.Adapters.{YieldsList-from_bytes}
use Rattle.std.proofs.lemmas.Iterator.Search.{all_from_yields_List}
use Rattle.request_form.proofs.Counts.{all_digits}
use Rattle.request_form.proofs.value.are_digits.Goals as goal

pub returns : goal.returns
returns c =
    let text : List ℕ = c.args.value.now in
    let each : c.all.result ≡ list_all is_ascii_digit text =
    all_from_yields_List is_ascii_digit _ _ c.all.result c.all.ensures.ran (YieldsList-from_bytes text cc) (λ x b q k. search (rules, tests)) in
    each ∙ all_digits text
