use Rattle.std.proofs.Common.{ℕ, List, ap, sym, ◌∙◌}
use Rattle.std.specs.List.{list_any}
use Rattle.std.proofs.lemmas.List.Folds.{list_any_at}
use Rattle.std.proofs.lemmas.Iterator.Consumers.{YieldsList-end, YieldsList-turn}
use Rattle.std.proofs.lemmas.Iterator.Adapters.{YieldsList-from_vec}
use Rattle.field_schema.specs.Tokens.{tokens}
use Rattle.field_schema.specs.declared.key.Key.TheVariants as key
use Rattle.query_eval.specs.Sought.{seeks}
use Rattle.query_eval.proofs.Parts.{map_same, some_token}
use Rattle.query_eval.proofs.matching.value_has.Goals as goal

pub returns-then-takes : goal.returns-then-takes
returns-then-takes c =
    let items = c.into_vec-token-items.result.items in
    let p = λ (t : List ℕ). seeks c.args.sought.now (key.Token t) in
    let road = YieldsList-from_vec {s = c.into_iter-token-iterator.result} items (cc) (cc) in
    let turn = YieldsList-turn road c.loop-token.yielded c.loop-token.token-iterator c.loop-token.yielded_by c.next.result c.next.new.self c.in-Some.token c.in-Some.is c.next.ensures.steps in
    sym (list_any_at p items _ c.in-Some.token turn.0 (ap p (sym turn.1) ∙ sym c.takes-in-loop-token.ensures ∙ c.if-takes.true))
    ∙ some_token (seeks c.args.sought.now) c.args.value.now c.in-Token.text items c.in-Token.is (c.into_vec-token-items.ensures ∙ c.in_ok-tokens.ensures ∙ ap tokens c.get.ensures)

pub returns : goal.returns
returns c =
    let items = c.into_vec-token-items.result.items in
    let road = YieldsList-from_vec {s = c.into_iter-token-iterator.result} items (cc) (cc) in
    let end = YieldsList-end road c.loop-token.yielded c.loop-token.token-iterator c.loop-token.yielded_by c.next.result c.next.new.self c.in-None.is c.next.ensures.steps in
    sym c.loop-token.invariant.0
    ∙ ap (list_any (λ t. seeks c.args.sought.now (key.Token t))) (sym (map_same c.loop-token.yielded) ∙ end.0)
    ∙ some_token (seeks c.args.sought.now) c.args.value.now c.in-Token.text items c.in-Token.is (c.into_vec-token-items.ensures ∙ c.in_ok-tokens.ensures ∙ ap tokens c.get.ensures)
