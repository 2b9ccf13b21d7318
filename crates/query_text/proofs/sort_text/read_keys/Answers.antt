use Rattle.std.proofs.Common.{◌+◌, ◌-◌, List, length, Ok, sym, ap, ◌∙◌}
use Rattle.std.specs.Option.{option_to_list}
use Rattle.query_tree.specs.declared.sort.SortKey.{SortKey}
use Rattle.query_text.specs.Sorts.{sort_from}
use Rattle.query_text.proofs.Turns.{stated}
use Rattle.query_text.proofs.SortTurns.{sort_fault, sort_last, sort_more, sort_none}
use Rattle.query_text.proofs.sort_text.read_keys.Goals as goal

pub returns-in-Err-item_key : goal.returns-in-Err-item_key
returns-in-Err-item_key c =
    stated _ _
    (sym c.loop-turn.invariant
    ∙ sort_fault (length c.args.letters.now + 1) c.loop-turn.turn c.args.end c.args.schema.now.list c.loop-turn.keys.items c.loop-turn.rest.now c.in-Ok.read.1.now c.in-Ok.read.0 c.in-Err-item_key.fault c.loop-turn-test.true c.in-Ok.ensures c.in-Err-item_key.ensures)

pub returns-then-not-item : goal.returns-then-not-item
returns-then-not-item c =
    sym c.loop-turn.invariant
    ∙ sort_last (length c.args.letters.now + 1) c.loop-turn.turn c.args.end c.args.schema.now.list c.loop-turn.keys.items (option_to_list c.in-Ok-item_key.key) c.loop-turn.rest.now c.in-Ok.read.1.now c.in-Ok.read.0 c.loop-turn-test.true c.in-Ok.ensures c.in-Ok-item_key.ensures c.if-not-item.true
    ∙ ap Ok (sym c.in_ok-add_key.ensures.ok)

pub loop-turn-preserved : goal.loop-turn-preserved
loop-turn-preserved c =
    ap (λ (keys : List SortKey). sort_from (length c.args.letters.now + 1 - (c.loop-turn.turn + 1)) c.args.schema.now.list c.args.end keys c.in-Ok.read.1.now) c.in_ok-add_key.ensures.ok
    ∙ sym (sort_more (length c.args.letters.now + 1) c.loop-turn.turn c.args.end c.args.schema.now.list c.loop-turn.keys.items (option_to_list c.in-Ok-item_key.key) c.loop-turn.rest.now c.in-Ok.read.1.now c.in-Ok.read.0 c.loop-turn-test.true c.in-Ok.ensures c.in-Ok-item_key.ensures c.if-not-item.false)
    ∙ c.loop-turn.invariant

pub returns : goal.returns
returns c =
    sym c.loop-turn.invariant
    ∙ sort_none (length c.args.letters.now + 1) c.loop-turn.turn c.args.end c.args.schema.now.list c.loop-turn.keys.items c.loop-turn.rest.now c.loop-turn-test.false
