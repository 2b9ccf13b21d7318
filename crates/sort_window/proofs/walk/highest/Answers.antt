use Rattle.std.proofs.Common.{◌≡◌, ◌-◌, [], length, drop, reverse, sym, ap, ◌∙◌, rules}
use Rattle.doc_sets.specs.Sets.{members}
use Rattle.sort_window.proofs.Walks.{all_taken, last_turned}
use Rattle.sort_window.proofs.walk.highest.Goals as goal

pub returns : goal.returns
returns c =
    let all = members c.args.set.now in
    let ended : c.loop-number.number-iterator ≡ [] = search rules in
    let turned : c.reverse.new.self.items ≡ reverse c.loop-number.numbers.items = search rules in
    turned ∙ ap reverse (sym (all_taken (drop (length all - c.args.most) all) c.loop-number.numbers.items c.loop-number.number-iterator c.loop-number.before c.loop-number.invariant ended))
    ∙ last_turned c.args.most all
