use Rattle.std.proofs.Common.{◌≡◌, true, false, rules}
use Rattle.segment_postings.specs.Terms.{is_before}
use Rattle.segment_postings.proofs.TermWalks.{alone_left, alone_right, lower_left, lower_right}
use Rattle.segment_postings.proofs.combining.least.Goals as goal

pub returns-in-len1-up-right : goal.returns-in-len1-up-right
returns-in-len1-up-right c = alone_right c.args.left.now c.args.right.now c.other-item.result c.in-empty.len_below c.in-len1-up-right.len_at_least c.other-item.is

pub returns-in-empty-right-2 : goal.returns-in-empty-right-2
returns-in-empty-right-2 c = alone_left c.args.left.now c.args.right.now c.one-item.result c.in-len1-up.len_at_least c.in-empty-right-2.len_below c.one-item.is

pub returns-then-is_lt : goal.returns-then-is_lt
returns-then-is_lt c =
    let before : is_before c.other-item-in-len1-up.result.key c.one-item.result.key ≡ true = search rules in
    lower_right c.args.left.now c.args.right.now c.one-item.result c.other-item-in-len1-up.result c.in-len1-up.len_at_least c.in-len1-up-right-2.len_at_least c.one-item.is c.other-item-in-len1-up.is before

pub returns-else-is_lt : goal.returns-else-is_lt
returns-else-is_lt c =
    let low : is_before c.other-item-in-len1-up.result.key c.one-item.result.key ≡ false = search rules in
    lower_left c.args.left.now c.args.right.now c.one-item.result c.other-item-in-len1-up.result c.in-len1-up.len_at_least c.in-len1-up-right-2.len_at_least c.one-item.is c.other-item-in-len1-up.is low
