use Rattle.std.proofs.Common.{string_bytes, ap, sym, ◌∙◌, arith}
use Rattle.script_maker.specs.Made.{number_after_turn, turn_behind, turn_lines}
use Rattle.script_maker.specs.Written.{script_text}
use Rattle.script_maker.proofs.Joins.{no_number, no_turn, number_more, one_more, piece_is}
use Rattle.script_maker.proofs.making.put_turns.Goals as goal

pub loop-index-init : goal.loop-index-init
loop-index-init c = record {
  written = no_turn (string_bytes c.args.out.now) c.args.n;
  number = c.from-x.ensures ∙ sym (no_number c.args.n);
  small = omega (arith, c.requires);
}

pub loop-index-preserved : goal.loop-index-preserved
loop-index-preserved c =
    let index = c.loop-index.index in
    let number = c.loop-index.invariant.number in
    record {
      written =
          one_more c.args.n index c.loop-index.invariant.written
          (piece_is (ap (λ t. script_text (turn_lines t)) (c.turn_behind-behind.ensures.turn ∙ ap (λ x. turn_behind x index) number)) c.in_ok-put_turn.ensures);
      number = c.turn_behind-behind.ensures.number ∙ ap number_after_turn number ∙ sym (number_more c.args.n index);
      small = c.turn_behind-behind.ensures.small;
    }
