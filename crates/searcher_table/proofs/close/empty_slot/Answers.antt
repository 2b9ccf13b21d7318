use Rattle.std.proofs.Common.{◌+◌, ◌-◌, length, length-append, vec_capacity, [], ◌∷◌, sym, ap, ◌∙◌, subst, arith}
use Rattle.std.specs.Arc.{arc_value}
use Rattle.searcher_table.specs.Doors.{held_in}
use Rattle.searcher_table.specs.Closing.{IsRowTo}
use Rattle.searcher_table.proofs.Closing.{gone_next, row_with, row_without}
use Rattle.searcher_table.proofs.close.empty_slot.Goals.{in-Some, in-None}
use Rattle.searcher_table.proofs.close.empty_slot.Goals as goal

pub loop-caller-preserved : goal.loop-caller-preserved
loop-caller-preserved g c =
    let i = c.loop-caller.invariant in
    let t = c.take_out.ensures.door in
    let k = c.args.place.now.me.0 in
    let m = c.loop-caller.place.me.0 in
    let n = c.take_out.new.place.me.0 in
    let next = gone_next g.D.Shown.setting g.D.Shown.docs g.D.Shown.list _ k m n c.args.slot c.loop-caller.caller c.take_out.result i.some i.gone t in
    let few = i.few in
    let room = i.room in
    elim c.match-take_out.branch [
      | in-Some w ↦ record {
        table = c.take_out.ensures.table ∙ i.table;
        some = omega arith;
        gone = next;
        row = subst (λ items. IsRowTo g.D.Shown.setting g.D.Shown.docs g.D.Shown.list (arc_value c.args.table.now).shared.key k.seen (held_in k.seen c.args.slot) (c.loop-caller.caller + 1 - 1) items) (sym (ap (λ v. v.items) w.row-is ∙ w.push_reserved.ensures.items))
            (row_with g.D.Shown.setting g.D.Shown.docs g.D.Shown.list _ k m n c.args.slot c.loop-caller.caller c.take_out.result i.some i.gone t c.loop-caller.row.items w.in-Some.door w.in-Some.is i.row);
        few = (let a = ap (λ v. length v.items) w.row-is in let b = ap length w.push_reserved.ensures.items in let d = length-append c.loop-caller.row.items (w.in-Some.door ∷ []) in omega arith);
        room = (let a = ap vec_capacity w.row-is in let b = w.push_reserved.ensures.capacity in omega arith);
      }
      | in-None w ↦ record {
        table = c.take_out.ensures.table ∙ i.table;
        some = omega arith;
        gone = next;
        row = subst (λ items. IsRowTo g.D.Shown.setting g.D.Shown.docs g.D.Shown.list (arc_value c.args.table.now).shared.key k.seen (held_in k.seen c.args.slot) (c.loop-caller.caller + 1 - 1) items) (sym (ap (λ v. v.items) w.row-is))
            (row_without g.D.Shown.setting g.D.Shown.docs g.D.Shown.list _ k m n c.args.slot c.loop-caller.caller c.take_out.result i.some i.gone t c.loop-caller.row.items w.in-None.is i.row);
        few = (let a = ap (λ v. length v.items) w.row-is in omega arith);
        room = (let a = ap vec_capacity w.row-is in omega arith);
      }
    ]
