use Rattle.std.proofs.Common.{◌≡◌, ◌+◌, ◌<◌, ◌++◌, ◌∷◌, [], List, cond, length, map, take, sym, ap, ◌∙◌, append_assoc, arith}
use Rattle.std.specs.Arc.{arc_value}
use Rattle.std.proofs.lemmas.List.{length-map, length-take-le}
use Rattle.std.specs.FinSet.{contains}
use Rattle.doc_model.specs.Document.{Document}
use Rattle.segment_postings.specs.Views.{live_from}
use Rattle.segment_postings.proofs.Joining.{take_all}
use Rattle.segment_postings.proofs.ViewLoops.{mapped_take}
use Rattle.segment_postings.proofs.Packed.{live_from-push}
use Rattle.segment_postings.proofs.packing.add_live.Goals as goal

pub loop-doc-preserved : goal.loop-doc-preserved
loop-doc-preserved c =
    let xs = c.args.docs.now in
    let live = c.args.live.now in
    let within : c.loop-doc.doc-index < length xs = omega arith in
    let d : Document = arc_value c.doc-item.result in
    let ds = map arc_value (take c.loop-doc.doc-index xs) in
    let at : c.loop-doc.number ≡ c.args.base + length ds = omega (arith, c.loop-doc.invariant.at, length-map (take c.loop-doc.doc-index xs) arc_value, length-take-le c.loop-doc.doc-index xs (omega arith)) in
    let list = mapped_take arc_value xs c.loop-doc.doc-index c.doc-item.result within c.doc-item.is in
    record {
      at = omega (arith, c.loop-doc.invariant.at);
      so_far =
          c.in_ok-add_where.ensures
          ∙ (λ j. c.loop-doc.invariant.so_far j ++ cond (c.has.ensures.member j) (d ∷ []) [])
          ∙ append_assoc (map arc_value c.args.all.now.items) (live_from live c.args.base ds) (cond (contains live c.loop-doc.number) (d ∷ []) [])
          ∙ ap (λ n. map arc_value c.args.all.now.items ++ (live_from live c.args.base ds ++ cond (contains live n) (d ∷ []) [])) at
          ∙ ap (λ (ys : List Document). map arc_value c.args.all.now.items ++ ys) (sym (live_from-push live c.args.base ds d) ∙ ap (live_from live c.args.base) (sym list));
    }

pub returns : goal.returns
returns c = c.loop-doc.invariant.so_far ∙ ap (λ ys. map arc_value c.args.all.now.items ++ live_from c.args.live.now c.args.base (map arc_value ys)) (take_all c.loop-doc.doc-index c.args.docs.now c.loop-doc-test.false)
