use Rattle.std.proofs.Common.{◌<◌, ◌∷◌, [], ◌++◌, length, map, take, filter, fold, sym, ap, subst, ◌∙◌, arith}
use Rattle.std.specs.Arc.{arc_value}
use Rattle.std.specs.List.{flat_map}
use Rattle.field_schema.specs.Values.{values_at}
use Rattle.segment_postings.specs.Segments.{Part}
use Rattle.segment_postings.specs.Terms.{put_key, terms_from}
use Rattle.segment_postings.specs.Views.{Indexed, terms_of}
use Rattle.segment_postings.proofs.Joining.{take_all}
use Rattle.segment_postings.proofs.ViewLoops.{TermsSoFar, no_terms, joins_part, mapped_take, late}
use Rattle.segment_postings.proofs.TermsOfViews.{first_terms}
use Rattle.segment_postings.proofs.view.View.terms_from.Goals as goal

pub loop-part-init : goal.loop-part-init
loop-part-init c = subst (TermsSoFar c.args.field c.args.from.now c.args.most []) (sym c.new-found.ensures.items) (no_terms c.args.field c.args.from.now c.args.most)

pub loop-part-preserved : goal.loop-part-preserved
loop-part-preserved c =
    let xs = c.as_slice-parts.result.now in
    let within : c.loop-part.part-index < length xs = omega arith in
    let ps = map arc_value (take c.loop-part.part-index xs) in
    let p = c.deref.result.now in
    let step = joins_part c.args.field c.args.from.now c.args.most ps p c.loop-part.found.items c.add_terms.new.found.items c.loop-part.invariant c.in_ok-add_terms.ensures.found c.in_ok-add_terms.ensures.ascending c.in_ok-add_terms.ensures.few in
    let list = mapped_take arc_value xs c.loop-part.part-index c.part-item.result within c.part-item.is ∙ ap (λ (q : Part). ps ++ q ∷ []) (sym c.deref.ensures) in
    subst (λ qs. TermsSoFar c.args.field c.args.from.now c.args.most qs c.add_terms.new.found.items) (sym list) step

pub returns : goal.returns
returns c =
    let xs = c.as_slice-parts.result.now in
    c.loop-part.invariant.is
    ∙ ap (λ ys. take c.args.most (fold put_key [] (flat_map (λ (p : Part). filter (late c.args.from.now) (values_at p.keys c.args.field)) (map arc_value ys)))) (take_all c.loop-part.part-index xs c.loop-part-test.false ∙ c.as_slice-parts.ensures.value)
    ∙ first_terms c.args.field c.args.from.now c.args.most (map arc_value c.self.inside.parts.items)
    ∙ ap (λ (v : Indexed). terms_from (terms_of v.keys c.args.field) c.args.from.now c.args.most) c.self.view_is
