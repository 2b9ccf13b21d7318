use Rattle.std.proofs.Common.{◌≡◌, ◌+◌, ◌<◌, [], List, length, sym, ap, subst, ◌∙◌, arith}
use Rattle.segment_postings.specs.declared.laid.Term.{Term}
use Rattle.segment_postings.specs.declared.occurrence.Place.{Place}
use Rattle.segment_postings.specs.Layout.{add_term}
use Rattle.segment_postings.proofs.Joining.{take_all}
use Rattle.segment_postings.proofs.Laying.{Laid, laid_none, lays_one}
use Rattle.segment_postings.proofs.laid.Laid.new.Goals as goal

pub loop-occurrence-init : goal.loop-occurrence-init
loop-occurrence-init c =
    subst (λ (ts : List Term). Laid c.args.found.now 0 ts c.in_ok-places.places.items) (sym c.new-terms.ensures.items)
    (subst (λ (ps : List Place). Laid c.args.found.now 0 [] ps) (sym c.in_ok-places.ensures.items) (laid_none c.args.found.now))

pub loop-occurrence-preserved : goal.loop-occurrence-preserved
loop-occurrence-preserved c =
    let os = c.args.found.now in
    let o = c.occurrence-item.result in
    let i = c.loop-occurrence.occurrence-index in
    let within : i < length os = omega arith in
    let ps = c.loop-occurrence.places.items in
    let step = lays_one os i c.loop-occurrence.terms.items ps o c.requires within c.occurrence-item.is c.loop-occurrence.invariant in
    let start : length ps ≡ c.len.result = omega (arith, c.len.ensures) in
    let terms = ap (add_term c.loop-occurrence.terms.items o.key) start ∙ sym c.in_ok-add_term.ensures in
    subst (λ (ts : List Term). Laid os (i + 1) ts c.push.new.self.items) terms
    (subst (λ (qs : List Place). Laid os (i + 1) (add_term c.loop-occurrence.terms.items o.key (length ps)) qs) (sym c.in_ok-push.ensures.items) step)

pub invariant_of-result : goal.invariant_of-result
invariant_of-result c = (c.loop-occurrence.invariant.laid, c.loop-occurrence.invariant.rising)

pub returns : goal.returns
returns c = c.loop-occurrence.invariant.is ∙ take_all c.loop-occurrence.occurrence-index c.args.found.now c.loop-occurrence-test.false
