use Rattle.std.proofs.Common.{ap, sym, subst, ◌∙◌}
use Rattle.std.specs.FinSet.{from_list}
use Rattle.std.specs.List.{list_any}
use Rattle.std.proofs.lemmas.List.{take_all}
use Rattle.doc_sets.specs.Sets.{is_in}
use Rattle.search_model.specs.Live.{has_id}
use Rattle.segment_postings.specs.Numbered.{IsNumbered, numbers}
use Rattle.served_index.specs.Standing.{is_under, numbers_where}
use Rattle.served_index.proofs.Leaving.{nothing_where}
use Rattle.served_index.proofs.Uniques.{field_more, in_fields}
use Rattle.served_index.proofs.gone.numbers_with_id.Goals as goal

pub returns-then-len-eq0-clause-found : goal.returns-then-len-eq0-clause-found
returns-then-len-eq0-clause-found c = λ n.
    let same = c.new-probe.ensures.view in
    ap (λ ns. is_in ns n) (c.new-found.ensures.items
    ∙ sym (nothing_where (has_id c.args.id.now) c.args.view.now.seen c.live.result.now (subst IsNumbered same c.live.ensures.numbered)
    (c.live.ensures.numbers ∙ ap (λ v. from_list (numbers v)) same) (sym c.len.ensures.count ∙ c.if-len-eq0.true)))

pub loop-key-init : goal.loop-key-init
loop-key-init c = record { view = c.new-probe.ensures.view; found = λ n. ap (λ ns. is_in ns n) c.new-found.ensures.items }

pub add_with_id-requires : goal.add_with_id-requires
add_with_id-requires c = subst IsNumbered (c.new-probe.ensures.view ∙ sym c.loop-key.invariant.view) c.live.ensures.numbered

pub loop-key-preserved : goal.loop-key-preserved
loop-key-preserved c =
    field_more c.args.view.now.seen c.loop-key.probe.view.now.seen c.add_with_id.new.probe.view.now.seen c.args.id.now c.loop-key.found.items c.add_with_id.new.found.items c.args.keys.now c.loop-key.key-index 0
    c.loop-key-test.true c.loop-key.invariant c.add_with_id.ensures.view c.in_ok-add_with_id.ensures.found

pub returns-clause-found : goal.returns-clause-found
returns-clause-found c = λ n.
    let v = c.args.view.now.seen in
    let is = subst IsNumbered c.new-probe.ensures.view c.live.ensures.numbered in
    c.loop-key.invariant.found n
    ∙ ap (list_any (λ field. is_in (numbers_where (is_under field c.args.id.now) v.list) n)) (take_all c.loop-key.key-index c.args.keys.now c.loop-key-test.false)
    ∙ in_fields c.args.keys.now v c.args.id.now is c.requires n
