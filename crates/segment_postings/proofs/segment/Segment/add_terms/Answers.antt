use Rattle.std.proofs.Common.{◌≡◌, [], length, get_or, not, map, filter, fold, take, sym, ap, ◌∙◌, arith}
use Rattle.std.proofs.lemmas.Bool.{ltb-false}
use Rattle.field_schema.specs.declared.key.Key.{Key}
use Rattle.field_schema.specs.Values.{values_at}
use Rattle.segment_postings.specs.declared.occurrence.Occurrence.{Occurrence}
use Rattle.segment_postings.specs.Terms.{is_before, put_key}
use Rattle.segment_postings.specs.Segments.{Part, field_at}
use Rattle.segment_postings.proofs.Joining.{take_all}
use Rattle.segment_postings.proofs.SegmentLaws.{keys_at, past_end}
use Rattle.segment_postings.proofs.segment.Segment.add_terms.Goals as goal

pub returns-in-None-clause-found : goal.returns-in-None-clause-found
returns-in-None-clause-found c =
    let fields = c.self.inside.fields.items in
    let late = λ (k : Key). not (is_before k c.args.from.now) in
    let len = ap length c.as_slice.ensures.value in
    let past = ltb-false c.args.field (length c.as_slice.result.now) (sym c.in-None.ensures.lookup.0) in
    let none : field_at fields c.args.field ≡ [] = past_end fields c.args.field [] (omega (arith, past, len)) in
    sym (take_all c.args.most c.args.found.now.items c.requires.few)
    ∙ ap (λ ks. take c.args.most (fold put_key c.args.found.now.items (filter late ks)))
    (ap (map (λ (o : Occurrence). o.key)) (sym none) ∙ sym (keys_at fields c.args.field) ∙ ap (λ (p : Part). values_at p.keys c.args.field) c.self.view_is)

pub returns-in_ok-add_terms-in-Some-clause-found : goal.returns-in_ok-add_terms-in-Some-clause-found
returns-in_ok-add_terms-in-Some-clause-found c =
    let fields = c.self.inside.fields.items in
    let late = λ (k : Key). not (is_before k c.args.from.now) in
    let same : c.in-Some.laid.now ≡ field_at fields c.args.field = c.in-Some.ensures.lookup.3.1 [] ∙ ap (λ fs. get_or fs c.args.field []) c.as_slice.ensures.value in
    c.in_ok-add_terms-in-Some.ensures.found
    ∙ ap (λ ks. take c.args.most (fold put_key c.args.found.now.items (filter late ks)))
    (ap (map (λ (o : Occurrence). o.key)) same ∙ sym (keys_at fields c.args.field) ∙ ap (λ (p : Part). values_at p.keys c.args.field) c.self.view_is)
