use Rattle.std.proofs.Common.{◌≤◌, length, map, ap, subst, ◌∙◌}
use Rattle.std.specs.FinSet.{from_list}
use Rattle.std.specs.Arc.{arc_value}
use Rattle.segment_postings.specs.Views.{Indexed, all_docs, terms_of}
use Rattle.doc_sets.specs.declared.TheConstants.{MAX_DOCS}
use Rattle.segment_postings.specs.Numbered.{numbers, IsNumbered}
use Rattle.segment_postings.specs.Terms.{AreTerms}
use Rattle.segment_postings.proofs.ViewLaws.{set_of_numbers, numbered_is, live_within}
use Rattle.segment_postings.proofs.TermsOfViews.{terms_are}
use Rattle.segment_postings.proofs.view.View.live.Goals as goal

pub returns-clause-numbers : goal.returns-clause-numbers
returns-clause-numbers c =
    let parts = map arc_value c.self.inside.parts.items in
    c.deref.ensures ∙ set_of_numbers (arc_value c.self.inside.live) (all_docs parts) (live_within (arc_value c.self.inside.live) c.self.inside.size parts c.self.invariant) ∙ ap (λ (v : Indexed). from_list (numbers v.seen)) c.self.view_is

pub returns-clause-numbered : goal.returns-clause-numbered
returns-clause-numbered c =
    let parts = map arc_value c.self.inside.parts.items in
    let most : length (all_docs parts) ≤ MAX_DOCS = subst (λ n. n ≤ MAX_DOCS) c.self.invariant.size c.self.invariant.most in
    subst (λ (v : Indexed). IsNumbered v.seen) c.self.view_is (numbered_is (arc_value c.self.inside.live) (all_docs parts) most)

pub returns-clause-terms : goal.returns-clause-terms
returns-clause-terms c = subst (λ (v : Indexed). AreTerms v.seen (terms_of v.keys)) c.self.view_is (terms_are (arc_value c.self.inside.live) (map arc_value c.self.inside.parts.items) c.self.invariant.lawful)
