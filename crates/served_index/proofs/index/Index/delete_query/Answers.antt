use Rattle.std.proofs.Common.{◌+◌, ◌≤◌, ap, subst, ◌∙◌, arith}
use Rattle.std.specs.Prelude.{◌||◌, not}
use Rattle.std.specs.FinSet.{contains, from_list, contains-from_list_nat}
use Rattle.std.specs.Arc.{arc_value}
use Rattle.doc_sets.specs.Sets.{is_in}
use Rattle.doc_sets.specs.declared.TheConstants.{MAX_DOCS}
use Rattle.query_tree.specs.Matches.{top}
use Rattle.search_model.specs.Live.{deleted_query, after}
use Rattle.segment_postings.specs.Numbered.{IsNumbered}
use Rattle.segment_postings.specs.Views.{Indexed}
use Rattle.served_index.specs.IndexState.{IndexState}
use Rattle.served_index.specs.Standing.{matching}
use Rattle.served_index.proofs.Indexing.{docs-unmatched, HaveIds-filtered, IsIndex-changed}
use Rattle.served_index.proofs.index.Index.delete_query.Goals as goal

pub invariant_of-self : goal.invariant_of-self
invariant_of-self c =
    let v = (arc_value c.self.inside.current).seen in
    let old = c.self.inside.pending in
    let most : v.size + old.slots ≤ MAX_DOCS = c.self.invariant.most in
    let less = c.in_ok-pending.ensures.slots in
    IsIndex-changed v c.self.inside.gone.items c.in_ok-gone.gone.items old c.in_ok-pending.pending c.self.inside.keys.items c.self.invariant c.in_ok-gone.ensures.below
    (HaveIds-filtered (λ d. not (top d.values c.args.query.now)) c.self.inside.keys.items old.docs c.in_ok-pending.pending.docs c.self.invariant.pending_ids c.in_ok-pending.ensures.docs)
    (omega (arith, most, less))

pub returns-clause-ok : goal.returns-clause-ok
returns-clause-ok c =
    let v = (arc_value c.self.inside.current).seen in
    docs-unmatched v c.self.inside.gone.items c.in_ok-gone.gone.items c.self.inside.pending.docs c.in_ok-pending.pending.docs c.args.query.now (subst (λ (w : Indexed). IsNumbered w.seen) c.deref.ensures c.in_ok-found.ensures.numbered)
    (λ n. c.in_ok-gone.ensures.same n ∙ (λ j. is_in (c.deref-2.ensures.value j) n || contains ((c.in_ok-found.ensures.found ∙ ap (λ (w : Indexed). from_list (matching c.args.query.now w.seen)) c.deref.ensures) j) n)
    ∙ ap (λ b. is_in c.self.inside.gone.items n || b) (contains-from_list_nat (matching c.args.query.now v) n))
    c.in_ok-pending.ensures.docs
    ∙ ap (λ (k : IndexState). after k.docs (deleted_query c.args.query.now)) c.self.view_is
