use Rattle.std.proofs.Common.{◌≡◌, ℕ, cond, ◌||◌, List, [], ◌∷◌, ◌++◌, get_or, map, refl, sym, ap, subst, ◌∙◌, Some, IsSome, Vec, Global}
use Rattle.std.specs.Prelude.{◌&&◌}
use Rattle.std.proofs.lemmas.List.{take_all}
use Rattle.doc_sets.specs.Sets.{is_in}
use Rattle.segment_postings.specs.declared.posting.Posting.{Posting}
use Rattle.std.specs.Arc.{arc_value}
use Rattle.field_schema.specs.declared.key.Key.TheVariants.{Str}
use Rattle.field_schema.specs.Bytes.{bytes_eq}
use Rattle.doc_model.specs.Document.{Document}
use Rattle.segment_postings.specs.Numbered.{Numbered, doc_at}
use Rattle.segment_postings.specs.Postings.{postings_of}
use Rattle.search_model.specs.Live.{has_id}
use Rattle.served_index.proofs.Uniques.{passes, or_false, posting_more, posting_there, postings_all}
use Rattle.served_index.proofs.gone.add_with_id.Goals as goal
use Rattle.served_index.proofs.gone.add_with_id.Goals.{then-eq+in_ok-push, else-eq}

pub stored-requires : goal.stored-requires
stored-requires g c =
    let v = g.P.Reads.view c.args.probe.now in
    let ps : List Posting = c.as_slice-posting-items.result.now in
    let all : ps ≡ postings_of v c.args.key (Str c.args.id.now) = c.as_slice-posting-items.ensures.value ∙ c.in_ok-postings.ensures.postings ∙ (λ j. postings_of v c.args.key (Str (c.in_ok-own.ensures j))) in
    let there : IsSome (doc_at v c.posting-item.result.doc) = subst (λ (p : Posting). IsSome (doc_at v p.doc)) (sym c.posting-item.is)
    (posting_there v c.args.key c.args.id.now ps c.loop-posting.posting-index c.posting-item.result c.requires all c.loop-posting-test.true) in
    subst (λ (w : Numbered). IsSome (doc_at w c.posting-item.result.doc)) (sym (c.loop-posting.invariant.view ∙ c.postings.ensures.view)) there

pub loop-posting-init : goal.loop-posting-init
loop-posting-init g c = record { view = refl; found = λ n. sym (or_false (is_in c.args.found.now.items n)) }

pub loop-posting-preserved : goal.loop-posting-preserved
loop-posting-preserved g c =
    let v = g.P.Reads.view c.args.probe.now in
    let w = g.P.Reads.view c.postings.new.self in
    let ps : List Posting = c.as_slice-posting-items.result.now in
    let told : Document = arc_value c.in_ok-doc.doc in
    let same : c.id.result.now ≡ told.id = c.id.ensures ∙ ap (λ (d : Document). d.id) c.deref.ensures in
    let is : c.eq.result ≡ has_id c.args.id.now told = c.eq.ensures ∙ ap (λ (i : List ℕ). bytes_eq c.args.id.now i) same in
    let at : doc_at w (get_or ps c.loop-posting.posting-index c.posting-item.result).doc ≡ Some told =
    ap (λ (p : Posting). doc_at w p.doc) (sym c.posting-item.is) ∙ ap (λ (u : Numbered). doc_at u c.posting-item.result.doc) (sym c.loop-posting.invariant.view) ∙ c.in_ok-doc.ensures.stored in
    let put : c.if-eq.found.items ≡ cond (has_id c.args.id.now told) (c.loop-posting.found.items ++ (get_or ps c.loop-posting.posting-index c.posting-item.result).doc ∷ []) c.loop-posting.found.items = (elim c.if-eq.branch [
      | then-eq+in_ok-push u ↦ ap (λ (xs : Vec ℕ Global). xs.items) u.found-is ∙ u.in_ok-push.ensures.items
          ∙ ap (λ (p : Posting). c.loop-posting.found.items ++ p.doc ∷ []) c.posting-item.is
          ∙ ap (λ b. cond b (c.loop-posting.found.items ++ (get_or ps c.loop-posting.posting-index c.posting-item.result).doc ∷ []) c.loop-posting.found.items) (sym (sym is ∙ u.if-eq.true))
      | else-eq u ↦ ap (λ (xs : Vec ℕ Global). xs.items) u.found-is
          ∙ ap (λ b. cond b (c.loop-posting.found.items ++ (get_or ps c.loop-posting.posting-index c.posting-item.result).doc ∷ []) c.loop-posting.found.items) (sym (sym is ∙ u.if-eq.false))
    ]) in
    record {
      view = c.stored.ensures.view ∙ c.loop-posting.invariant.view;
      found = posting_more w c.args.id.now c.args.found.now.items c.loop-posting.found.items c.if-eq.found.items ps c.loop-posting.posting-index c.posting-item.result told c.loop-posting-test.true c.loop-posting.invariant.found at put;
    }

pub returns-clause-found : goal.returns-clause-found
returns-clause-found g c = λ n.
    let v = g.P.Reads.view c.args.probe.now in
    let ps : List Posting = c.as_slice-posting-items.result.now in
    let all : ps ≡ postings_of v c.args.key (Str c.args.id.now) = c.as_slice-posting-items.ensures.value ∙ c.in_ok-postings.ensures.postings ∙ (λ j. postings_of v c.args.key (Str (c.in_ok-own.ensures j))) in
    c.loop-posting.invariant.found n
    ∙ (λ j. is_in c.args.found.now.items n || (is_in (map (λ p. p.doc) (take_all c.loop-posting.posting-index ps c.loop-posting-test.false j)) n && passes (has_id c.args.id.now) (doc_at (c.postings.ensures.view j) n)))
    ∙ postings_all v c.args.key c.args.id.now c.args.found.now.items ps n c.requires all
