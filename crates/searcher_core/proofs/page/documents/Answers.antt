use Rattle.std.proofs.Common.{◌≡◌, ◌∷◌, [], ◌+◌, ◌-◌, ◌≤◌, cond, inl, inr, get_or, length, map, refl, sym, ap, subst, ◌∙◌, arith}
use Rattle.std.specs.Arc.{arc_value}
use Rattle.std.proofs.lemmas.List.{length-append, map-append}
use Rattle.segment_postings.specs.Numbered.{doc_at}
use Rattle.searcher_core.specs.Evaluated.{raised_by}
use Rattle.view_cells.specs.Seats.{own_list}
use Rattle.searcher_core.specs.RequestCalls.{PageCalls}
use Rattle.searcher_core.proofs.Calling.{no_page, page_at, page_more, some_of}
use Rattle.searcher_core.specs.Meeting.{docs_at}
use Rattle.searcher_cells.proofs.Owning.{on_err}
use Rattle.searcher_core.proofs.Finding.{docs_at-more}
use Rattle.searcher_core.proofs.Pages.{raised_step, at_most_one, by_hit}
use Rattle.searcher_core.proofs.page.documents.Goals as goal

pub loop-number-preserved : goal.loop-number-preserved
loop-number-preserved g c =
    let v = g.P.Reads.view c.args.probe.now in
    let i = c.loop-number.number-index in
    let number = get_or c.args.numbers.now i 0 in
    let so = c.loop-number.invariant in
    let now = c.in_ok-doc.ensures in
    let longer = ap length c.in_ok-push.ensures.items in
    let one = length-append c.loop-number.docs.items (c.in_ok-doc.doc ∷ []) in
    let count = so.count in
    let few = so.hits in
    let same : c.counted-one.result ≡ cond c.in_ok-doc.hit 1 0 = c.counted-one.ensures in
    let most : c.counted-one.result ≤ 1 = subst (λ k. k ≤ 1) (sym same) (at_most_one c.in_ok-doc.hit) in
    record {
      back = record {
        seat = record {
          table = now.back.seat.table ∙ so.back.seat.table;
          view = now.back.seat.view ∙ so.back.seat.view;
          count = now.back.seat.count ∙ so.back.seat.count;
          number = now.back.seat.number ∙ so.back.seat.number;
        };
        idle = now.back.idle;
      };
      list =
          subst (λ k. PageCalls v (map arc_value c.push.new.self.items) (c.loop-number.hits + k) (own_list c.args.seat.now) (own_list c.document.new.seat)) (sym same)
          (page_more v (map arc_value c.loop-number.docs.items) (map arc_value c.push.new.self.items) c.loop-number.hits number (arc_value c.in_ok-doc.doc) c.in_ok-doc.hit
          (own_list c.args.seat.now) (own_list c.loop-number.seat) (own_list c.document.new.seat) so.list (sym (ap (λ w. doc_at w number) so.view) ∙ now.doc) now.list
          (ap (map arc_value) c.in_ok-push.ensures.items ∙ map-append arc_value c.loop-number.docs.items (c.in_ok-doc.doc ∷ [])));
      docs =
          docs_at-more v c.args.numbers.now i number (arc_value c.in_ok-doc.doc) (map arc_value c.loop-number.docs.items) (map arc_value c.push.new.self.items) c.loop-number-test.true refl
          (sym (ap (λ w. doc_at w number) so.view) ∙ now.doc) so.docs
          (ap (map arc_value) c.in_ok-push.ensures.items ∙ map-append arc_value c.loop-number.docs.items (c.in_ok-doc.doc ∷ []));
      count = omega (arith, longer, one, count);
      hits = omega (arith, few, most);
      stored =
          now.stored ∙ by_hit c.in_ok-doc.hit (g.P.Reads.counted c.loop-number.probe).stored
          ∙ ap (λ k. raised_by (1 - k) (g.P.Reads.counted c.loop-number.probe).stored) (sym same)
          ∙ ap (raised_by (1 - c.counted-one.result)) so.stored
          ∙ raised_step i c.loop-number.hits c.counted-one.result (g.P.Reads.counted c.args.probe.now).stored so.hits most;
      view = now.view ∙ so.view;
      terms = now.terms ∙ so.terms;
      postings = now.postings ∙ so.postings;
      values = now.values ∙ so.values;
    }

pub returns-in_err-docs-clause-no_memory : goal.returns-in_err-docs-clause-no_memory
returns-in_err-docs-clause-no_memory g c =
    let v = g.P.Reads.view c.args.probe.now in
    on_err c.from_residual.result (no_page v (docs_at v c.args.numbers.now) (own_list c.args.seat.now) (own_list c.args.seat.now) refl)

pub returns-in_err-doc-clause-no_memory : goal.returns-in_err-doc-clause-no_memory
returns-in_err-doc-clause-no_memory g c =
    let v = g.P.Reads.view c.args.probe.now in
    let i = c.loop-number.number-index in
    let number = get_or c.args.numbers.now i 0 in
    let so = c.loop-number.invariant in
    let there = some_of (doc_at v number) (c.requires.live i 0 c.loop-number-test.true) in
    on_err c.from_residual-in_err-doc.result
    (page_at v c.args.numbers.now i number there.0 so.list.0 (map arc_value c.loop-number.docs.items) (own_list c.args.seat.now) (own_list c.loop-number.seat) (own_list c.document.new.seat)
    c.loop-number-test.true refl there.1 so.docs so.list.2 (inl c.in_err-doc.ensures.no_memory))

pub returns-in_err-push-clause-no_memory : goal.returns-in_err-push-clause-no_memory
returns-in_err-push-clause-no_memory g c =
    let v = g.P.Reads.view c.args.probe.now in
    let i = c.loop-number.number-index in
    let number = get_or c.args.numbers.now i 0 in
    let so = c.loop-number.invariant in
    let now = c.in_ok-doc.ensures in
    on_err c.from_residual-in_err-push.result
    (page_at v c.args.numbers.now i number (arc_value c.in_ok-doc.doc) so.list.0 (map arc_value c.loop-number.docs.items) (own_list c.args.seat.now) (own_list c.loop-number.seat) (own_list c.document.new.seat)
    c.loop-number-test.true refl (sym (ap (λ w. doc_at w number) so.view) ∙ now.doc) so.docs so.list.2
    (inr (c.in_ok-doc.hit, (own_list c.document.new.seat, now.list, refl))))
