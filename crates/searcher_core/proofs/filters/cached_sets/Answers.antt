use Rattle.std.proofs.Common.{◌≡◌, ◌++◌, ◌∷◌, [], ◌+◌, List, map, take, refl, sym, ap, subst, ◌∙◌}
use Rattle.std.specs.Arc.{arc_value}
use Rattle.std.proofs.lemmas.List.{map-append, take_more}
use Rattle.std.proofs.lemmas.List.Elements.{filter-append}
use Rattle.query_eval.specs.Found.{answer}
use Rattle.query_tree.specs.declared.query.Query.{Query}
use Rattle.request_form.specs.declared.request.Filter.{Filter}
use Rattle.search_model.specs.declared.notes.Note.{Note}
use Rattle.search_model.specs.Noting.{AreNotes}
use Rattle.searcher_core.specs.Evaluated.{AskInTurn, computed}
use Rattle.view_cells.specs.Seats.{own_list}
use Rattle.searcher_core.specs.RequestCalls.{FiltersCalls, FilterCall, RefusedFilters}
use Rattle.searcher_core.proofs.Calling.{calls_more, had_at, none_refused, refused_at}
use Rattle.searcher_cells.proofs.Owning.{on_err}
use Rattle.searcher_core.specs.Noting.{may_cache}
use Rattle.searcher_core.specs.Searches.{cached, queries_of}
use Rattle.searcher_core.proofs.Noting.{asked_more, may_more, notes_more}
use Rattle.searcher_core.proofs.filters.cached_sets.Goals as goal

pub loop-filter-preserved : goal.loop-filter-preserved
loop-filter-preserved g c =
    let v = g.P.Reads.view c.args.probe.now in
    let fs : List Filter = take c.loop-filter.filter-index c.args.filters.now in
    let f : Filter = c.filter-item.result in
    let more : take (c.loop-filter.filter-index + 1) c.args.filters.now ≡ fs ++ f ∷ [] =
    take_more c.args.filters.now c.loop-filter.filter-index f c.loop-filter-test.true ∙ ap (λ x. fs ++ x ∷ []) (sym c.filter-item.is) in
    let kept = c.loop-filter.invariant.kept in
    let before = (g.P.Reads.counted c.args.probe.now).postings in
    let after = (g.P.Reads.counted c.noted.new.probe).postings in
    let now = c.in_ok-note.ensures in
    let so = c.loop-filter.invariant in
    let notes : c.push.new.self.items ≡ c.loop-filter.notes.items ++ c.in_ok-note.note ∷ [] = c.in_ok-push.ensures.items in
    record {
      back = record {
        seat = record {
          table = now.back.seat.table ∙ so.back.seat.table;
          view = now.back.seat.view ∙ so.back.seat.view;
          count = now.back.seat.count ∙ so.back.seat.count;
          number = now.back.seat.number ∙ so.back.seat.number;
        };
        idle = now.back.idle;
      };
      owns = now.owns;
      list =
          subst (λ xs. FiltersCalls v xs c.push.new.self.items (own_list c.args.seat.now) (own_list c.noted.new.seat)) (sym more)
          (subst (λ ns. FiltersCalls v (fs ++ f ∷ []) ns (own_list c.args.seat.now) (own_list c.noted.new.seat)) (sym notes)
          (calls_more v fs c.loop-filter.notes.items f c.in_ok-note.note (own_list c.args.seat.now) (own_list c.loop-filter.seat) (own_list c.noted.new.seat)
          so.list (subst (λ w. FilterCall w f c.in_ok-note.note (own_list c.loop-filter.seat) (own_list c.noted.new.seat)) kept.view now.list)));
      kept = record {
        view = now.kept.view ∙ kept.view;
        terms = now.kept.terms ∙ kept.terms;
        values = now.kept.values ∙ kept.values;
        stored = now.kept.stored ∙ kept.stored;
      };
      sets =
          now.sets
          ∙ (λ i. c.loop-filter.invariant.sets i ++ map (λ q. answer q (kept.view i)) (queries_of (cached (f ∷ []))))
          ∙ sym (map-append (λ q. answer q v) (queries_of (cached fs)) (queries_of (cached (f ∷ []))))
          ∙ ap (map (λ q. answer q v)) (sym (map-append (λ (x : Filter). x.query) (cached fs) (cached (f ∷ []))) ∙ ap queries_of (sym (filter-append (λ (x : Filter). x.cached) fs (f ∷ []))))
          ∙ ap (λ xs. map (λ q. answer q v) (queries_of (cached xs))) (sym more);
      notes =
          subst (AreNotes (may_cache (take (c.loop-filter.filter-index + 1) c.args.filters.now))) (sym notes)
          (subst (λ bs. AreNotes bs (c.loop-filter.notes.items ++ c.in_ok-note.note ∷ [])) (sym (ap may_cache more ∙ may_more fs f))
          (notes_more (may_cache fs) c.loop-filter.notes.items f.cached c.in_ok-note.note c.loop-filter.invariant.notes now.note));
      asked =
          subst (λ xs. AskInTurn (computed xs c.push.new.self.items) before after) (sym more)
          (subst (λ ns. AskInTurn (computed (fs ++ f ∷ []) ns) before after) (sym notes)
          (asked_more fs c.loop-filter.notes.items f c.in_ok-note.note before (g.P.Reads.counted c.loop-filter.probe).postings after
          c.loop-filter.invariant.notes c.loop-filter.invariant.asked now.asked));
    }

pub returns-in_err-notes-clause-no_memory : goal.returns-in_err-notes-clause-no_memory
returns-in_err-notes-clause-no_memory g c =
    on_err c.from_residual.result (none_refused (g.P.Reads.view c.args.probe.now) c.args.filters.now (own_list c.args.seat.now) (own_list c.args.seat.now) refl)

pub returns-in_err-note-clause-no_memory : goal.returns-in_err-note-clause-no_memory
returns-in_err-note-clause-no_memory g c =
    let so = c.loop-filter.invariant in
    let f : Filter = c.filter-item.result in
    on_err c.from_residual-in_err-note.result
    (refused_at (g.P.Reads.view c.args.probe.now) c.args.filters.now c.loop-filter.filter-index f c.loop-filter.notes.items (own_list c.args.seat.now) (own_list c.loop-filter.seat) (own_list c.noted.new.seat)
    c.loop-filter-test.true c.filter-item.is so.notes so.list
    (subst (λ w. RefusedFilters w (f ∷ []) (own_list c.loop-filter.seat) (own_list c.noted.new.seat)) so.kept.view c.in_err-note.ensures.no_memory))

pub returns-in_err-push-clause-no_memory : goal.returns-in_err-push-clause-no_memory
returns-in_err-push-clause-no_memory g c =
    let so = c.loop-filter.invariant in
    let f : Filter = c.filter-item.result in
    on_err c.from_residual-in_err-push.result
    (had_at (g.P.Reads.view c.args.probe.now) c.args.filters.now c.loop-filter.filter-index f c.in_ok-note.note c.loop-filter.notes.items (own_list c.args.seat.now) (own_list c.loop-filter.seat)
    (own_list c.noted.new.seat) c.loop-filter-test.true c.filter-item.is so.notes so.list c.in_ok-note.ensures.note
    (subst (λ w. FilterCall w f c.in_ok-note.note (own_list c.loop-filter.seat) (own_list c.noted.new.seat)) so.kept.view c.in_ok-note.ensures.list))
