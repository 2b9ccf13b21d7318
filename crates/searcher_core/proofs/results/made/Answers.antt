use Rattle.std.proofs.Common.{◌≡◌, ◌∷◌, [], List, map, refl, sym, ap, subst, ◌∙◌, Bor}
use Rattle.std.specs.Prelude.{option_map}
use Rattle.std.specs.Arc.{arc_value}
use Rattle.request_form.specs.declared.request.Filter.{Filter}
use Rattle.sort_window.specs.First.{AreLive}
use Rattle.searcher_core.specs.Meeting.{HasMet, IsCommonOf}
use Rattle.searcher_core.specs.Searches.{IsByCost, queries_of, uncached}
use Rattle.searcher_core.proofs.Making.{collected_made, entry_made, live_of_set, made_is, set_is}
use Rattle.view_cells.specs.Seats.{own_list}
use Rattle.searcher_cells.proofs.Owning.{on_err}
use Rattle.searcher_core.specs.RequestCalls.{RefusedFilters}
use Rattle.searcher_core.proofs.Calling.{all_refused, none_refused}
use Rattle.searcher_core.proofs.results.made.Goals as goal

pub collected-requires-clause-live : goal.collected-requires-clause-live
collected-requires-clause-live g c =
    let v = g.P.Reads.view c.args.probe.now in
    let of : List Filter = c.as_slice-of_request.result.now in
    let turns : List Filter = map (λ (f : Bor Filter). f.now) c.in_ok-turns.turns.items in
    let same1 = c.in_ok-sets.ensures.kept.view in
    let same2 = c.in_ok-found.ensures.kept.view in
    let same3 = c.in_ok-found-2.ensures.kept.view in
    let is = set_is v (g.P.Reads.view c.cached_sets.new.probe) (g.P.Reads.view c.with_main.new.probe) c.args.request.now of turns (map arc_value c.in_ok-sets.sets.items) (option_map arc_value c.in_ok-left.left)
    (arc_value c.in_ok-found.found) (arc_value c.in_ok-found-2.found) c.in_ok-sets.notes.items (g.P.Reads.counted c.args.probe.now).postings (g.P.Reads.counted c.cached_sets.new.probe).postings
    (g.P.Reads.counted c.with_main.new.probe).postings (g.P.Reads.counted c.in_turn.new.probe).postings
    c.live-live.ensures.numbered same1 same2 c.as_slice-of_request.ensures c.in_ok-turns.ensures c.in_ok-sets.ensures.sets
    (subst (λ xs. IsCommonOf (map arc_value xs) (option_map arc_value c.in_ok-left.left)) c.as_slice.ensures.value c.in_ok-left.ensures) c.in_ok-found.ensures.met
    (subst (λ xs. HasMet (g.P.Reads.view c.with_main.new.probe) (queries_of (map (λ (f : Bor Filter). f.now) xs)) (arc_value c.in_ok-found.found) (arc_value c.in_ok-found-2.found) (g.P.Reads.counted c.with_main.new.probe).postings (g.P.Reads.counted c.in_turn.new.probe).postings) c.as_slice-2.ensures.value c.in_ok-found-2.ensures.met)
    c.in_ok-sets.ensures.notes c.in_ok-sets.ensures.asked in
    subst (AreLive c.deref.result.now) (sym (same3 ∙ same2 ∙ same1)) (live_of_set v c.args.request.now c.deref.result.now c.live-live.ensures.numbered (c.deref.ensures ∙ is))

pub returns-clause-entry : goal.returns-clause-entry
returns-clause-entry g c =
    let v = g.P.Reads.view c.args.probe.now in
    let of : List Filter = c.as_slice-of_request.result.now in
    let turns : List Filter = map (λ (f : Bor Filter). f.now) c.in_ok-turns.turns.items in
    let same1 = c.in_ok-sets.ensures.kept.view in
    let same2 = c.in_ok-found.ensures.kept.view in
    let same3 = c.in_ok-found-2.ensures.kept.view in
    let is = set_is v (g.P.Reads.view c.cached_sets.new.probe) (g.P.Reads.view c.with_main.new.probe) c.args.request.now of turns (map arc_value c.in_ok-sets.sets.items) (option_map arc_value c.in_ok-left.left)
    (arc_value c.in_ok-found.found) (arc_value c.in_ok-found-2.found) c.in_ok-sets.notes.items (g.P.Reads.counted c.args.probe.now).postings (g.P.Reads.counted c.cached_sets.new.probe).postings
    (g.P.Reads.counted c.with_main.new.probe).postings (g.P.Reads.counted c.in_turn.new.probe).postings
    c.live-live.ensures.numbered same1 same2 c.as_slice-of_request.ensures c.in_ok-turns.ensures c.in_ok-sets.ensures.sets
    (subst (λ xs. IsCommonOf (map arc_value xs) (option_map arc_value c.in_ok-left.left)) c.as_slice.ensures.value c.in_ok-left.ensures) c.in_ok-found.ensures.met
    (subst (λ xs. HasMet (g.P.Reads.view c.with_main.new.probe) (queries_of (map (λ (f : Bor Filter). f.now) xs)) (arc_value c.in_ok-found.found) (arc_value c.in_ok-found-2.found) (g.P.Reads.counted c.with_main.new.probe).postings (g.P.Reads.counted c.in_turn.new.probe).postings) c.as_slice-2.ensures.value c.in_ok-found-2.ensures.met)
    c.in_ok-sets.ensures.notes c.in_ok-sets.ensures.asked in
    entry_made v (g.P.Reads.view c.in_turn.new.probe) c.args.request.now c.deref.result.now c.in_ok-entry.entry (same3 ∙ same2 ∙ same1) (c.deref.ensures ∙ is)
    c.in_ok-entry.ensures.counts c.in_ok-entry.ensures.lists c.in_ok-entry.ensures.enough

pub returns-clause-collected : goal.returns-clause-collected
returns-clause-collected g c =
    let v = g.P.Reads.view c.args.probe.now in
    let of : List Filter = c.as_slice-of_request.result.now in
    let turns : List Filter = map (λ (f : Bor Filter). f.now) c.in_ok-turns.turns.items in
    let same1 = c.in_ok-sets.ensures.kept.view in
    let same2 = c.in_ok-found.ensures.kept.view in
    let same3 = c.in_ok-found-2.ensures.kept.view in
    let is = set_is v (g.P.Reads.view c.cached_sets.new.probe) (g.P.Reads.view c.with_main.new.probe) c.args.request.now of turns (map arc_value c.in_ok-sets.sets.items) (option_map arc_value c.in_ok-left.left)
    (arc_value c.in_ok-found.found) (arc_value c.in_ok-found-2.found) c.in_ok-sets.notes.items (g.P.Reads.counted c.args.probe.now).postings (g.P.Reads.counted c.cached_sets.new.probe).postings
    (g.P.Reads.counted c.with_main.new.probe).postings (g.P.Reads.counted c.in_turn.new.probe).postings
    c.live-live.ensures.numbered same1 same2 c.as_slice-of_request.ensures c.in_ok-turns.ensures c.in_ok-sets.ensures.sets
    (subst (λ xs. IsCommonOf (map arc_value xs) (option_map arc_value c.in_ok-left.left)) c.as_slice.ensures.value c.in_ok-left.ensures) c.in_ok-found.ensures.met
    (subst (λ xs. HasMet (g.P.Reads.view c.with_main.new.probe) (queries_of (map (λ (f : Bor Filter). f.now) xs)) (arc_value c.in_ok-found.found) (arc_value c.in_ok-found-2.found) (g.P.Reads.counted c.with_main.new.probe).postings (g.P.Reads.counted c.in_turn.new.probe).postings) c.as_slice-2.ensures.value c.in_ok-found-2.ensures.met)
    c.in_ok-sets.ensures.notes c.in_ok-sets.ensures.asked in
    collected_made v (g.P.Reads.view c.in_turn.new.probe) c.args.sizes c.args.request.now c.deref.result.now c.in_ok-entry.entry (same3 ∙ same2 ∙ same1) (c.deref.ensures ∙ is)
    c.in_ok-entry.ensures.counts c.in_ok-entry.ensures.window

pub returns-clause-made : goal.returns-clause-made
returns-clause-made g c =
    let v = g.P.Reads.view c.args.probe.now in
    let of : List Filter = c.as_slice-of_request.result.now in
    let turns : List Filter = map (λ (f : Bor Filter). f.now) c.in_ok-turns.turns.items in
    let same1 = c.in_ok-sets.ensures.kept.view in
    let same2 = c.in_ok-found.ensures.kept.view in
    made_is v (g.P.Reads.view c.cached_sets.new.probe) (g.P.Reads.view c.with_main.new.probe) c.args.request.now of turns (map arc_value c.in_ok-sets.sets.items) (option_map arc_value c.in_ok-left.left)
    (arc_value c.in_ok-found.found) (arc_value c.in_ok-found-2.found) c.in_ok-sets.notes.items (g.P.Reads.counted c.args.probe.now).postings (g.P.Reads.counted c.cached_sets.new.probe).postings
    (g.P.Reads.counted c.with_main.new.probe).postings (g.P.Reads.counted c.in_turn.new.probe).postings
    c.live-live.ensures.numbered same1 same2 c.as_slice-of_request.ensures c.in_ok-turns.ensures c.in_ok-sets.ensures.sets
    (subst (λ xs. IsCommonOf (map arc_value xs) (option_map arc_value c.in_ok-left.left)) c.as_slice.ensures.value c.in_ok-left.ensures) c.in_ok-found.ensures.met
    (subst (λ xs. HasMet (g.P.Reads.view c.with_main.new.probe) (queries_of (map (λ (f : Bor Filter). f.now) xs)) (arc_value c.in_ok-found.found) (arc_value c.in_ok-found-2.found) (g.P.Reads.counted c.with_main.new.probe).postings (g.P.Reads.counted c.in_turn.new.probe).postings) c.as_slice-2.ensures.value c.in_ok-found-2.ensures.met)
    c.in_ok-sets.ensures.notes c.in_ok-sets.ensures.asked
    (g.P.Reads.counted c.args.probe.now) (g.P.Reads.counted c.collected.new.probe) refl c.in_ok-entry.ensures.postings

pub returns-in_err-turns-clause-no_memory : goal.returns-in_err-turns-clause-no_memory
returns-in_err-turns-clause-no_memory g c =
    on_err c.from_residual.result (none_refused (g.P.Reads.view c.args.probe.now) c.args.request.now.filters (own_list c.args.filters.now) (own_list c.args.filters.now) refl)

pub returns-in_err-left-clause-no_memory : goal.returns-in_err-left-clause-no_memory
returns-in_err-left-clause-no_memory g c =
    let v = g.P.Reads.view c.args.probe.now in
    let old = own_list c.args.filters.now in
    let new = own_list c.cached_sets.new.seat in
    on_err c.from_residual-in_err-left.result
    (subst (λ fs. RefusedFilters v fs old new) c.as_slice-of_request.ensures
    (all_refused v c.as_slice-of_request.result.now c.in_ok-sets.notes.items old new c.in_ok-sets.ensures.notes c.in_ok-sets.ensures.list))

pub returns-in_err-found-clause-no_memory : goal.returns-in_err-found-clause-no_memory
returns-in_err-found-clause-no_memory g c =
    let v = g.P.Reads.view c.args.probe.now in
    let old = own_list c.args.filters.now in
    let new = own_list c.cached_sets.new.seat in
    on_err c.from_residual-in_err-found.result
    (subst (λ fs. RefusedFilters v fs old new) c.as_slice-of_request.ensures
    (all_refused v c.as_slice-of_request.result.now c.in_ok-sets.notes.items old new c.in_ok-sets.ensures.notes c.in_ok-sets.ensures.list))

pub returns-in_err-found-2-clause-no_memory : goal.returns-in_err-found-2-clause-no_memory
returns-in_err-found-2-clause-no_memory g c =
    let v = g.P.Reads.view c.args.probe.now in
    let old = own_list c.args.filters.now in
    let new = own_list c.cached_sets.new.seat in
    on_err c.from_residual-in_err-found-2.result
    (subst (λ fs. RefusedFilters v fs old new) c.as_slice-of_request.ensures
    (all_refused v c.as_slice-of_request.result.now c.in_ok-sets.notes.items old new c.in_ok-sets.ensures.notes c.in_ok-sets.ensures.list))

pub returns-in_err-entry-clause-no_memory : goal.returns-in_err-entry-clause-no_memory
returns-in_err-entry-clause-no_memory g c =
    let v = g.P.Reads.view c.args.probe.now in
    let old = own_list c.args.filters.now in
    let new = own_list c.cached_sets.new.seat in
    on_err c.from_residual-in_err-entry.result
    (subst (λ fs. RefusedFilters v fs old new) c.as_slice-of_request.ensures
    (all_refused v c.as_slice-of_request.result.now c.in_ok-sets.notes.items old new c.in_ok-sets.ensures.notes c.in_ok-sets.ensures.list))
