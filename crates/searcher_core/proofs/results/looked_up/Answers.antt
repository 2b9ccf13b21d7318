use Rattle.std.proofs.Common.{◌≡◌, ◌+◌, true, false, Some, None, refl, sym, ap, subst, ◌∙◌, inl, inr, is_some}
use Rattle.result_cache.specs.Entries.{serves}
use Rattle.result_cache.specs.Keys.{result_key_eq-same}
use Rattle.view_cells.specs.Seats.{view_of, own_list}
use Rattle.cache_traces.specs.declared.told.Told.TheVariants as told
use Rattle.shared_cells.specs.Lists.{Asked, AsksFor}
use Rattle.shared_cells.specs.Seated.{FoundFits, is_again, told_by}
use Rattle.searcher_cells.proofs.Owning.{some_is, on_err, asked_none, hit_none, own_some, finished_none, gave_up_none}
use Rattle.searcher_cells.specs.Calls.{Ends}
use Rattle.cache_traces.specs.declared.act.Act.TheVariants.{Finished, GaveUp}
use Rattle.searcher_cells.specs.Sights.{ResultFits, numbers_of}
use Rattle.search_model.specs.Noting.{AreNotesAfter}
use Rattle.searcher_core.specs.Meeting.{IsEntryFor}
use Rattle.searcher_core.specs.Noting.{may_cache}
use Rattle.searcher_core.specs.RequestCalls.{FiltersAfter, ResultCall, need_of}
use Rattle.searcher_core.proofs.Making.{entry_of_key, given_hit, hit_call, hit_filters, key_of_entry}
use Rattle.searcher_core.proofs.Resting.{both_rest, still_rests}
use Rattle.searcher_core.proofs.results.looked_up.Goals as goal

pub look_up-requires-clause-same : goal.look_up-requires-clause-same
look_up-requires-clause-same g c =
    result_key_eq-same

pub finish-requires-clause-same : goal.finish-requires-clause-same
finish-requires-clause-same g c =
    result_key_eq-same

pub returns-in_err-value-clause-results_rest : goal.returns-in_err-value-clause-results_rest
returns-in_err-value-clause-results_rest g c =
    let s = c.args.results.now in
    let t = c.look_up.new.seat in
    let key = c.in_ok-key.key in
    let need = c.from.result + c.from-2.result in
    still_rests c.requires.results c.in_err-value.ensures.back (asked_none key need (own_list s) (own_list t) c.in_err-value.ensures.no_memory c.requires.results.owns)

pub returns-in_err-value-clause-no_memory : goal.returns-in_err-value-clause-no_memory
returns-in_err-value-clause-no_memory g c =
    let s = c.args.results.now in
    let t = c.look_up.new.seat in
    let key = c.in_ok-key.key in
    let need = c.from.result + c.from-2.result in
    let needs : c.from.result + c.from-2.result ≡ need_of c.args.request.now = λ i. c.from.ensures i + c.from-2.ensures i in
    on_err c.from_residual-in_err-value.result
    (inr (inr (key, c.in_ok-key.ensures, inl (subst (λ n. Asked key n (own_list s) (own_list t)) needs c.in_err-value.ensures.no_memory, refl))))

pub returns-in-Hit-clause-results_rest : goal.returns-in-Hit-clause-results_rest
returns-in-Hit-clause-results_rest g c =
    let s = c.args.results.now in
    let t = c.look_up.new.seat in
    let key = c.in_ok-key.key in
    let need = c.from.result + c.from-2.result in
    let asks = subst (λ f. AsksFor key need (is_again f) (told_by f) (own_list s) (own_list t)) c.in-Hit.is c.in_ok-value.ensures.list in
    still_rests c.requires.results c.in_ok-value.ensures.back (hit_none key need (own_list s) (own_list t) c.in-Hit.again asks c.requires.results.owns)

pub returns-in-Hit-clause-given : goal.returns-in-Hit-clause-given
returns-in-Hit-clause-given g c =
    let s = c.args.results.now in
    let t = c.look_up.new.seat in
    let key = c.in_ok-key.key in
    let need = c.from.result + c.from-2.result in
    let needs : c.from.result + c.from-2.result ≡ need_of c.args.request.now = λ i. c.from.ensures i + c.from-2.ensures i in
    let v = g.P.Reads.view c.args.probe.now in
    let found = subst (FoundFits (ResultFits (view_of s)) (serves need) key) c.in-Hit.is c.in_ok-value.ensures.hit in
    let entry = entry_of_key v (view_of s) c.args.request.now key c.requires.results_view c.in_ok-key.ensures c.in-Hit.value found.0 (subst (λ n. serves n c.in-Hit.value ≡ true) needs found.1) in
    given_hit v c.args.request.now (g.P.Reads.counted c.args.probe.now) (g.P.Reads.counted c.args.probe.now) (record { entry = c.into_entry.result; result = c.noted.result; filters = c.new.result }) (subst (IsEntryFor v c.args.request.now) (sym c.into_entry.ensures) entry)
    c.requires.may c.new.ensures.items refl refl c.in-Hit.again c.noted.ensures

pub returns-in-Hit-clause-result : goal.returns-in-Hit-clause-result
returns-in-Hit-clause-result g c =
    let s = c.args.results.now in
    let t = c.look_up.new.seat in
    let key = c.in_ok-key.key in
    let need = c.from.result + c.from-2.result in
    let needs : c.from.result + c.from-2.result ≡ need_of c.args.request.now = λ i. c.from.ensures i + c.from-2.ensures i in
    let asks = subst (λ f. AsksFor key need (is_again f) (told_by f) (own_list s) (own_list t)) c.in-Hit.is c.in_ok-value.ensures.list in
    hit_call (g.P.Reads.view c.args.probe.now) c.args.sizes c.args.request.now key c.in-Hit.again c.noted.result (own_list s) (own_list t) c.noted.ensures c.in_ok-key.ensures
    (subst (λ n. AsksFor key n c.in-Hit.again told.Hit (own_list s) (own_list t)) needs asks)

pub returns-in-Hit-clause-filters : goal.returns-in-Hit-clause-filters
returns-in-Hit-clause-filters g c =
    hit_filters (g.P.Reads.view c.args.probe.now) c.args.request.now c.in-Hit.again c.noted.result c.new.result.items (own_list c.args.filters.now) (own_list c.args.filters.now) c.noted.ensures refl

pub finish-requires-clause-owns : goal.finish-requires-clause-owns
finish-requires-clause-owns g c =
    let s = c.args.results.now in
    let t = c.look_up.new.seat in
    let key = c.in_ok-key.key in
    let need = c.from.result + c.from-2.result in
    let asks = subst (λ f. AsksFor key need (is_again f) (told_by f) (own_list s) (own_list t)) c.in-Own.is c.in_ok-value.ensures.list in
    let owns = own_some key need (own_list s) (own_list t) c.in-Own.again asks in
    ap is_some owns

pub give_up-requires-clause-owns : goal.give_up-requires-clause-owns
give_up-requires-clause-owns g c =
    let s = c.args.results.now in
    let t = c.look_up.new.seat in
    let key = c.in_ok-key.key in
    let need = c.from.result + c.from-2.result in
    let asks = subst (λ f. AsksFor key need (is_again f) (told_by f) (own_list s) (own_list t)) c.in-Own.is c.in_ok-value.ensures.list in
    let owns = own_some key need (own_list s) (own_list t) c.in-Own.again asks in
    ap is_some owns

pub finish-requires-clause-fits : goal.finish-requires-clause-fits
finish-requires-clause-fits g c k is =
    let s = c.args.results.now in
    let t = c.look_up.new.seat in
    let key = c.in_ok-key.key in
    let need = c.from.result + c.from-2.result in
    let asks = subst (λ f. AsksFor key need (is_again f) (told_by f) (own_list s) (own_list t)) c.in-Own.is c.in_ok-value.ensures.list in
    let owns = own_some key need (own_list s) (own_list t) c.in-Own.again asks in
    let same : key ≡ k = some_is (sym owns ∙ is) in
    subst (λ x. ResultFits (view_of t) x c.in-Ok.kept) same
    (key_of_entry (g.P.Reads.view c.args.probe.now) (view_of t) c.args.request.now key (ap (λ x. x.view) c.in_ok-value.ensures.back.seat.view ∙ c.requires.results_view) c.in_ok-key.ensures c.in-Ok.kept
    c.in-Ok.ensures.kept)

pub returns-in_err-finish-in-Ok-clause-results_rest : goal.returns-in_err-finish-in-Ok-clause-results_rest
returns-in_err-finish-in-Ok-clause-results_rest g c =
    let s = c.args.results.now in
    let t = c.look_up.new.seat in
    let key = c.in_ok-key.key in
    let need = c.from.result + c.from-2.result in
    let asks = subst (λ f. AsksFor key need (is_again f) (told_by f) (own_list s) (own_list t)) c.in-Own.is c.in_ok-value.ensures.list in
    let owns = own_some key need (own_list s) (own_list t) c.in-Own.again asks in
    both_rest c.requires.results c.in_ok-value.ensures.back c.in_err-finish-in-Ok.ensures.back (finished_none key (own_list t) (own_list c.finish.new.seat) (numbers_of c.args.sizes.most_docs c.in-Ok.kept) false (c.in_err-finish-in-Ok.ensures.list key owns))

pub returns-in_err-finish-in-Ok-clause-no_memory : goal.returns-in_err-finish-in-Ok-clause-no_memory
returns-in_err-finish-in-Ok-clause-no_memory g c =
    let s = c.args.results.now in
    let t = c.look_up.new.seat in
    let key = c.in_ok-key.key in
    let need = c.from.result + c.from-2.result in
    let needs : c.from.result + c.from-2.result ≡ need_of c.args.request.now = λ i. c.from.ensures i + c.from-2.ensures i in
    let asks = subst (λ f. AsksFor key need (is_again f) (told_by f) (own_list s) (own_list t)) c.in-Own.is c.in_ok-value.ensures.list in
    let owns = own_some key need (own_list s) (own_list t) c.in-Own.again asks in
    let ended = c.in_err-finish-in-Ok.ensures.list key owns in
    on_err c.from_residual-in_err-finish-in-Ok.result
    (inr (inr (
      key,
      c.in_ok-key.ensures,
      inr (inr (
        (
          c.in-Ok.kept,
          c.in-Ok.ensures.collected,
          subst (λ n. Ends key n (Finished key (numbers_of c.args.sizes.most_docs c.in-Ok.kept) false) (own_list s) (own_list c.finish.new.seat)) needs (c.in-Own.again, (own_list t, asks, ended)),
        ),
        (
          c.in-Ok.given.filters.items,
          subst (λ n. AreNotesAfter n (may_cache c.args.request.now.filters) c.in-Ok.given.filters.items) c.in-Ok.ensures.note c.in-Ok.ensures.given.notes_are,
          c.in-Ok.ensures.list,
        ),
      )),
    )))

pub returns-in-Ok-clause-results_rest : goal.returns-in-Ok-clause-results_rest
returns-in-Ok-clause-results_rest g c =
    let s = c.args.results.now in
    let t = c.look_up.new.seat in
    let key = c.in_ok-key.key in
    let need = c.from.result + c.from-2.result in
    let asks = subst (λ f. AsksFor key need (is_again f) (told_by f) (own_list s) (own_list t)) c.in-Own.is c.in_ok-value.ensures.list in
    let owns = own_some key need (own_list s) (own_list t) c.in-Own.again asks in
    both_rest c.requires.results c.in_ok-value.ensures.back c.in_ok-finish-in-Ok.ensures.back (finished_none key (own_list t) (own_list c.finish.new.seat) (numbers_of c.args.sizes.most_docs c.in-Ok.kept) true (c.in_ok-finish-in-Ok.ensures.list key owns))

pub returns-in-Ok-clause-result : goal.returns-in-Ok-clause-result
returns-in-Ok-clause-result g c =
    let s = c.args.results.now in
    let t = c.look_up.new.seat in
    let key = c.in_ok-key.key in
    let need = c.from.result + c.from-2.result in
    let needs : c.from.result + c.from-2.result ≡ need_of c.args.request.now = λ i. c.from.ensures i + c.from-2.ensures i in
    let asks = subst (λ f. AsksFor key need (is_again f) (told_by f) (own_list s) (own_list t)) c.in-Own.is c.in_ok-value.ensures.list in
    let owns = own_some key need (own_list s) (own_list t) c.in-Own.again asks in
    let ended = c.in_ok-finish-in-Ok.ensures.list key owns in
    subst (λ n. ResultCall (g.P.Reads.view c.args.probe.now) c.args.sizes c.args.request.now n (own_list s) (own_list c.finish.new.seat)) (sym c.in-Ok.ensures.note)
    (key, c.in_ok-key.ensures, (c.in-Ok.kept, c.in-Ok.ensures.collected, subst (λ n. Ends key n (Finished key (numbers_of c.args.sizes.most_docs c.in-Ok.kept) true) (own_list s) (own_list c.finish.new.seat)) needs (c.in-Own.again, (own_list t, asks, ended))))

pub returns-in-Ok-clause-filters : goal.returns-in-Ok-clause-filters
returns-in-Ok-clause-filters g c =
    subst (λ n. FiltersAfter (g.P.Reads.view c.args.probe.now) c.args.request.now n c.in-Ok.given.filters.items (own_list c.args.filters.now) (own_list c.shared.new.filters)) (sym c.in-Ok.ensures.note)
    c.in-Ok.ensures.list

pub returns-clause-results_rest : goal.returns-clause-results_rest
returns-clause-results_rest g c =
    let s = c.args.results.now in
    let t = c.look_up.new.seat in
    let key = c.in_ok-key.key in
    let need = c.from.result + c.from-2.result in
    let asks = subst (λ f. AsksFor key need (is_again f) (told_by f) (own_list s) (own_list t)) c.in-Own.is c.in_ok-value.ensures.list in
    let owns = own_some key need (own_list s) (own_list t) c.in-Own.again asks in
    both_rest c.requires.results c.in_ok-value.ensures.back c.give_up.ensures.back (gave_up_none key (own_list t) (own_list c.give_up.new.seat) (c.give_up.ensures.list key owns))

pub returns-clause-no_memory : goal.returns-clause-no_memory
returns-clause-no_memory g c =
    let s = c.args.results.now in
    let t = c.look_up.new.seat in
    let key = c.in_ok-key.key in
    let need = c.from.result + c.from-2.result in
    let needs : c.from.result + c.from-2.result ≡ need_of c.args.request.now = λ i. c.from.ensures i + c.from-2.ensures i in
    let asks = subst (λ f. AsksFor key need (is_again f) (told_by f) (own_list s) (own_list t)) c.in-Own.is c.in_ok-value.ensures.list in
    let owns = own_some key need (own_list s) (own_list t) c.in-Own.again asks in
    inr (inr (
      key,
      c.in_ok-key.ensures,
      inr (inl (
        subst (λ n. Ends key n (GaveUp key) (own_list s) (own_list c.give_up.new.seat)) needs (c.in-Own.again, (own_list t, asks, c.give_up.ensures.list key owns)),
        c.in-Err.ensures.no_memory,
      )),
    ))
