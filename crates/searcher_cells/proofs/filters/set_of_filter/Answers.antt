use Rattle.std.proofs.Common.{◌≡◌, ℕ, true, Some, None, sym, ap, subst, ◌∙◌, inl, inr, is_some}
use Rattle.std.specs.FinSet.{len}
use Rattle.query_tree.specs.QueryLaws.{query_eq-same}
use Rattle.query_eval.specs.Found.{answer}
use Rattle.view_cells.specs.Seats.{view_of, own_list}
use Rattle.cache_traces.specs.declared.act.Act.TheVariants.{Finished}
use Rattle.cache_traces.specs.declared.told.Told.TheVariants.{Hit, Owned}
use Rattle.shared_cells.specs.Lists.{AsksFor, GoesOnBy}
use Rattle.shared_cells.specs.Seated.{is_again, told_by}
use Rattle.searcher_cells.proofs.Owning.{some_is, on_err, asked_none, hit_none, own_some, finished_none, gave_up_none}
use Rattle.searcher_cells.proofs.filters.set_of_filter.Goals as goal

pub look_up-requires-clause-same : goal.look_up-requires-clause-same
look_up-requires-clause-same g c = query_eq-same

pub finish-requires-clause-same : goal.finish-requires-clause-same
finish-requires-clause-same g c = query_eq-same

pub returns-in_err-value-clause-owns : goal.returns-in_err-value-clause-owns
returns-in_err-value-clause-owns g c = asked_none c.args.query.now 0 (own_list c.args.seat.now) (own_list c.look_up.new.seat) c.in_err-value.ensures.no_memory c.requires.owns

pub finish-requires-clause-owns : goal.finish-requires-clause-owns
finish-requires-clause-owns g c =
    let s = c.args.seat.now in
    let asks = subst (λ f. AsksFor c.args.query.now 0 (is_again f) (told_by f) (own_list s) (own_list c.look_up.new.seat)) c.in-Own.is c.in_ok-value.ensures.list in
    ap is_some (own_some c.args.query.now 0 (own_list s) (own_list c.look_up.new.seat) c.in-Own.again asks)

pub give_up-requires-clause-owns : goal.give_up-requires-clause-owns
give_up-requires-clause-owns g c =
    let s = c.args.seat.now in
    let asks = subst (λ f. AsksFor c.args.query.now 0 (is_again f) (told_by f) (own_list s) (own_list c.look_up.new.seat)) c.in-Own.is c.in_ok-value.ensures.list in
    ap is_some (own_some c.args.query.now 0 (own_list s) (own_list c.look_up.new.seat) c.in-Own.again asks)

pub finish-requires-clause-fits : goal.finish-requires-clause-fits
finish-requires-clause-fits g c k is =
    let s = c.args.seat.now in
    let t = c.look_up.new.seat in
    let asks = subst (λ f. AsksFor c.args.query.now 0 (is_again f) (told_by f) (own_list s) (own_list t)) c.in-Own.is c.in_ok-value.ensures.list in
    let owns = own_some c.args.query.now 0 (own_list s) (own_list t) c.in-Own.again asks in
    let same : c.args.query.now ≡ k = some_is (sym owns ∙ is) in
    c.new.ensures ∙ c.in-Ok.ensures.same ∙ ap (answer c.args.query.now) (c.requires.view ∙ ap (λ w. w.view) (sym c.in_ok-value.ensures.back.seat.view)) ∙ ap (λ q. answer q (view_of t).view) same

pub returns-in_err-finish-in-Ok-clause-owns : goal.returns-in_err-finish-in-Ok-clause-owns
returns-in_err-finish-in-Ok-clause-owns g c =
    let s = c.args.seat.now in
    let t = c.look_up.new.seat in
    let asks = subst (λ f. AsksFor c.args.query.now 0 (is_again f) (told_by f) (own_list s) (own_list t)) c.in-Own.is c.in_ok-value.ensures.list in
    let owns = own_some c.args.query.now 0 (own_list s) (own_list t) c.in-Own.again asks in
    finished_none c.args.query.now (own_list t) (own_list c.finish.new.seat) _ _ (c.in_err-finish-in-Ok.ensures.list c.args.query.now owns)

pub returns-in_err-finish-in-Ok-clause-no_memory : goal.returns-in_err-finish-in-Ok-clause-no_memory
returns-in_err-finish-in-Ok-clause-no_memory g c =
    let s = c.args.seat.now in
    let t = c.look_up.new.seat in
    let asks = subst (λ f. AsksFor c.args.query.now 0 (is_again f) (told_by f) (own_list s) (own_list t)) c.in-Own.is c.in_ok-value.ensures.list in
    let owns = own_some c.args.query.now 0 (own_list s) (own_list t) c.in-Own.again asks in
    on_err c.from_residual-in_err-finish-in-Ok.result (inr (inr (_, (c.in-Own.again, (own_list t, asks, c.in_err-finish-in-Ok.ensures.list c.args.query.now owns)))))

pub returns-in-Hit-clause-owns : goal.returns-in-Hit-clause-owns
returns-in-Hit-clause-owns g c =
    let s = c.args.seat.now in
    let t = c.look_up.new.seat in
    let asks = subst (λ f. AsksFor c.args.query.now 0 (is_again f) (told_by f) (own_list s) (own_list t)) c.in-Hit.is c.in_ok-value.ensures.list in
    hit_none c.args.query.now 0 (own_list s) (own_list t) c.in-Hit.again asks c.requires.owns

pub returns-in_ok-finish-in-Ok-clause-owns : goal.returns-in_ok-finish-in-Ok-clause-owns
returns-in_ok-finish-in-Ok-clause-owns g c =
    let s = c.args.seat.now in
    let t = c.look_up.new.seat in
    let asks = subst (λ f. AsksFor c.args.query.now 0 (is_again f) (told_by f) (own_list s) (own_list t)) c.in-Own.is c.in_ok-value.ensures.list in
    let owns = own_some c.args.query.now 0 (own_list s) (own_list t) c.in-Own.again asks in
    finished_none c.args.query.now (own_list t) (own_list c.finish.new.seat) _ _ (c.in_ok-finish-in-Ok.ensures.list c.args.query.now owns)

pub returns-in_ok-finish-in-Ok-clause-list : goal.returns-in_ok-finish-in-Ok-clause-list
returns-in_ok-finish-in-Ok-clause-list g c =
    let s = c.args.seat.now in
    let t = c.look_up.new.seat in
    let q = c.args.query.now in
    let asks = subst (λ f. AsksFor q 0 (is_again f) (told_by f) (own_list s) (own_list t)) c.in-Own.is c.in_ok-value.ensures.list in
    let owns = own_some q 0 (own_list s) (own_list t) c.in-Own.again asks in
    let size = ap len (c.new.ensures ∙ c.in-Ok.ensures.same ∙ sym c.in-Ok.ensures.set) in
    (c.in-Own.again, (own_list t, asks, subst (λ (n : ℕ). GoesOnBy (Finished q n true) (own_list t) (own_list c.finish.new.seat)) size (c.in_ok-finish-in-Ok.ensures.list q owns)))

pub returns-in-Err-clause-owns : goal.returns-in-Err-clause-owns
returns-in-Err-clause-owns g c =
    let s = c.args.seat.now in
    let t = c.look_up.new.seat in
    let asks = subst (λ f. AsksFor c.args.query.now 0 (is_again f) (told_by f) (own_list s) (own_list t)) c.in-Own.is c.in_ok-value.ensures.list in
    let owns = own_some c.args.query.now 0 (own_list s) (own_list t) c.in-Own.again asks in
    gave_up_none c.args.query.now (own_list t) (own_list c.give_up.new.seat) (c.give_up.ensures.list c.args.query.now owns)

pub returns-in-Err-clause-no_memory : goal.returns-in-Err-clause-no_memory
returns-in-Err-clause-no_memory g c =
    let s = c.args.seat.now in
    let t = c.look_up.new.seat in
    let asks = subst (λ f. AsksFor c.args.query.now 0 (is_again f) (told_by f) (own_list s) (own_list t)) c.in-Own.is c.in_ok-value.ensures.list in
    let owns = own_some c.args.query.now 0 (own_list s) (own_list t) c.in-Own.again asks in
    inr (inl (c.in-Own.again, (own_list t, asks, c.give_up.ensures.list c.args.query.now owns)))
