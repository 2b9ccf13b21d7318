-- Each request is answered as it must be.
use Rattle.std.proofs.Common.{◌≡◌, ◌⊎◌, ℕ, suc, ◌-◌, ◌<◌, ◌≤◌, List, ◌∷◌, ◌++◌, length, map, Bool, true, false, cond, ◌||◌, ◌==◌, nat_lt, Some, None, IsSome, IfSome, Result, Ok, Err, refl, sym, ap, subst, ◌∙◌, inl, inr, arith, slice_get}
use Rattle.std.proofs.lemmas.Option.{slice_get_within}
use Rattle.std.specs.List.{AllByRecursion}
use Rattle.std.specs.Result.{result_map_both}
use Rattle.search_model.specs.Live.{Change, nothing}
use Rattle.search_model.specs.Answer.{Asked, answer}
use Rattle.search_model.specs.Reply.{too_many, found, no_memory}
use Rattle.script_form.specs.declared.config.Config.{Config}
use Rattle.registry_machine.specs.declared.entry.Entry.TheVariants.{Open, TooMany}
use Rattle.registry_machine.specs.Entries.{has_place, opens, ends, acquires}
use Rattle.registry_machine.specs.Places.{rank, Stands}
use Rattle.registry_machine.proofs.Lists.{test_same}
use Rattle.registry_machine.proofs.Runs.{state_at, allowed_at}
use Rattle.registry_machine.proofs.Ranks.{rank_rises_over}
use Rattle.registry_machine.proofs.Indices.{acquired_in_order, tickets_in_order}
use Rattle.run_laws.specs.Rows.{Verb, add, delete, query, commit, RequestRow, Output}
use Rattle.run_laws.specs.Calls.{Told}
use Rattle.request_form.specs.declared.commit.CommitForm.{CommitForm}
use Rattle.run_laws.specs.CallReadings.{update_of, commit_of, query_of}
use Rattle.run_laws.specs.Places.{place_count, warming, view_of}
use Rattle.run_laws.specs.Bounds.{low, high}
use Rattle.run_laws.specs.Acquires.{pin_of, pins, IsBehind}
use Rattle.run_laws.specs.Lawful.{Shows, IsIdle, IsUpdated, UpdateIsAnswered, HasOpened, HasTooMany, FormIsAnswered, CommitIsAnswered, IsServed, QueryIsAnswered, IsAnsweredAs, IsAnswered, KeepsOrder}
use Rattle.run_history.specs.Tellings.{Telling, an_update, a_searcher, an_answer, form_wants, wants_as, TellsOpening, TellsTooMany, TellsAcquire, Tells}
use Rattle.run_history.specs.Agreement.{RepliesIdly, RepliesTo, HasReplyAt, HasReply, IsReplied, ComesBefore}
use Rattle.run_history.proofs.Elements.{In, all_in, all_from, all_map, all_filter_map}
use Rattle.run_history.proofs.Wants.{answer_by_query, searcher_by_commit}
use Rattle.run_history.proofs.Run.{Run, IsToldAt, place_index, pin_index, row_cases, told_rank}
use Rattle.run_history.proofs.Warmings.{warming_found}
use Rattle.run_history.proofs.Betweens.{if_some, here_in, front_in, in_order, low_below, high_above, high_above_placed, lt_true, or_true}
use Rattle.run_history.proofs.Views.{view_found, opened_found}
use Rattle.run_history.proofs.Places.{output_of, count_found, below_total}
use Rattle.run_history.proofs.Serving.{acquired_current}

-- ---- by what a request reads to

module _ (c : Config) (row : RequestRow) where
  idle_update : (x : Result Change (List ℕ)) → IsIdle row → RepliesIdly c row (result_map_both an_update (λ m. m) x) → UpdateIsAnswered c row x
  idle_update (Ok y) idle reply = inr (idle, reply)
  idle_update (Err m) idle reply = (idle, reply)

  updated_as : (x : Result Change (List ℕ)) (u : Change) → result_map_both an_update (λ m. m) x ≡ Ok (an_update u) → IsUpdated c row → UpdateIsAnswered c row x
  updated_as (Ok y) u e k = inl k
  updated_as (Err m) u e k = absurd (grind arith)

  module _ (o : Output) where
    idle_commit : (x : Result CommitForm (List ℕ)) → IsIdle row → RepliesIdly c row (result_map_both form_wants (λ m. m) x) → CommitIsAnswered c o row x
    idle_commit (Ok y) idle reply = inr (idle, reply)
    idle_commit (Err m) idle reply = (idle, reply)

    form_updated : (b : Bool) (u : Change) → cond b a_searcher (an_update nothing) ≡ an_update u → IsUpdated c row → FormIsAnswered c o row b
    form_updated true u e k = absurd (grind arith)
    form_updated false u e k = k

    flushed_as : (x : Result CommitForm (List ℕ)) (u : Change) → result_map_both form_wants (λ m. m) x ≡ Ok (an_update u) → IsUpdated c row → CommitIsAnswered c o row x
    flushed_as (Ok form) u e k = inl (form_updated form.opens u (cc) k)
    flushed_as (Err m) u e k = absurd (grind arith)

    form_opened : (b : Bool) → cond b a_searcher (an_update nothing) ≡ a_searcher → FormIsAnswered c o row true → FormIsAnswered c o row b
    form_opened true e k = k
    form_opened false e k = absurd (grind arith)

    opened_as : (x : Result CommitForm (List ℕ)) → result_map_both form_wants (λ m. m) x ≡ Ok a_searcher → FormIsAnswered c o row true → CommitIsAnswered c o row x
    opened_as (Ok form) e k = inl (form_opened form.opens (cc) k)
    opened_as (Err m) e k = absurd (grind arith)

module _ (c : Config) (told : List Told) (o : Output) (before : List Told) (t : Told) (behind : List Told) where
  idle_query : (x : Result Asked (List ℕ)) → IsIdle t.row → RepliesIdly c t.row (result_map_both an_answer (λ m. m) x) → QueryIsAnswered c told o before t behind x
  idle_query (Ok y) idle reply = inr (idle, reply)
  idle_query (Err m) idle reply = (idle, reply)

  served_as : (x : Result Asked (List ℕ)) (asked : Asked) (g k : ℕ) → result_map_both an_answer (λ m. m) x ≡ Ok (an_answer asked) → IsServed c told o before t behind asked g k → QueryIsAnswered c told o before t behind x
  served_as (Ok y) asked g k e s = let same : asked ≡ y = cc in inl (g, k, subst (λ a. IsServed c told o before t behind a g k) same s)
  served_as (Err m) asked g k e s = absurd (grind arith)

  idly : (v : Verb) → IsIdle t.row → RepliesIdly c t.row (wants_as v c t.call) → IsAnsweredAs v c told o before t behind
  idly add idle reply = idle_update c t.row (update_of c t.call) idle reply
  idly delete idle reply = idle_update c t.row (update_of c t.call) idle reply
  idly query idle reply = idle_query (query_of c t.call.body) idle reply
  idly commit idle reply = idle_commit c t.row o (commit_of t.call.body) idle reply

  update_answered : (v : Verb) (u : Change) → wants_as v c t.call ≡ Ok (an_update u) → IsUpdated c t.row → IsAnsweredAs v c told o before t behind
  update_answered add u e k = updated_as c t.row (update_of c t.call) u e k
  update_answered delete u e k = updated_as c t.row (update_of c t.call) u e k
  update_answered query u e k = absurd (no_update (query_of c t.call.body) e)
    where
      no_update : (x : Result Asked (List ℕ)) → result_map_both an_answer (λ m. m) x ≡ Ok (an_update u) → ⊥
      no_update (Ok y) e = grind arith
      no_update (Err m) e = grind arith
  update_answered commit u e k = flushed_as c t.row o (commit_of t.call.body) u e k

  opening_answered : (v : Verb) → v ≡ commit → wants_as v c t.call ≡ Ok a_searcher → FormIsAnswered c o t.row true → IsAnsweredAs v c told o before t behind
  opening_answered v same e k = subst (λ w. wants_as w c t.call ≡ Ok a_searcher → IsAnsweredAs w c told o before t behind) (sym same) (λ h. opened_as c t.row o (commit_of t.call.body) h k) e

  query_answered : (v : Verb) (asked : Asked) (g k : ℕ) → v ≡ query → wants_as v c t.call ≡ Ok (an_answer asked) → IsServed c told o before t behind asked g k → IsAnsweredAs v c told o before t behind
  query_answered v asked g k same e s = subst (λ w. wants_as w c t.call ≡ Ok (an_answer asked) → IsAnsweredAs w c told o before t behind) (sym same) (λ h. served_as (query_of c t.call.body) asked g k h s) e

-- ---- by what a row tells

module _ {U D L : Type 0} (f : Run U D L) (front : List Telling) (t : Telling) (back : List Telling) (joined : f.rows ≡ front ++ t ∷ back) (before : AllByRecursion (λ e. e.told.call.line < t.told.call.line) front) (behind : AllByRecursion (λ e. t.told.call.line < e.told.call.line) back) where
  i_in : In t f.rows
  i_in = here_in f front t back joined

  reply_of : HasReplyAt f.reading f.config f.history t.told t.index
  reply_of = all_in (HasReply f.reading f.config f.history) f.rows f.agrees.replies t i_in

  reply_to : (n : ℕ) (k : IsToldAt f t n) → RepliesTo f.reading f.config f.history t.told k.entry
  reply_to n k = (subst (HasReplyAt f.reading f.config f.history t.told) k.index reply_of) k.entry k.at

  rank_below_count : (n : ℕ) (k : IsToldAt f t n) → rank f.history n ≤ place_count (output_of f.rows f.lives)
  rank_below_count n k =
      let c = count_found f in
      let r = Rattle.registry_machine.proofs.Ranks.rank_rises f.history n (length f.history) (let lt = slice_get_within f.history n k.entry k.at in omega (arith, lt)) in
      omega (arith, c, r)

  -- a row's place lies between those that its client, and the phases, set around it
  pub keeps_order : KeepsOrder (output_of f.rows f.lives) (map (λ e. e.told) front) t.told (map (λ e. e.told) back)
  keeps_order = if_some (λ p. (low (map (λ s. s.row) f.lives) (map (λ e. e.told) front) t.told < p) × (p < high (place_count (output_of f.rows f.lives)) t.told (map (λ e. e.told) back))) t.told.row.place (λ p h.
      let k = place_index f t p i_in h in
      let a = low_below f front t back joined k.n k.told before in
      let c = count_found f in
      let lt = below_total f k.n k.told.entry k.told.at k.placed in
      let b = high_above_placed f front t back joined k.n k.told (place_count (output_of f.rows f.lives)) (omega (arith, c, lt)) k.placed behind in
      (omega (arith, a, k.place), omega (arith, b, k.place)))

  -- pins of earlier rows are behind
  rising : (n g k : ℕ) → IsToldAt f t n → Stands acquires f.history n (g, k) → AllByRecursion (IsBehind g k) (pins t.told (map (λ e. e.told) front))
  rising n g k told a =
      all_filter_map (λ e. cond (nat_lt e.call.phase t.told.call.phase || e.call.client == t.told.call.client) (pin_of e) None) (IsBehind g k) (map (λ e. e.told) front)
      (all_map (λ e. e.told) (λ e. IfSome (cond (nat_lt e.call.phase t.told.call.phase || e.call.client == t.told.call.client) (pin_of e) None) (IsBehind g k)) front
      (all_from (λ e. IfSome (cond (nat_lt e.told.call.phase t.told.call.phase || e.told.call.client == t.told.call.client) (pin_of e.told) None) (IsBehind g k)) front (λ e i. by_test e i (nat_lt e.told.call.phase t.told.call.phase || e.told.call.client == t.told.call.client) refl)))
    where
      comes : (e : Telling) → In e front → (nat_lt e.told.call.phase t.told.call.phase ≡ true) ⊎ ((e.told.call.client == t.told.call.client) ≡ true) → ComesBefore e.told.call t.told.call
      comes e i (inl p) = inl (lt_true e.told.call.phase t.told.call.phase p)
      comes e i (inr p) = inr (test_same e.told.call.client t.told.call.client p, all_in (λ x. x.told.call.line < t.told.call.line) front before e i)

      by_test : (e : Telling) → In e front → (b : Bool) → (nat_lt e.told.call.phase t.told.call.phase || e.told.call.client == t.told.call.client) ≡ b → IfSome (cond b (pin_of e.told) None) (IsBehind g k)
      by_test e i true b = if_some (IsBehind g k) (pin_of e.told) (λ pin h.
          let x = pin_index f e pin (front_in f front t back joined e i) h in
          let lt = (in_order f front t back joined e t (front_in f front t back joined e i) i_in).told (comes e i (or_true (nat_lt e.told.call.phase t.told.call.phase) (e.told.call.client == t.told.call.client) b)) x.0 n x.1 told.index in
          (acquired_in_order f.limits f.history f.legal x.0 n pin.0 g pin.1 k x.2 a lt, λ same. tickets_in_order f.limits f.history f.legal x.0 n g pin.1 k (subst (λ y. Stands acquires f.history x.0 (y, pin.1)) same x.2) a lt))
      by_test e i false b = tt

  -- a query was served from a searcher that was current between its neighbours
  served : (n : ℕ) (k : IsToldAt f t n) (a : TellsAcquire f.config t.told k.entry) → IsServed f.config (map (λ e. e.told) f.rows) (output_of f.rows f.lives) (map (λ e. e.told) front) t.told (map (λ e. e.told) back) a.asked a.generation a.ticket
  served n k a =
      let stands : Stands acquires f.history n (a.generation, a.ticket) = record { entry = k.entry; at = k.at; told = ap acquires a.entry } in
      let p = rank f.history n - 1 in
      let above = told_rank f t n i_in k in
      let place : rank f.history n ≡ suc p = omega (arith, above) in
      let lo = low_below f front t back joined n k before in
      let hi = high_above f front t back joined n k (place_count (output_of f.rows f.lives)) (rank_below_count n k) behind in
      record {
        place = a.numbers.place;
        generation = a.numbers.generation;
        ticket = a.numbers.ticket;
        current = (p, omega (arith, lo, above), omega (arith, hi, above), acquired_current f n a.generation a.ticket p stands place);
        rising = rising n a.generation a.ticket k stands;
        shown = shown ((subst (RepliesTo f.reading f.config f.history t.told) a.entry (reply_to n k)) a.asked a.wanted);
      }
    where
      shown : IsReplied f.reading f.config f.history t.told.row a.generation a.asked → Shows f.config t.told.row (found a.asked (answer (view_of f.config (map (λ e. e.told) f.rows) (output_of f.rows f.lives) a.generation) a.asked)) ⊎ Shows f.config t.told.row no_memory
      shown (inl r) = inl (subst (λ v. Shows f.config t.told.row (found a.asked (answer v a.asked))) (sym (view_found f (output_of f.rows f.lives) (count_found f ∙ ap (λ h. Rattle.std.specs.List.count_by has_place h) (Rattle.std.proofs.lemmas.List.take_all (length f.history) f.history (omega arith))) refl r.0 r.1 r.2 a.generation r.3 r.4 r.5)) r.6)
      shown (inr r) = inr r

  opening_row : (n : ℕ) (k : IsToldAt f t n) (a : TellsOpening f.reading f.config t.told (rank f.history n) k.entry) → HasOpened f.config (output_of f.rows f.lives) t.told.row (rank f.history n) a.generation
  opening_row n k a =
      let at : slice_get f.history n ≡ Some (Open a.caller a.content a.generation a.slot a.docs) = k.at ∙ ap Some a.entry in
      let stands : Stands opens f.history n a.generation = record { entry = k.entry; at = k.at; told = ap opens a.entry } in
      let allowed = allowed_at f.limits f.history n (Open a.caller a.content a.generation a.slot a.docs) f.legal at in
      let w = warming_found f n k.entry (let lt = slice_get_within f.history n k.entry k.at in omega (arith, lt)) k.at (ap has_place a.entry) (ap ends a.entry) in
      record {
        place = a.numbers.place;
        generation = a.numbers.generation;
        ticket = a.numbers.ticket;
        opened = Rattle.run_history.proofs.Views.where_opened f n a.generation stands;
        room = (let lw : length (warming (rank f.history n) (map (λ s. s.row) f.lives)) ≡ length (state_at f.limits f.history n).warming = ap length w in omega (arith, lw, allowed.room, f.room));
        shown = subst (RepliesTo f.reading f.config f.history t.told) a.entry (reply_to n k);
      }

  too_many_row : (n : ℕ) (k : IsToldAt f t n) (a : TellsTooMany f.reading f.config t.told (rank f.history n) k.entry) → HasTooMany f.config (output_of f.rows f.lives) t.told.row (rank f.history n)
  too_many_row n k a =
      let at : slice_get f.history n ≡ Some (TooMany a.caller a.content a.warming) = k.at ∙ ap Some a.entry in
      let allowed = allowed_at f.limits f.history n (TooMany a.caller a.content a.warming) f.legal at in
      let w = warming_found f n k.entry (let lt = slice_get_within f.history n k.entry k.at in omega (arith, lt)) k.at (ap has_place a.entry) (ap ends a.entry) in
      record {
        place = a.numbers.place;
        generation = a.numbers.generation;
        ticket = a.numbers.ticket;
        full = (let lw : length (warming (rank f.history n) (map (λ s. s.row) f.lives)) ≡ length (state_at f.limits f.history n).warming = ap length w in omega (arith, lw, allowed.full, f.room));
        shown = subst (λ gs. Shows f.config t.told.row (too_many gs)) (allowed.told ∙ sym w) (subst (RepliesTo f.reading f.config f.history t.told) a.entry (reply_to n k));
      }

  told_answered : (n : ℕ) (k : IsToldAt f t n) → Tells f.reading f.config t.told (rank f.history n) k.entry → IsAnswered f.config (map (λ e. e.told) f.rows) (output_of f.rows f.lives) (map (λ e. e.told) front) t.told (map (λ e. e.told) back)
  told_answered n k (inl a) =
      update_answered f.config (map (λ e. e.told) f.rows) (output_of f.rows f.lives) (map (λ e. e.told) front) t.told (map (λ e. e.told) back) t.told.call.verb (f.reading.change a.content) a.wanted
      (record { place = subst IsSome (sym a.numbers.place) refl; generation = a.numbers.generation; ticket = a.numbers.ticket; shown = subst (RepliesTo f.reading f.config f.history t.told) a.entry (reply_to n k) })
  told_answered n k (inr (inl a)) =
      opening_answered f.config (map (λ e. e.told) f.rows) (output_of f.rows f.lives) (map (λ e. e.told) front) t.told (map (λ e. e.told) back) t.told.call.verb (searcher_by_commit t.told.call.verb f.config t.told.call a.wanted) a.wanted (inl (rank f.history n, a.generation, opening_row n k a))
  told_answered n k (inr (inr (inl a))) =
      opening_answered f.config (map (λ e. e.told) f.rows) (output_of f.rows f.lives) (map (λ e. e.told) front) t.told (map (λ e. e.told) back) t.told.call.verb (searcher_by_commit t.told.call.verb f.config t.told.call a.wanted) a.wanted (inr (rank f.history n, too_many_row n k a))
  told_answered n k (inr (inr (inr a))) =
      query_answered f.config (map (λ e. e.told) f.rows) (output_of f.rows f.lives) (map (λ e. e.told) front) t.told (map (λ e. e.told) back) t.told.call.verb a.asked a.generation a.ticket (answer_by_query t.told.call.verb f.config t.told.call a.asked a.wanted) a.wanted (served n k a)

  -- the request is answered as its verb wants
  pub answered : IsAnswered f.config (map (λ e. e.told) f.rows) (output_of f.rows f.lives) (map (λ e. e.told) front) t.told (map (λ e. e.told) back)
  answered = out (row_cases f t i_in)
    where
      out : (t.index ≡ None) × IsIdle t.told.row ⊎ ((n : ℕ) × IsToldAt f t n) → IsAnswered f.config (map (λ e. e.told) f.rows) (output_of f.rows f.lives) (map (λ e. e.told) front) t.told (map (λ e. e.told) back)
      out (inl k) = idly f.config (map (λ e. e.told) f.rows) (output_of f.rows f.lives) (map (λ e. e.told) front) t.told (map (λ e. e.told) back) t.told.call.verb k.1 (subst (HasReplyAt f.reading f.config f.history t.told) k.0 reply_of)
      out (inr k) = told_answered k.0 k.1 k.1.tells
