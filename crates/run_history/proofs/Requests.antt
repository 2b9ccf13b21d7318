-- Each kind of request of a serial run: the history stays legal and settled, and the rows agree with it.
use Rattle.std.proofs.Common.{◌≡◌, ◌≢◌, ◌⊎◌, ℕ, suc, ◌+◌, ◌<◌, ◌≤◌, List, [], ◌∷◌, ◌++◌, length, take, map, fold, Bool, true, false, cond, ◌==◌, count_by, filter_map, Some, None, Result, Ok, refl, sym, ap, ap₂, subst, ◌∙◌, inl, inr, arith, slice_get, append-nil, length-append}
use Rattle.std.proofs.Math.Seq.{take-append_seam}
use Rattle.std.proofs.lemmas.List.{take_all}
use Rattle.std.proofs.lemmas.List.Elements.{filter_map-append}
use Rattle.std.proofs.lemmas.Grind.{fold-append}
use Rattle.std.proofs.lemmas.Option.{same_Some, none-some}
use Rattle.std.specs.List.{cons_option}
use Rattle.search_model.specs.Live.{live, after}
use Rattle.search_model.specs.Answer.{Asked, answer}
use Rattle.search_model.specs.Reply.{accepted, found, no_memory}
use Rattle.script_form.specs.declared.config.Config.{Config}
use Rattle.registry_machine.specs.declared.entry.Entry.{Entry}
use Rattle.registry_machine.specs.declared.entry.Entry.TheVariants.{Open, Update, Finish, Acquire, Release, Free}
use Rattle.registry_machine.specs.Entries.{has_place, ticket_of}
use Rattle.registry_machine.specs.Machine.{Limits, State, start}
use Rattle.registry_machine.specs.Machine as machine
use Rattle.registry_machine.specs.Legal.{Legal, state_of}
use Rattle.registry_machine.specs.Places.{rank}
use Rattle.registry_machine.proofs.Lists.{false_true, same_test, test_same, test_other, other_test}
use Rattle.registry_machine.proofs.Runs.{joined, state_joined, state_at}
use Rattle.registry_machine.proofs.Indices.{sound_at}
use Rattle.registry_machine.proofs.Tellings.{acquired_from}
use Rattle.run_laws.specs.Calls.{Told}
use Rattle.run_laws.specs.Lawful.{Shows, IsIdle}
use Rattle.run_history.specs.Tellings.{Reading, Telling, Life, Wanted, an_update, a_searcher, an_answer, wants, HasNumbers, tells_at, warmed_at}
use Rattle.run_history.specs.Agreement.{IsTelling, RepliesIdly, RepliesTo, HasReply, IsLife, IsFrom, changes, IsReleased, Agrees}
use Rattle.run_history.specs.Serial.{Stand, Settled, Serves, ComesLast, telling, idle, once_more, next_life, update_entries, query_entries, opening_entries}
use Rattle.run_history.proofs.Elements.{In, all_in}
use Rattle.run_history.proofs.Counts.{count_append}
use Rattle.run_history.proofs.Longer.{get_left, get_right}
use Rattle.run_history.proofs.Views.{changes_append}
use Rattle.run_history.proofs.Extend.{recounted, Adds, extended}
use Rattle.run_history.proofs.Idle.{idle_agrees}
use Rattle.run_history.proofs.Quiet.{Quiet, update_quiet, query_legal, query_quiet, opening_legal, opening_quiet}

-- ---- a history and what follows it

module _ {U D L : Type 0} where
  pub rank_whole : (h : List (Entry U D L)) → rank h (length h) ≡ count_by has_place h
  rank_whole h = ap (count_by has_place) (take_all (length h) h (omega arith))

  take_right : (h more : List (Entry U D L)) (i : ℕ) → take (length h + i) (h ++ more) ≡ h ++ take i more
  take_right [] more i = ap (λ n. take n more) (omega arith)
  take_right (x ∷ h) more i = let e : suc (length h) + i ≡ suc (length h + i) = omega arith in ap (λ n. take n (x ∷ h ++ more)) e ∙ ap (λ zs. x ∷ zs) (take_right h more i)

  pub rank_right : (h more : List (Entry U D L)) (i : ℕ) → rank (h ++ more) (length h + i) ≡ rank h (length h) + rank more i
  rank_right h more i = ap (count_by has_place) (take_right h more i) ∙ (count_append has_place h (take i more) ∙ ap (λ n. n + rank more i) (sym (rank_whole h)))

  rank_here : (h more : List (Entry U D L)) → rank (h ++ more) (length h) ≡ rank h (length h)
  rank_here h more = let e : length h ≡ length h + 0 = omega arith in ap (rank (h ++ more)) e ∙ (rank_right h more 0 ∙ omega arith)

  pub rank_all : (h more : List (Entry U D L)) → rank (h ++ more) (length (h ++ more)) ≡ rank h (length h) + count_by has_place more
  rank_all h more = rank_whole (h ++ more) ∙ (count_append has_place h more ∙ ap (λ n. n + count_by has_place more) (sym (rank_whole h)))

  get_here : (h : List (Entry U D L)) (e : Entry U D L) (es : List (Entry U D L)) → slice_get (h ++ e ∷ es) (length h) ≡ Some e
  get_here [] e es = refl
  get_here (x ∷ h) e es = get_here h e es

  tickets_append : (g : ℕ) (h more : List (Entry U D L)) → length (filter_map (ticket_of g) (h ++ more)) ≡ length (filter_map (ticket_of g) h) + length (filter_map (ticket_of g) more)
  tickets_append g h more = ap length (filter_map-append (ticket_of g) h more) ∙ length-append (filter_map (ticket_of g) h) (filter_map (ticket_of g) more)

map_same : {A B : Type 0} (k j : A → B) (xs : List A) → ((x : A) → In x xs → k x ≡ j x) → map k xs ≡ map j xs
map_same k j [] h = refl
map_same k j (x ∷ xs) h = ap₂ (λ y ys. y ∷ ys) (h x (inl refl)) (map_same k j xs (λ y i. h y (inr i)))

map_self : {A : Type 0} (k : A → A) (xs : List A) → ((x : A) → In x xs → k x ≡ x) → map k xs ≡ xs
map_self k [] h = refl
map_self k (x ∷ xs) h = ap₂ (λ y ys. y ∷ ys) (h x (inl refl)) (map_self k xs (λ y i. h y (inr i)))

module _ {U D L : Type 0} where
  recounted_same : (h more : List (Entry U D L)) (s : Life) → IsLife h s → filter_map (ticket_of s.row.generation) more ≡ [] → recounted (h ++ more) s ≡ s
  recounted_same h more s k none =
      let a = tickets_append s.row.generation h more in
      let b : length (filter_map (ticket_of s.row.generation) more) ≡ 0 = ap length none in
      let e : length (filter_map (ticket_of s.row.generation) (h ++ more)) ≡ s.row.acquired = omega (arith, a, b, k.acquired) in
      ap (λ n. let x : Life = record s { row = record s.row { acquired = n } } in x) e

  -- one acquire counts for its generation alone
  recounted_more : (h more : List (Entry U D L)) (g : ℕ) (s : Life) → IsLife h s → length (filter_map (ticket_of s.row.generation) more) ≡ cond (g == s.row.generation) 1 0 → recounted (h ++ more) s ≡ once_more g s
  recounted_more h more g s k one =
      let a = tickets_append s.row.generation h more in
      let e : length (filter_map (ticket_of s.row.generation) (h ++ more)) ≡ cond (s.row.generation == g) (s.row.acquired + 1) s.row.acquired = by_test (g == s.row.generation) refl a in
      ap (λ n. let x : Life = record s { row = record s.row { acquired = n } } in x) e
    where
      by_test : (b : Bool) → (g == s.row.generation) ≡ b → length (filter_map (ticket_of s.row.generation) (h ++ more)) ≡ length (filter_map (ticket_of s.row.generation) h) + length (filter_map (ticket_of s.row.generation) more) → length (filter_map (ticket_of s.row.generation) (h ++ more)) ≡ cond (s.row.generation == g) (s.row.acquired + 1) s.row.acquired
      by_test true t a =
          let same = test_same g s.row.generation t in
          let back : (s.row.generation == g) ≡ true = subst (λ x. (s.row.generation == x) ≡ true) (sym same) (same_test s.row.generation) in
          let o : length (filter_map (ticket_of s.row.generation) more) ≡ 1 = one ∙ ap (λ b. cond b 1 0) t in
          subst (λ b. length (filter_map (ticket_of s.row.generation) (h ++ more)) ≡ cond b (s.row.acquired + 1) s.row.acquired) (sym back) (omega (arith, a, o, k.acquired))
      by_test false t a =
          let back : (s.row.generation == g) ≡ false = other_test s.row.generation g (λ e. test_other g s.row.generation t (sym e)) in
          let o : length (filter_map (ticket_of s.row.generation) more) ≡ 0 = one ∙ ap (λ b. cond b 1 0) t in
          subst (λ b. length (filter_map (ticket_of s.row.generation) (h ++ more)) ≡ cond b (s.row.acquired + 1) s.row.acquired) (sym back) (omega (arith, a, o, k.acquired))

  ticket_count : (g x k : ℕ) (more : List (Entry U D L)) → filter_map (ticket_of x) more ≡ [] → (b : Bool) → length (cons_option (cond b (Some k) None) (filter_map (ticket_of x) more)) ≡ cond b 1 0
  ticket_count g x k more none true = ap (λ xs. suc (length xs)) none
  ticket_count g x k more none false = ap length none

  -- ---- settled

  pub quiet_of : (r : Reading U D) (l : Limits) (h : List (Entry U D L)) (s : Stand) → Settled r l h s → Quiet (state_of l h) s.generation s.acquired s.slot
  quiet_of r l h s k = record { current = k.current; last = k.last; warming = k.warming; acquired = k.acquired; slot_of = k.slot; others = k.others; pins = k.pins }

  -- a quiet end makes a history settled
  pub settle : (r : Reading U D) (l : Limits) (h : List (Entry U D L)) (s : Stand) → Legal l h → Quiet (state_of l h) s.generation s.acquired s.slot → rank h (length h) ≡ s.places → ((n caller : ℕ) × (u : U) × (slot : ℕ) × (d : D) × (slice_get h n ≡ Some (Open caller u s.generation slot d)) × (r.docs d ≡ s.view)) → live (changes r h) ≡ s.docs → Settled r l h s
  settle r l h s legal q places view docs = record { legal = legal; current = q.current; last = q.last; warming = q.warming; acquired = q.acquired; slot = q.slot_of; others = q.others; pins = q.pins; places = places; view = view; docs = docs }

  pub docs_joined : (r : Reading U D) (h more : List (Entry U D L)) → live (changes r (h ++ more)) ≡ fold after (live (changes r h)) (changes r more)
  docs_joined r h more = ap live (changes_append r h more) ∙ fold-append after [] (changes r h) (changes r more)

module _ {U D L : Type 0} (r : Reading U D) (l : Limits) (c : Config) (h : List (Entry U D L)) (ts : List Telling) (lives : List Life) (s : Stand) (k : Serves r l c h ts lives s) where
  -- ---- a request that did nothing

  pub idle_serves : (t : Told) → IsIdle t.row → RepliesIdly c t.row (wants c t.call) → Serves r l c h (ts ++ idle t ∷ []) lives s
  idle_serves t none reply = record { settled = k.settled; agrees = idle_agrees r l c h ts lives t k.agrees none reply }

  -- ---- a change

  module _ (t : Told) (u : U) (line : r.line u ≡ t.call.line) (wanted : wants c t.call ≡ Ok (an_update (r.change u))) (numbers : HasNumbers t.row (Some s.places) None None) (shown : Shows c t.row accepted) (last : ComesLast t.call ts) where
    update_state : state_of l (h ++ update_entries t.call.client u) ≡ fold (machine.after {U = U} {D = D} {L = L}) (state_of l h) (update_entries t.call.client u)
    update_state = state_joined l h (update_entries t.call.client u)

    update_legal : Legal l (h ++ update_entries {D = D} {L = L} t.call.client u)
    update_legal = joined l (start l) h (update_entries t.call.client u) k.settled.legal (tt, tt)

    update_is_quiet : Quiet (state_of l (h ++ update_entries {D = D} {L = L} t.call.client u)) s.generation s.acquired s.slot
    update_is_quiet = subst (λ x. Quiet x s.generation s.acquired s.slot) (sym update_state) (update_quiet U D L (state_of l h) s.generation s.acquired s.slot t.call.client u (quiet_of r l h s k.settled))

    update_adds : Adds r l c h (update_entries t.call.client u) ts [] (telling h t)
    update_adds = record {
      index = refl;
      telling = (
        Update t.call.client u,
        get_here h (Update t.call.client u) [],
        inl (record {
          caller = t.call.client;
          content = u;
          entry = refl;
          own = record { client = refl; line = line };
          wanted = wanted;
          numbers = record { place = numbers.place ∙ ap Some (sym (rank_here h (update_entries t.call.client u) ∙ k.settled.places)); generation = numbers.generation; ticket = numbers.ticket };
        }),
      );
      reply = λ e at. subst (RepliesTo r c (h ++ update_entries t.call.client u) t) (same_Some (Update t.call.client u) e (sym (get_here h (Update t.call.client u) []) ∙ at)) shown;
      covers = last;
      placed = ((λ p n. refl), tt);
      acquired = ((λ pin a. absurd (none-some pin a)), tt);
      generations = refl;
      each = tt;
      froms = tt;
      within = tt;
      behind = tt;
      views = ((λ b v g x y e. absurd (grind arith)), tt);
      released = update_is_quiet.pins;
    }

    -- an update, or a commit that opens nothing
    pub update_serves : Serves r l c (h ++ update_entries t.call.client u) (ts ++ telling h t ∷ []) lives (record s { places = s.places + 1; docs = after s.docs (r.change u) })
    update_serves = record {
      settled = settle r l (h ++ update_entries t.call.client u) (record s { places = s.places + 1; docs = after s.docs (r.change u) }) update_legal update_is_quiet
          (rank_all h (update_entries t.call.client u) ∙ ap (λ n. n + 1) k.settled.places)
          (let v = k.settled.view in (v.0, v.1, v.2, v.3, v.4, get_left h (update_entries t.call.client u) v.0 (Open v.1 v.2 s.generation v.3 v.4) v.5, v.6))
          (docs_joined r h (update_entries t.call.client u) ∙ ap (λ d. after d (r.change u)) k.settled.docs);
      agrees = subst (Agrees r l c (h ++ update_entries t.call.client u) (ts ++ telling h t ∷ [])) same_lives (extended r l c h (update_entries t.call.client u) ts lives [] (telling h t) k.agrees update_adds update_legal);
    }
      where
        same_lives : map (recounted (h ++ update_entries {D = D} {L = L} t.call.client u)) lives ++ [] ≡ lives
        same_lives = append-nil (map (recounted (h ++ update_entries t.call.client u)) lives) ∙ map_self (recounted (h ++ update_entries t.call.client u)) lives (λ x i. recounted_same h (update_entries t.call.client u) x (all_in (IsLife h) lives k.agrees.searchers.each x i) refl)

  -- ---- a query

  module _ (t : Told) (asked : Asked) (wanted : wants c t.call ≡ Ok (an_answer asked)) (numbers : HasNumbers t.row None (Some s.generation) (Some s.acquired)) (shown : Shows c t.row (found asked (answer s.view asked)) ⊎ Shows c t.row no_memory) (last : ComesLast t.call ts) where
    query_state : state_of l (h ++ query_entries s t.call.client) ≡ fold (machine.after {U = U} {D = D} {L = L}) (state_of l h) (query_entries s t.call.client)
    query_state = state_joined l h (query_entries s t.call.client)

    query_is_legal : Legal l (h ++ query_entries s t.call.client)
    query_is_legal = joined l (start l) h (query_entries s t.call.client) k.settled.legal (query_legal U D L l (state_of l h) s t.call.client (quiet_of r l h s k.settled))

    query_is_quiet : Quiet (state_of l (h ++ query_entries s t.call.client)) s.generation (s.acquired + 1) s.slot
    query_is_quiet = subst (λ x. Quiet x s.generation (s.acquired + 1) s.slot) (sym query_state) (query_quiet U D L (state_of l h) s t.call.client (quiet_of r l h s k.settled))

    reply_here : Rattle.run_history.specs.Agreement.IsReplied r c (h ++ query_entries s t.call.client) t.row s.generation asked
    reply_here = out shown
      where
        out : Shows c t.row (found asked (answer s.view asked)) ⊎ Shows c t.row no_memory → Rattle.run_history.specs.Agreement.IsReplied r c (h ++ query_entries s t.call.client) t.row s.generation asked
        out (inl x) = let v = k.settled.view in inl (v.0, v.1, v.2, v.3, v.4, get_left h (query_entries s t.call.client) v.0 (Open v.1 v.2 s.generation v.3 v.4) v.5, subst (λ d. Shows c t.row (found asked (answer d asked))) (sym v.6) x)
        out (inr x) = inr x

    query_adds : Adds r l c h (query_entries s t.call.client) ts [] (telling h t)
    query_adds = record {
      index = refl;
      telling = (
        Acquire t.call.client s.generation s.acquired,
        get_here h (Acquire t.call.client s.generation s.acquired) (Release t.call.client s.generation [] ∷ []),
        inr (inr (inr (record {
          caller = t.call.client;
          generation = s.generation;
          ticket = s.acquired;
          asked = asked;
          entry = refl;
          client = refl;
          wanted = wanted;
          numbers = numbers;
        }))),
      );
      reply = λ e at. subst (RepliesTo r c (h ++ query_entries s t.call.client) t) (same_Some (Acquire t.call.client s.generation s.acquired) e (sym (get_here h (Acquire t.call.client s.generation s.acquired) (Release t.call.client s.generation [] ∷ [])) ∙ at)) (λ a w. subst (Rattle.run_history.specs.Agreement.IsReplied r c (h ++ query_entries s t.call.client) t.row s.generation) (same_asked asked a (sym wanted ∙ w)) reply_here);
      covers = last;
      placed = ((λ p n. absurd (false_true p)), ((λ p n. absurd (false_true p)), tt));
      acquired = ((λ pin a. told_once), ((λ pin a. absurd (none-some pin a)), tt));
      generations = refl;
      each = tt;
      froms = tt;
      within = tt;
      behind = tt;
      views = ((λ b v g x y e. absurd (grind arith)), ((λ b v g x y e. absurd (grind arith)), tt));
      released = query_is_quiet.pins;
    }
      where
        same_asked : (a b : Asked) → ◌≡◌ {A = Result Wanted (List ℕ)} (Ok (an_answer a)) (Ok (an_answer b)) → a ≡ b
        same_asked a b e = cc

        told_once : count_by (tells_at (length h)) (telling h t ∷ []) + count_by (warmed_at (length h)) [] ≡ 1
        told_once = ap (λ b. 0 + cond b 1 0 + 0) (same_test (length h))

    -- a query
    pub query_serves : Serves r l c (h ++ query_entries s t.call.client) (ts ++ telling h t ∷ []) (map (once_more s.generation) lives) (record s { acquired = s.acquired + 1 })
    query_serves = record {
      settled = settle r l (h ++ query_entries s t.call.client) (record s { acquired = s.acquired + 1 }) query_is_legal query_is_quiet
          (rank_all h (query_entries s t.call.client) ∙ (omega (arith, k.settled.places)))
          (let v = k.settled.view in (v.0, v.1, v.2, v.3, v.4, get_left h (query_entries s t.call.client) v.0 (Open v.1 v.2 s.generation v.3 v.4) v.5, v.6))
          (docs_joined r h (query_entries s t.call.client) ∙ k.settled.docs);
      agrees = subst (Agrees r l c (h ++ query_entries s t.call.client) (ts ++ telling h t ∷ [])) same_lives (extended r l c h (query_entries s t.call.client) ts lives [] (telling h t) k.agrees query_adds query_is_legal);
    }
      where
        same_lives : map (recounted (h ++ query_entries s t.call.client)) lives ++ [] ≡ map (once_more s.generation) lives
        same_lives = append-nil (map (recounted (h ++ query_entries s t.call.client)) lives) ∙ map_same (recounted (h ++ query_entries s t.call.client)) (once_more s.generation) lives (λ x i. recounted_more h (query_entries s t.call.client) s.generation x (all_in (IsLife h) lives k.agrees.searchers.each x i) (ticket_count {U = U} {D = D} {L = L} s.generation x.row.generation s.acquired (Release t.call.client s.generation [] ∷ []) refl (s.generation == x.row.generation)))

  -- ---- an opening that is warmed and registered at once

  module _ (t : Told) (u : U) (slot : ℕ) (d : D) (line : r.line u ≡ t.call.line) (wanted : wants c t.call ≡ Ok a_searcher) (numbers : HasNumbers t.row (Some s.places) (Some (s.generation + 1)) None) (shown : Shows c t.row accepted) (last : ComesLast t.call ts) (carried : r.docs d ≡ s.docs) (other : slot ≢ s.slot) (room : 0 < l.max_warming) (within : s.generation + 1 ≤ l.last_generation) (below : slot < l.slots) where
    opening_state : state_of l (h ++ opening_entries s t.call.client u slot d) ≡ fold (machine.after {U = U} {D = D} {L = L}) (state_of l h) (opening_entries s t.call.client u slot d)
    opening_state = state_joined l h (opening_entries s t.call.client u slot d)

    opening_is_legal : Legal l (h ++ opening_entries s t.call.client u slot d)
    opening_is_legal = joined l (start l) h (opening_entries s t.call.client u slot d) k.settled.legal (opening_legal U D L l (state_of l h) s t.call.client u slot d (quiet_of r l h s k.settled) other room within below)

    never_acquired : (state_of l h).acquired (s.generation + 1) ≡ 0
    never_acquired =
        let whole : state_at l h (length h) ≡ state_of l h = ap (state_of l) (take_all (length h) h (omega arith)) in
        let last_one : (state_at l h (length h)).last_opened ≡ s.generation = ap (λ x. x.last_opened) whole ∙ k.settled.last in
        let none = (sound_at l h k.settled.legal (length h)).never_above (s.generation + 1) (omega (arith, last_one)) in
        sym (ap (λ x. x.acquired (s.generation + 1)) whole) ∙ none

    opening_is_quiet : Quiet (state_of l (h ++ opening_entries s t.call.client u slot d)) (s.generation + 1) 0 slot
    opening_is_quiet = subst (λ x. Quiet x (s.generation + 1) 0 slot) (sym opening_state) (opening_quiet U D L l (state_of l h) s t.call.client u slot d (quiet_of r l h s k.settled) other never_acquired)

    here : slice_get (h ++ opening_entries s t.call.client u slot d) (length h) ≡ Some (Open t.call.client u (s.generation + 1) slot d)
    here = get_here h (Open t.call.client u (s.generation + 1) slot d) (Acquire t.call.client s.generation s.acquired ∷ Release t.call.client s.generation [] ∷ Finish (s.generation + 1) [] ∷ Free s.generation ∷ [])

    new_life : IsLife (h ++ opening_entries s t.call.client u slot d) (next_life h s)
    new_life = record {
      opening = record { entry = Open t.call.client u (s.generation + 1) slot d; at = here; told = refl };
      opened = sym (rank_here h (opening_entries s t.call.client u slot d) ∙ k.settled.places);
      end = record { entry = Finish (s.generation + 1) []; at = get_right h (opening_entries s t.call.client u slot d) 3; told = refl };
      ended = ap (λ n. n + 1) (sym k.settled.places) ∙ sym (rank_right h (opening_entries s t.call.client u slot d) 3);
      registered = (λ e. refl, λ e. refl);
      acquired = (let a = acquired_from (start l) (h ++ opening_entries s t.call.client u slot d) (s.generation + 1) in let q = opening_is_quiet.acquired in omega (arith, a, q));
    }

    opening_adds : Adds r l c h (opening_entries s t.call.client u slot d) ts (next_life h s ∷ []) (telling h t)
    opening_adds = record {
      index = refl;
      telling = (
        Open t.call.client u (s.generation + 1) slot d,
        here,
        inr (inl (record {
          caller = t.call.client;
          content = u;
          generation = s.generation + 1;
          slot = slot;
          docs = d;
          entry = refl;
          own = record { client = refl; line = line };
          wanted = wanted;
          numbers = record { place = numbers.place ∙ ap Some (sym (rank_here h (opening_entries s t.call.client u slot d) ∙ k.settled.places)); generation = numbers.generation; ticket = numbers.ticket };
        })),
      );
      reply = λ e at. subst (RepliesTo r c (h ++ opening_entries s t.call.client u slot d) t) (same_Some (Open t.call.client u (s.generation + 1) slot d) e (sym here ∙ at)) shown;
      covers = last;
      placed = ((λ p n. refl), ((λ p n. absurd (false_true p)), ((λ p n. absurd (false_true p)), ((λ p n. absurd (false_true n)), ((λ p n. absurd (false_true p)), tt)))));
      acquired = ((λ pin a. absurd (none-some pin a)), ((λ pin a. warmed_once), ((λ pin a. absurd (none-some pin a)), ((λ pin a. absurd (none-some pin a)), ((λ pin a. absurd (none-some pin a)), tt)))));
      generations = refl;
      each = (new_life, tt);
      froms = (((s.generation, s.acquired), refl, record { entry = Acquire t.call.client s.generation s.acquired; at = get_right h (opening_entries s t.call.client u slot d) 1; told = refl }), tt);
      within = ((length h + 1, refl, omega arith, omega arith), tt);
      behind = ((omega arith, λ n e. let same = same_Some (length h + 1) n e in omega (arith, same)), tt);
      views = ((λ b v g x y e. ap r.docs (sym (same_docs b v g x y e)) ∙ (carried ∙ (sym k.settled.docs ∙ ap live (sym whole)))), ((λ b v g x y e. absurd (grind arith)), ((λ b v g x y e. absurd (grind arith)), ((λ b v g x y e. absurd (grind arith)), ((λ b v g x y e. absurd (grind arith)), tt)))));
      released = opening_is_quiet.pins;
    }
      where
        warmed_once : count_by (tells_at (length h + 1)) (telling h t ∷ []) + count_by (warmed_at (length h + 1)) (next_life h s ∷ []) ≡ 1
        warmed_once = ap₂ (λ x y. 0 + cond x 1 0 + (0 + cond y 1 0)) (other_test (length h) (length h + 1) (λ e. omega (arith, e))) (same_test (length h + 1))

        same_docs : (b : ℕ) (v : U) (g x : ℕ) (y : D) → ◌≡◌ {A = Entry U D L} (Open t.call.client u (s.generation + 1) slot d) (Open b v g x y) → d ≡ y
        same_docs b v g x y e = cc

        whole : changes r (take (length h) (h ++ opening_entries s t.call.client u slot d)) ≡ changes r h
        whole = ap (changes r) (take-append_seam h (opening_entries s t.call.client u slot d))

    -- a commit that opens
    pub opening_serves : Serves r l c (h ++ opening_entries s t.call.client u slot d) (ts ++ telling h t ∷ []) (map (once_more s.generation) lives ++ next_life h s ∷ []) (record { generation = s.generation + 1; acquired = 0; slot = slot; places = s.places + 2; view = s.docs; docs = s.docs })
    opening_serves = record {
      settled = settle r l (h ++ opening_entries s t.call.client u slot d) (record { generation = s.generation + 1; acquired = 0; slot = slot; places = s.places + 2; view = s.docs; docs = s.docs }) opening_is_legal opening_is_quiet
          (rank_all h (opening_entries s t.call.client u slot d) ∙ ap (λ n. n + 2) k.settled.places)
          (length h, t.call.client, u, slot, d, here, carried)
          (docs_joined r h (opening_entries s t.call.client u slot d) ∙ k.settled.docs);
      agrees = subst (λ ls. Agrees r l c (h ++ opening_entries s t.call.client u slot d) (ts ++ telling h t ∷ []) (ls ++ next_life h s ∷ [])) same_lives (extended r l c h (opening_entries s t.call.client u slot d) ts lives (next_life h s ∷ []) (telling h t) k.agrees opening_adds opening_is_legal);
    }
      where
        same_lives : map (recounted (h ++ opening_entries s t.call.client u slot d)) lives ≡ map (once_more s.generation) lives
        same_lives = map_same (recounted (h ++ opening_entries s t.call.client u slot d)) (once_more s.generation) lives (λ x i. recounted_more h (opening_entries s t.call.client u slot d) s.generation x (all_in (IsLife h) lives k.agrees.searchers.each x i) (ticket_count {U = U} {D = D} {L = L} s.generation x.row.generation s.acquired (Release t.call.client s.generation [] ∷ Finish (s.generation + 1) [] ∷ Free s.generation ∷ []) refl (s.generation == x.row.generation)))
