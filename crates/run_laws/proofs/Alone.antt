-- Each broken output breaks its law, and keeps the others.
use Rattle.std.proofs.Common.{◌≡◌, ◌≢◌, ℕ, [], ◌∷◌, Option, Some, None, refl, sym, ap, subst, ◌∙◌, inl, inr, arith, rules}
use Rattle.std.proofs.lemmas.Grind.{common_steps}
use Rattle.std.proofs.lemmas.Option.{none-some}
use Rattle.std.specs.Option.{option_map_or}
use Rattle.std.specs.Fmt.{digits}
use Rattle.std.specs.Prelude.{slice_index}
use Rattle.serde_json.proofs.OnLiterals.{serde_json_on_literals}
use Rattle.search_model.specs.Answer.{answer}
use Rattle.search_model.specs.Reply.{accepted, too_many, no_memory, found, reply_text}
use Rattle.run_laws.proofs.OnLiterals.{requests_on_literals}
use Rattle.run_laws.specs.Rows.{add, query, commit, RequestRow}
use Rattle.run_laws.specs.Places.{view_of, warming}
use Rattle.run_laws.specs.Lawful.{Shows}
use Rattle.run_laws.specs.Trials.{Law, one_row_each, one_history, orders, answers, greatest_serves, tickets, ticket_order, warmings, Keeps, BreaksAlone, told_of, one_warming, two_warming, two_fields, asked_x, served, row, document_a, document_b, add_commit_query, add_has_no_place, adds_in_phases, adds_of_two, another_warming_told, bad_add, bad_add_is_accepted, client_did_not_wait, commit_then_add, commit_then_phase, first_ends_first, generation_is_skipped, one_add, one_commit, one_query, opened_by_nobody, opened_nothing, openings_descend, phase_did_not_wait, phases_are_swapped, place_is_shared, placed_without_memory, places_are_swapped, queries_and_commit, query_then_commit, commits_in_turn, served_from_after, ticket_past_acquired, warmed_from_before, refused_without_cause, registered_too_late, reply_of_another_view, another_document, row_is_missing, served_backwards, served_from_before, served_from_none, superseded_by_none, ticket_is_skipped, tickets_descend, two_adds, two_commits, two_queries, warmed_from_itself, warmed_from_none, warms_too_many}
use Rattle.run_laws.proofs.Worked.{shows, shows_two, tells, tells_added, tells_committed, tells_served, add_answered, found_rows, found_history, found_orders, found_answers, found_serves, found_warmings, finds_one, one_answer}

row_is_missing_others : (other : Law) → other ≢ one_row_each → Keeps one_warming add_commit_query row_is_missing other
row_is_missing_others one_row_each differs = absurd (differs refl)
row_is_missing_others one_history differs = search rules
row_is_missing_others orders differs = search rules
row_is_missing_others answers differs = (add_answered 0 1 1 2, (inl (inl (3, 2, record { place = refl; generation = refl; ticket = refl; opened = refl; room = omega arith; shown = shows 1 2 commit (Some 3) (Some 2) None accepted })), tt))
row_is_missing_others greatest_serves differs = search rules
row_is_missing_others tickets differs = search rules
row_is_missing_others ticket_order differs = search rules
row_is_missing_others warmings differs = (refl, ((refl, (3, omega arith, omega arith, refl)), tt))

row_is_missing_breaks : Keeps one_warming add_commit_query row_is_missing one_row_each → ⊥
row_is_missing_breaks h = grind (arith, common_steps)

pub row_is_missing_alone : BreaksAlone one_warming add_commit_query row_is_missing one_row_each
row_is_missing_alone = record { breaks = row_is_missing_breaks; keeps_others = row_is_missing_others }

generation_is_skipped_others : (other : Law) → other ≢ one_row_each → Keeps one_warming one_commit generation_is_skipped other
generation_is_skipped_others one_row_each differs = absurd (differs refl)
generation_is_skipped_others one_history differs = search rules
generation_is_skipped_others orders differs = search rules
generation_is_skipped_others answers differs = search (rules, shows, add_answered)
generation_is_skipped_others greatest_serves differs = search rules
generation_is_skipped_others tickets differs = search rules
generation_is_skipped_others ticket_order differs = search rules
generation_is_skipped_others warmings differs = (refl, ((refl, (2, omega arith, omega arith, refl)), tt))

generation_is_skipped_breaks : Keeps one_warming one_commit generation_is_skipped one_row_each → ⊥
generation_is_skipped_breaks h = grind (arith, common_steps)

pub generation_is_skipped_alone : BreaksAlone one_warming one_commit generation_is_skipped one_row_each
generation_is_skipped_alone = record { breaks = generation_is_skipped_breaks; keeps_others = generation_is_skipped_others }

place_is_shared_others : (other : Law) → other ≢ one_history → Keeps one_warming adds_of_two place_is_shared other
place_is_shared_others one_row_each differs = search (rules, shows)
place_is_shared_others one_history differs = absurd (differs refl)
place_is_shared_others orders differs = search rules
place_is_shared_others answers differs = search (rules, add_answered)
place_is_shared_others greatest_serves differs = search rules
place_is_shared_others tickets differs = search rules
place_is_shared_others ticket_order differs = search rules
place_is_shared_others warmings differs = search rules

place_is_shared_breaks : Keeps one_warming adds_of_two place_is_shared one_history → ⊥
place_is_shared_breaks h = grind (arith, common_steps)

pub place_is_shared_alone : BreaksAlone one_warming adds_of_two place_is_shared one_history
place_is_shared_alone = record { breaks = place_is_shared_breaks; keeps_others = place_is_shared_others }

first_ends_first_others : (other : Law) → other ≢ one_history → Keeps one_warming [] first_ends_first other
first_ends_first_others one_row_each differs = search (rules, shows)
first_ends_first_others one_history differs = absurd (differs refl)
first_ends_first_others orders differs = tt
first_ends_first_others answers differs = tt
first_ends_first_others greatest_serves differs = search rules
first_ends_first_others tickets differs = search rules
first_ends_first_others ticket_order differs = search rules
first_ends_first_others warmings differs = search rules

first_ends_first_breaks : Keeps one_warming [] first_ends_first one_history → ⊥
first_ends_first_breaks h = grind (arith, common_steps)

pub first_ends_first_alone : BreaksAlone one_warming [] first_ends_first one_history
first_ends_first_alone = record { breaks = first_ends_first_breaks; keeps_others = first_ends_first_others }

opened_by_nobody_others : (other : Law) → other ≢ one_history → Keeps one_warming one_add opened_by_nobody other
opened_by_nobody_others one_row_each differs = search (rules, shows)
opened_by_nobody_others one_history differs = absurd (differs refl)
opened_by_nobody_others orders differs = search rules
opened_by_nobody_others answers differs = search (rules, add_answered)
opened_by_nobody_others greatest_serves differs = search rules
opened_by_nobody_others tickets differs = search rules
opened_by_nobody_others ticket_order differs = search rules
opened_by_nobody_others warmings differs = (refl, ((refl, (2, omega arith, omega arith, refl)), tt))

opened_by_nobody_breaks : Keeps one_warming one_add opened_by_nobody one_history → ⊥
opened_by_nobody_breaks h = grind (arith, common_steps)

pub opened_by_nobody_alone : BreaksAlone one_warming one_add opened_by_nobody one_history
opened_by_nobody_alone = record { breaks = opened_by_nobody_breaks; keeps_others = opened_by_nobody_others }

openings_descend_others : (other : Law) → other ≢ one_history → Keeps two_warming two_commits openings_descend other
openings_descend_others one_row_each differs = search (rules, shows_two)
openings_descend_others one_history differs = absurd (differs refl)
openings_descend_others orders differs = search rules
openings_descend_others answers differs = search (rules, shows_two, add_answered)
openings_descend_others greatest_serves differs = search rules
openings_descend_others tickets differs = search rules
openings_descend_others ticket_order differs = search rules
openings_descend_others warmings differs = (refl, ((refl, (3, omega arith, omega arith, refl)), ((refl, (2, omega arith, omega arith, refl)), tt)))

openings_descend_breaks : Keeps two_warming two_commits openings_descend one_history → ⊥
openings_descend_breaks h = grind (arith, common_steps)

pub openings_descend_alone : BreaksAlone two_warming two_commits openings_descend one_history
openings_descend_alone = record { breaks = openings_descend_breaks; keeps_others = openings_descend_others }

places_are_swapped_others : (other : Law) → other ≢ orders → Keeps one_warming two_adds places_are_swapped other
places_are_swapped_others one_row_each differs = search (rules, shows)
places_are_swapped_others one_history differs = search rules
places_are_swapped_others orders differs = absurd (differs refl)
places_are_swapped_others answers differs = search (rules, add_answered)
places_are_swapped_others greatest_serves differs = search rules
places_are_swapped_others tickets differs = search rules
places_are_swapped_others ticket_order differs = search rules
places_are_swapped_others warmings differs = search rules

places_are_swapped_breaks : Keeps one_warming two_adds places_are_swapped orders → ⊥
places_are_swapped_breaks h = grind (arith, common_steps)

pub places_are_swapped_alone : BreaksAlone one_warming two_adds places_are_swapped orders
places_are_swapped_alone = record { breaks = places_are_swapped_breaks; keeps_others = places_are_swapped_others }

phases_are_swapped_others : (other : Law) → other ≢ orders → Keeps one_warming adds_in_phases phases_are_swapped other
phases_are_swapped_others one_row_each differs = search (rules, shows)
phases_are_swapped_others one_history differs = search rules
phases_are_swapped_others orders differs = absurd (differs refl)
phases_are_swapped_others answers differs = search (rules, add_answered)
phases_are_swapped_others greatest_serves differs = search rules
phases_are_swapped_others tickets differs = search rules
phases_are_swapped_others ticket_order differs = search rules
phases_are_swapped_others warmings differs = search rules

phases_are_swapped_breaks : Keeps one_warming adds_in_phases phases_are_swapped orders → ⊥
phases_are_swapped_breaks h = grind (arith, common_steps)

pub phases_are_swapped_alone : BreaksAlone one_warming adds_in_phases phases_are_swapped orders
phases_are_swapped_alone = record { breaks = phases_are_swapped_breaks; keeps_others = phases_are_swapped_others }

client_did_not_wait_others : (other : Law) → other ≢ orders → Keeps one_warming commit_then_add client_did_not_wait other
client_did_not_wait_others one_row_each differs = search (rules, shows)
client_did_not_wait_others one_history differs = search rules
client_did_not_wait_others orders differs = absurd (differs refl)
client_did_not_wait_others answers differs = (inl (inl (2, 2, record { place = refl; generation = refl; ticket = refl; opened = refl; room = omega arith; shown = shows 1 1 commit (Some 2) (Some 2) None accepted })), (add_answered 0 1 2 3, tt))
client_did_not_wait_others greatest_serves differs = search rules
client_did_not_wait_others tickets differs = search rules
client_did_not_wait_others ticket_order differs = search rules
client_did_not_wait_others warmings differs = (refl, ((refl, (2, omega arith, omega arith, refl)), tt))

client_did_not_wait_breaks : Keeps one_warming commit_then_add client_did_not_wait orders → ⊥
client_did_not_wait_breaks h = grind (arith, common_steps)

pub client_did_not_wait_alone : BreaksAlone one_warming commit_then_add client_did_not_wait orders
client_did_not_wait_alone = record { breaks = client_did_not_wait_breaks; keeps_others = client_did_not_wait_others }

phase_did_not_wait_others : (other : Law) → other ≢ orders → Keeps one_warming commit_then_phase phase_did_not_wait other
phase_did_not_wait_others one_row_each differs = search (rules, shows)
phase_did_not_wait_others one_history differs = search rules
phase_did_not_wait_others orders differs = absurd (differs refl)
phase_did_not_wait_others answers differs = (inl (inl (2, 2, record { place = refl; generation = refl; ticket = refl; opened = refl; room = omega arith; shown = shows 1 1 commit (Some 2) (Some 2) None accepted })), (add_answered 1 2 3 3, tt))
phase_did_not_wait_others greatest_serves differs = search rules
phase_did_not_wait_others tickets differs = search rules
phase_did_not_wait_others ticket_order differs = search rules
phase_did_not_wait_others warmings differs = (refl, ((refl, (2, omega arith, omega arith, refl)), tt))

phase_did_not_wait_breaks : Keeps one_warming commit_then_phase phase_did_not_wait orders → ⊥
phase_did_not_wait_breaks h = grind (arith, common_steps)

pub phase_did_not_wait_alone : BreaksAlone one_warming commit_then_phase phase_did_not_wait orders
phase_did_not_wait_alone = record { breaks = phase_did_not_wait_breaks; keeps_others = phase_did_not_wait_others }

add_has_no_place_others : (other : Law) → other ≢ answers → Keeps one_warming two_adds add_has_no_place other
add_has_no_place_others one_row_each differs = search (rules, shows)
add_has_no_place_others one_history differs = search rules
add_has_no_place_others orders differs = search rules
add_has_no_place_others answers differs = absurd (differs refl)
add_has_no_place_others greatest_serves differs = search rules
add_has_no_place_others tickets differs = search rules
add_has_no_place_others ticket_order differs = search rules
add_has_no_place_others warmings differs = search rules

add_has_no_place_breaks : Keeps one_warming two_adds add_has_no_place answers → ⊥
add_has_no_place_breaks h = grind (arith, common_steps)

pub add_has_no_place_alone : BreaksAlone one_warming two_adds add_has_no_place answers
add_has_no_place_alone = record { breaks = add_has_no_place_breaks; keeps_others = add_has_no_place_others }

bad_add_is_accepted_others : (other : Law) → other ≢ answers → Keeps one_warming bad_add bad_add_is_accepted other
bad_add_is_accepted_others one_row_each differs = search (rules, shows)
bad_add_is_accepted_others one_history differs = search rules
bad_add_is_accepted_others orders differs = search rules
bad_add_is_accepted_others answers differs = absurd (differs refl)
bad_add_is_accepted_others greatest_serves differs = search rules
bad_add_is_accepted_others tickets differs = search rules
bad_add_is_accepted_others ticket_order differs = search rules
bad_add_is_accepted_others warmings differs = search rules

bad_add_is_accepted_breaks : Keeps one_warming bad_add bad_add_is_accepted answers → ⊥
unfolding serde_json_on_literals
bad_add_is_accepted_breaks h = grind (arith, common_steps)

pub bad_add_is_accepted_alone : BreaksAlone one_warming bad_add bad_add_is_accepted answers
bad_add_is_accepted_alone = record { breaks = bad_add_is_accepted_breaks; keeps_others = bad_add_is_accepted_others }

placed_without_memory_others : (other : Law) → other ≢ answers → Keeps one_warming one_add placed_without_memory other
placed_without_memory_others one_row_each differs = record { rows = refl; numbers = (tells 1 1 add (Some 2) None None no_memory, tt); generations = refl }
placed_without_memory_others one_history differs = search rules
placed_without_memory_others orders differs = search rules
placed_without_memory_others answers differs = absurd (differs refl)
placed_without_memory_others greatest_serves differs = search rules
placed_without_memory_others tickets differs = search rules
placed_without_memory_others ticket_order differs = search rules
placed_without_memory_others warmings differs = search rules

placed_without_memory_breaks : Keeps one_warming one_add placed_without_memory answers → ⊥
placed_without_memory_breaks h = grind (arith, common_steps)

pub placed_without_memory_alone : BreaksAlone one_warming one_add placed_without_memory answers
placed_without_memory_alone = record { breaks = placed_without_memory_breaks; keeps_others = placed_without_memory_others }

superseded_by_none_others : (other : Law) → other ≢ greatest_serves → Keeps one_warming one_commit superseded_by_none other
superseded_by_none_others one_row_each differs = search (rules, shows)
superseded_by_none_others one_history differs = search rules
superseded_by_none_others orders differs = search rules
superseded_by_none_others answers differs = search (rules, shows, add_answered)
superseded_by_none_others greatest_serves differs = absurd (differs refl)
superseded_by_none_others tickets differs = search rules
superseded_by_none_others ticket_order differs = search rules
superseded_by_none_others warmings differs = (refl, ((refl, (2, omega arith, omega arith, refl)), tt))

superseded_by_none_breaks : Keeps one_warming one_commit superseded_by_none greatest_serves → ⊥
superseded_by_none_breaks h = grind (arith, common_steps)

pub superseded_by_none_alone : BreaksAlone one_warming one_commit superseded_by_none greatest_serves
superseded_by_none_alone = record { breaks = superseded_by_none_breaks; keeps_others = superseded_by_none_others }

registered_too_late_others : (other : Law) → other ≢ greatest_serves → Keeps two_warming two_commits registered_too_late other
registered_too_late_others one_row_each differs = search (rules, shows_two)
registered_too_late_others one_history differs = search rules
registered_too_late_others orders differs = search rules
registered_too_late_others answers differs = search (rules, shows_two, add_answered)
registered_too_late_others greatest_serves differs = absurd (differs refl)
registered_too_late_others tickets differs = search rules
registered_too_late_others ticket_order differs = search rules
registered_too_late_others warmings differs = (refl, ((refl, (2, omega arith, omega arith, refl)), ((refl, (3, omega arith, omega arith, refl)), tt)))

registered_too_late_breaks : Keeps two_warming two_commits registered_too_late greatest_serves → ⊥
registered_too_late_breaks h = grind (arith, common_steps)

pub registered_too_late_alone : BreaksAlone two_warming two_commits registered_too_late greatest_serves
registered_too_late_alone = record { breaks = registered_too_late_breaks; keeps_others = registered_too_late_others }

refused_without_cause_others : (other : Law) → other ≢ answers → Keeps one_warming one_commit refused_without_cause other
refused_without_cause_others one_row_each differs = record { rows = refl; numbers = (tells 1 1 commit (Some 2) None None (too_many []), tt); generations = refl }
refused_without_cause_others one_history differs = search rules
refused_without_cause_others orders differs = search rules
refused_without_cause_others answers differs = absurd (differs refl)
refused_without_cause_others greatest_serves differs = search rules
refused_without_cause_others tickets differs = search rules
refused_without_cause_others ticket_order differs = search rules
refused_without_cause_others warmings differs = search rules

refused_without_cause_breaks : Keeps one_warming one_commit refused_without_cause answers → ⊥
refused_without_cause_breaks h = grind (arith, common_steps)

pub refused_without_cause_alone : BreaksAlone one_warming one_commit refused_without_cause answers
refused_without_cause_alone = record { breaks = refused_without_cause_breaks; keeps_others = refused_without_cause_others }

opened_nothing_others : (other : Law) → other ≢ answers → Keeps one_warming one_commit opened_nothing other
opened_nothing_others one_row_each differs = search (rules, shows)
opened_nothing_others one_history differs = search rules
opened_nothing_others orders differs = search rules
opened_nothing_others answers differs = absurd (differs refl)
opened_nothing_others greatest_serves differs = search rules
opened_nothing_others tickets differs = search rules
opened_nothing_others ticket_order differs = search rules
opened_nothing_others warmings differs = search rules

opened_nothing_breaks : Keeps one_warming one_commit opened_nothing answers → ⊥
opened_nothing_breaks h = grind (arith, common_steps)

pub opened_nothing_alone : BreaksAlone one_warming one_commit opened_nothing answers
opened_nothing_alone = record { breaks = opened_nothing_breaks; keeps_others = opened_nothing_others }

another_warming_told_others : (other : Law) → other ≢ answers → Keeps one_warming two_commits another_warming_told other
another_warming_told_others one_row_each differs = record { rows = refl; numbers = (tells_committed 1 1 2 2, (tells 2 2 commit (Some 3) None None (too_many (1 ∷ [])), tt)); generations = refl }
another_warming_told_others one_history differs = search rules
another_warming_told_others orders differs = search rules
another_warming_told_others answers differs = absurd (differs refl)
another_warming_told_others greatest_serves differs = search rules
another_warming_told_others tickets differs = search rules
another_warming_told_others ticket_order differs = search rules
another_warming_told_others warmings differs = (refl, ((refl, (2, omega arith, omega arith, refl)), tt))

-- the two replies differ where the generation stands
refusals_differ : reply_text two_fields (too_many (1 ∷ [])) ≡ reply_text two_fields (too_many (2 ∷ [])) → ⊥
unfolding serde_json_on_literals digits
refusals_differ e =
    let figures : ◌≡◌ {A = ℕ} 49 50 = ap (λ t. slice_index t 48) e in
    omega (arith, figures)

-- the second searcher is warming at place 3
two_is_warming : (p : ℕ) → Some 3 ≡ Some p → Shows one_warming (row 2 2 commit (Some 3) None None (too_many (1 ∷ []))) (too_many (warming p another_warming_told.searchers)) → ⊥
two_is_warming p e s =
    let shown = subst (λ (n : ℕ). Shows one_warming (row 2 2 commit (Some 3) None None (too_many (1 ∷ []))) (too_many (warming n another_warming_told.searchers))) (ap (λ (o : Option ℕ). option_map_or (λ n. n) o 3) (sym e)) s in
    refusals_differ shown.reply

another_warming_told_breaks : Keeps one_warming two_commits another_warming_told answers → ⊥
another_warming_told_breaks h = elim h.1.0 [
  | inl f ↦ elim f [ inl w ↦ none-some w.1 w.2.generation | inr w ↦ two_is_warming w.0 w.1.place w.1.shown ]
  | inr w ↦ (let code : ◌≡◌ {A = ℕ} 503 500 = w.1.code in omega (arith, code))
]

pub another_warming_told_alone : BreaksAlone one_warming two_commits another_warming_told answers
another_warming_told_alone = record { breaks = another_warming_told_breaks; keeps_others = another_warming_told_others }

warms_too_many_others : (other : Law) → other ≢ answers → Keeps one_warming two_commits warms_too_many other
warms_too_many_others one_row_each differs = search (rules, shows)
warms_too_many_others one_history differs = search rules
warms_too_many_others orders differs = search rules
warms_too_many_others answers differs = absurd (differs refl)
warms_too_many_others greatest_serves differs = search rules
warms_too_many_others tickets differs = search rules
warms_too_many_others ticket_order differs = search rules
warms_too_many_others warmings differs = (refl, ((refl, (2, omega arith, omega arith, refl)), ((refl, (3, omega arith, omega arith, refl)), tt)))

warms_too_many_breaks : Keeps one_warming two_commits warms_too_many answers → ⊥
warms_too_many_breaks h = grind (arith, common_steps)

pub warms_too_many_alone : BreaksAlone one_warming two_commits warms_too_many answers
warms_too_many_alone = record { breaks = warms_too_many_breaks; keeps_others = warms_too_many_others }

served_from_none_others : (other : Law) → other ≢ answers → Keeps one_warming one_query served_from_none other
served_from_none_others one_row_each differs = record { rows = refl; numbers = (tells_served 1 2 0 [], tt); generations = refl }
served_from_none_others one_history differs = search rules
served_from_none_others orders differs = search rules
served_from_none_others answers differs = absurd (differs refl)
served_from_none_others greatest_serves differs = search rules
served_from_none_others tickets differs = search rules
served_from_none_others ticket_order differs = search rules
served_from_none_others warmings differs = search rules

served_from_none_breaks : Keeps one_warming one_query served_from_none answers → ⊥
served_from_none_breaks h = grind (arith, common_steps)

pub served_from_none_alone : BreaksAlone one_warming one_query served_from_none answers
served_from_none_alone = record { breaks = served_from_none_breaks; keeps_others = served_from_none_others }

reply_of_another_view_others : (other : Law) → other ≢ answers → Keeps one_warming add_commit_query reply_of_another_view other
reply_of_another_view_others one_row_each differs = record { rows = refl; numbers = (tells_added 1 1 2, (tells_committed 1 2 3 2, (tells_served 3 2 0 [], tt))); generations = refl }
reply_of_another_view_others one_history differs = search rules
reply_of_another_view_others orders differs = search rules
reply_of_another_view_others answers differs = absurd (differs refl)
reply_of_another_view_others greatest_serves differs = search rules
reply_of_another_view_others tickets differs = search rules
reply_of_another_view_others ticket_order differs = search rules
reply_of_another_view_others warmings differs = (refl, ((refl, (3, omega arith, omega arith, refl)), tt))

-- the second searcher sees a document, and the reply shows none
one_is_found : (g : ℕ) → Some 2 ≡ Some g → Shows one_warming (served 3 2 0 []) (found asked_x (answer (view_of one_warming (told_of add_commit_query reply_of_another_view) reply_of_another_view g) asked_x)) → ⊥
unfolding serde_json_on_literals
one_is_found g e s =
    let shown = subst (λ (n : ℕ). Shows one_warming (served 3 2 0 []) (found asked_x (answer (view_of one_warming (told_of add_commit_query reply_of_another_view) reply_of_another_view n) asked_x))) (ap (λ (o : Option ℕ). option_map_or (λ n. n) o 2) (sym e)) s in
    let none : ◌≡◌ {A = ℕ} 0 1 = shown.found ∙ finds_one in
    omega (arith, none)

reply_of_another_view_breaks : Keeps one_warming add_commit_query reply_of_another_view answers → ⊥
unfolding requests_on_literals
reply_of_another_view_breaks h = elim h.1.1.0 [
  | inl w ↦ elim w.2.shown [ inl s ↦ one_is_found w.0 w.2.generation s | inr s ↦ (let code : ◌≡◌ {A = ℕ} 0 500 = s.code in omega (arith, code)) ]
  | inr w ↦ (let code : ◌≡◌ {A = ℕ} 0 500 = w.1.code in omega (arith, code))
]

pub reply_of_another_view_alone : BreaksAlone one_warming add_commit_query reply_of_another_view answers
reply_of_another_view_alone = record { breaks = reply_of_another_view_breaks; keeps_others = reply_of_another_view_others }

another_document_others : (other : Law) → other ≢ answers → Keeps one_warming add_commit_query another_document other
another_document_others one_row_each differs = record { rows = refl; numbers = (tells_added 1 1 2, (tells_committed 1 2 3 2, (tells 1 3 query None (Some 2) (Some 0) (found asked_x (record { found = 1; docs = document_b ∷ [] })), tt))); generations = refl }
another_document_others one_history differs = search rules
another_document_others orders differs = search rules
another_document_others answers differs = absurd (differs refl)
another_document_others greatest_serves differs = search rules
another_document_others tickets differs = search rules
another_document_others ticket_order differs = search rules
another_document_others warmings differs = (refl, ((refl, (3, omega arith, omega arith, refl)), tt))

-- the two replies differ where the unique key stands
replies_differ : reply_text two_fields (found asked_x (record { found = 1; docs = document_b ∷ [] })) ≡ reply_text two_fields (found asked_x (record { found = 1; docs = document_a ∷ [] })) → ⊥
unfolding serde_json_on_literals
replies_differ e =
    let letters : ◌≡◌ {A = ℕ} 98 97 = ap (λ t. slice_index t 38) e in
    omega (arith, letters)

-- the row of the query
abbrev told_b : RequestRow
told_b = row 1 3 query None (Some 2) (Some 0) (found asked_x (record { found = 1; docs = document_b ∷ [] }))

a_is_found : (g : ℕ) → Some 2 ≡ Some g → Shows one_warming told_b (found asked_x (answer (view_of one_warming (told_of add_commit_query another_document) another_document g) asked_x)) → ⊥
unfolding serde_json_on_literals
a_is_found g e s =
    let shown = subst (λ (n : ℕ). Shows one_warming told_b (found asked_x (answer (view_of one_warming (told_of add_commit_query another_document) another_document n) asked_x))) (ap (λ (o : Option ℕ). option_map_or (λ n. n) o 2) (sym e)) s in
    replies_differ (shown.reply ∙ ap (λ a. reply_text two_fields (found asked_x a)) one_answer)

another_document_breaks : Keeps one_warming add_commit_query another_document answers → ⊥
unfolding requests_on_literals
another_document_breaks h = elim h.1.1.0 [
  | inl w ↦ elim w.2.shown [ inl s ↦ a_is_found w.0 w.2.generation s | inr s ↦ (let code : ◌≡◌ {A = ℕ} 0 500 = s.code in omega (arith, code)) ]
  | inr w ↦ (let code : ◌≡◌ {A = ℕ} 0 500 = w.1.code in omega (arith, code))
]

pub another_document_alone : BreaksAlone one_warming add_commit_query another_document answers
another_document_alone = record { breaks = another_document_breaks; keeps_others = another_document_others }

served_from_before_others : (other : Law) → other ≢ answers → Keeps one_warming add_commit_query served_from_before other
served_from_before_others one_row_each differs = record { rows = refl; numbers = (tells_added 1 1 2, (tells_committed 1 2 3 2, (tells_served 3 1 1 [], tt))); generations = refl }
served_from_before_others one_history differs = search rules
served_from_before_others orders differs = search rules
served_from_before_others answers differs = absurd (differs refl)
served_from_before_others greatest_serves differs = search rules
served_from_before_others tickets differs = search rules
served_from_before_others ticket_order differs = search rules
served_from_before_others warmings differs = (refl, ((refl, (3, omega arith, omega arith, refl)), tt))

served_from_before_breaks : Keeps one_warming add_commit_query served_from_before answers → ⊥
unfolding requests_on_literals
served_from_before_breaks h = grind (arith, common_steps)

pub served_from_before_alone : BreaksAlone one_warming add_commit_query served_from_before answers
served_from_before_alone = record { breaks = served_from_before_breaks; keeps_others = served_from_before_others }

served_backwards_others : (other : Law) → other ≢ answers → Keeps one_warming queries_and_commit served_backwards other
served_backwards_others one_row_each differs = record { rows = refl; numbers = (tells_served 1 2 0 [], (tells_served 2 1 1 [], (tells_committed 2 3 2 2, tt))); generations = refl }
served_backwards_others one_history differs = search rules
served_backwards_others orders differs = search rules
served_backwards_others answers differs = absurd (differs refl)
served_backwards_others greatest_serves differs = search rules
served_backwards_others tickets differs = search rules
served_backwards_others ticket_order differs = search rules
served_backwards_others warmings differs = (refl, ((refl, (2, omega arith, omega arith, refl)), tt))

served_backwards_breaks : Keeps one_warming queries_and_commit served_backwards answers → ⊥
served_backwards_breaks h = grind (arith, common_steps)

pub served_backwards_alone : BreaksAlone one_warming queries_and_commit served_backwards answers
served_backwards_alone = record { breaks = served_backwards_breaks; keeps_others = served_backwards_others }

tickets_descend_others : (other : Law) → other ≢ answers → Keeps one_warming two_queries tickets_descend other
tickets_descend_others one_row_each differs = record { rows = refl; numbers = (tells_served 1 1 1 [], (tells_served 2 1 0 [], tt)); generations = refl }
tickets_descend_others one_history differs = search rules
tickets_descend_others orders differs = search rules
tickets_descend_others answers differs = absurd (differs refl)
tickets_descend_others greatest_serves differs = search rules
tickets_descend_others tickets differs = search rules
tickets_descend_others ticket_order differs = search rules
tickets_descend_others warmings differs = search rules

tickets_descend_breaks : Keeps one_warming two_queries tickets_descend answers → ⊥
tickets_descend_breaks h = grind (arith, common_steps)

pub tickets_descend_alone : BreaksAlone one_warming two_queries tickets_descend answers
tickets_descend_alone = record { breaks = tickets_descend_breaks; keeps_others = tickets_descend_others }

ticket_is_skipped_others : (other : Law) → other ≢ tickets → Keeps one_warming add_commit_query ticket_is_skipped other
ticket_is_skipped_others one_row_each differs = found_rows 1 1 (Some (1, 0)) 1
ticket_is_skipped_others one_history differs = found_history 1 1 (Some (1, 0)) 1
ticket_is_skipped_others orders differs = found_orders 1 1 (Some (1, 0)) 1
ticket_is_skipped_others answers differs = found_answers 1 1 (Some (1, 0)) 1
ticket_is_skipped_others greatest_serves differs = found_serves 1 1 (Some (1, 0)) 1
ticket_is_skipped_others tickets differs = absurd (differs refl)
ticket_is_skipped_others ticket_order differs = search rules
ticket_is_skipped_others warmings differs = found_warmings 1 1 0 1

ticket_is_skipped_breaks : Keeps one_warming add_commit_query ticket_is_skipped tickets → ⊥
ticket_is_skipped_breaks h = grind (arith, common_steps)

pub ticket_is_skipped_alone : BreaksAlone one_warming add_commit_query ticket_is_skipped tickets
ticket_is_skipped_alone = record { breaks = ticket_is_skipped_breaks; keeps_others = ticket_is_skipped_others }

warmed_from_none_others : (other : Law) → other ≢ warmings → Keeps one_warming add_commit_query warmed_from_none other
warmed_from_none_others one_row_each differs = found_rows 0 1 None 0
warmed_from_none_others one_history differs = found_history 0 1 None 0
warmed_from_none_others orders differs = found_orders 0 1 None 0
warmed_from_none_others answers differs = found_answers 0 1 None 0
warmed_from_none_others greatest_serves differs = found_serves 0 1 None 0
warmed_from_none_others tickets differs = search rules
warmed_from_none_others ticket_order differs = search rules
warmed_from_none_others warmings differs = absurd (differs refl)

warmed_from_none_breaks : Keeps one_warming add_commit_query warmed_from_none warmings → ⊥
warmed_from_none_breaks h = grind (arith, common_steps)

pub warmed_from_none_alone : BreaksAlone one_warming add_commit_query warmed_from_none warmings
warmed_from_none_alone = record { breaks = warmed_from_none_breaks; keeps_others = warmed_from_none_others }

warmed_from_itself_others : (other : Law) → other ≢ warmings → Keeps one_warming add_commit_query warmed_from_itself other
warmed_from_itself_others one_row_each differs = found_rows 0 2 (Some (2, 0)) 1
warmed_from_itself_others one_history differs = found_history 0 2 (Some (2, 0)) 1
warmed_from_itself_others orders differs = found_orders 0 2 (Some (2, 0)) 1
warmed_from_itself_others answers differs = found_answers 0 2 (Some (2, 0)) 1
warmed_from_itself_others greatest_serves differs = found_serves 0 2 (Some (2, 0)) 1
warmed_from_itself_others tickets differs = search rules
warmed_from_itself_others ticket_order differs = search rules
warmed_from_itself_others warmings differs = absurd (differs refl)

warmed_from_itself_breaks : Keeps one_warming add_commit_query warmed_from_itself warmings → ⊥
warmed_from_itself_breaks h = grind (arith, common_steps)

pub warmed_from_itself_alone : BreaksAlone one_warming add_commit_query warmed_from_itself warmings
warmed_from_itself_alone = record { breaks = warmed_from_itself_breaks; keeps_others = warmed_from_itself_others }

served_from_after_others : (other : Law) → other ≢ answers → Keeps one_warming query_then_commit served_from_after other
served_from_after_others one_row_each differs = record { rows = refl; numbers = (tells_served 1 2 0 [], (tells_committed 1 2 2 2, tt)); generations = refl }
served_from_after_others one_history differs = search rules
served_from_after_others orders differs = search rules
served_from_after_others answers differs = absurd (differs refl)
served_from_after_others greatest_serves differs = search rules
served_from_after_others tickets differs = search rules
served_from_after_others ticket_order differs = search rules
served_from_after_others warmings differs = (refl, ((refl, (2, omega arith, omega arith, refl)), tt))

served_from_after_breaks : Keeps one_warming query_then_commit served_from_after answers → ⊥
served_from_after_breaks h = grind (arith, common_steps)

pub served_from_after_alone : BreaksAlone one_warming query_then_commit served_from_after answers
served_from_after_alone = record { breaks = served_from_after_breaks; keeps_others = served_from_after_others }

ticket_past_acquired_others : (other : Law) → other ≢ tickets → Keeps one_warming one_query ticket_past_acquired other
unfolding requests_on_literals
ticket_past_acquired_others one_row_each differs = record { rows = refl; numbers = (tells_served 1 1 0 [], tt); generations = refl }
ticket_past_acquired_others one_history differs = search rules
ticket_past_acquired_others orders differs = search rules
ticket_past_acquired_others answers differs = (inl (1, 0, record { place = refl; generation = refl; ticket = refl; current = (1, omega arith, omega arith, refl); rising = tt; shown = inl (shows 1 1 query None (Some 1) (Some 0) (found asked_x (answer [] asked_x))) }), tt)
ticket_past_acquired_others greatest_serves differs = search rules
ticket_past_acquired_others tickets differs = absurd (differs refl)
ticket_past_acquired_others ticket_order differs = search rules
ticket_past_acquired_others warmings differs = search rules

ticket_past_acquired_breaks : Keeps one_warming one_query ticket_past_acquired tickets → ⊥
ticket_past_acquired_breaks h = grind (arith, common_steps)

pub ticket_past_acquired_alone : BreaksAlone one_warming one_query ticket_past_acquired tickets
ticket_past_acquired_alone = record { breaks = ticket_past_acquired_breaks; keeps_others = ticket_past_acquired_others }

warmed_from_before_others : (other : Law) → other ≢ warmings → Keeps one_warming commits_in_turn warmed_from_before other
warmed_from_before_others one_row_each differs = record { rows = refl; numbers = (tells_committed 1 1 2 2, (tells_committed 1 2 4 3, tt)); generations = refl }
warmed_from_before_others one_history differs = search rules
warmed_from_before_others orders differs = search rules
warmed_from_before_others answers differs = search (rules, shows, add_answered)
warmed_from_before_others greatest_serves differs = search rules
warmed_from_before_others tickets differs = search rules
warmed_from_before_others ticket_order differs = search rules
warmed_from_before_others warmings differs = absurd (differs refl)

warmed_from_before_breaks : Keeps one_warming commits_in_turn warmed_from_before warmings → ⊥
warmed_from_before_breaks h = grind (arith, common_steps)

pub warmed_from_before_alone : BreaksAlone one_warming commits_in_turn warmed_from_before warmings
warmed_from_before_alone = record { breaks = warmed_from_before_breaks; keeps_others = warmed_from_before_others }
