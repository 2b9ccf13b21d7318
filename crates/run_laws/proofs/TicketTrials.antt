-- Tickets that come from no history break their law alone.
use Rattle.std.proofs.Common.{◌≢◌, [], Some, None, refl, inl, arith, rules}
use Rattle.std.proofs.lemmas.Grind.{common_steps}
use Rattle.serde_json.proofs.OnLiterals.{serde_json_on_literals}
use Rattle.search_model.specs.Answer.{answer}
use Rattle.run_laws.proofs.OnLiterals.{requests_on_literals}
use Rattle.search_model.specs.Reply.{accepted, found}
use Rattle.run_laws.specs.Rows.{query, commit}
use Rattle.run_laws.specs.Trials.{Law, one_row_each, one_history, orders, answers, greatest_serves, tickets, ticket_order, warmings, Keeps, BreaksAlone, one_warming, asked_x, query_then_commit, queries_in_phases, crossing, phases_descend, tickets_cross, warming_crosses}
use Rattle.run_laws.proofs.Worked.{shows, tells, add_answered}

phases_descend_others : (other : Law) → other ≢ answers → Keeps one_warming queries_in_phases phases_descend other
phases_descend_others one_row_each differs = search (rules, tells)
phases_descend_others one_history differs = search rules
phases_descend_others orders differs = search rules
phases_descend_others answers differs = absurd (differs refl)
phases_descend_others greatest_serves differs = search rules
phases_descend_others tickets differs = search rules
phases_descend_others ticket_order differs = search rules
phases_descend_others warmings differs = search rules

phases_descend_breaks : Keeps one_warming queries_in_phases phases_descend answers → ⊥
phases_descend_breaks h = grind (arith, common_steps)

pub phases_descend_alone : BreaksAlone one_warming queries_in_phases phases_descend answers
phases_descend_alone = record { breaks = phases_descend_breaks; keeps_others = phases_descend_others }

-- a query of the first searcher is answered where that was current at a place between its neighbours
tickets_cross_answered : Keeps one_warming crossing tickets_cross answers
unfolding serde_json_on_literals requests_on_literals
tickets_cross_answered = (
  add_answered 0 1 1 3,
  (
    inl (1, 0, record { place = refl; generation = refl; ticket = refl; current = (3, omega arith, omega arith, refl); rising = tt; shown = inl (shows 1 2 query None (Some 1) (Some 0) (found asked_x (answer [] asked_x))) }),
    (
      inl (1, 1, record { place = refl; generation = refl; ticket = refl; current = (1, omega arith, omega arith, refl); rising = tt; shown = inl (shows 2 3 query None (Some 1) (Some 1) (found asked_x (answer [] asked_x))) }),
      (add_answered 0 2 4 2, tt),
    ),
  ),
)

warming_ticket_answered : Keeps one_warming query_then_commit warming_crosses answers
unfolding serde_json_on_literals requests_on_literals
warming_ticket_answered = (
  inl (1, 1, record { place = refl; generation = refl; ticket = refl; current = (1, omega arith, omega arith, refl); rising = tt; shown = inl (shows 1 1 query None (Some 1) (Some 1) (found asked_x (answer [] asked_x))) }),
  (inl (inl (2, 2, record { place = refl; generation = refl; ticket = refl; opened = refl; room = omega arith; shown = shows 1 2 commit (Some 2) (Some 2) None accepted })), tt),
)

tickets_cross_others : (other : Law) → other ≢ ticket_order → Keeps one_warming crossing tickets_cross other
tickets_cross_others one_row_each differs = search (rules, tells)
tickets_cross_others one_history differs = search rules
tickets_cross_others orders differs = search rules
tickets_cross_others answers differs = tickets_cross_answered
tickets_cross_others greatest_serves differs = search rules
tickets_cross_others tickets differs = search rules
tickets_cross_others ticket_order differs = absurd (differs refl)
tickets_cross_others warmings differs = search rules

tickets_cross_breaks : Keeps one_warming crossing tickets_cross ticket_order → ⊥
unfolding requests_on_literals
tickets_cross_breaks h = grind (arith, common_steps)

pub tickets_cross_alone : BreaksAlone one_warming crossing tickets_cross ticket_order
tickets_cross_alone = record { breaks = tickets_cross_breaks; keeps_others = tickets_cross_others }

warming_crosses_others : (other : Law) → other ≢ ticket_order → Keeps one_warming query_then_commit warming_crosses other
warming_crosses_others one_row_each differs = search (rules, tells)
warming_crosses_others one_history differs = search rules
warming_crosses_others orders differs = search rules
warming_crosses_others answers differs = warming_ticket_answered
warming_crosses_others greatest_serves differs = search rules
warming_crosses_others tickets differs = search rules
warming_crosses_others ticket_order differs = absurd (differs refl)
warming_crosses_others warmings differs = (refl, ((refl, (2, omega arith, omega arith, refl)), tt))

warming_crosses_breaks : Keeps one_warming query_then_commit warming_crosses ticket_order → ⊥
warming_crosses_breaks h = grind (arith, common_steps)

pub warming_crosses_alone : BreaksAlone one_warming query_then_commit warming_crosses ticket_order
warming_crosses_alone = record { breaks = warming_crosses_breaks; keeps_others = warming_crosses_others }
