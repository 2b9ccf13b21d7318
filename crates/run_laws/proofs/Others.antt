-- More outputs that are lawful.
use Rattle.std.proofs.Common.{◌≡◌, [], ◌∷◌, Some, None, refl, inl, inr, arith, rules}
use Rattle.std.specs.Fmt.{digits}
use Rattle.serde_json.proofs.OnLiterals.{serde_json_on_literals}
use Rattle.run_laws.proofs.OnLiterals.{requests_on_literals}
use Rattle.search_model.specs.Reply.{accepted, too_many, no_memory}
use Rattle.run_laws.specs.Rows.{add, query, commit}
use Rattle.run_laws.specs.Lawful.{Lawful}
use Rattle.run_laws.specs.OutputText.{output_text}
use Rattle.run_laws.specs.Trials.{Law, one_row_each, one_history, orders, answers, greatest_serves, tickets, ticket_order, warmings, Keeps, one_warming, two_warming, one_add, one_query, two_commits, nothing_asked, overtaken, overtaken_text, warming_told, add_without_memory, query_without_memory}
use Rattle.run_laws.proofs.Worked.{shows, shows_two, tells, tells_committed, lawful_by}

nothing_keeps : (law : Law) → Keeps one_warming [] nothing_asked law
nothing_keeps one_row_each = search rules
nothing_keeps one_history = search rules
nothing_keeps orders = tt
nothing_keeps answers = tt
nothing_keeps greatest_serves = search rules
nothing_keeps tickets = search rules
nothing_keeps ticket_order = search rules
nothing_keeps warmings = search rules

pub nothing_is_lawful : Lawful one_warming [] nothing_asked
nothing_is_lawful = lawful_by one_warming [] nothing_asked nothing_keeps

overtaken_keeps : (law : Law) → Keeps two_warming two_commits overtaken law
overtaken_keeps one_row_each = search (rules, shows_two)
overtaken_keeps one_history = search rules
overtaken_keeps orders = search rules
overtaken_keeps answers = search (rules, shows_two)
overtaken_keeps greatest_serves = search rules
overtaken_keeps tickets = search rules
overtaken_keeps ticket_order = search rules
overtaken_keeps warmings = (refl, ((refl, (2, omega arith, omega arith, refl)), ((refl, (3, omega arith, omega arith, refl)), tt)))

pub overtaken_is_lawful : Lawful two_warming two_commits overtaken
overtaken_is_lawful = lawful_by two_warming two_commits overtaken overtaken_keeps

warming_told_keeps : (law : Law) → Keeps one_warming two_commits warming_told law
warming_told_keeps one_row_each = record { rows = refl; numbers = (tells_committed 1 1 2 2, (tells 2 2 commit (Some 3) None None (too_many (2 ∷ [])), tt)); generations = refl }
warming_told_keeps one_history = search rules
warming_told_keeps orders = search rules
warming_told_keeps answers = (
  inl (inl (2, 2, record { place = refl; generation = refl; ticket = refl; opened = refl; room = omega arith; shown = shows 1 1 commit (Some 2) (Some 2) None accepted })),
  (
    inl (inr (3, record { place = refl; generation = refl; ticket = refl; full = refl; shown = shows 2 2 commit (Some 3) None None (too_many (2 ∷ [])) })),
    tt,
  ),
)
warming_told_keeps greatest_serves = search rules
warming_told_keeps tickets = search rules
warming_told_keeps ticket_order = search rules
warming_told_keeps warmings = (refl, ((refl, (2, omega arith, omega arith, refl)), tt))

pub warming_told_is_lawful : Lawful one_warming two_commits warming_told
warming_told_is_lawful = lawful_by one_warming two_commits warming_told warming_told_keeps

-- the add reads, and was not done
memory_keeps : (law : Law) → Keeps one_warming one_add add_without_memory law
unfolding serde_json_on_literals
memory_keeps one_row_each = record { rows = refl; numbers = (tells 1 1 add None None None no_memory, tt); generations = refl }
memory_keeps one_history = search rules
memory_keeps orders = search rules
memory_keeps answers = (inr (record { place = refl; generation = refl; ticket = refl }, shows 1 1 add None None None no_memory), tt)
memory_keeps greatest_serves = search rules
memory_keeps tickets = search rules
memory_keeps ticket_order = search rules
memory_keeps warmings = search rules

pub memory_is_lawful : Lawful one_warming one_add add_without_memory
memory_is_lawful = lawful_by one_warming one_add add_without_memory memory_keeps

-- the query had acquired the first searcher
query_memory_keeps : (law : Law) → Keeps one_warming one_query query_without_memory law
unfolding requests_on_literals
query_memory_keeps one_row_each = record { rows = refl; numbers = (tells 1 1 query None (Some 1) (Some 0) no_memory, tt); generations = refl }
query_memory_keeps one_history = search rules
query_memory_keeps orders = search rules
query_memory_keeps answers = (
  inl (1, 0, record { place = refl; generation = refl; ticket = refl; current = (1, omega arith, omega arith, refl); rising = tt; shown = inr (shows 1 1 query None (Some 1) (Some 0) no_memory) }),
  tt,
)
query_memory_keeps greatest_serves = search rules
query_memory_keeps tickets = search rules
query_memory_keeps ticket_order = search rules
query_memory_keeps warmings = search rules

pub query_memory_is_lawful : Lawful one_warming one_query query_without_memory
query_memory_is_lawful = lawful_by one_warming one_query query_without_memory query_memory_keeps

-- the text of the output in which a searcher is superseded
pub overtaken_text_is : output_text overtaken ≡ overtaken_text
unfolding serde_json_on_literals digits
overtaken_text_is = refl
