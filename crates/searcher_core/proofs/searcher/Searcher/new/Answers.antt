use Rattle.std.proofs.Common.{◌≡◌, ◌<◌, ℕ, List, map, sym, ap, subst, ◌∙◌, rules}
use Rattle.std.specs.Arc.{arc_value}
use Rattle.std.specs.List.{AllByRecursion}
use Rattle.std.proofs.lemmas.Option.{slice_get_within}
use Rattle.view_cells.specs.Seats.{AreSeats, IsIdle}
use Rattle.searcher_cells.specs.Making.{sight}
use Rattle.searcher_core.specs.Resting.{IsAtRest}
use Rattle.searcher_core.specs.Shows.{Shows, shows}
use Rattle.searcher_core.proofs.Dealing.{doors_are}
use Rattle.searcher_core.proofs.Resting.{all_at, new_rests}
use Rattle.searcher_core.proofs.searcher.Searcher.new.Goals as goal

pub dealt-requires-clause-filters_rest : goal.dealt-requires-clause-filters_rest
dealt-requires-clause-filters_rest c =
    let made = c.in_ok-filters.ensures.seats in
    all_at IsAtRest c.in_ok-filters.filters.items
    (λ i s is. new_rests (sight (arc_value c.in_ok-of_filters.of_filters).seen c.args.sizes.filters c.args.seats) i s (made.each i s is)
    (subst (λ n. i < n) c.in_ok-filters.ensures.count (slice_get_within c.in_ok-filters.filters.items i s is)))

pub dealt-requires-clause-results_rest : goal.dealt-requires-clause-results_rest
dealt-requires-clause-results_rest c =
    let made = c.in_ok-results.ensures.seats in
    all_at IsAtRest c.in_ok-results.results.items
    (λ i s is. new_rests (sight (arc_value c.in_ok-of_results.of_results).seen c.args.sizes.results c.args.seats) i s (made.each i s is)
    (subst (λ n. i < n) c.in_ok-results.ensures.count (slice_get_within c.in_ok-results.results.items i s is)))

pub dealt-requires-clause-documents_rest : goal.dealt-requires-clause-documents_rest
dealt-requires-clause-documents_rest c = all_at IsIdle c.in_ok-documents.documents.items (λ i s is. (c.in_ok-documents.ensures.seats.each i s is).idle)

pub returns-clause-doors : goal.returns-clause-doors
returns-clause-doors c =
    let w : Shows = shows (arc_value c.args.view).seen c.args.sizes c.args.seats in
    let of_filters : (arc_value c.in_ok-of_filters.of_filters).seen ≡ w.view = search rules in
    let of_results : (arc_value c.in_ok-of_results.of_results).seen ≡ w.view = search rules in
    let of_documents : (arc_value c.in_ok-of_documents.of_documents).seen ≡ w.view = search rules in
    let of_searcher : arc_value c.in_ok-searcher.searcher ≡ w = search rules in
    doors_are w c.in_ok-doors.doors.items (subst (λ v. AllByRecursion (λ d. arc_value d.searcher ≡ v) c.in_ok-doors.doors.items) of_searcher c.in_ok-doors.ensures.searcher)
    (subst (AreSeats (sight w.view w.sizes.filters w.seats) w.seats) (sym c.in_ok-doors.ensures.filters)
    (subst (λ v. AreSeats (sight v w.sizes.filters w.seats) w.seats c.in_ok-filters.filters.items) of_filters c.in_ok-filters.ensures.seats))
    (subst (AreSeats (sight w.view w.sizes.results w.seats) w.seats) (sym c.in_ok-doors.ensures.results)
    (subst (λ v. AreSeats (sight v w.sizes.results w.seats) w.seats c.in_ok-results.results.items) of_results c.in_ok-results.ensures.seats))
    (subst (AreSeats (sight w.view w.sizes.documents w.seats) w.seats) (sym c.in_ok-doors.ensures.documents)
    (subst (λ v. AreSeats (sight v w.sizes.documents w.seats) w.seats c.in_ok-documents.documents.items) of_documents c.in_ok-documents.ensures.seats))
