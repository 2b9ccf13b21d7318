use Rattle.searcher_books.proofs.Joining.{begun, next, gone_on}
use Rattle.searcher_books.proofs.closing.joined.Goals as goal

pub loop-door-init : goal.loop-door-init
loop-door-init c = record {
  filters = begun (λ d. d.seats.filters) c.args.doors.items c.pop.new.self.items c.in-Some.door c.seats_of-last.result.filters c.in-Some.ensures.items c.seats_of-last.ensures.filters c.requires.doors.filters;
  results = begun (λ d. d.seats.results) c.args.doors.items c.pop.new.self.items c.in-Some.door c.seats_of-last.result.results c.in-Some.ensures.items c.seats_of-last.ensures.results c.requires.doors.results;
  documents = begun (λ d. d.seats.documents) c.args.doors.items c.pop.new.self.items c.in-Some.door c.seats_of-last.result.documents c.in-Some.ensures.items c.seats_of-last.ensures.documents c.requires.doors.documents;
}

pub join-requires-clause-table : goal.join-requires-clause-table
join-requires-clause-table c =
    (next (λ d. d.seats.filters) c.args.doors.items c.loop-door.doors.items c.pop-in-loop-door.new.self.items c.in-Some-pop.door c.loop-door.last.filters c.seats_of-other.result.filters c.in-Some-pop.ensures.items c.seats_of-other.ensures.filters c.loop-door.invariant.filters).1

pub join-requires-in-Some-pop-clause-table : goal.join-requires-in-Some-pop-clause-table
join-requires-in-Some-pop-clause-table c =
    (next (λ d. d.seats.results) c.args.doors.items c.loop-door.doors.items c.pop-in-loop-door.new.self.items c.in-Some-pop.door c.loop-door.last.results c.seats_of-other.result.results c.in-Some-pop.ensures.items c.seats_of-other.ensures.results c.loop-door.invariant.results).1

pub join-requires-in-Some-pop-2-clause-table : goal.join-requires-in-Some-pop-2-clause-table
join-requires-in-Some-pop-2-clause-table c =
    (next (λ d. d.seats.documents) c.args.doors.items c.loop-door.doors.items c.pop-in-loop-door.new.self.items c.in-Some-pop.door c.loop-door.last.documents c.seats_of-other.result.documents c.in-Some-pop.ensures.items c.seats_of-other.ensures.documents c.loop-door.invariant.documents).1

pub loop-door-preserved : goal.loop-door-preserved
loop-door-preserved c = record {
  filters = gone_on (λ d. d.seats.filters) c.args.doors.items c.loop-door.doors.items c.pop-in-loop-door.new.self.items c.in-Some-pop.door c.loop-door.last.filters c.seats_of-other.result.filters c.join.new.self c.in-Some-pop.ensures.items c.seats_of-other.ensures.filters c.loop-door.invariant.filters c.join.ensures;
  results = gone_on (λ d. d.seats.results) c.args.doors.items c.loop-door.doors.items c.pop-in-loop-door.new.self.items c.in-Some-pop.door c.loop-door.last.results c.seats_of-other.result.results c.join-in-Some-pop.new.self c.in-Some-pop.ensures.items c.seats_of-other.ensures.results c.loop-door.invariant.results c.join-in-Some-pop.ensures;
  documents = gone_on (λ d. d.seats.documents) c.args.doors.items c.loop-door.doors.items c.pop-in-loop-door.new.self.items c.in-Some-pop.door c.loop-door.last.documents c.seats_of-other.result.documents c.join-in-Some-pop-2.new.self c.in-Some-pop.ensures.items c.seats_of-other.ensures.documents c.loop-door.invariant.documents c.join-in-Some-pop-2.ensures;
}
