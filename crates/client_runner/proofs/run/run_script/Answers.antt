use Rattle.std.proofs.Common.{◌≡◌, ◌<◌, ◌≤◌, IfOk, length, map, take, get_or, ℕ, ◌+◌, ◌-◌, List, [], ◌∷◌, ◌++◌, Bool, true, false, Option, Some, Result, Ok, Err, ap, sym, subst, ◌∙◌, arith}
use Rattle.std.specs.List.Sorted.{IsNonDecreasingBy, IsPermutation}
use Rattle.std.proofs.lemmas.List.{map-append, take_all, take_more}
use Rattle.std.proofs.lemmas.Result.{IfOk-weaker}
use Rattle.script_form.specs.declared.config.Config.{Config}
use Rattle.script_form.specs.declared.script.Line.{Line}
use Rattle.run_laws.specs.Rows as plain
use Rattle.run_laws.specs.Calls.{Call, call_as, calls_of}
use Rattle.run_laws.specs.Lawful.{Ascends, Lawful}
use Rattle.run_laws.specs.Notes.{TellNotes}
use Rattle.field_schema.specs.declared.memory.NoMemory.{NoMemory}
use Rattle.served_index.specs.IndexState.{IndexState}
use Rattle.client_runner.specs.declared.rows.Output as rows
use Rattle.client_runner.specs.declared.order.Turn.{Turn}
use Rattle.client_runner.specs.Histories.{GoesByHistory}
use Rattle.client_runner.specs.Outputs.{output_view}
use Rattle.client_runner.specs.RunOrder.{call_at}
use Rattle.client_runner.specs.Runs.{FollowsIf, Follows}
use Rattle.client_runner.specs.declared.runner.Runner.{Runner}
use Rattle.client_runner.specs.Rooms.{IsFirst, HasRoom}
use Rattle.client_runner.specs.Standings.{Standing, first, searchers_of, standing}
use Rattle.run_history.specs.Serial.{first_acquires}
use Rattle.client_runner.proofs.InTurn.{AreServed, are_served, asks_for, index_within, comes_last}
use Rattle.client_runner.proofs.Ended.{Served, none_served, one_more_served, ended, lawful_by}
use Rattle.client_runner.proofs.run.run_script.Goals as goal

abbrev no_turn : Turn
no_turn = record { key = 0; phase = 0; index = 0 }

less_room : (m n : ℕ) (r : Runner) → n ≤ m → HasRoom m r → HasRoom n r
less_room m n r le room = record {
  place = omega (arith, le, room.place);
  generation = omega (arith, le, room.generation);
  acquired = omega (arith, le, room.acquired);
  numbers = omega (arith, le, room.numbers);
}

at_most_one : (listened : Bool) → first_acquires listened ≤ 1
at_most_one true = omega arith
at_most_one false = omega arith

first_room : (listened : Bool) (r : Runner) → IsFirst listened r → HasRoom 100000 r
first_room listened r is =
    let place : r.place ≡ 2 = ap (λ (s : Standing). s.place) is.standing_is in
    let generation : r.current.generation ≡ 1 = ap (λ (s : Standing). s.current.generation) is.standing_is in
    let count : r.current.acquired ≡ first_acquires listened = ap (λ (s : Standing). s.current.acquired) is.standing_is in
    let few : first_acquires listened ≤ 1 = at_most_one listened in
    record { place = omega (arith, place); generation = omega (arith, generation); acquired = omega (arith, count, few); numbers = omega (arith, is.numbers) }

all_ok : {X Y : Type 0} (r : Result X Y) (P Q R S : X → Type 0) → ((x : X) → P x → Q x → R x → S x) → IfOk r P → IfOk r Q → IfOk r R → IfOk r S
all_ok (Ok x) P Q R S f p q r = f x p q r
all_ok (Err y) P Q R S f p q r = tt

pub loop-turn-init : goal.loop-turn-init
loop-turn-init g c =
    let config = c.args.config.now in
    let runner = c.in_ok-runner.runner in
    let listened = c.is_acquired_first-listened.result in
    record {
      served = subst (λ (k : IndexState). Served config [] (standing (record runner { index = k }))) (sym c.listen.ensures)
          (subst (Served config []) (sym c.in_ok-runner.ensures.standing_is)
          (subst (λ b. Served config [] (first b)) (sym c.is_acquired_first-listened.ensures) (none_served config c.requires.warming)));
      ready = subst (λ (k : IndexState). HasRoom 100000 (record runner { index = k })) (sym c.listen.ensures) (first_room listened runner c.in_ok-runner.ensures);
    }

pub bounds-get-turn : goal.bounds-get-turn
bounds-get-turn g c =
    let known : AreServed c.args.script.now c.deref-turn-items.result.now = are_served c.args.script.now c.get.result.now c.in_ok-turns.turns.items c.deref-turn-items.result.now
    c.get.ensures c.deref-turn-items.ensures.value c.requires.lines c.requires.clients c.in_ok-turns.ensures.same c.in_ok-turns.ensures.rising in
    subst (λ (lines : List Line). (get_or c.deref-turn-items.result.now c.loop-turn.turn-index no_turn).index < length lines) (sym c.get-in-loop-turn.ensures)
    (index_within c.args.script.now (get_or c.deref-turn-items.result.now c.loop-turn.turn-index no_turn) (known.turns c.loop-turn.turn-index no_turn c.loop-turn-test.true))

pub step-requires-clause-ready : goal.step-requires-clause-ready
step-requires-clause-ready g c κs within =
    let known : AreServed c.args.script.now c.deref-turn-items.result.now = are_served c.args.script.now c.get.result.now c.in_ok-turns.turns.items c.deref-turn-items.result.now
    c.get.ensures c.deref-turn-items.ensures.value c.requires.lines c.requires.clients c.in_ok-turns.ensures.same c.in_ok-turns.ensures.rising in
    let few : length c.deref-turn-items.result.now ≤ 100000 = known.few in
    let in_range : c.loop-turn.turn-index < length c.deref-turn-items.result.now = c.loop-turn-test.true in
    less_room (100000 - c.loop-turn.turn-index) 1 c.loop-turn.runner (omega (arith, few, in_range)) c.loop-turn.invariant.ready

pub loop-turn-preserved : goal.loop-turn-preserved
loop-turn-preserved g c =
    let config = c.args.config.now in
    let script = c.args.script.now in
    let items = c.deref-turn-items.result.now in
    let i = c.loop-turn.turn-index in
    let line = c.index-get-turn.result in
    let old = standing c.loop-turn.runner in
    let new = standing c.step.new.self in
    let known : AreServed c.args.script.now c.deref-turn-items.result.now = are_served c.args.script.now c.get.result.now c.in_ok-turns.turns.items c.deref-turn-items.result.now
    c.get.ensures c.deref-turn-items.ensures.value c.requires.lines c.requires.clients c.in_ok-turns.ensures.same c.in_ok-turns.ensures.rising in
    let few : length items ≤ 100000 = known.few in
    let in_range : i < length items = c.loop-turn-test.true in
    let turn = get_or items i no_turn in
    let read : line ≡ get_or script turn.index line = subst (λ (lines : List Line). line ≡ get_or lines turn.index line) c.get-in-loop-turn.ensures c.index-get-turn.is in
    let asked : call_as turn.phase line.number line.what ≡ Some (call_at script turn) = asks_for script turn line line (known.turns i no_turn in_range) read in
    let follows : Follows config (call_at script turn) old new = subst (λ (o : Option Call). FollowsIf config o old new) asked c.in_ok-step.ensures.follows in
    let more : Served config (map (call_at script) (take i items) ++ call_at script turn ∷ []) new = one_more_served config (map (call_at script) (take i items)) (call_at script turn) old new c.loop-turn.invariant.served follows
    (comes_last script items i no_turn c.requires.lines c.requires.numbers known.turns known.rising in_range) in
    let one_less : 100000 - i ≡ (100000 - (i + 1)) + 1 = omega (arith, few, in_range) in
    record {
      served = subst (λ qs. Served config qs new) (sym (ap (map (call_at script)) (take_more items i no_turn in_range) ∙ map-append (call_at script) (take i items) (turn ∷ []))) more;
      ready = c.in_ok-step.ensures.ready (100000 - (i + 1)) (subst (λ n. HasRoom n c.loop-turn.runner) one_less c.loop-turn.invariant.ready);
    }

-- what the run gives, where all the requests of the script were served
ends : (config : Config) (script : List Line) (calls : List Call) (st : Standing) (r : Result rows.Output NoMemory) → Served config calls st → Ascends (map (λ (l : Line). l.number) script) → IsPermutation (calls_of script) calls
    → IfOk r (λ o. IsPermutation st.rows (output_view o).requests) → IfOk r (λ o. IsNonDecreasingBy (λ (x : plain.RequestRow). x.line) (output_view o).requests) → IfOk r (λ o. (output_view o).searchers ≡ searchers_of st)
    → IfOk r (λ o. GoesByHistory config script (output_view o) × TellNotes config script (output_view o))
ends config script calls st r all numbers same moved sorted searchers =
    all_ok r (λ o. IsPermutation st.rows (output_view o).requests) (λ o. IsNonDecreasingBy (λ (x : plain.RequestRow). x.line) (output_view o).requests) (λ o. (output_view o).searchers ≡ searchers_of st)
    (λ o. GoesByHistory config script (output_view o) × TellNotes config script (output_view o))
    (λ o m s t. ended config script calls st (output_view o) all numbers same m s t)
    moved sorted searchers

pub returns-clause-agrees : goal.returns-clause-agrees
returns-clause-agrees g c =
    let items = c.deref-turn-items.result.now in
    let known : AreServed c.args.script.now items = are_served c.args.script.now c.get.result.now c.in_ok-turns.turns.items items
    c.get.ensures c.deref-turn-items.ensures.value c.requires.lines c.requires.clients c.in_ok-turns.ensures.same c.in_ok-turns.ensures.rising in
    let all : Served c.args.config.now (map (call_at c.args.script.now) items) (standing c.loop-turn.runner) =
    subst (λ (ts : List Turn). Served c.args.config.now (map (call_at c.args.script.now) ts) (standing c.loop-turn.runner)) (take_all c.loop-turn.turn-index items c.loop-turn-test.false) c.loop-turn.invariant.served in
    IfOk-weaker c.finish.result (λ o. GoesByHistory c.args.config.now c.args.script.now (output_view o) × TellNotes c.args.config.now c.args.script.now (output_view o)) (λ o. GoesByHistory c.args.config.now c.args.script.now (output_view o)) (λ o both. both.0)
    (ends c.args.config.now c.args.script.now (map (call_at c.args.script.now) items) (standing c.loop-turn.runner) c.finish.result all c.requires.numbers known.calls c.finish.ensures.rows c.finish.ensures.sorted c.finish.ensures.searchers)

pub returns-clause-notes : goal.returns-clause-notes
returns-clause-notes g c =
    let items = c.deref-turn-items.result.now in
    let known : AreServed c.args.script.now items = are_served c.args.script.now c.get.result.now c.in_ok-turns.turns.items items
    c.get.ensures c.deref-turn-items.ensures.value c.requires.lines c.requires.clients c.in_ok-turns.ensures.same c.in_ok-turns.ensures.rising in
    let all : Served c.args.config.now (map (call_at c.args.script.now) items) (standing c.loop-turn.runner) =
    subst (λ (ts : List Turn). Served c.args.config.now (map (call_at c.args.script.now) ts) (standing c.loop-turn.runner)) (take_all c.loop-turn.turn-index items c.loop-turn-test.false) c.loop-turn.invariant.served in
    IfOk-weaker c.finish.result (λ o. GoesByHistory c.args.config.now c.args.script.now (output_view o) × TellNotes c.args.config.now c.args.script.now (output_view o)) (λ o. TellNotes c.args.config.now c.args.script.now (output_view o)) (λ o both. both.1)
    (ends c.args.config.now c.args.script.now (map (call_at c.args.script.now) items) (standing c.loop-turn.runner) c.finish.result all c.requires.numbers known.calls c.finish.ensures.rows c.finish.ensures.sorted c.finish.ensures.searchers)

pub returns-clause-lawful : goal.returns-clause-lawful
returns-clause-lawful g c =
    IfOk-weaker c.finish.result (λ o. GoesByHistory c.args.config.now c.args.script.now (output_view o)) (λ o. Lawful c.args.config.now c.args.script.now (output_view o))
    (λ o goes. lawful_by c.args.config.now c.args.script.now (output_view o) c.requires.numbers goes)
    (returns-clause-agrees g c)
