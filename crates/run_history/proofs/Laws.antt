-- Rows that agree with a legal history are lawful.
use Rattle.std.proofs.Common.{◌≡◌, ◌⊎◌, ℕ, List, [], ◌∷◌, ◌++◌, length, map, filter_map, None, Result, Ok, Err, sym, ap, ap₂, subst, ◌∙◌, inl, inr}
use Rattle.std.proofs.lemmas.List.{length-map}
use Rattle.std.specs.List.{AllByRecursion, range_with_len}
use Rattle.search_model.specs.Reply.{Outcome, accepted, refused, too_many, found, no_memory}
use Rattle.search_model.specs.Answer.{answer}
use Rattle.script_form.specs.declared.config.Config.{Config}
use Rattle.script_form.specs.declared.script.Line.{Line}
use Rattle.registry_machine.specs.declared.entry.Entry.{Entry}
use Rattle.registry_machine.specs.Entries.{opens}
use Rattle.registry_machine.specs.Machine.{Limits}
use Rattle.registry_machine.specs.Legal.{Legal}
use Rattle.registry_machine.specs.Places.{rank}
use Rattle.run_laws.specs.Rows.{RequestRow, Output}
use Rattle.run_laws.specs.Calls.{Told, calls_of, tell, Each}
use Rattle.run_laws.specs.Acquires.{KeepsTicketOrder}
use Rattle.run_laws.specs.Lawful.{Shows, Lawful, Ascends, IsOneHistory, KeepsOrder, IsAnswered, ServesUnlessOlder, CountsTickets, TellsWarmings, IsIdle}
use Rattle.run_history.specs.Tellings.{Reading, Telling, Wanted, wants, Tells}
use Rattle.run_history.specs.Agreement.{OutputAgrees, RepliesIdly, RepliesTo, HasReply, HasReplyAt, IsReplied}
use Rattle.run_history.proofs.Elements.{In, all_in, all_from, all_map, each_from, part_of}
use Rattle.run_history.proofs.Run.{Run, IsToldAt, row_cases, generations_are}
use Rattle.run_history.proofs.Answering.{keeps_order, answered}
use Rattle.run_history.proofs.Places.{output_of, one_history}
use Rattle.run_history.proofs.Tickets.{counts_tickets}
use Rattle.run_history.proofs.Serving.{greatest_serves, warmings_told}
use Rattle.run_history.proofs.Ordering.{calls_ascend, told_calls, told_rows, map_map, Around, around, ticket_order}

idle_shows : (c : Config) (row : RequestRow) (w : Result Wanted (List ℕ)) → RepliesIdly c row w → (o : Outcome) × Shows c row o
idle_shows c row (Ok w) s = (no_memory, s)
idle_shows c row (Err m) (inl s) = (refused m, s)
idle_shows c row (Err m) (inr s) = (no_memory, s)

module _ {U D L : Type 0} (f : Run U D L) where
  shows : (t : Telling) → In t f.rows → (o : Outcome) × Shows f.config t.told.row o
  shows t i = out (row_cases f t i)
    where
      reply : HasReplyAt f.reading f.config f.history t.told t.index
      reply = all_in (HasReply f.reading f.config f.history) f.rows f.agrees.replies t i

      to : (n : ℕ) (k : IsToldAt f t n) → RepliesTo f.reading f.config f.history t.told k.entry
      to n k = (subst (HasReplyAt f.reading f.config f.history t.told) k.index reply) k.entry k.at

      replied : (g : ℕ) (asked : Rattle.search_model.specs.Answer.Asked) → IsReplied f.reading f.config f.history t.told.row g asked → (o : Outcome) × Shows f.config t.told.row o
      replied g asked (inl r) = (found asked (answer (f.reading.docs r.4) asked), r.6)
      replied g asked (inr r) = (no_memory, r)

      told : (n : ℕ) (k : IsToldAt f t n) → Tells f.reading f.config t.told (rank f.history n) k.entry → (o : Outcome) × Shows f.config t.told.row o
      told n k (inl a) = (accepted, subst (RepliesTo f.reading f.config f.history t.told) a.entry (to n k))
      told n k (inr (inl a)) = (accepted, subst (RepliesTo f.reading f.config f.history t.told) a.entry (to n k))
      told n k (inr (inr (inl a))) = (too_many a.warming, subst (RepliesTo f.reading f.config f.history t.told) a.entry (to n k))
      told n k (inr (inr (inr a))) = replied a.generation a.asked ((subst (RepliesTo f.reading f.config f.history t.told) a.entry (to n k)) a.asked a.wanted)

      out : (t.index ≡ None) × IsIdle t.told.row ⊎ ((n : ℕ) × IsToldAt f t n) → (o : Outcome) × Shows f.config t.told.row o
      out (inl k) = idle_shows f.config t.told.row (wants f.config t.told.call) (subst (HasReplyAt f.reading f.config f.history t.told) k.0 reply)
      out (inr k) = told k.0 k.1 k.1.tells

  numbers : AllByRecursion (λ r. (o : Outcome) × Shows f.config r o) (map (λ t. t.told.row) f.rows)
  numbers = all_map (λ t. t.told.row) (λ r. (o : Outcome) × Shows f.config r o) f.rows (all_from (λ t. (o : Outcome) × Shows f.config t.told.row o) f.rows shows)

  generations : map (λ g. g.generation) (map (λ s. s.row) f.lives) ≡ range_with_len 1 (length (map (λ s. s.row) f.lives))
  generations =
      let a = generations_are f in
      let same : length (map (λ s. s.row.generation) f.lives) ≡ length (filter_map opens f.history) = ap length f.agrees.searchers.generations in
      let m : length (map (λ s. s.row.generation) f.lives) ≡ length f.lives = length-map f.lives (λ s. s.row.generation) in
      let k : length (map (λ s. s.row) f.lives) ≡ length f.lives = length-map f.lives (λ s. s.row) in
      map_map (λ g. g.generation) (λ s. s.row) f.lives ∙ (a ∙ ap (range_with_len 1) (sym same ∙ (m ∙ sym k)))

  module _ (lines : Ascends (map (λ e. e.told.call.line) f.rows)) where
    -- a law of each row with those around it, from the rows' own parts
    each_row : (P : List Told → Told → List Told → Type 0) → ((front : List Telling) (t : Telling) (back : List Telling) → f.rows ≡ front ++ t ∷ back → Around front t back → P (map (λ e. e.told) front) t.told (map (λ e. e.told) back)) → Each P [] (map (λ t. t.told) f.rows)
    each_row P h = each_from P (map (λ t. t.told) f.rows) (λ pre t post e.
        let k = part_of (λ x. x.told) f.rows pre t post e in
        let a = around k.front k.here k.back (subst (λ ts. Ascends (map (λ x. x.told.call.line) ts)) k.joined lines) in
        subst (λ x. P pre x post) k.image (subst (λ xs. P xs k.here.told post) k.before (subst (λ xs. P (map (λ x. x.told) k.front) k.here.told xs) k.behind (h k.front k.here k.back k.joined a))))

    all_keep_order : Each (KeepsOrder (output_of f.rows f.lives)) [] (map (λ t. t.told) f.rows)
    all_keep_order = each_row (KeepsOrder (output_of f.rows f.lives)) (λ front t back joined a. keeps_order f front t back joined a.before a.behind)

    all_answered : Each (IsAnswered f.config (map (λ t. t.told) f.rows) (output_of f.rows f.lives)) [] (map (λ t. t.told) f.rows)
    all_answered = each_row (IsAnswered f.config (map (λ t. t.told) f.rows) (output_of f.rows f.lives)) (λ front t back joined a. answered f front t back joined a.before a.behind)

    all_tickets : AllByRecursion (CountsTickets (map (λ t. t.told) f.rows) (output_of f.rows f.lives)) (map (λ s. s.row) f.lives)
    all_tickets = all_map (λ s. s.row) (CountsTickets (map (λ t. t.told) f.rows) (output_of f.rows f.lives)) f.lives (all_from (λ s. CountsTickets (map (λ t. t.told) f.rows) (output_of f.rows f.lives) s.row) f.lives (counts_tickets f))

-- rows that agree with a legal history are lawful
pub lawful : {U D L : Type 0} (r : Reading U D) (l : Limits) (c : Config) (script : List Line) (h : List (Entry U D L)) (o : Output) → l.first_generation ≡ 1 → l.max_warming ≡ c.max_warming → Legal l h → Ascends (map (λ x. x.number) script) → OutputAgrees r l c script h o → Lawful c script o
lawful {U} {D} {L} r l c script h o first room legal lines k =
    let f : Run U D L = record { reading = r; limits = l; config = c; history = h; rows = k.tellings; lives = k.lives; first = first; room = room; legal = legal; agrees = k.agrees } in
    let calls : map (λ t. t.told.call) k.tellings ≡ calls_of script = sym (map_map (λ t. t.call) (λ t. t.told) k.tellings) ∙ (ap (map (λ t. t.call)) k.told ∙ told_calls (calls_of script) o.requests k.rows) in
    let rows : map (λ t. t.told.row) k.tellings ≡ o.requests = sym (map_map (λ t. t.row) (λ t. t.told) k.tellings) ∙ (ap (map (λ t. t.row)) k.told ∙ told_rows (calls_of script) o.requests k.rows) in
    let ascending : Ascends (map (λ t. t.told.call.line) k.tellings) = subst Ascends (ap (map (λ q. q.line)) (sym calls) ∙ map_map (λ q. q.line) (λ t. t.told.call) k.tellings) (calls_ascend 0 script lines) in
    let same : output_of k.tellings k.lives ≡ o = ap₂ (λ a b. let x : Output = record { requests = a; searchers = b } in x) rows k.searchers in
    let move : (P : List Told → Output → Type 0) → P (map (λ t. t.told) k.tellings) (output_of k.tellings k.lives) → P (tell (calls_of script) o.requests) o = λ P x. subst (λ ts. P ts o) k.told (subst (λ y. P (map (λ t. t.told) k.tellings) y) same x) in
    record {
      answers_each = record {
        rows = k.rows;
        numbers = subst (AllByRecursion (λ x. (outcome : Outcome) × Shows c x outcome)) rows (numbers f);
        generations = subst (λ ss. map (λ g. g.generation) ss ≡ range_with_len 1 (length ss)) k.searchers (generations f);
      };
      one_history = move (λ ts y. IsOneHistory ts y) (one_history f);
      keeps_order = move (λ ts y. Each (KeepsOrder y) [] ts) (all_keep_order f ascending);
      answered = move (λ ts y. Each (IsAnswered c ts y) [] ts) (all_answered f ascending);
      greatest_serves = move (λ ts y. AllByRecursion (ServesUnlessOlder y) y.searchers) (greatest_serves f);
      tickets = move (λ ts y. AllByRecursion (CountsTickets ts y) y.searchers) (all_tickets f ascending);
      ticket_order = move (λ ts y. KeepsTicketOrder y ts) (ticket_order f ascending);
      warmings = move (λ ts y. TellsWarmings c y y.searchers) (warmings_told f);
    }
