-- The order of lines, and that of tickets.
use Rattle.std.proofs.Common.{◌≡◌, ℕ, ◌+◌, ◌<◌, ◌≤◌, List, [], ◌∷◌, ◌++◌, length, map, drop, filter_map, Option, Some, None, IfSome, refl, sym, ap, subst, ◌∙◌, inr, arith, append_assoc}
use Rattle.std.proofs.lemmas.Option.{slice_get_within}
use Rattle.std.specs.List.{AllByRecursion}
use Rattle.std.specs.Option.{option_map, option_to_list}
use Rattle.script_form.specs.declared.script.Line.{Line}
use Rattle.script_form.specs.declared.script.What.{What}
use Rattle.script_form.specs.declared.script.What.TheVariants as what
use Rattle.registry_machine.specs.Entries.{acquires}
use Rattle.registry_machine.specs.Places.{rank, Stands}
use Rattle.registry_machine.proofs.Ranks.{rank_rises}
use Rattle.registry_machine.proofs.Indices.{lower_ticket_first}
use Rattle.run_laws.specs.Rows.{RequestRow, Output}
use Rattle.run_laws.specs.Calls.{Call, Told, call_as, phase_behind, calls_from, tell}
use Rattle.run_laws.specs.Places.{place_count}
use Rattle.run_laws.specs.Bounds.{low, high}
use Rattle.run_laws.specs.Acquires.{pin_of, Acquire, acquire, queried, warmed, BeginsBefore, KeepsTicketOrder}
use Rattle.run_laws.specs.Acquires as pins
use Rattle.run_laws.specs.Lawful.{Ascends, call_here, told_here}
use Rattle.run_history.specs.Tellings.{Telling, Life}
use Rattle.run_history.specs.Agreement.{IsWarmedWithin, AreWarmed}
use Rattle.run_history.proofs.Elements.{In, all_in, all_from, all_append, all_map, all_unmap, all_filter_map, all_option, Part, part_of}
use Rattle.run_history.proofs.Run.{Run, pin_index, told_index}
use Rattle.run_history.proofs.Betweens.{if_some, here_in, low_below, high_above}
use Rattle.run_history.proofs.Places.{output_of, count_found}
use Rattle.run_history.proofs.Serving.{IsWarming, warming_of}

-- ---- lines

add_call : (m phase number : ℕ) (w : What) (lines : List Line) → m < number → ((ph : ℕ) → AllByRecursion (λ x. m < x) (map (λ q. q.line) (calls_from ph lines))) → AllByRecursion (λ x. m < x) (map (λ q. q.line) (option_to_list (call_as phase number w) ++ calls_from (phase_behind phase w) lines))
add_call m phase number (what.Add client body) lines lt rest = (lt, rest phase)
add_call m phase number (what.Delete client body) lines lt rest = (lt, rest phase)
add_call m phase number (what.Query client body) lines lt rest = (lt, rest phase)
add_call m phase number (what.Commit client body) lines lt rest = (lt, rest phase)
add_call m phase number what.PhaseEnd lines lt rest = rest (phase + 1)
add_call m phase number what.Nothing lines lt rest = rest phase

calls_above : (m phase : ℕ) (lines : List Line) → AllByRecursion (λ x. m < x) (map (λ l. l.number) lines) → AllByRecursion (λ x. m < x) (map (λ q. q.line) (calls_from phase lines))
calls_above m phase [] h = tt
calls_above m phase (l ∷ lines) h = add_call m phase l.number l.what lines h.0 (λ ph. calls_above m ph lines h.1)

put_call : (phase number : ℕ) (w : What) (lines : List Line) → ((ph : ℕ) → AllByRecursion (λ x. number < x) (map (λ q. q.line) (calls_from ph lines))) → ((ph : ℕ) → Ascends (map (λ q. q.line) (calls_from ph lines))) → Ascends (map (λ q. q.line) (option_to_list (call_as phase number w) ++ calls_from (phase_behind phase w) lines))
put_call phase number (what.Add client body) lines above rest = (above phase, rest phase)
put_call phase number (what.Delete client body) lines above rest = (above phase, rest phase)
put_call phase number (what.Query client body) lines above rest = (above phase, rest phase)
put_call phase number (what.Commit client body) lines above rest = (above phase, rest phase)
put_call phase number what.PhaseEnd lines above rest = rest (phase + 1)
put_call phase number what.Nothing lines above rest = rest phase

-- the calls of a script whose lines ascend have ascending lines
pub calls_ascend : (phase : ℕ) (lines : List Line) → Ascends (map (λ l. l.number) lines) → Ascends (map (λ q. q.line) (calls_from phase lines))
calls_ascend phase [] a = tt
calls_ascend phase (l ∷ lines) a = put_call phase l.number l.what lines (λ ph. calls_above l.number ph lines a.0) (λ ph. calls_ascend ph lines a.1)

empty_cons : {A : Type 0} (x : A) (xs : List A) → [] ≡ x ∷ xs → ⊥
empty_cons x xs e = grind arith

pub told_calls : (qs : List Call) (rows : List RequestRow) → map told_here rows ≡ map call_here qs → map (λ t. t.call) (tell qs rows) ≡ qs
told_calls [] rows e = refl
told_calls (q ∷ qs) [] e = absurd (empty_cons _ _ e)
told_calls (q ∷ qs) (row ∷ rows) e = ap (λ xs. q ∷ xs) (told_calls qs rows (ap (drop 1) e))

pub told_rows : (qs : List Call) (rows : List RequestRow) → map told_here rows ≡ map call_here qs → map (λ t. t.row) (tell qs rows) ≡ rows
told_rows [] [] e = refl
told_rows [] (row ∷ rows) e = absurd (empty_cons _ _ (sym e))
told_rows (q ∷ qs) [] e = absurd (empty_cons _ _ e)
told_rows (q ∷ qs) (row ∷ rows) e = ap (λ xs. row ∷ xs) (told_rows qs rows (ap (drop 1) e))

pub map_map : {A B C : Type 0} (g : B → C) (h : A → B) (xs : List A) → map g (map h xs) ≡ map (λ x. g (h x)) xs
map_map g h [] = refl
map_map g h (x ∷ xs) = ap (λ ys. g (h x) ∷ ys) (map_map g h xs)

-- lower lines stand before, and greater ones behind
pub record Around (front : List Telling) (t : Telling) (back : List Telling) : Type 0 where
  pub before : AllByRecursion (λ e. e.told.call.line < t.told.call.line) front
  pub behind : AllByRecursion (λ e. t.told.call.line < e.told.call.line) back

pub around : (front : List Telling) (t : Telling) (back : List Telling) → Ascends (map (λ e. e.told.call.line) (front ++ t ∷ back)) → Around front t back
around [] t back a = record { before = tt; behind = all_unmap (λ e. e.told.call.line) (λ x. t.told.call.line < x) back a.0 }
around (e ∷ front) t back a =
    let k = around front t back a.1 in
    let first : e.told.call.line < t.told.call.line = all_in (λ x. e.told.call.line < x.told.call.line) (front ++ t ∷ back) (all_unmap (λ x. x.told.call.line) (λ x. e.told.call.line < x) (front ++ t ∷ back) a.0) t (Rattle.run_history.proofs.Elements.in_middle t front back) in
    record { before = (first, k.before); behind = k.behind }

-- ---- tickets

queried_part : (o : Output) (P : Acquire → Type 0) (before ts : List Told) → ((pre : List Told) (t : Told) (post : List Told) → before ++ ts ≡ pre ++ t ∷ post → IfSome (pin_of t) (λ pin. P (acquire (low o.searchers pre t) (high (place_count o) t post) pin))) → AllByRecursion P (queried o before ts)
queried_part o P before [] h = tt
queried_part o P before (t ∷ ts) h =
    all_append P (option_to_list (option_map (acquire (low o.searchers before t) (high (place_count o) t ts)) (pin_of t))) (queried o (before ++ t ∷ []) ts)
    (put (pin_of t) (h before t ts refl))
    (queried_part o P (before ++ t ∷ []) ts (λ pre y post e. h pre y post (sym (append_assoc before (t ∷ []) ts) ∙ e)))
  where
    put : (pin : Option (ℕ × ℕ)) → IfSome pin (λ x. P (acquire (low o.searchers before t) (high (place_count o) t ts) x)) → AllByRecursion P (option_to_list (option_map (acquire (low o.searchers before t) (high (place_count o) t ts)) pin))
    put None k = tt
    put (Some x) k = (k, tt)

module _ {U D L : Type 0} (f : Run U D L) where
  -- the acquire stands in the history between its bounds
  pub record IsBetween (a : Acquire) : Type 0 where
    pub index : ℕ
    pub stands : Stands acquires f.history index (a.generation, a.ticket)
    pub low : a.low < rank f.history index
    pub high : rank f.history index ≤ a.high

  row_between : Ascends (map (λ e. e.told.call.line) f.rows) → (pre : List Told) (t : Told) (post : List Told) → map (λ e. e.told) f.rows ≡ pre ++ t ∷ post → IfSome (pin_of t) (λ pin. IsBetween (acquire (low (map (λ s. s.row) f.lives) pre t) (high (place_count (output_of f.rows f.lives)) t post) pin))
  row_between lines pre t post e =
      let k = part_of (λ x. x.told) f.rows pre t post e in
      let a = around k.front k.here k.back (subst (λ ts. Ascends (map (λ x. x.told.call.line) ts)) k.joined lines) in
      subst (λ x. IfSome (pin_of x) (λ pin. IsBetween (acquire (low (map (λ s. s.row) f.lives) pre x) (high (place_count (output_of f.rows f.lives)) x post) pin))) k.image
      (subst (λ xs. IfSome (pin_of k.here.told) (λ pin. IsBetween (acquire (low (map (λ s. s.row) f.lives) xs k.here.told) (high (place_count (output_of f.rows f.lives)) k.here.told post) pin))) k.before
      (subst (λ xs. IfSome (pin_of k.here.told) (λ pin. IsBetween (acquire (low (map (λ s. s.row) f.lives) (map (λ x. x.told) k.front) k.here.told) (high (place_count (output_of f.rows f.lives)) k.here.told xs) pin))) k.behind
      (here k.front k.here k.back k.joined a)))
    where
      here : (front : List Telling) (x : Telling) (back : List Telling) → f.rows ≡ front ++ x ∷ back → Around front x back → IfSome (pin_of x.told) (λ pin. IsBetween (acquire (low (map (λ s. s.row) f.lives) (map (λ y. y.told) front) x.told) (high (place_count (output_of f.rows f.lives)) x.told (map (λ y. y.told) back)) pin))
      here front x back joined a = if_some (λ pin. IsBetween (acquire (low (map (λ s. s.row) f.lives) (map (λ y. y.told) front) x.told) (high (place_count (output_of f.rows f.lives)) x.told (map (λ y. y.told) back)) pin)) (pin_of x.told) (λ pin h.
          let i = here_in f front x back joined in
          let p = pin_index f x pin i h in
          let told = told_index f x p.0 i p.1 in
          let c = count_found f in
          let r = rank_rises f.history p.0 (length f.history) (let lt = slice_get_within f.history p.0 told.entry told.at in omega (arith, lt)) in
          record { index = p.0; stands = p.2; low = low_below f front x back joined p.0 told a.before; high = high_above f front x back joined p.0 told (place_count (output_of f.rows f.lives)) (omega (arith, c, r)) a.behind })

  warmed_between : (ls : List Life) → ((s : Life) → In s ls → In s f.lives) → AreWarmed f.config ls → AllByRecursion IsBetween (filter_map warmed (drop 1 (map (λ s. s.row) ls)))
  warmed_between [] inside w = tt
  warmed_between (s ∷ ls) inside w =
      all_filter_map warmed IsBetween (map (λ x. x.row) ls) (all_map (λ x. x.row) (λ x. IfSome (warmed x) IsBetween) ls (all_from (λ x. IfSome (warmed x.row) IsBetween) ls (λ x i. between x (warming_of f x (inside x (inr i)) (all_in IsWarmedWithin ls w.1 x i)))))
    where
      between : (x : Life) → IsWarming f x → IfSome (warmed x.row) IsBetween
      between x k = subst (λ o. IfSome (option_map (acquire x.row.opened x.row.ended) o) IsBetween) (sym k.from) (record { index = k.index; stands = k.acquire; low = k.opened; high = k.ended })

  -- tickets are given in the order of the acquires
  pub ticket_order : Ascends (map (λ e. e.told.call.line) f.rows) → KeepsTicketOrder (output_of f.rows f.lives) (map (λ e. e.told) f.rows)
  ticket_order lines = all_from (λ a. AllByRecursion (BeginsBefore a) all) all (λ a i. all_from (BeginsBefore a) all (λ b j. begins a b (all_in IsBetween all between a i) (all_in IsBetween all between b j)))
    where
      all : List Acquire
      all = pins.acquires (output_of f.rows f.lives) (map (λ e. e.told) f.rows)

      between : AllByRecursion IsBetween (pins.acquires (output_of f.rows f.lives) (map (λ e. e.told) f.rows))
      between =
          all_append IsBetween (queried (output_of f.rows f.lives) [] (map (λ e. e.told) f.rows)) (filter_map warmed (drop 1 (map (λ s. s.row) f.lives)))
          (queried_part (output_of f.rows f.lives) IsBetween [] (map (λ e. e.told) f.rows) (row_between lines))
          (warmed_between f.lives (λ s i. i) f.agrees.warmings)

      begins : (a b : Acquire) → IsBetween a → IsBetween b → BeginsBefore a b
      begins a b x y same lt =
          let first = lower_ticket_first f.limits f.history f.legal x.index y.index b.generation a.ticket b.ticket (subst (λ g. Stands acquires f.history x.index (g, a.ticket)) same x.stands) y.stands lt in
          let r = rank_rises f.history x.index y.index (omega (arith, first)) in
          omega (arith, x.low, y.high, r)
