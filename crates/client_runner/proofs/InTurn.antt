-- The turns of a script: each is of a line that asks for something, and they rise as they are served.
use Rattle.std.proofs.Common.{◌≡◌, ℕ, zero, suc, ◌+◌, ◌*◌, ◌^◌, ◌<◌, ◌≤◌, List, [], ◌∷◌, ◌++◌, length, map, take, get_or, Option, Some, refl, sym, ap, ap₂, subst, ◌∙◌, inl, inr, arith, slice_get, option_to_list, length-append}
use Rattle.std.specs.Option.{option_and_then}
use Rattle.std.specs.List.{All, AllByRecursion}
use Rattle.std.specs.List.Sorted.{IsPermutation, IsNonDecreasingBy}
use Rattle.std.proofs.lemmas.List.{map-append, length-take-le, get_or-take}
use Rattle.std.proofs.lemmas.List.Elements.{All-from_recursion, recursion_from_All, All-weaker}
use Rattle.std.proofs.lemmas.List.Sorted.{All-permutation, IsPermutation-map, length_permutation}
use Rattle.std.proofs.lemmas.Option.{same_Some, none-some}
use Rattle.script_form.specs.declared.script.Line.{Line}
use Rattle.script_form.specs.declared.script.What.{What}
use Rattle.script_form.specs.declared.script.What.TheVariants as what
use Rattle.script_form.specs.Ranges.{HasClient}
use Rattle.client_runner.proofs.Clients.{are_few}
use Rattle.run_laws.specs.Rows.{add, delete, query, commit}
use Rattle.run_laws.specs.Calls.{Call, call_as, phase_behind, calls_from, calls_of}
use Rattle.run_laws.specs.Lawful.{Ascends}
use Rattle.run_history.specs.Agreement.{ComesBefore}
use Rattle.run_history.proofs.Elements.{all_append, all_map}
use Rattle.client_runner.specs.RunOrder.{key_of, turn_of, turns_from, call_at, nobody}
use Rattle.client_runner.specs.declared.order.Turn.{Turn}

-- ---- lines

-- the phase of a line
abbrev phase_at : ℕ → List Line → ℕ → ℕ
phase_at phase [] j = phase
phase_at phase (line ∷ lines) zero = phase
phase_at phase (line ∷ lines) (suc j) = phase_at (phase_behind phase line.what) lines j

phase_rises : (phase : ℕ) (w : What) → phase ≤ phase_behind phase w
phase_rises phase what.PhaseEnd = omega arith
phase_rises phase (what.Add client body) = omega arith
phase_rises phase (what.Delete client body) = omega arith
phase_rises phase (what.Query client body) = omega arith
phase_rises phase (what.Commit client body) = omega arith
phase_rises phase what.Nothing = omega arith

phase_from : (phase : ℕ) (lines : List Line) (j : ℕ) → phase ≤ phase_at phase lines j
phase_from phase [] j = omega arith
phase_from phase (line ∷ lines) zero = omega arith
phase_from phase (line ∷ lines) (suc j) =
    let up : phase ≤ phase_behind phase line.what = phase_rises phase line.what in
    let on : phase_behind phase line.what ≤ phase_at (phase_behind phase line.what) lines j = phase_from (phase_behind phase line.what) lines j in
    omega arith

phases_rise : (phase : ℕ) (lines : List Line) (i j : ℕ) → i ≤ j → phase_at phase lines i ≤ phase_at phase lines j
phases_rise phase [] i j le = omega arith
phases_rise phase (line ∷ lines) zero j le = phase_from phase (line ∷ lines) j
phases_rise phase (line ∷ lines) (suc i) zero le = absurd (omega arith)
phases_rise phase (line ∷ lines) (suc i) (suc j) le = phases_rise (phase_behind phase line.what) lines i j (omega arith)

-- a line behind others has a greater number
number_above : (n : ℕ) (lines : List Line) (j : ℕ) (line : Line) → AllByRecursion (λ q. n < q) (map (λ l. l.number) lines) → slice_get lines j ≡ Some line → n < line.number
number_above n [] j line above at = absurd (none-some line at)
number_above n (l ∷ lines) zero line above at = subst (λ (x : Line). n < x.number) (same_Some l line at) above.0
number_above n (l ∷ lines) (suc j) line above at = number_above n lines j line above.1 at

numbers_rise : (lines : List Line) (i j : ℕ) (a b : Line) → Ascends (map (λ l. l.number) lines) → slice_get lines i ≡ Some a → slice_get lines j ≡ Some b → i ≤ j → a.number ≤ b.number
numbers_rise [] i j a b up at_a at_b le = absurd (none-some a at_a)
numbers_rise (l ∷ lines) zero zero a b up at_a at_b le =
    let same : a ≡ b = sym (same_Some l a at_a) ∙ same_Some l b at_b in
    subst (λ (x : Line). a.number ≤ x.number) same (omega arith)
numbers_rise (l ∷ lines) zero (suc j) a b up at_a at_b le =
    let above : l.number < b.number = number_above l.number lines j b up.0 at_b in
    subst (λ (x : Line). x.number ≤ b.number) (same_Some l a at_a) (omega arith)
numbers_rise (l ∷ lines) (suc i) zero a b up at_a at_b le = absurd (omega arith)
numbers_rise (l ∷ lines) (suc i) (suc j) a b up at_a at_b le = numbers_rise lines i j a b up.1 at_a at_b (omega arith)

get_within : {A : Type 0} (xs : List A) (i : ℕ) (x : A) → slice_get xs i ≡ Some x → i < length xs
get_within [] i x at = absurd (none-some x at)
get_within (y ∷ ys) zero x at = omega arith
get_within (y ∷ ys) (suc i) x at =
    let rest : i < length ys = get_within ys i x at in
    omega arith

-- ---- the request of a turn

pub record IsTurn (script : List Line) (t : Turn) : Type 0 where
  pub line : Line
  pub at : slice_get script t.index ≡ Some line
  pub called : call_as t.phase line.number line.what ≡ Some (call_at script t)
  pub phase : (call_at script t).phase ≡ t.phase
  pub number : (call_at script t).line ≡ line.number
  pub key : t.key ≡ key_of t.phase (call_at script t).client t.index
  pub client : (call_at script t).client < 16
  pub place : t.phase ≡ phase_at 0 script t.index

-- the lines are those of the script from an index on
record AreFrom (script : List Line) (phase index : ℕ) (lines : List Line) : Type 0 where
  at : (j : ℕ) → slice_get script (index + j) ≡ slice_get lines j
  phase_is : (j : ℕ) → phase_at 0 script (index + j) ≡ phase_at phase lines j

from_more : (script : List Line) (phase index : ℕ) (line : Line) (lines : List Line) → AreFrom script phase index (line ∷ lines) → AreFrom script (phase_behind phase line.what) (index + 1) lines
from_more script phase index line lines from = record {
  at = λ j. let e : index + 1 + j ≡ index + suc j = omega arith in subst (λ n. slice_get script n ≡ slice_get lines j) (sym e) (from.at (suc j));
  phase_is = λ j. let e : index + 1 + j ≡ index + suc j = omega arith in subst (λ n. phase_at 0 script n ≡ phase_at (phase_behind phase line.what) lines j) (sym e) (from.phase_is (suc j));
}

-- a line that asks for something: its turn and its request
asks : (script : List Line) (phase index client : ℕ) (line : Line) (call : Call) → slice_get script index ≡ Some line → phase ≡ phase_at 0 script index
    → call_as phase line.number line.what ≡ Some call → call.phase ≡ phase → call.line ≡ line.number → call.client ≡ client → client < 16
    → (call_at script (record { key = key_of phase client index; phase = phase; index = index }) ≡ call) × IsTurn script (record { key = key_of phase client index; phase = phase; index = index })
asks script phase index client line call at place called same_phase same_line same_client below = (
  is,
  record {
    line = line;
    at = at;
    called = called ∙ ap (λ x. Some x) (sym is);
    phase = ap (λ (x : Call). x.phase) is ∙ same_phase;
    number = ap (λ (x : Call). x.line) is ∙ same_line;
    key = ap (λ n. key_of phase n index) (sym (ap (λ (x : Call). x.client) is ∙ same_client));
    client = subst (λ n. n < 16) (sym (ap (λ (x : Call). x.client) is ∙ same_client)) below;
    place = place;
  },
)
  where
    is : call_at script (record { key = key_of phase client index; phase = phase; index = index }) ≡ call
    is = ap (λ (o : Option Line). Rattle.std.specs.Prelude.unwrap_or (option_and_then (λ (l : Line). call_as phase l.number l.what) o) nobody) at ∙ ap (λ (o : Option Call). Rattle.std.specs.Prelude.unwrap_or o nobody) called

-- the turn of one line, if it asks for something
one_turn : (script : List Line) (phase index : ℕ) (line : Line) (w : What) → line.what ≡ w → slice_get script index ≡ Some line → phase ≡ phase_at 0 script index → HasClient 12 w
    → (map (call_at script) (option_to_list (turn_of phase index w)) ≡ option_to_list (call_as phase line.number w)) × AllByRecursion (IsTurn script) (option_to_list (turn_of phase index w))
one_turn script phase index line (what.Add client body) is at place has =
    let call : Call = record { phase = phase; client = client; line = line.number; verb = add; body = body } in
    let one = asks script phase index client line call at place (ap (call_as phase line.number) is) refl refl refl (are_few (what.Add client body) has) in
    (ap (λ (q : Call). q ∷ []) one.0, (one.1, tt))
one_turn script phase index line (what.Delete client body) is at place has =
    let call : Call = record { phase = phase; client = client; line = line.number; verb = delete; body = body } in
    let one = asks script phase index client line call at place (ap (call_as phase line.number) is) refl refl refl (are_few (what.Delete client body) has) in
    (ap (λ (q : Call). q ∷ []) one.0, (one.1, tt))
one_turn script phase index line (what.Query client body) is at place has =
    let call : Call = record { phase = phase; client = client; line = line.number; verb = query; body = body } in
    let one = asks script phase index client line call at place (ap (call_as phase line.number) is) refl refl refl (are_few (what.Query client body) has) in
    (ap (λ (q : Call). q ∷ []) one.0, (one.1, tt))
one_turn script phase index line (what.Commit client body) is at place has =
    let call : Call = record { phase = phase; client = client; line = line.number; verb = commit; body = body } in
    let one = asks script phase index client line call at place (ap (call_as phase line.number) is) refl refl refl (are_few (what.Commit client body) has) in
    (ap (λ (q : Call). q ∷ []) one.0, (one.1, tt))
one_turn script phase index line what.PhaseEnd is at place has = (refl, tt)
one_turn script phase index line what.Nothing is at place has = (refl, tt)

turns_are : (script : List Line) (phase index : ℕ) (lines : List Line) → AreFrom script phase index lines → AllByRecursion (λ line. HasClient 12 line.what) lines
    → (map (call_at script) (turns_from phase index lines) ≡ calls_from phase lines) × AllByRecursion (IsTurn script) (turns_from phase index lines)
turns_are script phase index [] from has = (refl, tt)
turns_are script phase index (line ∷ lines) from has =
    let at : slice_get script index ≡ Some line = let e : index ≡ index + 0 = omega arith in subst (λ n. slice_get script n ≡ Some line) (sym e) (from.at 0) in
    let place : phase ≡ phase_at 0 script index = let e : index ≡ index + 0 = omega arith in sym (subst (λ n. phase_at 0 script n ≡ phase) (sym e) (from.phase_is 0)) in
    let one = one_turn script phase index line line.what refl at place has.0 in
    let rest = turns_are script (phase_behind phase line.what) (index + 1) lines (from_more script phase index line lines from) has.1 in (
      map-append (call_at script) (option_to_list (turn_of phase index line.what)) (turns_from (phase_behind phase line.what) (index + 1) lines) ∙ ap₂ (λ (xs : List Call) ys. xs ++ ys) one.0 rest.0,
      all_append (IsTurn script) (option_to_list (turn_of phase index line.what)) (turns_from (phase_behind phase line.what) (index + 1) lines) one.1 rest.1,
    )

all_from_start : (script : List Line) → AreFrom script 0 0 script
all_from_start script = record {
  at = λ j. let e : 0 + j ≡ j = omega arith in subst (λ n. slice_get script n ≡ slice_get script j) (sym e) refl;
  phase_is = λ j. let e : 0 + j ≡ j = omega arith in subst (λ n. phase_at 0 script n ≡ phase_at 0 script j) (sym e) refl;
}

-- the turns of a script are those of its requests, in its order
pub turns_of_calls : (script : List Line) → All (λ line. HasClient 12 line.what) script → map (call_at script) (turns_from 0 0 script) ≡ calls_of script
turns_of_calls script has = (turns_are script 0 0 script (all_from_start script) (recursion_from_All (λ line. HasClient 12 line.what) script has)).0

-- and in any order each is a turn
pub all_are_turns : (script : List Line) (served : List Turn) → All (λ line. HasClient 12 line.what) script → IsPermutation (turns_from 0 0 script) served → All (IsTurn script) served
all_are_turns script served has moved =
    All-permutation (IsTurn script) (turns_from 0 0 script) served moved
    (All-from_recursion (IsTurn script) (turns_from 0 0 script) (turns_are script 0 0 script (all_from_start script) (recursion_from_All (λ line. HasClient 12 line.what) script has)).1)

-- ---- how many

one_is_short : (phase index : ℕ) (w : What) → length (option_to_list (turn_of phase index w)) ≤ 1
one_is_short phase index (what.Add client body) = omega arith
one_is_short phase index (what.Delete client body) = omega arith
one_is_short phase index (what.Query client body) = omega arith
one_is_short phase index (what.Commit client body) = omega arith
one_is_short phase index what.PhaseEnd = omega arith
one_is_short phase index what.Nothing = omega arith

turns_are_short : (phase index : ℕ) (lines : List Line) → length (turns_from phase index lines) ≤ length lines
turns_are_short phase index [] = omega arith
turns_are_short phase index (line ∷ lines) =
    let one : length (option_to_list (turn_of phase index line.what)) ≤ 1 = one_is_short phase index line.what in
    let rest : length (turns_from (phase_behind phase line.what) (index + 1) lines) ≤ length lines = turns_are_short (phase_behind phase line.what) (index + 1) lines in
    simp length-append (omega arith)

-- there are no more turns than lines
pub no_more_turns : (script : List Line) (served : List Turn) → IsPermutation (turns_from 0 0 script) served → length served ≤ length script
no_more_turns script served moved =
    let same : length served ≡ length (turns_from 0 0 script) = length_permutation (turns_from 0 0 script) served moved in
    let short : length (turns_from 0 0 script) ≤ length script = turns_are_short 0 0 script in
    omega arith

-- ---- the line of a turn

pub index_within : (script : List Line) (t : Turn) → IsTurn script t → t.index < length script
index_within script t is = get_within script t.index is.line is.at

get_is : {A : Type 0} (xs : List A) (i : ℕ) (x d : A) → slice_get xs i ≡ Some x → get_or xs i d ≡ x
get_is [] i x d at = absurd (none-some x at)
get_is (y ∷ ys) zero x d at = same_Some y x at
get_is (y ∷ ys) (suc i) x d at = get_is ys i x d at

-- the line at the turn's index asks for the turn's request
pub asks_for : (script : List Line) (t : Turn) (line d : Line) → IsTurn script t → line ≡ get_or script t.index d → call_as t.phase line.number line.what ≡ Some (call_at script t)
asks_for script t line d is read = subst (λ (x : Line). call_as t.phase x.number x.what ≡ Some (call_at script t)) (sym (read ∙ get_is script t.index is.line d is.at)) is.called

-- ---- turns rise

rising_keys : (p q m n i j : ℕ) → m < 16 → n < 16 → i < 2 ^ 32 → j < 2 ^ 32 → (p * 16 + m) * 2 ^ 32 + i ≤ (q * 16 + n) * 2 ^ 32 + j → p ≤ q
rising_keys p q m n i j a b c d le = omega arith

rising_indices : (p q m n i j : ℕ) → m < 16 → n < 16 → i < 2 ^ 32 → j < 2 ^ 32 → (p * 16 + m) * 2 ^ 32 + i ≤ (q * 16 + n) * 2 ^ 32 + j → p ≡ q → m ≡ n → i ≤ j
rising_indices p q m n i j a b c d le e f = omega arith

contradiction : (i j p q m n : ℕ) → p ≤ q → (p ≡ q → i ≤ j) → n < m → (i ≤ j → m ≤ n) → (j ≤ i → q ≤ p) → ⊥
contradiction i j p q m n a b c d e = grind arith

-- a turn with a key that is no lower is of a request that does not come before
pub not_before : (script : List Line) (t u : Turn) → length script ≤ 100000 → Ascends (map (λ l. l.number) script) → IsTurn script t → IsTurn script u → u.key ≤ t.key → ComesBefore (call_at script t) (call_at script u) → ⊥
not_before script t u short numbers is_t is_u le (inl before) =
    let within_t : t.index < length script = index_within script t is_t in
    let within_u : u.index < length script = index_within script u is_u in
    let keys : key_of u.phase (call_at script u).client u.index ≤ key_of t.phase (call_at script t).client t.index = subst (λ n. n ≤ key_of t.phase (call_at script t).client t.index) is_u.key (subst (λ n. u.key ≤ n) is_t.key le) in
    let phases : u.phase ≤ t.phase = rising_keys u.phase t.phase (call_at script u).client (call_at script t).client u.index t.index is_u.client is_t.client (omega arith) (omega arith) keys in
    let later : t.phase < u.phase = subst (λ n. n < u.phase) is_t.phase (subst (λ n. (call_at script t).phase < n) is_u.phase before) in
    omega arith
not_before script t u short numbers is_t is_u le (inr before) =
    let within_t : t.index < length script = index_within script t is_t in
    let within_u : u.index < length script = index_within script u is_u in
    let keys : key_of u.phase (call_at script u).client u.index ≤ key_of t.phase (call_at script t).client t.index = subst (λ n. n ≤ key_of t.phase (call_at script t).client t.index) is_u.key (subst (λ n. u.key ≤ n) is_t.key le) in
    let phases : u.phase ≤ t.phase = rising_keys u.phase t.phase (call_at script u).client (call_at script t).client u.index t.index is_u.client is_t.client (omega arith) (omega arith) keys in
    let indices : u.phase ≡ t.phase → u.index ≤ t.index = λ e. rising_indices u.phase t.phase (call_at script u).client (call_at script t).client u.index t.index is_u.client is_t.client (omega arith) (omega arith) keys e (sym before.0) in
    let later : is_t.line.number < is_u.line.number = subst (λ n. n < is_u.line.number) is_t.number (subst (λ n. (call_at script t).line < n) is_u.number before.1) in
    let up : u.index ≤ t.index → is_u.line.number ≤ is_t.line.number = numbers_rise script u.index t.index is_u.line is_t.line numbers is_u.at is_t.at in
    let on : t.index ≤ u.index → t.phase ≤ u.phase = λ l. subst (λ n. t.phase ≤ n) (sym is_u.place) (subst (λ n. n ≤ phase_at 0 script u.index) (sym is_t.place) (phases_rise 0 script t.index u.index l)) in
    contradiction u.index t.index u.phase t.phase is_u.line.number is_t.line.number phases indices later up on

-- no request that was served before one comes after it
pub comes_last : (script : List Line) (served : List Turn) (i : ℕ) (d : Turn) → length script ≤ 100000 → Ascends (map (λ l. l.number) script) → All (IsTurn script) served → IsNonDecreasingBy (λ t. t.key) served → i < length served
    → AllByRecursion (λ q. ComesBefore (call_at script (get_or served i d)) q → ⊥) (map (call_at script) (take i served))
comes_last script served i d short numbers are up l =
    all_map (call_at script) (λ q. ComesBefore (call_at script (get_or served i d)) q → ⊥) (take i served)
    (recursion_from_All (λ u. ComesBefore (call_at script (get_or served i d)) (call_at script u) → ⊥) (take i served) (λ k e m.
    let below : k < i = omega (arith, m, length-take-le i served (omega arith)) in
    subst (λ (u : Turn). ComesBefore (call_at script (get_or served i d)) (call_at script u) → ⊥) (sym (get_or-take i served k e below))
    (not_before script (get_or served i d) (get_or served k e) short numbers (are i d l) (are k e (omega arith))
    (subst (λ (u : Turn). u.key ≤ (get_or served i d).key) (same k e d (omega arith)) (up k i d (omega arith) l)))))
  where
    same_read : (xs : List Turn) (k : ℕ) (e f : Turn) → k < length xs → get_or xs k e ≡ get_or xs k f
    same_read [] k e f below = absurd (omega arith)
    same_read (x ∷ xs) zero e f below = refl
    same_read (x ∷ xs) (suc k) e f below = same_read xs k e f (omega arith)

    same : (k : ℕ) (e f : Turn) → k < length served → get_or served k f ≡ get_or served k e
    same k e f below = same_read served k f e below

-- ---- the turns as they are served

pub record AreServed (script : List Line) (served : List Turn) : Type 0 where
  pub turns : All (IsTurn script) served
  pub rising : IsNonDecreasingBy (λ t. t.key) served
  pub few : length served ≤ 100000
  pub calls : IsPermutation (calls_of script) (map (call_at script) served)

pub are_served : (script got : List Line) (items served : List Turn) → got ≡ script → served ≡ items → length script ≤ 100000 → All (λ line. HasClient 12 line.what) script
    → IsPermutation (turns_from 0 0 got) items → IsNonDecreasingBy (λ t. t.key) items → AreServed script served
are_served script got items served same_script same_items short clients moved up =
    let moved_here : IsPermutation (turns_from 0 0 script) items = subst (λ lines. IsPermutation (turns_from 0 0 lines) items) same_script moved in
    let all : IsPermutation (turns_from 0 0 script) served = subst (IsPermutation (turns_from 0 0 script)) (sym same_items) moved_here in
    let no_more : length served ≤ length script = no_more_turns script served all in
    record {
      turns = all_are_turns script served clients all;
      rising = subst (IsNonDecreasingBy (λ (t : Turn). t.key)) (sym same_items) up;
      few = omega (arith, no_more, short);
      calls = subst (λ qs. IsPermutation qs (map (call_at script) served)) (turns_of_calls script clients) (IsPermutation-map (call_at script) (turns_from 0 0 script) served all);
    }
