-- What the turns ask for is plain, and short.
use Rattle.std.proofs.Common.{ℕ, zero, suc, ◌+◌, ◌*◌, ◌%◌, ◌<◌, ◌≤◌, ◌==◌, Bool, true, false, cond, List, [], ◌∷◌, ◌++◌, length, decimal, codes, refl, arith, length-append}
use Rattle.std.specs.Fmt.{digits}
use Rattle.std.specs.List.{All}
use Rattle.std.proofs.lemmas.Fmt.{length-decimal-le}
use Rattle.std.proofs.lemmas.List.Elements.{All-append, All-cons, All-nil}
use Rattle.script_form.specs.declared.script.What.{What}
use Rattle.script_form.specs.declared.script.What.TheVariants as what
use Rattle.script_maker.specs.Made.{add_line, client_at, commit_lines, drawn, last_lines, made_lines, number_after, number_after_turn, number_before, query_line, query_lines, turn_behind, turn_lines, turns}
use Rattle.script_maker.specs.Written.{IsClient, IsPlainLine, written}
use Rattle.script_maker.specs.declared.turn.Turn.{Turn}
use Rattle.script_maker.proofs.PlainTexts.{plain_append, plain_decimal}

-- a line that is read back, of at most so many bytes with its line feed
pub record IsShortLine (w : What) : Type 0 where
  pub plain : IsPlainLine w
  pub short : length (written w) < 128

-- what the draws are below
record IsTurn (t : Turn) : Type 0 where
  index : t.index < 20000
  cat : t.cat < 7
  price : t.price < 1000
  word : t.word < 20

drawn_below : (x bound : ℕ) → 0 < bound → drawn x bound < bound
unfolding drawn
drawn_below x bound h = omega arith

is_turn : (x index : ℕ) → index < 20000 → IsTurn (turn_behind x index)
is_turn x index h = record {
  index = h;
  cat = drawn_below (number_after x) 7 (omega arith);
  price = drawn_below (number_after (number_after x)) 1000 (omega arith);
  word = drawn_below (number_after_turn x) 20 (omega arith);
}

client_is : (index : ℕ) → IsClient (client_at index)
client_is index = (omega arith, omega arith)

-- ---- how long the lines are

short_add : (k c i p w : List ℕ) → length k ≤ 2 → length c ≤ 1 → length i ≤ 5 → length p ≤ 3 → length w ≤ 2
    → length (k ++ 32 ∷ (codes "add" ++ 32 ∷ (codes "{\"cat\":\"c" ++ (c ++ (codes "\",\"id\":\"d" ++ (i ++ (codes "\",\"price\":" ++ (p ++ (codes ",\"t\":\"w" ++ (w ++ codes " item\"}")))))))))) < 128
short_add k c i p w hk hc hi hp hw = simp length-append (omega arith)

short_query : (k c p w : List ℕ) → length k ≤ 2 → length c ≤ 1 → length p ≤ 3 → length w ≤ 2
    → length (k ++ 32 ∷ (codes "query" ++ 32 ∷ (codes "q=t:w" ++ (w ++ (codes "&fq=cat:c" ++ (c ++ (codes "&fq=price:[*+TO+" ++ (p ++ codes "]&sort=price+asc&fl=id,price")))))))) < 128
short_query k c p w hk hc hp hw = simp length-append (omega arith)

short_commit : (k : List ℕ) → length k ≤ 2 → length (k ++ 32 ∷ codes "commit") < 128
short_commit k hk = simp length-append (omega arith)

-- the digits of the numbers
client_digits : (index : ℕ) → length (decimal (client_at index)) ≤ 2
client_digits index = length-decimal-le 2 (client_at index) (omega arith) (omega arith) (omega arith)

-- ---- the lines of a turn

add_is : (t : Turn) → IsTurn t → IsShortLine (add_line t)
add_is t is = record {
  plain = (
    client_is t.index,
    (
      omega arith,
      plain_append (decimal t.cat) _ (plain_decimal t.cat (omega (arith, is.cat)))
          (plain_append (decimal t.index) _ (plain_decimal t.index (omega (arith, is.index)))
          (plain_append (decimal t.price) _ (plain_decimal t.price (omega (arith, is.price)))
          (plain_append (decimal t.word) _ (plain_decimal t.word (omega (arith, is.word))) refl))),
    ),
  );
  short =
      short_add (decimal (client_at t.index)) (decimal t.cat) (decimal t.index) (decimal t.price) (decimal t.word)
      (client_digits t.index)
      (length-decimal-le 1 t.cat (omega arith) (omega (arith, is.cat)) (omega (arith, is.cat)))
      (length-decimal-le 5 t.index (omega arith) (omega (arith, is.index)) (omega (arith, is.index)))
      (length-decimal-le 3 t.price (omega arith) (omega (arith, is.price)) (omega (arith, is.price)))
      (length-decimal-le 2 t.word (omega arith) (omega (arith, is.word)) (omega (arith, is.word)));
}

query_is : (t : Turn) → IsTurn t → IsShortLine (query_line t)
query_is t is = record {
  plain = (
    client_is t.index,
    (
      omega arith,
      plain_append (decimal t.word) _ (plain_decimal t.word (omega (arith, is.word)))
          (plain_append (decimal t.cat) _ (plain_decimal t.cat (omega (arith, is.cat)))
          (plain_append (decimal t.price) _ (plain_decimal t.price (omega (arith, is.price))) refl)),
    ),
  );
  short =
      short_query (decimal (client_at t.index)) (decimal t.cat) (decimal t.price) (decimal t.word)
      (client_digits t.index)
      (length-decimal-le 1 t.cat (omega arith) (omega (arith, is.cat)) (omega (arith, is.cat)))
      (length-decimal-le 3 t.price (omega arith) (omega (arith, is.price)) (omega (arith, is.price)))
      (length-decimal-le 2 t.word (omega arith) (omega (arith, is.word)) (omega (arith, is.word)));
}

commit_is : (index : ℕ) → IsShortLine (what.Commit (client_at index) [])
commit_is index = record { plain = (client_is index, refl); short = short_commit (decimal (client_at index)) (client_digits index) }

phase_end_is : IsShortLine what.PhaseEnd
phase_end_is = record { plain = tt; short = omega arith }

-- ---- some lines, of which each is short

pub record AreShort (most : ℕ) (ws : List What) : Type 0 where
  pub each : All IsShortLine ws
  pub few : length ws ≤ most

none : (most : ℕ) → AreShort most []
none most = record { each = All-nil IsShortLine; few = omega arith }

in_front : (most : ℕ) (w : What) (ws : List What) → IsShortLine w → AreShort most ws → AreShort (most + 1) (w ∷ ws)
in_front most w ws is are = record { each = All-cons IsShortLine w ws is are.each; few = omega (arith, are.few) }

joined : (m n : ℕ) (xs ys : List What) → AreShort m xs → AreShort n ys → AreShort (m + n) (xs ++ ys)
joined m n xs ys a b = record { each = All-append IsShortLine xs ys a.each b.each; few = simp length-append (omega (arith, a.few, b.few)) }

-- there or not
perhaps : (most : ℕ) (b : Bool) (ws : List What) → AreShort most ws → AreShort most (cond b ws [])
perhaps most true ws are = are
perhaps most false ws are = none most

turn_is : (t : Turn) → IsTurn t → AreShort 4 (turn_lines t)
turn_is t is =
    let query : AreShort 1 (query_lines t) = perhaps 1 ((t.index % 10) == 9) _ (in_front 0 _ [] (query_is t is) (none 0)) in
    let commit : AreShort 2 (commit_lines t) =
    perhaps 2 ((t.index % 100) == 99) _ (in_front 1 _ _ (commit_is t.index) (in_front 0 _ [] phase_end_is (none 0))) in
    in_front 3 (add_line t) (query_lines t ++ commit_lines t) (add_is t is) (joined 1 2 (query_lines t) (commit_lines t) query commit)

turns_are : (seed n : ℕ) → n ≤ 20000 → AreShort (4 * n) (turns seed n)
unfolding turns
turns_are seed zero h = none 0
turns_are seed (suc i) h =
    let t : Turn = turn_behind (number_before seed i) i in
    let before : AreShort (4 * i) (turns seed i) = turns_are seed i (omega arith) in
    let one : AreShort 4 (turn_lines t) = turn_is t (is_turn (number_before seed i) i (omega arith)) in
    let all : AreShort (4 * i + 4) (turns seed i ++ turn_lines t) = joined (4 * i) 4 (turns seed i) (turn_lines t) before one in
    record { each = all.each; few = omega (arith, all.few) }

last_are : AreShort 3 last_lines
unfolding digits
last_are =
    in_front 2 _ _ phase_end_is
    (in_front 1 _ _ (record { plain = ((omega arith, omega arith), refl); short = omega arith })
    (in_front 0 _ [] (record { plain = ((omega arith, omega arith), (omega arith, refl)); short = omega arith }) (none 0)))

pub made_are : (n : ℕ) → n ≤ 20000 → AreShort (4 * n + 3) (made_lines n)
made_are n h = joined (4 * n) 3 (turns n n) last_lines (turns_are n n h) last_are
