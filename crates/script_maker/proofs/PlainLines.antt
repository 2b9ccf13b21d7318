-- What a plain line reads to.
use Rattle.std.proofs.Common.{◌≡◌, ℕ, ◌+◌, ◌^◌, ◌<◌, ◌==◌, true, false, cond, List, [], ◌∷◌, ◌++◌, length, map, get_or, decimal, codes, None, Result, Ok, Err, refl, ap, ◌∙◌, arith}
use Rattle.std.specs.Char.{is_ascii_digit}
use Rattle.std.specs.List.{All, before_first, after_first}
use Rattle.std.specs.Str.{all_ascii_digits}
use Rattle.std.specs.Str.Lines.{lines}
use Rattle.std.specs.Str.Parse.{digits_value}
use Rattle.std.proofs.lemmas.Bool.{and_left, and_parts, cond-false, ne_eqb, or_from}
use Rattle.std.proofs.lemmas.Bool.Decides.{nat_tests}
use Rattle.std.proofs.lemmas.Fmt.{decimal_is_IsNumeral, decimal_nonempty, first_decimal}
use Rattle.std.proofs.lemmas.List.Elements.{All-head, All-tail}
use Rattle.field_schema.specs.Bytes.{bytes_eq}
use Rattle.script_form.specs.ReadScript.{body_part, client_of, client_part, front_from, front_of, in_front, is_nothing, is_space, most_clients, request_of, script_of, verb_part, what_in, what_of, whole_script}
use Rattle.script_form.specs.Results.{result_then}
use Rattle.script_form.specs.declared.script.LineName.{LineName}
use Rattle.script_form.specs.declared.script.LineName.TheVariants as name
use Rattle.script_form.specs.declared.script.What.{What}
use Rattle.script_form.specs.declared.script.What.TheVariants as what
use Rattle.script_form.proofs.Markers.{after_here, after_later, before_here, before_later}
use Rattle.script_form.proofs.Scripts.{what_of_text}
use Rattle.script_maker.specs.Laws.{PlainLinesReadBack}
use Rattle.script_maker.specs.Written.{IsClient, IsPlainLine, is_plain, numbered, script_text, written}
use Rattle.script_maker.proofs.PlainTexts.{decimal_digits, plain_append, plain_decimal, plain_utf8}
use Rattle.script_maker.proofs.Split.{IsPlain, line_in_front}

-- ---- digits in front of a space

digit_no_space : (c : ℕ) → is_ascii_digit c ≡ true → is_space c ≡ false
digit_no_space c h = grind (arith, nat_tests)

before_space : (ds rest : List ℕ) → all_ascii_digits ds ≡ true → before_first is_space (ds ++ 32 ∷ rest) ≡ ds
before_space [] rest h = before_here is_space 32 rest refl
before_space (c ∷ cs) rest h =
    let p = and_parts (is_ascii_digit c) (all_ascii_digits cs) h in
    before_later is_space c (cs ++ 32 ∷ rest) (digit_no_space c p.0) ∙ ap (λ xs. c ∷ xs) (before_space cs rest p.1)

after_space : (ds rest : List ℕ) → all_ascii_digits ds ≡ true → after_first is_space (ds ++ 32 ∷ rest) ≡ rest
after_space [] rest h = after_here is_space 32 rest refl
after_space (c ∷ cs) rest h =
    let p = and_parts (is_ascii_digit c) (all_ascii_digits cs) h in
    after_later is_space c (cs ++ 32 ∷ rest) (digit_no_space c p.0) ∙ after_space cs rest p.1

-- a digit begins neither a comment nor the end of a phase
something : (ds rest : List ℕ) → all_ascii_digits ds ≡ true → 0 < length ds → is_nothing (ds ++ 32 ∷ rest) ≡ false
something [] rest h some = absurd (omega arith)
something (c ∷ cs) rest h some =
    let p = and_parts (is_ascii_digit c) (all_ascii_digits cs) h in
    or_from _ _ (ne_eqb (length (c ∷ (cs ++ 32 ∷ rest))) 0 (λ e. omega arith)) (no_mark c p.0)
  where
    no_mark : (d : ℕ) → is_ascii_digit d ≡ true → (d == 35) ≡ false
    no_mark d is = grind (arith, nat_tests)

no_phase_end : (ds rest : List ℕ) → all_ascii_digits ds ≡ true → 0 < length ds → bytes_eq (ds ++ 32 ∷ rest) (codes "---") ≡ false
no_phase_end [] rest h some = absurd (omega arith)
no_phase_end (c ∷ cs) rest h some =
    let p = and_parts (is_ascii_digit c) (all_ascii_digits cs) h in
    and_left (c == 45) _ (no_dash c p.0)
  where
    no_dash : (d : ℕ) → is_ascii_digit d ≡ true → (d == 45) ≡ false
    no_dash d is = grind (arith, nat_tests)

-- ---- the client

-- digits of which the first is no zero are a number of a client
digits_client : (text : List ℕ) (k : ℕ) → all_ascii_digits text ≡ true → 0 < length text → 48 < get_or text 0 0 → digits_value 10 text ≡ k → IsClient k
    → client_of most_clients text ≡ Ok k
digits_client text k digits some first value is = grind (arith, nat_tests)

client_is : (k : ℕ) → IsClient k → client_of most_clients (decimal k) ≡ Ok k
client_is k is =
    let small : k < 2 ^ 64 = omega (arith, is.1) in
    let some : 0 < k = omega (arith, is.0) in
    digits_client (decimal k) k (decimal_digits k small) (decimal_nonempty k small) (first_decimal k some small) (decimal_is_IsNumeral k small).1 is

-- ---- a request

-- what stands behind the client
asked_of : (k : ℕ) (rest : List ℕ) → IsClient k
    → what_in most_clients (decimal k ++ 32 ∷ rest) ≡ request_of k (before_first is_space rest) (after_first is_space rest)
asked_of k rest is =
    let line : List ℕ = decimal k ++ 32 ∷ rest in
    let small : k < 2 ^ 64 = omega (arith, is.1) in
    let digits : all_ascii_digits (decimal k) ≡ true = decimal_digits k small in
    let some : 0 < length (decimal k) = decimal_nonempty k small in
    let client : Result ℕ LineName = client_of most_clients (client_part line) in
    let behind : List ℕ → Result What LineName = λ r. request_of k (before_first is_space r) (after_first is_space r) in
    cond-false (is_nothing line) _ _ (something (decimal k) rest digits some)
    ∙ cond-false (bytes_eq line (codes "---")) _ _ (no_phase_end (decimal k) rest digits some)
    ∙ ap (λ r. result_then r (λ c. request_of c (verb_part line) (body_part line))) (ap (client_of most_clients) (before_space (decimal k) rest digits) ∙ client_is k is)
    ∙ ap behind (after_space (decimal k) rest digits)

body_some : (body : List ℕ) (w : What) → 0 < length body → cond (length body == 0) (Err name.BadBody) (Ok w) ≡ Ok w
body_some body w some = cond-false (length body == 0) _ _ (ne_eqb (length body) 0 (λ e. omega arith))

in_written : (w : What) → IsPlainLine w → what_in most_clients (written w) ≡ Ok w
in_written (what.Add k body) h = asked_of k (codes "add" ++ 32 ∷ body) h.0 ∙ body_some body (what.Add k body) h.1.0
in_written (what.Delete k body) h = asked_of k (codes "delete" ++ 32 ∷ body) h.0 ∙ body_some body (what.Delete k body) h.1.0
in_written (what.Query k body) h = asked_of k (codes "query" ++ 32 ∷ body) h.0 ∙ body_some body (what.Query k body) h.1.0
in_written (what.Commit k []) h = asked_of k (codes "commit") h.0
in_written (what.Commit k (c ∷ cs)) h = asked_of k (codes "commit" ++ 32 ∷ c ∷ cs) h.0
in_written what.PhaseEnd h = refl
in_written what.Nothing h = refl

-- ---- its text

plain_front : (k : ℕ) (rest : List ℕ) → IsClient k → is_plain rest ≡ true → is_plain (decimal k ++ 32 ∷ rest) ≡ true
plain_front k rest is plain = plain_append (decimal k) (32 ∷ rest) (plain_decimal k (omega (arith, is.1))) plain

pub plain_written : (w : What) → IsPlainLine w → IsPlain (written w)
plain_written (what.Add k body) h = plain_front k (codes "add" ++ 32 ∷ body) h.0 h.1.1
plain_written (what.Delete k body) h = plain_front k (codes "delete" ++ 32 ∷ body) h.0 h.1.1
plain_written (what.Query k body) h = plain_front k (codes "query" ++ 32 ∷ body) h.0 h.1.1
plain_written (what.Commit k []) h = plain_front k (codes "commit") h.0 refl
plain_written (what.Commit k (c ∷ cs)) h = plain_front k (codes "commit" ++ 32 ∷ c ∷ cs) h.0 h.1
plain_written what.PhaseEnd h = refl
plain_written what.Nothing h = refl

what_written : (w : What) → IsPlainLine w → what_of most_clients (written w) ≡ Ok w
what_written w h = what_of_text most_clients (written w) (plain_utf8 (written w) (plain_written w h)) ∙ in_written w h

-- ---- all lines

pub lines_written : (ws : List What) → All IsPlainLine ws → lines (script_text ws) ≡ map written ws
lines_written [] h = refl
lines_written (w ∷ ws) h =
    line_in_front (written w) (script_text ws) (plain_written w (All-head IsPlainLine w ws h))
    ∙ ap (λ ls. written w ∷ ls) (lines_written ws (All-tail IsPlainLine w ws h))

front_written : (n : ℕ) (ws : List What) → All IsPlainLine ws → front_from most_clients n (map written ws) ≡ record { lines = numbered n ws; fault = None }
front_written n [] h = refl
front_written n (w ∷ ws) h =
    ap (λ r. in_front n r (front_from most_clients (n + 1) (map written ws))) (what_written w (All-head IsPlainLine w ws h))
    ∙ ap (in_front n (Ok w)) (front_written (n + 1) ws (All-tail IsPlainLine w ws h))

pub script_written : (ws : List What) → All IsPlainLine ws → script_of most_clients (map written ws) ≡ Ok (numbered 1 ws)
unfolding front_of
script_written ws h = ap whole_script (front_written 1 ws h)

pub reads_back : PlainLinesReadBack
reads_back ws h = ap (script_of most_clients) (lines_written ws h) ∙ script_written ws h
