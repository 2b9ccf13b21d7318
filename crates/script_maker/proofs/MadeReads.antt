-- Each made text reads, and is within the limits.
use Rattle.std.proofs.Common.{◌≡◌, ℕ, ◌+◌, ◌*◌, ◌≤◌, true, false, cond, nat_lt, List, [], ◌∷◌, ◌++◌, length, map, codes, Err, refl, ap, ◌∙◌, arith, length-append}
use Rattle.std.specs.List.{All, after_first, before_first, join_with_byte, list_any}
use Rattle.std.specs.Str.Lines.{lines}
use Rattle.std.proofs.lemmas.Bool.{le-ltb, or_from}
use Rattle.std.proofs.lemmas.List.{length-map}
use Rattle.std.proofs.lemmas.List.Elements.{All-head, All-tail, All-weaker}
use Rattle.script_form.specs.Lines.{config_text, has_marker, is_marker, lines_too_large, most_input, most_line, most_lines, script_lines, too_large}
use Rattle.script_form.specs.ReadConfig.{config_of, failed, text_config}
use Rattle.script_form.specs.ReadScript.{most_clients, script_of}
use Rattle.script_form.specs.declared.script.What.{What}
use Rattle.script_maker.specs.Laws.{IsCount, MadeConfigReads, MadeIsWithinLimits, MadeScriptReads}
use Rattle.script_maker.specs.Made.{made, made_head, made_lines}
use Rattle.script_maker.specs.MadeConfig.{config_line}
use Rattle.script_maker.specs.Written.{IsPlainLine, script_text, written}
use Rattle.script_maker.proofs.ConfigReads.{config_reads}
use Rattle.script_maker.proofs.PlainLines.{lines_written, script_written}
use Rattle.script_maker.proofs.Split.{line_in_front}
use Rattle.script_maker.proofs.Turns.{AreShort, IsShortLine, made_are}

plain_made : (n : ℕ) → IsCount n → All IsPlainLine (made_lines n)
plain_made n h = All-weaker IsShortLine IsPlainLine (λ w is. is.plain) (made_lines n) (made_are n h.1).each

-- ---- its lines

behind_head : (rest : List ℕ) → lines (made_head ++ rest) ≡ config_line ∷ (codes "%%") ∷ lines rest
behind_head rest = line_in_front config_line ((codes "%%" ++ 10 ∷ []) ++ rest) refl ∙ ap (λ ls. config_line ∷ ls) (line_in_front (codes "%%") rest refl)

lines_made : (n : ℕ) → IsCount n → lines (made n) ≡ config_line ∷ (codes "%%") ∷ map written (made_lines n)
unfolding made
lines_made n h = behind_head (script_text (made_lines n)) ∙ ap (λ ls. config_line ∷ (codes "%%") ∷ ls) (lines_written (made_lines n) (plain_made n h))

script_lines_made : (n : ℕ) → IsCount n → script_lines (made n) ≡ map written (made_lines n)
script_lines_made n h = ap (after_first is_marker) (lines_made n h)

config_text_made : (n : ℕ) → IsCount n → config_text (made n) ≡ config_line
config_text_made n h = ap (λ ls. join_with_byte 10 (before_first is_marker ls)) (lines_made n h)

has_marker_made : (n : ℕ) → IsCount n → has_marker (made n) ≡ true
has_marker_made n h = ap (list_any is_marker) (lines_made n h)

-- ---- what it reads to

pub config_made : MadeConfigReads
unfolding config_of
config_made n h =
    ap (λ b. cond b (text_config (config_text (made n))) (Err (failed 1 (codes "%%")))) (has_marker_made n h)
    ∙ ap text_config (config_text_made n h)
    ∙ config_reads

pub script_made : MadeScriptReads
script_made n h = ap (script_of most_clients) (script_lines_made n h) ∙ script_written (made_lines n) (plain_made n h)

-- ---- the limits

text_short : (ws : List What) → All IsShortLine ws → length (script_text ws) ≤ 128 * length ws
text_short [] h = omega arith
text_short (w ∷ ws) h =
    let first = (All-head IsShortLine w ws h).short in
    let later = text_short ws (All-tail IsShortLine w ws h) in
    simp length-append (omega (arith, first, later))

none_long : (ws : List What) → All IsShortLine ws → list_any (λ line. nat_lt most_line (length line)) (map written ws) ≡ false
none_long [] h = refl
none_long (w ∷ ws) h =
    let first = (All-head IsShortLine w ws h).short in
    or_from (nat_lt most_line (length (written w))) _ (le-ltb most_line (length (written w)) (omega (arith, first))) (none_long ws (All-tail IsShortLine w ws h))

not_many : (n : ℕ) → IsCount n → nat_lt most_lines (length (map written (made_lines n))) ≡ false
not_many n h =
    let few = (made_are n h.1).few in
    le-ltb most_lines (length (map written (made_lines n))) (simp length-map (omega (arith, few, h.1)))

lines_fit : (n : ℕ) → IsCount n → lines_too_large (script_lines (made n)) ≡ false
lines_fit n h = ap lines_too_large (script_lines_made n h) ∙ or_from _ _ (not_many n h) (none_long (made_lines n) (made_are n h.1).each)

pub text_fits : (n : ℕ) → IsCount n → length (made n) ≤ most_input
unfolding made
text_fits n h =
    let are : AreShort (4 * n + 3) (made_lines n) = made_are n h.1 in
    let short = text_short (made_lines n) are.each in
    simp length-append (omega (arith, short, are.few, h.1))

pub limits_made : MadeIsWithinLimits
unfolding too_large
limits_made n h = or_from _ _ (le-ltb most_input (length (made n)) (text_fits n h)) (lines_fit n h)
