-- Whether the lines from some number on pass a limit.
use Rattle.std.proofs.Common.{◌≡◌, ℕ, ◌+◌, ◌<◌, ◌≤◌, Bool, true, false, nat_lt, ◌||◌, List, [], ◌∷◌, length, ap, ◌∙◌, arith}
use Rattle.std.specs.List.{list_any}
use Rattle.std.proofs.lemmas.Bool.{lt-ltb, le-ltb, or_left, or_right}
use Rattle.script_form.specs.Lines.{most_line, most_lines}

abbrev is_long : List ℕ → Bool
is_long line = nat_lt most_line (length line)

-- n lines are counted, and those are left
abbrev pub passes : ℕ → List (List ℕ) → Bool
passes n ls = nat_lt most_lines (n + length ls) || list_any is_long ls

pub passes_many : (n : ℕ) (line : List ℕ) (ls : List (List ℕ)) → most_lines < n + 1 → passes n (line ∷ ls) ≡ true
passes_many n line ls many = or_left _ _ (lt-ltb most_lines (n + length (line ∷ ls)) (omega arith))

pub passes_long : (n : ℕ) (line : List ℕ) (ls : List (List ℕ)) → most_line < length line → passes n (line ∷ ls) ≡ true
passes_long n line ls long = or_right (nat_lt most_lines (n + length (line ∷ ls))) _ (or_left _ _ (lt-ltb most_line (length line) long))

pub passes_later : (n : ℕ) (line : List ℕ) (ls : List (List ℕ)) → length line ≤ most_line → passes n (line ∷ ls) ≡ passes (n + 1) ls
passes_later n line ls short =
    let counted : n + length (line ∷ ls) ≡ n + 1 + length ls = omega arith in
    let allowed : is_long line ≡ false = le-ltb most_line (length line) short in
    ap (λ m. nat_lt most_lines m || (is_long line || list_any is_long ls)) counted
    ∙ ap (λ b. nat_lt most_lines (n + 1 + length ls) || (b || list_any is_long ls)) allowed

pub passes_none : (n : ℕ) → n ≤ most_lines → passes n [] ≡ false
passes_none n few = ap (λ b. b || false) (le-ltb most_lines (n + 0) (omega arith))
