-- A plain line in front of a text is its first line.
use Rattle.std.proofs.Common.{◌≡◌, ℕ, ◌<◌, ◌==◌, Bool, true, List, [], ◌∷◌, ◌++◌, length, append_assoc, refl, ap, ◌∙◌, arith}
use Rattle.std.specs.List.{slice_split}
use Rattle.std.specs.Str.Lines.{lines, lines_of_parts, strip_carriage_return}
use Rattle.std.proofs.lemmas.List.Splits.{length-slice_split, slice_split_at}
use Rattle.script_maker.specs.Written.{is_plain}
use Rattle.script_maker.proofs.PlainTexts.{plain_kept, plain_no_feed}

abbrev is_feed : ℕ → Bool
is_feed b = b == 10

abbrev pub IsPlain : List ℕ → Type 0
IsPlain line = is_plain line ≡ true

split_some : (bs : List ℕ) → 0 < length (slice_split is_feed bs)
split_some bs = omega (arith, length-slice_split is_feed bs)

-- a part in front of others is a line that loses its carriage return
parts_more : (x : List ℕ) (ps : List (List ℕ)) → 0 < length ps → lines_of_parts (x ∷ ps) ≡ strip_carriage_return x ∷ lines_of_parts ps
parts_more x [] some = absurd (omega arith)
parts_more x (y ∷ ps) some = refl

-- a plain line in front of a text
pub line_in_front : (line rest : List ℕ) → IsPlain line → lines ((line ++ 10 ∷ []) ++ rest) ≡ line ∷ lines rest
line_in_front line rest plain =
    ap lines (append_assoc line (10 ∷ []) rest)
    ∙ ap lines_of_parts (slice_split_at is_feed line 10 rest (plain_no_feed line plain) refl)
    ∙ parts_more line (slice_split is_feed rest) (split_some rest)
    ∙ ap (λ x. x ∷ lines rest) (plain_kept line plain)
