-- How bytes are cut into their first line and the bytes behind it.
use Rattle.std.proofs.Common.{◌≡◌, ℕ, ◌+◌, ◌-◌, ◌<◌, ◌≤◌, Bool, false, ◌==◌, List, [], ◌∷◌, length, take, drop, get_or, Some, None, refl, sym, ap, ◌∙◌, arith}
use Rattle.std.specs.List.{slice_split, position_or_len, before_first, after_first, All}
use Rattle.std.specs.Str.Lines.{lines, lines_of_parts, strip_carriage_return}
use Rattle.std.proofs.lemmas.Bool.{false_from_ne_true, cond-false, ne_eqb}
use Rattle.std.proofs.lemmas.List.{drop-drop, get_or_default}
use Rattle.std.proofs.lemmas.List.Splits.{slice_split_none, slice_split_first, length-slice_split}
use Rattle.std.proofs.lemmas.List.Sums.{position_or_len_is}
use Rattle.memchr.specs.Find.{IsFirstByte, is_byte}

abbrev is_feed : ℕ → Bool
is_feed b = b == 10

-- a part in front of others is a line that loses its carriage return
parts_more : (x : List ℕ) (ps : List (List ℕ)) → 0 < length ps → lines_of_parts (x ∷ ps) ≡ strip_carriage_return x ∷ lines_of_parts ps
parts_more x [] some = absurd (omega arith)
parts_more x (y ∷ ps) some = refl

split_some : (bs : List ℕ) → 0 < length (slice_split is_feed bs)
split_some bs = omega (arith, length-slice_split is_feed bs)

-- the place of the first line feed
feed_place : (bs : List ℕ) (e : ℕ) → IsFirstByte (is_byte 10) bs (Some e) → position_or_len is_feed bs ≡ e
feed_place bs e h =
    position_or_len_is is_feed bs e 0 (let high = h.0.high in omega arith) (λ k low. false_from_ne_true (get_or bs k 0 == 10) (h.0.before k (omega arith) low)) (λ _. h.1)

-- the first line ends at the first line feed
pub lines_at : (bs rest : List ℕ) (e : ℕ) → IsFirstByte (is_byte 10) bs (Some e) → rest ≡ drop (e + 1) bs → lines bs ≡ strip_carriage_return (take e bs) ∷ lines rest
lines_at bs rest e h is =
    let place : position_or_len is_feed bs ≡ e = feed_place bs e h in
    let high : e < length bs = h.0.high in
    let split : slice_split is_feed bs ≡ before_first is_feed bs ∷ slice_split is_feed (after_first is_feed bs) =
    slice_split_first is_feed bs 0 (omega arith) in
    let front : before_first is_feed bs ≡ take e bs = ap (λ n. take n bs) place in
    let back : after_first is_feed bs ≡ rest = ap (λ n. drop (n + 1) bs) place ∙ sym is in
    ap lines_of_parts split
    ∙ parts_more (before_first is_feed bs) (slice_split is_feed (after_first is_feed bs)) (split_some (after_first is_feed bs))
    ∙ ap (λ x. strip_carriage_return x ∷ lines (after_first is_feed bs)) front
    ∙ ap (λ x. strip_carriage_return (take e bs) ∷ lines x) back

-- bytes without a line feed are one line
pub lines_one : (bs : List ℕ) → 0 < length bs → IsFirstByte (is_byte 10) bs None → lines bs ≡ bs ∷ []
lines_one bs some none =
    let nowhere : All (λ x. is_feed x ≡ false) bs =
    λ k d low. ap is_feed (get_or_default bs k d 0 low) ∙ false_from_ne_true (get_or bs k 0 == 10) (none k (omega arith) low) in
    ap lines_of_parts (slice_split_none is_feed bs nowhere)
    ∙ cond-false (length bs == 0) [] (bs ∷ []) (ne_eqb (length bs) 0 (λ e. omega arith))

pub lines_empty : (bs : List ℕ) → length bs ≡ 0 → lines bs ≡ []
lines_empty [] e = refl
lines_empty (x ∷ xs) e = absurd (omega arith)

-- what lies behind a place behind another
pub drop_further : (all rest others : List ℕ) → rest ≡ drop (length all - length rest) all → others ≡ drop (length rest - length others) rest → length rest ≤ length all → length others ≤ length rest → others ≡ drop (length all - length others) all
drop_further all rest others here there within shorter =
    there
    ∙ ap (drop (length rest - length others)) here
    ∙ drop-drop (length rest - length others) (length all - length rest) all
    ∙ ap (λ n. drop n all) (omega arith)
