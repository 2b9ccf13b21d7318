-- Texts of printable ASCII.
use Rattle.std.proofs.Common.{◌≡◌, ℕ, zero, suc, ◌^◌, ◌<◌, ◌==◌, true, false, List, [], ◌∷◌, ◌++◌, get_or, decimal, refl, arith}
use Rattle.std.specs.Char.{is_ascii_digit}
use Rattle.std.specs.List.{All}
use Rattle.std.specs.Str.{IsAscii, IsUtf8, all_ascii_digits}
use Rattle.std.specs.Str.Lines.{strip_carriage_return}
use Rattle.std.specs.Str.Parse.{digits_value}
use Rattle.std.proofs.lemmas.Bool.{and_from, and_parts, cond-false, ne_eqb}
use Rattle.std.proofs.lemmas.Bool.Decides.{nat_tests}
use Rattle.std.proofs.lemmas.Fmt.{digits_decimal}
use Rattle.std.proofs.lemmas.List.Elements.{All-cons, All-nil}
use Rattle.std.proofs.lemmas.Str.{IsUtf8-from_ascii}
use Rattle.std.proofs.lemmas.Str.Parse.{IsNumeralModel, numerals_by_value, tells_all_ascii_digits}
use Rattle.script_maker.specs.Written.{is_plain, is_printable}

pub plain_append : (xs ys : List ℕ) → is_plain xs ≡ true → is_plain ys ≡ true → is_plain (xs ++ ys) ≡ true
plain_append [] ys p q = q
plain_append (x ∷ xs) ys p q =
    let h = and_parts (is_printable x) (is_plain xs) p in
    and_from (is_printable x) (is_plain (xs ++ ys)) h.0 (plain_append xs ys h.1 q)

printable_digit : (c : ℕ) → is_ascii_digit c ≡ true → is_printable c ≡ true
printable_digit c h = grind (arith, nat_tests)

plain_digits : (ds : List ℕ) → all_ascii_digits ds ≡ true → is_plain ds ≡ true
plain_digits [] h = refl
plain_digits (c ∷ cs) h =
    let p = and_parts (is_ascii_digit c) (all_ascii_digits cs) h in
    and_from (is_printable c) (is_plain cs) (printable_digit c p.0) (plain_digits cs p.1)

numerals : IsNumeralModel (λ ds. all_ascii_digits ds ≡ true) (digits_value 10)
numerals = numerals_by_value _ tells_all_ascii_digits

pub decimal_digits : (n : ℕ) → n < 2 ^ 64 → all_ascii_digits (decimal n) ≡ true
decimal_digits n h = digits_decimal numerals n h

pub plain_decimal : (n : ℕ) → n < 2 ^ 64 → is_plain (decimal n) ≡ true
plain_decimal n h = plain_digits (decimal n) (decimal_digits n h)

-- ---- what their bytes are not

abbrev IsInside : ℕ → Type 0
IsInside c = (c < 127) × (c ≡ 13 → ⊥)

printable_inside : (c : ℕ) → is_printable c ≡ true → IsInside c
printable_inside c h = (grind (arith, nat_tests), λ e. grind (arith, nat_tests))

-- a byte of the text, or 0 past its end
plain_at : (xs : List ℕ) → is_plain xs ≡ true → (i : ℕ) → IsInside (get_or xs i 0)
plain_at [] h i = (omega arith, λ e. omega arith)
plain_at (x ∷ xs) h zero = printable_inside x (and_parts (is_printable x) (is_plain xs) h).0
plain_at (x ∷ xs) h (suc i) = plain_at xs (and_parts (is_printable x) (is_plain xs) h).1 i

plain_ascii : (xs : List ℕ) → is_plain xs ≡ true → IsAscii xs
plain_ascii xs h i = let inside = plain_at xs h i in omega (arith, inside.0)

pub plain_utf8 : (xs : List ℕ) → is_plain xs ≡ true → IsUtf8 xs
plain_utf8 xs h = IsUtf8-from_ascii xs (plain_ascii xs h)

pub plain_kept : (xs : List ℕ) → is_plain xs ≡ true → strip_carriage_return xs ≡ xs
plain_kept xs h = cond-false _ _ _ (ne_eqb _ _ (plain_at xs h _).1)

printable_no_feed : (c : ℕ) → is_printable c ≡ true → (c == 10) ≡ false
printable_no_feed c h = grind (arith, nat_tests)

-- no byte is a line feed
pub plain_no_feed : (xs : List ℕ) → is_plain xs ≡ true → All (λ c. (c == 10) ≡ false) xs
plain_no_feed [] h = All-nil (λ c. (c == 10) ≡ false)
plain_no_feed (x ∷ xs) h =
    let p = and_parts (is_printable x) (is_plain xs) h in
    All-cons (λ c. (c == 10) ≡ false) x xs (printable_no_feed x p.0) (plain_no_feed xs p.1)
