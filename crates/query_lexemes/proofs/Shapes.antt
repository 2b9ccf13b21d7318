-- Letters by their characters alone, wherever they stand.
use Rattle.std.proofs.Common.{◌≡◌, ◌+◌, ◌-◌, ◌++◌, ◌∷◌, [], ℕ, List, Bool, true, false, not, cond, refl, ap, ◌∙◌, arith, drop, suc}
use Rattle.std.specs.Prelude.{◌||◌, ◌==◌, encode_utf8}
use Rattle.std.specs.Char.{len_utf8}
use Rattle.std.specs.List.{take_while, prefix_len, flat_map}
use Rattle.std.proofs.lemmas.List.Sums.{take_while-cons}
use Rattle.std.proofs.lemmas.Bool.{or_cases, or_parts}
use Rattle.query_lexemes.specs.declared.letter.Letter.{Letter}
use Rattle.query_lexemes.specs.declared.letter.Class.{Class}
use Rattle.query_lexemes.specs.Letters.{letters_from, shared, belongs, run, past, text_of}

-- a character that stands for itself, or behind `\`
pub record Shape : Type 0 where
  pub code : ℕ
  pub escaped : Bool

-- its letter at a place
abbrev pub letter : ℕ → Shape → Letter
letter at s = record { at = at; odd = cond s.escaped at (at + shared s.code); code = s.code; escaped = s.escaped }

-- how many bytes it takes
abbrev pub width : Shape → ℕ
width s = cond s.escaped (1 + len_utf8 s.code) (len_utf8 s.code)

-- the letters of characters from a place on
abbrev pub lay : ℕ → List Shape → List Letter
lay at [] = []
lay at (s ∷ ss) = letter at s ∷ lay (at + width s) ss

-- the place behind them
abbrev pub end_of : ℕ → List Shape → ℕ
end_of at [] = at
end_of at (s ∷ ss) = end_of (at + width s) ss

-- its characters
abbrev pub chars_of : List Shape → List ℕ
chars_of [] = []
chars_of (s ∷ ss) = cond s.escaped (92 ∷ s.code ∷ chars_of ss) (s.code ∷ chars_of ss)

-- no `\` stands for itself
abbrev pub IsSound : List Shape → Type 0
IsSound [] = Unit {0}
IsSound (s ∷ ss) = ((s.escaped || not (s.code == 92)) ≡ true) × IsSound ss

step : (at c : ℕ) (e : Bool) (ss : List Shape) → (e || not (c == 92)) ≡ true
    → ((here : ℕ) → letters_from false here (chars_of ss) ≡ lay here ss)
    → letters_from false at (chars_of (record { code = c; escaped = e } ∷ ss)) ≡ lay at (record { code = c; escaped = e } ∷ ss)
unfolding letters_from
step at c true ss h rest =
    let e : (at + 1) - 1 ≡ at = omega arith in
    let w : (at + 1) + len_utf8 c ≡ at + (1 + len_utf8 c) = omega arith in
    rw (e, w, rest (at + (1 + len_utf8 c))) refl
step at c false ss h rest = rw (Rattle.std.proofs.lemmas.Bool.not-true (c == 92) h, rest (at + len_utf8 c)) refl

-- the letters of the characters
pub laid : (ss : List Shape) → IsSound ss → (at : ℕ) → letters_from false at (chars_of ss) ≡ lay at ss
unfolding letters_from
laid [] h at = refl
laid (s ∷ ss) h at = step at s.code s.escaped ss h.0 (laid ss h.1)

pub lay-append : (ss rest : List Shape) (at : ℕ) → lay at (ss ++ rest) ≡ lay at ss ++ lay (end_of at ss) rest
lay-append [] rest at = refl
lay-append (s ∷ ss) rest at = ap (λ ls. letter at s ∷ ls) (lay-append ss rest (at + width s))

-- ---- runs

abbrev pub AllAre : (Letter → Bool) → List Shape → Type 0
AllAre p [] = Unit {0}
AllAre p (s ∷ ss) = ((at : ℕ) → p (letter at s) ≡ true) × AllAre p ss

-- no first letter that goes on the run
abbrev pub Stops : (Letter → Bool) → List Shape → Type 0
Stops p [] = Unit {0}
Stops p (s ∷ ss) = (at : ℕ) → p (letter at s) ≡ false

pub taken : (p : Letter → Bool) (ss rest : List Shape) (at : ℕ) → AllAre p ss → Stops p rest → take_while p (lay at (ss ++ rest)) ≡ lay at ss
taken p [] [] at a h = refl
taken p [] (s ∷ ss) at a h = rw (take_while-cons p (letter at s) (lay (at + width s) ss), h at) refl
taken p (s ∷ ss) rest at a h =
    take_while-cons p (letter at s) (lay (at + width s) (ss ++ rest)) ∙ rw (a.0 at) (ap (λ ls. letter at s ∷ ls) (taken p ss rest (at + width s) a.1 h))

drop_one : {A : Type 0} (n : ℕ) (x : A) (xs : List A) → drop (1 + n) (x ∷ xs) ≡ drop n xs
drop_one n x xs = let e : 1 + n ≡ suc n = omega arith in rw e refl

pub passed : (p : Letter → Bool) (ss rest : List Shape) (at : ℕ) → AllAre p ss → Stops p rest
    → drop (prefix_len p (lay at (ss ++ rest))) (lay at (ss ++ rest)) ≡ lay (end_of at ss) rest
passed p [] [] at a h = refl
passed p [] (s ∷ ss) at a h = rw (h at) refl
passed p (s ∷ ss) rest at a h = rw (a.0 at) (drop_one _ (letter at s) (lay (at + width s) (ss ++ rest)) ∙ passed p ss rest (at + width s) a.1 h)

pub run_is : (k : Class) (ss rest : List Shape) (at : ℕ) → AllAre (belongs k) ss → Stops (belongs k) rest → run k (lay at (ss ++ rest)) ≡ lay at ss
unfolding run
run_is k ss rest at a h = taken (belongs k) ss rest at a h

pub past_is : (k : Class) (ss rest : List Shape) (at : ℕ) → AllAre (belongs k) ss → Stops (belongs k) rest → past k (lay at (ss ++ rest)) ≡ lay (end_of at ss) rest
unfolding past
past_is k ss rest at a h = passed (belongs k) ss rest at a h

-- the text that characters stand for
abbrev pub spelled : List Shape → List ℕ
spelled ss = flat_map (λ (s : Shape). encode_utf8 s.code) ss

pub text_is : (ss : List Shape) (at : ℕ) → text_of (lay at ss) ≡ spelled ss
text_is [] at = refl
text_is (s ∷ ss) at = ap (λ (bs : List ℕ). encode_utf8 s.code ++ bs) (text_is ss (at + width s))
