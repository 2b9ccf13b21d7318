-- In the lexemes of a text `*:` tells whether its value is `*`.
use Rattle.std.proofs.Common.{◌≡◌, ◌+◌, ◌++◌, ◌∷◌, [], ℕ, List, Bool, true, false, not, length, refl, arith}
use Rattle.std.specs.Prelude.{if◌then◌else◌}
use Rattle.query_lexemes.specs.declared.letter.Letter.{Letter}
use Rattle.query_lexemes.specs.declared.lexeme.Lexeme.{Lexeme}
use Rattle.query_lexemes.specs.declared.lexeme.What.{What}
use Rattle.query_lexemes.specs.declared.lexeme.What.TheVariants as what
use Rattle.query_lexemes.specs.Lexemes.{lexemes}
use Rattle.query_text.specs.Reads.{is_finish}
use Rattle.query_grammar.specs.Forms.{word, prefix, quoted, star, range, ValueForm, single, group, query_leaves, value_leaves}
use Rattle.query_grammar.specs.Texts.{up_to_finish, lexemes_of, whats}
use Rattle.query_grammar.specs.Right.{is_star}
use Rattle.query_grammar.proofs.Stars.{Tells}
use Rattle.query_grammar.proofs.Lexing.{FirstTells, AnyTells, Ended, lexemes_end}

abbrev NextIs : Bool → List What → Type 0
NextIs b [] = Unit {0}
NextIs b (w ∷ ws) = Tells b w

abbrev Follow : What → List What → Type 0
Follow (what.Any colon other) ws = NextIs other ws
Follow w ws = Unit {0}

-- each `*:` tells of the lexeme behind it
abbrev pub AllFollow : List What → Type 0
AllFollow [] = Unit {0}
AllFollow (w ∷ ws) = Follow w ws × AllFollow ws

-- ---- parts of lists

next_front : (b : Bool) (xs ys : List What) → NextIs b (xs ++ ys) → NextIs b xs
next_front b [] ys h = tt
next_front b (x ∷ xs) ys h = h

front_of : (w : What) (xs ys : List What) → Follow w (xs ++ ys) → Follow w xs
front_of (what.Any colon other) xs ys h = next_front other xs ys h
front_of w xs ys h = tt

pub follow_front : (xs ys : List What) → AllFollow (xs ++ ys) → AllFollow xs
follow_front [] ys h = tt
follow_front (x ∷ xs) ys h = (front_of x xs ys h.0, follow_front xs ys h.1)

pub follow_back : (xs ys : List What) → AllFollow (xs ++ ys) → AllFollow ys
follow_back [] ys h = h
follow_back (x ∷ xs) ys h = follow_back xs ys h.1

-- ---- what is told of a value

told_true : (b : Bool) → b ≡ true → not b ≡ false
told_true b h = rw h refl

pub star_told : (v : ValueForm) (other : Bool) → NextIs other (value_leaves v) → not other ≡ is_star v
unfolding query_leaves
star_told (single (word text)) other h = told_true other h
star_told (single (prefix text)) other h = told_true other h
star_told (single (quoted text)) other h = told_true other h
star_told (single star) other h = rw h refl
star_told (single (range low from to high)) other h = told_true other h
star_told (group q) other h = told_true other h

-- ---- lexemes

last_follows : (w : What) → Follow w []
last_follows (what.Any colon other) = tt
last_follows w = tt

first_is : (b : Bool) (xs : List Lexeme) → FirstTells b xs → NextIs b (whats (up_to_finish xs))
unfolding up_to_finish
first_is b [] h = tt
first_is b (x ∷ xs) h = h

tells_is : (w : What) (xs : List Lexeme) → AnyTells w xs → Follow w (whats (up_to_finish xs))
tells_is (what.Any colon other) xs h = first_is other xs h
tells_is w xs h = tt

follow_or : (b : Bool) (x : Lexeme) (xs : List Lexeme) → AnyTells x.what xs → (b ≡ false → AllFollow (whats (up_to_finish xs)))
    → AllFollow (x.what ∷ whats (if b then [] else up_to_finish xs))
follow_or true x xs h k = (last_follows x.what, tt)
follow_or false x xs h k = (tells_is x.what xs h, k refl)

all_follow : (xs : List Lexeme) → Ended xs → AllFollow (whats (up_to_finish xs))
unfolding up_to_finish
all_follow [] e = absurd e
all_follow (x ∷ xs) e = follow_or (is_finish x.what) x xs e.2 (λ b. all_follow xs (e.3 b))

pub letters_follow : (end : ℕ) (ls : List Letter) → AllFollow (whats (lexemes_of end ls))
unfolding lexemes_of
letters_follow end ls = all_follow (lexemes (length ls + 1) end ls) (lexemes_end (length ls + 1) end ls (omega arith))
