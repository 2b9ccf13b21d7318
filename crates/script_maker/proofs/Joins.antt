-- One piece behind another.
use Rattle.std.proofs.Common.{◌≡◌, ℕ, ◌+◌, List, [], ◌∷◌, ◌++◌, append_assoc, append-nil, add-one, refl, ap, sym, ◌∙◌}
use Rattle.std.proofs.lemmas.List.Concat.{flat_map-append}
use Rattle.script_form.specs.declared.script.What.{What}
use Rattle.script_maker.specs.Growing.{Grows}
use Rattle.script_maker.specs.Made.{last_lines, made, made_head, number_after_turn, number_before, turn_behind, turn_lines, turns}
use Rattle.script_maker.specs.Written.{script_text, written}

pub join : {t0 t1 t2 a b : List ℕ} → Grows t0 t1 a → Grows t1 t2 b → Grows t0 t2 (a ++ b)
join {t0 = t0} {a = a} {b = b} e f = record { is = f.is ∙ ap (λ t. t ++ b) e.is ∙ append_assoc t0 a b }

-- the piece is another one
pub piece_is : {t0 t1 a b : List ℕ} → a ≡ b → Grows t0 t1 a → Grows t0 t1 b
piece_is {t0 = t0} same e = record { is = e.is ∙ ap (λ t. t0 ++ t) same }

-- lines behind lines
pub join_lines : {t0 t1 t2 : List ℕ} (xs ys : List What) → Grows t0 t1 (script_text xs) → Grows t1 t2 (script_text ys) → Grows t0 t2 (script_text (xs ++ ys))
join_lines xs ys e f = piece_is (sym (flat_map-append (λ w. written w ++ 10 ∷ []) xs ys)) (join e f)

pub behind_nothing : {t0 t piece : List ℕ} → t0 ≡ [] → Grows t0 t piece → t ≡ piece
behind_nothing {piece = piece} e g = g.is ∙ ap (λ t. t ++ piece) e

-- one turn behind the others
pub one_more : {t0 t1 t2 : List ℕ} (seed index : ℕ) → Grows t0 t1 (script_text (turns seed index)) → Grows t1 t2 (script_text (turn_lines (turn_behind (number_before seed index) index)))
    → Grows t0 t2 (script_text (turns seed (index + 1)))
unfolding turns
one_more seed index e f = rw add-one (join_lines (turns seed index) (turn_lines (turn_behind (number_before seed index) index)) e f)

pub number_more : (seed index : ℕ) → number_before seed (index + 1) ≡ number_after_turn (number_before seed index)
unfolding number_before
number_more seed index = rw add-one refl

pub no_turn : (t : List ℕ) (seed : ℕ) → Grows t t (script_text (turns seed 0))
unfolding turns
no_turn t seed = record { is = sym (append-nil t) }

pub no_number : (seed : ℕ) → number_before seed 0 ≡ seed
unfolding number_before
no_number seed = refl

-- the head, the turns and the last lines are the text
pub made_is : {t0 t1 t2 t3 : List ℕ} (n : ℕ) → t0 ≡ [] → Grows t0 t1 made_head → Grows t1 t2 (script_text (turns n n)) → Grows t2 t3 (script_text last_lines) → t3 ≡ made n
unfolding made
made_is n empty e f g = behind_nothing empty (join e (join_lines (turns n n) last_lines f g))
