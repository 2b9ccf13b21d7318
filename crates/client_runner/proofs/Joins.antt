-- One piece behind another.
use Rattle.std.proofs.Common.{◌≡◌, ℕ, ◌+◌, ◌<◌, List, [], ◌∷◌, ◌++◌, length, take, get_or, ap, sym, ◌∙◌, append_assoc, append-nil}
use Rattle.std.proofs.lemmas.List.{take_more}
use Rattle.std.specs.List.{flat_map}
use Rattle.client_runner.specs.OutputPieces.{Grows}

pub join : {t0 t1 t2 a b : List ℕ} → Grows t0 t1 a → Grows t1 t2 b → Grows t0 t2 (a ++ b)
join {t0 = t0} {a = a} {b = b} e f = record { is = f.is ∙ ap (λ t. t ++ b) e.is ∙ append_assoc t0 a b }

flat_snoc : {X : Type 0} (f : X → List ℕ) (xs : List X) (x : X) → flat_map f xs ++ f x ≡ flat_map f (xs ++ x ∷ [])
flat_snoc f [] x = sym (append-nil (f x))
flat_snoc f (y ∷ ys) x = append_assoc (f y) (flat_map f ys) (f x) ∙ ap (λ t. f y ++ t) (flat_snoc f ys x)

-- a line behind the lines of the rows so far
pub one_more_line : {X : Type 0} (f : X → List ℕ) (xs : List X) (i : ℕ) (x : X) (t0 t1 t2 : List ℕ) →
    i < length xs → x ≡ get_or xs i x → Grows t0 t1 (flat_map f (take i xs)) → Grows t1 t2 (f x) → Grows t0 t2 (flat_map f (take (i + 1) xs))
one_more_line f xs i x t0 t1 t2 h is e g = record {
  is =
      (join e g).is
      ∙ ap (λ t. t0 ++ t) (flat_snoc f (take i xs) x ∙ ap (λ y. flat_map f (take i xs ++ y ∷ [])) is ∙ ap (flat_map f) (sym (take_more xs i x h)));
}

pub behind_nothing : {t0 t piece : List ℕ} → t0 ≡ [] → Grows t0 t piece → t ≡ piece
behind_nothing {piece = piece} e g = g.is ∙ ap (λ t. t ++ piece) e

-- the same, of the row at its place
pub one_more_at : {X : Type 0} (f : X → List ℕ) (xs : List X) (i : ℕ) (d : X) (t0 t1 t2 : List ℕ) →
    i < length xs → Grows t0 t1 (flat_map f (take i xs)) → Grows t1 t2 (f (get_or xs i d)) → Grows t0 t2 (flat_map f (take (i + 1) xs))
one_more_at f xs i d t0 t1 t2 h e g = record {
  is = (join e g).is ∙ ap (λ t. t0 ++ t) (flat_snoc f (take i xs) (get_or xs i d) ∙ ap (flat_map f) (sym (take_more xs i d h)));
}
