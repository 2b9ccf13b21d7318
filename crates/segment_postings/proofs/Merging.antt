-- What holds of each element of a list that is put together.
use Rattle.std.proofs.Common.{List, [], ◌∷◌, ◌++◌, arith, All}
use Rattle.std.proofs.lemmas.List.Elements.{All-cons, All-head, All-tail}

pub All-left : {A : Type 0} (P : A → Type 0) (xs ys : List A) → All P (xs ++ ys) → All P xs
All-left P [] ys h = λ k d l. absurd (omega arith)
All-left P (x ∷ xs) ys h = All-cons P x xs (All-head P x (xs ++ ys) h) (All-left P xs ys (All-tail P x (xs ++ ys) h))

pub All-right : {A : Type 0} (P : A → Type 0) (xs ys : List A) → All P (xs ++ ys) → All P ys
All-right P [] ys h = h
All-right P (x ∷ xs) ys h = All-right P xs ys (All-tail P x (xs ++ ys) h)
