-- Collecting the occurrences of keys.
use Rattle.std.proofs.Common.{◌≡◌, ℕ, ◌+◌, ◌<◌, suc, List, [], ◌∷◌, ◌++◌, length, get_or, take, map, refl, sym, ap, ◌∙◌, append_assoc, arith, length-take}
use Rattle.std.specs.List.{enumerate_from, flat_map}
use Rattle.std.proofs.lemmas.List.{append-nil, take_more, length-map, map-append}
use Rattle.field_schema.specs.declared.key.Key.TheVariants.{Token}
use Rattle.segment_postings.specs.Segments.{occurrence, of_tokens}

-- a text's tokens as keys
tokens_from : (doc value n : ℕ) (ts : List (List ℕ)) → map (λ e. occurrence doc value (e.0, Token e.1)) (enumerate_from n ts) ≡ map (occurrence doc value) (enumerate_from n (map Token ts))
tokens_from doc value n [] = refl
tokens_from doc value n (t ∷ ts) = ap (λ os. occurrence doc value (n, Token t) ∷ os) (tokens_from doc value (n + 1) ts)

pub tokens_of_value : (doc value : ℕ) (ts : List (List ℕ)) → of_tokens doc value ts ≡ map (occurrence doc value) (enumerate_from 0 (map Token ts))
tokens_of_value doc value ts = tokens_from doc value 0 ts

module _ {X A : Type 0} (f : ℕ × X → List A) where
  -- one element more
  push : (n : ℕ) (xs : List X) (x : X) → flat_map f (enumerate_from n (xs ++ x ∷ [])) ≡ flat_map f (enumerate_from n xs) ++ f (n + length xs, x)
  push n [] x = let e : n + 0 ≡ n = omega arith in rw e (append-nil (f (n, x)))
  push n (y ∷ xs) x =
      let e : n + suc (length xs) ≡ n + 1 + length xs = omega arith in
      rw e (ap (λ r. f (n, y) ++ r) (push (n + 1) xs x) ∙ sym (append_assoc (f (n, y)) _ _))

  -- an index more
  pub numbered_more : (xs : List X) (i : ℕ) (x : X) → i < length xs → x ≡ get_or xs i x → flat_map f (enumerate_from 0 (take (i + 1) xs)) ≡ flat_map f (enumerate_from 0 (take i xs)) ++ f (i, x)
  numbered_more xs i x h e =
      let len : 0 + length (take i xs) ≡ i = omega (arith, length-take i xs) in
      ap (λ ys. flat_map f (enumerate_from 0 ys)) (take_more xs i x h ∙ ap (λ y. take i xs ++ y ∷ []) (sym e))
      ∙ push 0 (take i xs) x
      ∙ ap (λ n. flat_map f (enumerate_from 0 (take i xs)) ++ f (n, x)) len

  -- the same along a list that is read by g
  pub mapped_more : {Y : Type 0} (g : Y → X) (ys : List Y) (i : ℕ) (y : Y) → i < length ys → y ≡ get_or ys i y → flat_map f (enumerate_from 0 (map g (take (i + 1) ys))) ≡ flat_map f (enumerate_from 0 (map g (take i ys))) ++ f (i, g y)
  mapped_more g ys i y h e =
      let len : 0 + length (map g (take i ys)) ≡ i = omega (arith, length-take i ys, length-map (take i ys) g) in
      ap (λ zs. flat_map f (enumerate_from 0 (map g zs))) (take_more ys i y h ∙ ap (λ z. take i ys ++ z ∷ []) (sym e))
      ∙ ap (λ zs. flat_map f (enumerate_from 0 zs)) (map-append g (take i ys) (y ∷ []))
      ∙ push 0 (map g (take i ys)) (g y)
      ∙ ap (λ n. flat_map f (enumerate_from 0 (map g (take i ys))) ++ f (n, g y)) len

-- a step of a loop that adds to a list
pub appended : {A : Type 0} (new found init old more next : List A) → new ≡ found ++ more → found ≡ init ++ old → next ≡ old ++ more → new ≡ init ++ next
appended new found init old more next e f g = e ∙ ap (λ xs. xs ++ more) f ∙ append_assoc init old more ∙ ap (λ xs. init ++ xs) (sym g)

pub paired : {A B : Type 0} (xs : List (A × B)) → map (λ p. (p.0, p.1)) xs ≡ xs
paired [] = refl
paired (x ∷ xs) = ap (λ ys. x ∷ ys) (paired xs)
