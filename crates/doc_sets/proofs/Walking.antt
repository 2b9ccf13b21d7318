-- A walk along two ascending lists, which keeps some numbers of the left one.
use Rattle.std.proofs.Common.{◌≡◌, ℕ, zero, suc, ◌+◌, ◌<◌, ◌≤◌, Bool, true, false, cond, List, [], ◌∷◌, ◌++◌, length, get_or, take, filter, refl, sym, ap, ◌∙◌, add-one, append-nil, arith}
use Rattle.std.proofs.lemmas.List.Elements.{filter_more}
use Rattle.doc_sets.specs.Sets.{is_in, Rises, IsAscending}
use Rattle.doc_sets.proofs.Rising.{end_of}

-- what holds at the i-th number of the left list: `rest` is what is left of the right one
pub record Walked (p : ℕ → Bool) (left right rest kept : List ℕ) (i : ℕ) : Type 0 where
  pub kept_is : kept ≡ filter p (take i left)
  pub rising : IsAscending rest
  pub same : (n : ℕ) → end_of 0 (take i left) ≤ n → is_in rest n ≡ is_in right n

end_of-take : (low high i : ℕ) (xs : List ℕ) → Rises low high xs → i < length xs → (end_of low (take i xs) ≤ get_or xs i 0) × (end_of low (take (suc i) xs) ≡ suc (get_or xs i 0))
end_of-take low high i [] r p = absurd (omega arith)
end_of-take low high zero (x ∷ xs) r p = (r.0, refl)
end_of-take low high (suc i) (x ∷ xs) r p = end_of-take (suc x) high i xs r.2 (omega arith)

-- the next number stands in the right list where it stands in what is left of it
pub walked_found : {p : ℕ → Bool} {left right rest kept : List ℕ} {i : ℕ} (high x : ℕ) (next : List ℕ) → Walked p left right rest kept i → Rises 0 high left → i < length left → x ≡ get_or left i 0 → ((n : ℕ) → x ≤ n → is_in next n ≡ is_in rest n) → (n : ℕ) → x ≤ n → is_in next n ≡ is_in right n
walked_found {p} {left} {right} {rest} {kept} {i} high x next w r within e same n q =
    let here = end_of-take 0 high i left r within in
    same n q ∙ w.same n (omega arith)

pub walked_more : {p : ℕ → Bool} {left right rest kept : List ℕ} {i : ℕ} (high x : ℕ) (next more : List ℕ) → Walked p left right rest kept i → Rises 0 high left → i < length left → x ≡ get_or left i 0 → IsAscending next → ((n : ℕ) → x ≤ n → is_in next n ≡ is_in right n) → more ≡ kept ++ cond (p x) (x ∷ []) [] → Walked p left right next more (i + 1)
walked_more {p} {left} {right} {rest} {kept} {i} high x next more w r within e rises same pushed =
    let here = end_of-take 0 high i left r within in
    let later : end_of 0 (take (i + 1) left) ≡ suc (get_or left i 0) = rw add-one here.1 in
    record {
      kept_is = pushed ∙ ap (λ xs. xs ++ cond (p x) (x ∷ []) []) w.kept_is ∙ ap (λ y. filter p (take i left) ++ cond (p y) (y ∷ []) []) e ∙ sym (filter_more p left i 0 within);
      rising = rises;
      same = λ n q. same n (omega arith);
    }

-- what is left of a list after a push that a test decides
pub pushed_if : (b : Bool) (x : ℕ) (kept more : List ℕ) → b ≡ true → more ≡ kept ++ x ∷ [] → more ≡ kept ++ cond b (x ∷ []) []
pushed_if b x kept more e h = rw e h

pub pushed_not : (b : Bool) (x : ℕ) (kept more : List ℕ) → b ≡ false → more ≡ kept → more ≡ kept ++ cond b (x ∷ []) []
pushed_not b x kept more e h = rw e (h ∙ sym (append-nil kept))
