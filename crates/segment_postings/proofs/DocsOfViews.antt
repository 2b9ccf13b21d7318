-- The document of a number.
use Rattle.std.proofs.Common.{◌≡◌, ℕ, zero, suc, ◌+◌, ◌<◌, Bool, true, false, cond, List, [], ◌∷◌, ◌++◌, length, get_or, take, drop, map, filter, find, nat_eq, refl, sym, ap, subst, ◌∙◌, arith, inl, inr, Option, Some, None, IsSome, length-append}
use Rattle.std.specs.List.{enumerate_from}
use Rattle.std.specs.Option.{option_map}
use Rattle.std.specs.FinSet.{contains}
use Rattle.std.proofs.lemmas.List.{map-append, take-append-drop}
use Rattle.std.proofs.lemmas.List.Concat.{flat_map-append}
use Rattle.std.proofs.lemmas.Bool.{ne_eqb}
use Rattle.std.proofs.lemmas.Bool.Decides.{eqb_tells}
use Rattle.std.proofs.Common.{eq-eqb}
use Rattle.doc_model.specs.Document.{Document}
use Rattle.doc_sets.specs.Sets.{Numbers}
use Rattle.segment_postings.specs.Numbered.{doc_at, IsLive}
use Rattle.segment_postings.specs.Segments.{Part}
use Rattle.segment_postings.specs.Views.{all_docs, numbered}
use Rattle.segment_postings.proofs.ViewLoops.{mapped_take, docs_more}

module _ (p : ℕ → Bool) where
  none_found : (n : ℕ) (ds : List Document) (q : ℕ) → p q ≡ false → find (λ e. nat_eq e.0 q) (filter (λ e. p e.0) (enumerate_from n ds)) ≡ None
  none_found n [] q dead = refl
  none_found n (d ∷ ds) q dead =
      let rest = none_found (n + 1) ds q dead in
      elim (p n) as (λ b. p n ≡ b → find (λ e. nat_eq e.0 q) (cond b ((n, d) ∷ filter (λ e. p e.0) (enumerate_from (n + 1) ds)) (filter (λ e. p e.0) (enumerate_from (n + 1) ds))) ≡ None) [
        | true ↦ λ alive. elim (eqb_tells n q) [
          | inl t ↦ let same : p n ≡ p q = ap p t.1 in absurd (cc)
          | inr t ↦ ap (λ b. cond b (Some (n, d)) (find (λ e. nat_eq e.0 q) (filter (λ e. p e.0) (enumerate_from (n + 1) ds)))) t.0 ∙ rest
        ]
        | false ↦ λ _. rest
      ] refl

  found : (n : ℕ) (ds : List Document) (i : ℕ) (d : Document) → i < length ds → p (n + i) ≡ true → find (λ e. nat_eq e.0 (n + i)) (filter (λ e. p e.0) (enumerate_from n ds)) ≡ Some (n + i, get_or ds i d)
  found n [] i d h alive = absurd (omega arith)
  found n (x ∷ ds) zero d h alive =
      let here : n + 0 ≡ n = omega arith in
      ap (λ b. find (λ e. nat_eq e.0 (n + 0)) (cond b ((n, x) ∷ filter (λ e. p e.0) (enumerate_from (n + 1) ds)) (filter (λ e. p e.0) (enumerate_from (n + 1) ds)))) (ap p (sym here) ∙ alive)
      ∙ ap (λ b. cond b (Some (n, x)) (find (λ e. nat_eq e.0 (n + 0)) (filter (λ e. p e.0) (enumerate_from (n + 1) ds)))) (eq-eqb n (n + 0) (sym here))
      ∙ ap (λ m. Some (m, x)) (sym here)
  found n (x ∷ ds) (suc i) d h alive =
      let next : n + 1 + i ≡ n + suc i = omega arith in
      let rest : find (λ e. nat_eq e.0 (n + suc i)) (filter (λ e. p e.0) (enumerate_from (n + 1) ds)) ≡ Some (n + suc i, get_or ds i d) =
      subst (λ m. find (λ e. nat_eq e.0 m) (filter (λ e. p e.0) (enumerate_from (n + 1) ds)) ≡ Some (m, get_or ds i d)) next (found (n + 1) ds i d (omega arith) (ap p next ∙ alive)) in
      let apart : nat_eq n (n + suc i) ≡ false = ne_eqb n (n + suc i) (λ e. omega arith) in
      elim (p n) as (λ b. find (λ e. nat_eq e.0 (n + suc i)) (cond b ((n, x) ∷ filter (λ e. p e.0) (enumerate_from (n + 1) ds)) (filter (λ e. p e.0) (enumerate_from (n + 1) ds))) ≡ Some (n + suc i, get_or ds i d)) [
        | true ↦ ap (λ b. cond b (Some (n, x)) (find (λ e. nat_eq e.0 (n + suc i)) (filter (λ e. p e.0) (enumerate_from (n + 1) ds)))) apart ∙ rest
        | false ↦ rest
      ]

-- a live number is in the set
pub live_is_in : (live : Numbers) (ds : List Document) (q : ℕ) → IsLive (numbered live ds) q → contains live q ≡ true
live_is_in live ds q is =
    elim (contains live q) as (λ b. contains live q ≡ b → b ≡ true) [
      | true ↦ λ _. refl
      | false ↦ λ dead. let none : false ≡ true = subst (λ (o : Option (ℕ × Document)). IsSome (option_map (λ e. e.1) o)) (none_found (contains live) 0 ds q dead) is in absurd (cc)
    ] refl

-- and its document stands at that place
pub doc_at_is : (live : Numbers) (ds : List Document) (q : ℕ) (d : Document) → q < length ds → contains live q ≡ true → doc_at (numbered live ds) q ≡ Some (get_or ds q d)
doc_at_is live ds q d h alive =
    let at : 0 + q ≡ q = omega arith in
    ap (option_map (λ e. e.1)) (subst (λ m. find (λ e. nat_eq e.0 m) (filter (λ e. contains live e.0) (enumerate_from 0 ds)) ≡ Some (m, get_or ds q d)) at (found (contains live) 0 ds q d h (ap (contains live) at ∙ alive)))

-- ---- places in parts

get_or-left : {A : Type 0} (xs ys : List A) (i : ℕ) (d : A) → i < length xs → get_or (xs ++ ys) i d ≡ get_or xs i d
get_or-left [] ys i d h = absurd (omega arith)
get_or-left (x ∷ xs) ys zero d h = refl
get_or-left (x ∷ xs) ys (suc i) d h = get_or-left xs ys i d (omega arith)

get_or-right : {A : Type 0} (xs ys : List A) (i : ℕ) (d : A) → get_or (xs ++ ys) (length xs + i) d ≡ get_or ys i d
get_or-right [] ys i d = let at : 0 + i ≡ i = omega arith in ap (λ n. get_or ys n d) at
get_or-right (x ∷ xs) ys i d = let at : suc (length xs) + i ≡ suc (length xs + i) = omega arith in ap (λ n. get_or (x ∷ (xs ++ ys)) n d) at ∙ get_or-right xs ys i d

-- the documents as those before a part, its own and those behind it
pub split_docs : {A : Type 0} (f : A → Part) (xs : List A) (i : ℕ) (x : A) → i < length xs → x ≡ get_or xs i x → all_docs (map f xs) ≡ (all_docs (map f (take i xs)) ++ (f x).docs) ++ all_docs (map f (drop (i + 1) xs))
split_docs f xs i x h e =
    ap (λ ys. all_docs (map f ys)) (sym (take-append-drop (i + 1) xs))
    ∙ ap all_docs (map-append f (take (i + 1) xs) (drop (i + 1) xs))
    ∙ flat_map-append (λ q. q.docs) (map f (take (i + 1) xs)) (map f (drop (i + 1) xs))
    ∙ ap (λ ds. ds ++ all_docs (map f (drop (i + 1) xs))) (ap all_docs (mapped_take f xs i x h e) ∙ docs_more (map f (take i xs)) (f x))

pub doc_in_part : {A : Type 0} (f : A → Part) (xs : List A) (i : ℕ) (x : A) (place : ℕ) (d : Document) → i < length xs → x ≡ get_or xs i x → place < length ((f x).docs) → get_or (all_docs (map f xs)) (length (all_docs (map f (take i xs))) + place) d ≡ get_or ((f x).docs) place d
doc_in_part f xs i x place d h e low =
    ap (λ ds. get_or ds (length (all_docs (map f (take i xs))) + place) d) (split_docs f xs i x h e)
    ∙ get_or-left (all_docs (map f (take i xs)) ++ (f x).docs) (all_docs (map f (drop (i + 1) xs))) (length (all_docs (map f (take i xs))) + place) d (omega (arith, length-append (all_docs (map f (take i xs))) ((f x).docs)))
    ∙ get_or-right (all_docs (map f (take i xs))) ((f x).docs) place d
