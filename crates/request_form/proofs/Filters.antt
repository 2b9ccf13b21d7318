-- Filters that are kept one after another are those of the whole list, each query once.
use Rattle.std.proofs.Common.{◌≡◌, ℕ, not, ◌&&◌, ◌||◌, Bool, true, false, cond, List, [], ◌∷◌, ◌++◌, filter, Result, Ok, refl, sym, ap, ◌∙◌}
use Rattle.std.proofs.lemmas.List.{append_assoc, append-nil}
use Rattle.std.proofs.lemmas.List.Folds.{list_any-append}
use Rattle.query_tree.specs.Order.{query_eq}
use Rattle.query_tree.specs.QueryLaws.{query_eq-same}
use Rattle.query_text.specs.declared.reader.Parsed.{Parsed}
use Rattle.query_text.specs.Sorts.{and_then}
use Rattle.request_form.specs.declared.fault.RequestFault.{RequestFault}
use Rattle.request_form.specs.declared.request.Filter.{Filter}
use Rattle.request_form.specs.Requests.{filters_in, once}
use Rattle.request_form.specs.Filtering.{has_query, with_filter}

-- the filters behind those before
abbrev pub added : List Filter → List Filter → List Filter
added fs [] = fs
added fs (g ∷ gs) = added (with_filter fs g) gs

abbrev is_new : List Filter → Filter → Bool
is_new fs g = not (has_query fs g.query)

abbrev differs : Filter → Filter → Bool
differs f g = not (query_eq f.query g.query)

-- two filters of a list, one after the other
both : (p q r : Filter → Bool) → ((x : Filter) → r x ≡ (q x && p x)) → (xs : List Filter) → filter p (filter q xs) ≡ filter r xs
both p q r h [] = refl
both p q r h (x ∷ xs) = by (q x) (h x) (both p q r h xs)
  where
    by : (a : Bool) → r x ≡ (a && p x) → filter p (filter q xs) ≡ filter r xs → filter p (cond a (x ∷ filter q xs) (filter q xs)) ≡ cond (r x) (x ∷ filter r xs) (filter r xs)
    by true e more = ap (λ ys. cond (p x) (x ∷ ys) ys) more ∙ ap (λ b. cond b (x ∷ filter r xs) (filter r xs)) (sym e)
    by false e more = more ∙ ap (λ b. cond b (x ∷ filter r xs) (filter r xs)) (sym e)

-- what is not new is no other
known : (fs : List Filter) (g : Filter) → has_query fs g.query ≡ true → (h : Filter) → is_new fs h ≡ (differs g h && is_new fs h)
known fs g e h = by (query_eq g.query h.query) refl
  where
    by : (b : Bool) → query_eq g.query h.query ≡ b → is_new fs h ≡ (not b && is_new fs h)
    by true same = ap (λ q. not (has_query fs q)) (sym (query_eq-same g.query h.query same)) ∙ ap not e
    by false same = refl

shape : (a b : Bool) → not (a || (b || false)) ≡ (not b && not a)
shape true true = refl
shape true false = refl
shape false true = refl
shape false false = refl

new_behind : (fs : List Filter) (g h : Filter) → is_new (fs ++ g ∷ []) h ≡ (differs g h && is_new fs h)
new_behind fs g h =
    ap not (list_any-append (λ f. query_eq f.query h.query) fs (g ∷ [])) ∙ shape (has_query fs h.query) (query_eq g.query h.query)

added_is : (fs gs : List Filter) → added fs gs ≡ fs ++ filter (is_new fs) (once gs)
added_is fs [] = sym (append-nil fs)
added_is fs (g ∷ gs) = by (has_query fs g.query) refl (added_is fs gs) (added_is (fs ++ g ∷ []) gs)
  where
    by : (b : Bool) → has_query fs g.query ≡ b → added fs gs ≡ fs ++ filter (is_new fs) (once gs)
        → added (fs ++ g ∷ []) gs ≡ (fs ++ g ∷ []) ++ filter (is_new (fs ++ g ∷ [])) (once gs)
        → added (cond b fs (fs ++ g ∷ [])) gs ≡ fs ++ cond (not b) (g ∷ filter (is_new fs) (filter (differs g) (once gs))) (filter (is_new fs) (filter (differs g) (once gs)))
    by true e stays grows = stays ∙ ap (λ xs. fs ++ xs) (sym (both (is_new fs) (differs g) (is_new fs) (known fs g e) (once gs)))
    by false e stays grows =
        grows ∙ append_assoc fs (g ∷ []) (filter (is_new (fs ++ g ∷ [])) (once gs))
        ∙ ap (λ xs. fs ++ g ∷ xs) (sym (both (is_new fs) (differs g) (is_new (fs ++ g ∷ [])) (new_behind fs g) (once gs)))

all_new : (fs : List Filter) → filter (is_new []) fs ≡ fs
all_new [] = refl
all_new (f ∷ fs) = ap (λ xs. f ∷ xs) (all_new fs)

pub added_once : (gs : List Filter) → added [] gs ≡ once gs
added_once gs = added_is [] gs ∙ all_new (once gs)

-- ---- reading on

-- what the texts from the n-th on add to filters before
abbrev pub adding : (ℕ → List ℕ → Result Parsed RequestFault) → ℕ → List (List ℕ) → List Filter → Result (List Filter) RequestFault
adding reads n texts fs = and_then (filters_in reads n texts) (λ others. Ok (added fs others))

pub adding_begins : (reads : ℕ → List ℕ → Result Parsed RequestFault) (texts : List (List ℕ)) → adding reads 1 texts [] ≡ and_then (filters_in reads 1 texts) (λ all. Ok (once all))
adding_begins reads texts = λ i. and_then (filters_in reads 1 texts) (λ others. Ok (added_once others i))
