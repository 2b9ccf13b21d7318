-- Filters behind references, in the order of their costs.
use Rattle.std.proofs.Common.{◌≡◌, ℕ, ◌+◌, ◌<◌, ◌≤◌, Bool, List, [], ◌∷◌, length, map, filter, get_or, sym, ap, ◌∙◌, Bor, arith}
use Rattle.std.specs.List.Sorted.{IsSortedByKey, IsStableByKey, ties}
use Rattle.std.specs.Ordering.{int_cmp, is_lt}
use Rattle.std.proofs.lemmas.List.{length-map, get_or-map}
use Rattle.request_form.specs.declared.request.Filter.{Filter}
use Rattle.searcher_core.proofs.Finding.{filter-map}

pub sorted_now : (fs : List (Bor Filter)) → IsSortedByKey (λ (f : Bor Filter). f.now.cost) int_cmp fs → IsSortedByKey (λ (f : Filter). f.cost) int_cmp (map (λ (f : Bor Filter). f.now) fs)
sorted_now [] up k d le l = absurd (omega arith)
sorted_now (f ∷ fs) up k d le l =
    let now : Bor Filter → Filter = λ b. b.now in
    let within : k + 1 < length (f ∷ fs) = omega (arith, l, length-map (f ∷ fs) now) in
    let here : get_or (map now (f ∷ fs)) k d ≡ (get_or (f ∷ fs) k f).now = get_or-map now (f ∷ fs) k f d (omega (arith, within)) in
    let next : get_or (map now (f ∷ fs)) (k + 1) d ≡ (get_or (f ∷ fs) (k + 1) f).now = get_or-map now (f ∷ fs) (k + 1) f d within in
    (λ i. is_lt (int_cmp (next i).cost (here i).cost)) ∙ up k f le within

pub stable_now : (fs gs : List (Bor Filter)) → IsStableByKey (λ (f : Bor Filter). f.now.cost) int_cmp fs gs
    → IsStableByKey (λ (f : Filter). f.cost) int_cmp (map (λ (f : Bor Filter). f.now) fs) (map (λ (f : Bor Filter). f.now) gs)
stable_now fs gs same x =
    let at : Bor Filter = record { ref_ptr = (0, 0); now = x } in
    let lt : Filter → Filter → Bool = λ a b. is_lt (int_cmp a.cost b.cost) in
    filter-map (λ (f : Bor Filter). f.now) (ties lt x) gs ∙ ap (map (λ (f : Bor Filter). f.now)) (same at) ∙ sym (filter-map (λ (f : Bor Filter). f.now) (ties lt x) fs)
