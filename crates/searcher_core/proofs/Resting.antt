-- Seats that stay at rest, and are the same.
use Rattle.std.proofs.Common.{◌≡◌, ℕ, zero, suc, ◌<◌, true, false, List, [], ◌∷◌, Some, None, refl, sym, ap, subst, ◌∙◌}
use Rattle.std.specs.Prelude.{◌==◌, if◌then◌else◌, slice_get}
use Rattle.std.specs.List.{AllByRecursion}
use Rattle.cache_traces.specs.declared.act.Act.{Act}
use Rattle.cache_traces.specs.Acts.{owned_after}
use Rattle.view_cells.specs.declared.seat.Seat.{Seat}
use Rattle.view_cells.specs.Seats.{IsNew, IsSameSeat, own_list, view_of}
use Rattle.view_cells.specs.Lists.{entries_of}
use Rattle.shared_cells.specs.Seated.{IsBack, IsPlaced, owned_key}
use Rattle.searcher_cells.specs.Sights.{Sight}
use Rattle.searcher_core.specs.Resting.{IsAtRest}

pub both_seats : {T W E : Type 0} {s t u : Seat T W E} → IsSameSeat s t → IsSameSeat t u → IsSameSeat s u
both_seats a b = record {
  table = b.table ∙ a.table;
  view = b.view ∙ a.view;
  count = b.count ∙ a.count;
  number = b.number ∙ a.number;
}

-- ---- lists

pub all_at : {A : Type 0} (P : A → Type 0) (xs : List A) → ((i : ℕ) (x : A) → slice_get xs i ≡ Some x → P x) → AllByRecursion P xs
all_at P [] h = tt
all_at P (x ∷ xs) h = (h 0 x refl, all_at P xs (λ i y is. h (suc i) y is))

pub one_at : {A : Type 0} (P : A → Type 0) (xs : List A) → AllByRecursion P xs → (i : ℕ) (x : A) → slice_get xs i ≡ Some x → P x
one_at P [] all i x is = cc
one_at P (y ∷ ys) all zero x is = (let same : y ≡ x = cc in subst P same all.0)
one_at P (y ∷ ys) all (suc i) x is = one_at P ys all.1 i x is

-- ---- new seats

blank_one : {E : Type 0} (i n : ℕ) → entries_of {E = E} n (record { number = i; entries = [] } ∷ []) ≡ []
blank_one {E} i n =
    let none : List E = [] in
    elim (i == n) as (λ b. (if b then none else none) ≡ none) [
      | true ↦ refl
      | false ↦ refl
    ]

pub nothing_called : {T W E : Type 0} (about : W) (seats i : ℕ) (s : Seat T W E) → IsNew about seats i (record { number = i; entries = [] } ∷ []) s → own_list s ≡ []
nothing_called about seats i s new = ap (entries_of s.number) new.lists ∙ blank_one i s.number

-- ---- seats at rest

module _ {T K N : Type 0} where
  pub still_placed : {s t : Seat T Sight (Act K N)} → IsPlaced (λ v. v.seats) s → IsBack s t → IsPlaced (λ v. v.seats) t
  still_placed {s} {t} p b = record {
    idle = b.idle;
    one_of = subst (λ n. n < (view_of t).seats) (sym b.seat.number) (subst (λ (w : Sight). s.number < w.seats) (sym b.seat.view) p.one_of);
  }

  pub still_rests : {s t : Seat T Sight (Act K N)} → IsAtRest s → IsBack s t → owned_key t ≡ None → IsAtRest t
  still_rests r b owns = record { placed = still_placed r.placed b; owns = owns }

  pub both_rest : {s t u : Seat T Sight (Act K N)} → IsAtRest s → IsBack s t → IsBack t u → owned_key u ≡ None → IsAtRest u
  both_rest r a b owns = record { placed = still_placed (still_placed r.placed a) b; owns = owns }

  -- a new seat of so many rests
  pub new_rests : (about : Sight) (i : ℕ) (s : Seat T Sight (Act K N)) → IsNew about about.seats i (record { number = i; entries = [] } ∷ []) s → i < about.seats → IsAtRest s
  new_rests about i s new within = record {
    placed = record {
      idle = new.idle;
      one_of = subst (λ n. n < (view_of s).seats) (sym new.number) (subst (λ (w : Sight). i < w.seats) (sym new.view) within);
    };
    owns = ap owned_after (nothing_called about about.seats i s new);
  }
