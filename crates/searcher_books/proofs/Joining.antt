-- Doors whose seats are joined into those of the last one.
use Rattle.std.proofs.Common.{◌≡◌, ℕ, List, [], ◌∷◌, ◌++◌, map, Option, Some, None, ap, refl, subst, ◌∙◌, sym, slice_get}
use Rattle.std.specs.Prelude.{option_map}
use Rattle.std.proofs.lemmas.Option.{slice_get-map}
use mathlib.Core.List.{map-append}
use Rattle.view_cells.specs.declared.seat.Seat.{Seat}
use Rattle.view_cells.specs.Lists.{AreDistinct}
use Rattle.view_cells.specs.Seats.{table_of, view_of, lists_of, own_list, IsIdle, HasJoined, KeepsLists}
use Rattle.view_cells.specs.Closing.{AllIdle, AreLeft}
use Rattle.view_cells.proofs.Closing.{last_of, one_less, next_left, fits_left, keeps_left}
use Rattle.searcher_core.specs.declared.searcher.Door.{Door}
use Rattle.searcher_books.specs.declared.closing.Last.{Last}

pub record AreJoined (all left : List Door) (last : Last) : Type 0 where
  pub filters : AreLeft (map (λ d. d.seats.filters) all) (map (λ d. d.seats.filters) left) last.filters
  pub results : AreLeft (map (λ d. d.seats.results) all) (map (λ d. d.seats.results) left) last.results
  pub documents : AreLeft (map (λ d. d.seats.documents) all) (map (λ d. d.seats.documents) left) last.documents

module _ {T W E : Type 0} (f : Door → Seat T W E) where
  pub begun : (all xs : List Door) (d : Door) (one : Seat T W E) → all ≡ xs ++ d ∷ [] → one ≡ f d → AllIdle (map f all) → AreLeft (map f all) (map f xs) one
  begun all xs d one is same row =
      last_of (map f all) (map f xs) one (ap (map f) is ∙ map-append f xs (d ∷ []) ∙ ap (λ s. map f xs ++ s ∷ []) (sym same)) row

  pub next : (all left xs : List Door) (d : Door) (one other : Seat T W E) → left ≡ xs ++ d ∷ [] → other ≡ f d → AreLeft (map f all) (map f left) one → IsIdle other × (table_of other ≡ table_of one)
  next all left xs d one other is same old =
      next_left (map f all) (map f left) (map f xs) one other (ap (map f) is ∙ map-append f xs (d ∷ []) ∙ ap (λ s. map f xs ++ s ∷ []) (sym same)) old

  pub gone_on : (all left xs : List Door) (d : Door) (one other t : Seat T W E) → left ≡ xs ++ d ∷ [] → other ≡ f d → AreLeft (map f all) (map f left) one → HasJoined one other t → AreLeft (map f all) (map f xs) t
  gone_on all left xs d one other t is same old joined =
      one_less (map f all) (map f left) (map f xs) one other t (ap (map f) is ∙ map-append f xs (d ∷ []) ∙ ap (λ s. map f xs ++ s ∷ []) (sym same)) old joined

  pub fits_each : (fit : W → T → Type 0) (doors : List Door) (one : Seat T W E) (value : T) → AreLeft (map f doors) [] one → fit (view_of one) value → (i : ℕ) (d : Door) → slice_get doors i ≡ Some d → fit (view_of (f d)) value
  fits_each fit doors one value left fits i d at =
      fits_left fit (map f doors) [] one value left fits i (f d) (slice_get-map f doors i ∙ ap (option_map f) at)

  pub keeps_each : (entries : T → ℕ → List E) (doors : List Door) (one : Seat T W E) (value : T) → AreLeft (map f doors) [] one → KeepsLists entries one value
      → AreDistinct (lists_of one) → (i : ℕ) (d : Door) → slice_get doors i ≡ Some d → entries value i ≡ own_list (f d)
  keeps_each entries doors one value left keeps distinct i d at =
      keeps_left entries (map f doors) [] one value refl left keeps distinct i (f d) (slice_get-map f doors i ∙ ap (option_map f) at)
