-- What openings show stays right as a history goes on.
use Rattle.std.proofs.Common.{◌≡◌, ◌⊎◌, List, [], ◌∷◌, ◌++◌, true, false, append-nil, Some, inl, inr, refl, sym, ap, subst, ◌∙◌}
use Rattle.std.specs.List.{AllByRecursion}
use Rattle.std.proofs.lemmas.Option.{none-some}
use Rattle.registry_machine.specs.declared.entry.Entry.{Entry}
use Rattle.registry_machine.specs.declared.entry.Entry.TheVariants.{Open, TooMany, GenerationsSpent, Update, Finish, Superseded, Acquire, NotYet, Release, Free}
use Rattle.registry_machine.specs.Entries.{has_place}
use Rattle.registry_machine.proofs.Lists.{true_and_false}
use Rattle.searcher_table.specs.Views.{HasNoPlaceSince}
use Rattle.registry_core.specs.declared.change.Change.{Change}
use Rattle.registry_core.specs.Journal.{updates_of, docs_of, ShowRight}
use Rattle.registry_core.proofs.Own.{alone}

-- an element of a joined list stands in its first part or in its second
split_at : {A : Type 0} (xs zs ys ws : List A) (b : A) → xs ++ zs ≡ ys ++ b ∷ ws → ((us : List A) × (xs ≡ ys ++ b ∷ us)) ⊎ ((vs : List A) × (ys ≡ xs ++ vs) × (zs ≡ vs ++ b ∷ ws))
split_at [] zs ys ws b e = inr (ys, refl, e)
split_at (x ∷ xs) zs [] ws b e = let head : x ≡ b = cc in inl (xs, ap (λ y. y ∷ xs) head)
split_at (x ∷ xs) zs (y ∷ ys) ws b e = by (split_at xs zs ys ws b cc)
  where
    head : x ≡ y
    head = cc

    by : ((us : List _) × (xs ≡ ys ++ b ∷ us)) ⊎ ((vs : List _) × (ys ≡ xs ++ vs) × (zs ≡ vs ++ b ∷ ws)) → ((us : List _) × (x ∷ xs ≡ y ∷ (ys ++ b ∷ us))) ⊎ ((vs : List _) × (y ∷ ys ≡ x ∷ (xs ++ vs)) × (zs ≡ vs ++ b ∷ ws))
    by (inl p) = inl (p.0, λ i. head i ∷ p.1 i)
    by (inr q) = inr (q.0, (λ i. sym head i ∷ q.1 i), q.2)

all_at : {A : Type 0} (P : A → Type 0) (vs ws : List A) (b : A) → AllByRecursion P (vs ++ b ∷ ws) → P b
all_at P [] ws b all = all.0
all_at P (v ∷ vs) ws b all = all_at P vs ws b all.1

module _ {U X L : Type 0} where
  -- an opening has a place
  opening_placed : (e : Entry (Change U) X L) (docs : X) → docs_of e ≡ Some docs → has_place e ≡ true
  opening_placed (Open c u g slot d) docs is = refl
  opening_placed (TooMany c u gs) docs is = refl
  opening_placed (GenerationsSpent c u) docs is = refl
  opening_placed (Update c u) docs is = refl
  opening_placed (Finish g l) docs is = refl
  opening_placed (Superseded g by l) docs is = refl
  opening_placed (Acquire c g k) docs is = absurd (none-some docs is)
  opening_placed (NotYet c) docs is = absurd (none-some docs is)
  opening_placed (Release c g l) docs is = absurd (none-some docs is)
  opening_placed (Free g) docs is = absurd (none-some docs is)

  module _ (Right : List U → X → Type 0) where
    -- entries without a place open nothing
    pub right_since : (log seen : List (Entry (Change U) X L)) → HasNoPlaceSince log seen → ShowRight Right seen → ShowRight Right log
    right_since log seen h right before rest e docs stands is = by (split_at seen h.rest before rest e (sym h.grown ∙ stands))
      where
        by : ((us : List (Entry (Change U) X L)) × (seen ≡ before ++ e ∷ us)) ⊎ ((vs : List (Entry (Change U) X L)) × (before ≡ seen ++ vs) × (h.rest ≡ vs ++ e ∷ rest)) → Right (updates_of before) docs
        by (inl p) = right before p.0 e docs p.1 is
        by (inr q) =
            let quiet = all_at (λ x. has_place x ≡ false) q.0 rest e (subst (AllByRecursion (λ x. has_place x ≡ false)) q.2 h.quiet) in
            absurd (true_and_false (has_place e) (opening_placed e docs is) quiet)

    -- one entry more, which shows what is right if it is an opening
    pub right_next : (log : List (Entry (Change U) X L)) (e : Entry (Change U) X L) → ((docs : X) → docs_of e ≡ Some docs → Right (updates_of log) docs) → ShowRight Right log → ShowRight Right (log ++ e ∷ [])
    right_next log e last right before rest f docs stands is = by (split_at log (e ∷ []) before rest f stands)
      where
        by : ((us : List (Entry (Change U) X L)) × (log ≡ before ++ f ∷ us)) ⊎ ((vs : List (Entry (Change U) X L)) × (before ≡ log ++ vs) × (e ∷ [] ≡ vs ++ f ∷ rest)) → Right (updates_of before) docs
        by (inl p) = right before p.0 f docs p.1 is
        by (inr q) =
            let none = alone q.0 rest f e (sym q.2) in
            let one : e ∷ [] ≡ f ∷ [] = q.2 ∙ (λ i. none.0 i ++ f ∷ none.1 i) in
            let same : e ≡ f = cc in
            let all : before ≡ log = q.1 ∙ ap (λ vs. log ++ vs) none.0 ∙ append-nil log in
            subst (λ b. Right (updates_of b) docs) (sym all) (last docs (ap docs_of same ∙ is))
