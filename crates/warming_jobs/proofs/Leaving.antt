-- What is left when all pullers have stopped is the same, however one more puller then takes of it.
use Rattle.std.proofs.Common.{◌≡◌, ℕ, zero, suc, ◌+◌, ◌<◌, List, [], ◌∷◌, ◌++◌, All, sym, refl, ap, ◌∙◌, arith}
use mathlib.Core.Logic.{dite}
use native.Mathlib.Decide.{ℕ_discrete}
use Rattle.std.proofs.lemmas.List.Elements.{All-nil, All-head, All-tail, All-cons, All-same}
use Rattle.warming_jobs.specs.Takes.{Take, jobs_in, taken_by, Ascends}
use Rattle.warming_jobs.proofs.Taking.{by_this, by_another, of_each_puller}

module _ {J : Type 0} where
  firsts : (P : J → Type 0) (xs ys : List J) → All P (xs ++ ys) → All P xs
  firsts P [] ys all = All-nil P
  firsts P (x ∷ xs) ys all = All-cons P x xs (All-head P x (xs ++ ys) all) (firsts P xs ys (All-tail P x (xs ++ ys) all))

  -- one list that begins so and another
  pub same_first : (x y : J) (xs ys : List J) → x ∷ xs ≡ y ∷ ys → (x ≡ y) × (xs ≡ ys)
  same_first x y xs ys e = (cc, cc)

  no_first : (x : J) (xs : List J) → x ∷ xs ≡ [] → ⊥
  no_first x xs e = cc

  -- nobody but the puller n has taken a job
  one_took_all : (n : ℕ) (ts : List (Take J)) → All (λ t. t.by < n + 1) ts → ((i : ℕ) → i < n → [] ≡ taken_by i ts) → taken_by n ts ≡ jobs_in ts
  one_took_all n [] few none = refl
  one_took_all n (t ∷ ts) few none =
      let P : Take J → Type 0 = λ u. u.by < n + 1 in
      let first : t.by < n + 1 = All-head P t ts few in
      dite (ℕ_discrete t.by n)
      (λ e. by_this n t ts e ∙ ap (λ l. t.job ∷ l) (one_took_all n ts (All-tail P t ts few) (λ i below. none i below ∙ by_another i t ts (λ is. omega arith))))
      (λ ne. let below : t.by < n = omega arith in absurd (no_first t.job (taken_by t.by ts) (sym (by_this t.by t ts refl) ∙ sym (none t.by below))))

  module _ (generation : J → ℕ) where
    first_earliest : (x : J) (xs : List J) → Ascends generation (x ∷ xs) → All (λ y. generation x < generation y) xs
    first_earliest x xs up k d below = up zero (suc k) d (omega arith) (omega arith)

    ascends_behind : (x : J) (xs : List J) → Ascends generation (x ∷ xs) → Ascends generation xs
    ascends_behind x xs up i j d before below = up (suc i) (suc j) d (omega arith) (omega arith)

    pub rest_is : (n : ℕ) (early late : List (Take J)) (rest left : List J) → jobs_in early ++ rest ≡ jobs_in late ++ left → Ascends generation (jobs_in late ++ left)
        → All (λ t. t.by < n) early → All (λ t. t.by < n + 1) late → ((i : ℕ) → i < n → taken_by i early ≡ taken_by i late) → rest ≡ taken_by n late ++ left
    rest_is n [] late rest left e up few more same = e ∙ ap (λ l. l ++ left) (sym (one_took_all n late more same))
    rest_is n (u ∷ us) [] rest left e up few more same =
        let below : u.by < n = All-head (λ (t : Take J). t.by < n) u us few in
        absurd (no_first u.job (taken_by u.by us) (sym (by_this u.by u us refl) ∙ same u.by below))
    rest_is n (u ∷ us) (t ∷ ts) rest left e up few more same =
        let P : Take J → Type 0 = λ v. v.by < n in
        let Q : Take J → Type 0 = λ v. v.by < n + 1 in
        let below : u.by < n = All-head P u us few in
        let parts = same_first u.job t.job (jobs_in us ++ rest) (jobs_in ts ++ left) e in
        let Later : J → Type 0 = λ y. generation t.job < generation y in
        let later : All Later (jobs_in ts) = firsts Later (jobs_in ts) left (first_earliest t.job (jobs_in ts ++ left) up) in
        let one : t.by ≡ u.by = dite (ℕ_discrete t.by u.by) (λ is. is)
        (λ ne. let again : u.job ∷ taken_by u.by us ≡ taken_by u.by ts = sym (by_this u.by u us refl) ∙ same u.by below ∙ by_another u.by t ts ne in
        let lt : generation t.job < generation u.job = All-head Later u.job (taken_by u.by us) (All-same Later (u.job ∷ taken_by u.by us) (taken_by u.by ts) again (of_each_puller Later u.by ts later)) in
        let ge : generation u.job ≡ generation t.job = ap generation parts.0 in
        absurd (omega arith)) in
        let rest_same : (i : ℕ) → i < n → taken_by i us ≡ taken_by i ts = λ i lt. dite (ℕ_discrete u.by i)
        (λ is. (same_first u.job t.job (taken_by i us) (taken_by i ts) (sym (by_this i u us is) ∙ same i lt ∙ by_this i t ts (one ∙ is))).1)
        (λ ne. sym (by_another i u us ne) ∙ same i lt ∙ by_another i t ts (λ is. ne (sym one ∙ is))) in
        rest_is n us ts rest left parts.1 (ascends_behind t.job (jobs_in ts ++ left) up) (All-tail P u us few) (All-tail Q t ts more) rest_same
        ∙ ap (λ l. l ++ left) (sym (by_another n t ts (λ is. omega arith)))
