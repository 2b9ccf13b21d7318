-- Facts about jobs as they were taken, and about generations that ascend.
use Rattle.std.proofs.Common.{◌≡◌, ◌≢◌, ℕ, ◌+◌, ◌<◌, eq-eqb, ne_eqb, List, [], ◌∷◌, ◌++◌, length, All, sym, refl, ap, ◌∙◌, subst, arith, append_assoc, length-append}
use mathlib.Core.Logic.{dite}
use native.Mathlib.Decide.{ℕ_discrete}
use Rattle.std.specs.Prelude.{if◌then◌else◌}
use Rattle.std.proofs.Math.Seq.{get_or-append_seam}
use Rattle.std.proofs.lemmas.List.{map-append, get_or_append_left}
use Rattle.std.proofs.lemmas.List.Elements.{All-head, All-tail, All-cons, All-same}
use Rattle.std.proofs.lemmas.List.Quantifiers.{all_pairs_push}
use Rattle.warming_jobs.specs.Takes.{Take, jobs_in, taken_by, Ascends, IsLater}

module _ {J : Type 0} where
  pub by_this : (n : ℕ) (t : Take J) (ts : List (Take J)) → t.by ≡ n → taken_by n (t ∷ ts) ≡ t.job ∷ taken_by n ts
  by_this n t ts e = ap (λ b. if b then t.job ∷ taken_by n ts else taken_by n ts) (eq-eqb t.by n e)

  pub by_another : (n : ℕ) (t : Take J) (ts : List (Take J)) → t.by ≢ n → taken_by n (t ∷ ts) ≡ taken_by n ts
  by_another n t ts ne = ap (λ b. if b then t.job ∷ taken_by n ts else taken_by n ts) (ne_eqb t.by n ne)

  -- one take more, by this puller
  pub takes_one : (n : ℕ) (ts : List (Take J)) (x : J) → taken_by n (ts ++ record { by = n; job = x } ∷ []) ≡ taken_by n ts ++ x ∷ []
  takes_one n [] x = by_this n (record { by = n; job = x }) [] refl
  takes_one n (t ∷ ts) x =
      let last : List (Take J) = record { by = n; job = x } ∷ [] in
      dite (ℕ_discrete t.by n)
      (λ e. by_this n t (ts ++ last) e ∙ ap (λ l. t.job ∷ l) (takes_one n ts x) ∙ sym (ap (λ l. l ++ x ∷ []) (by_this n t ts e)))
      (λ ne. by_another n t (ts ++ last) ne ∙ takes_one n ts x ∙ sym (ap (λ l. l ++ x ∷ []) (by_another n t ts ne)))

  -- and by another
  pub takes_none : (n m : ℕ) (ts : List (Take J)) (x : J) → m ≢ n → taken_by n (ts ++ record { by = m; job = x } ∷ []) ≡ taken_by n ts
  takes_none n m [] x ne = by_another n (record { by = m; job = x }) [] ne
  takes_none n m (t ∷ ts) x ne =
      let last : List (Take J) = record { by = m; job = x } ∷ [] in
      dite (ℕ_discrete t.by n)
      (λ e. by_this n t (ts ++ last) e ∙ ap (λ l. t.job ∷ l) (takes_none n m ts x ne) ∙ sym (by_this n t ts e))
      (λ other. by_another n t (ts ++ last) other ∙ takes_none n m ts x ne ∙ sym (by_another n t ts other))

  -- a puller behind all those that took has taken nothing
  pub new_took_none : (n : ℕ) (ts : List (Take J)) → All (λ t. t.by < n) ts → taken_by n ts ≡ []
  new_took_none n [] all = refl
  new_took_none n (t ∷ ts) all =
      let P : Take J → Type 0 = λ u. u.by < n in
      let first : t.by < n = All-head P t ts all in
      by_another n t ts (λ e. omega arith) ∙ new_took_none n ts (All-tail P t ts all)

  -- what holds of all jobs that were taken holds of those that one puller took
  pub of_each_puller : (P : J → Type 0) (n : ℕ) (ts : List (Take J)) → All P (jobs_in ts) → All P (taken_by n ts)
  of_each_puller P n [] all = all
  of_each_puller P n (t ∷ ts) all =
      let rest = of_each_puller P n ts (All-tail P t.job (jobs_in ts) all) in
      dite (ℕ_discrete t.by n)
      (λ e. All-same P (taken_by n (t ∷ ts)) (t.job ∷ taken_by n ts) (by_this n t ts e) (All-cons P t.job (taken_by n ts) (All-head P t.job (jobs_in ts) all) rest))
      (λ ne. All-same P (taken_by n (t ∷ ts)) (taken_by n ts) (by_another n t ts ne) rest)

  -- the job that is taken stood first
  pub moves_over : (ts : List (Take J)) (t : Take J) (xs : List J) → jobs_in (ts ++ t ∷ []) ++ xs ≡ jobs_in ts ++ t.job ∷ xs
  moves_over ts t xs = ap (λ l. l ++ xs) (map-append (λ (u : Take J). u.job) ts (t ∷ [])) ∙ append_assoc (jobs_in ts) (t.job ∷ []) xs

  module _ (generation : J → ℕ) where
    pub ascends_on : (xs : List J) (x : J) → Ascends generation xs → IsLater generation x xs → Ascends generation (xs ++ x ∷ [])
    ascends_on xs x up later = all_pairs_push (λ early late. generation early < generation late) xs x up later

    pub later_than_before : (xs : List J) (x : J) (ys : List J) → Ascends generation (xs ++ x ∷ ys) → IsLater generation x xs
    later_than_before xs x ys up k d below =
        let all : List J = xs ++ x ∷ ys in
        let long : length all ≡ length xs + length (x ∷ ys) = length-append xs (x ∷ ys) in
        let at : length xs < length all = omega arith in
        subst (λ (p : J × J). generation p.0 < generation p.1)
        (λ i. (get_or_append_left xs (x ∷ ys) d k below i, get_or-append_seam xs x ys d i))
        (up k (length xs) d below at)
