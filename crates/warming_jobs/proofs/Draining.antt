-- What stands while the jobs that are left are taken by one puller more.
use Rattle.std.proofs.Common.{◌≡◌, ◌≢◌, ℕ, ◌+◌, ◌<◌, ◌≤◌, List, [], ◌∷◌, ◌++◌, length, All, sym, ap, ◌∙◌, subst, arith, length-append, append-nil}
use Rattle.std.proofs.lemmas.List.Elements.{All-head, All-tail}
use Rattle.crossbeam_queue.specs.Fifo.{Held}
use Rattle.warming_jobs.specs.declared.board.Known.{Known}
use Rattle.warming_jobs.specs.declared.board.Taken.{Taken}
use Rattle.warming_jobs.specs.Takes.{taken_by, Ascends}
use Rattle.warming_jobs.specs.Steps.{one_more, Took, IsSettled}
use Rattle.warming_jobs.specs.Closing.{HasAll}
use Rattle.warming_jobs.proofs.Leaving.{rest_is}
use Rattle.warming_jobs.proofs.Closing.{no_items}

module _ {J : Type 0} where
  -- the pass that knew k has taken these as one puller more
  abbrev pub drained : Known J → List J → Known J
  drained k jobs = record k { dealt = k.dealt + 1; taken = record { by = k.dealt; jobs = jobs } ∷ k.taken }

  pub not_the_last : (k : Known J) → HasAll k → All (λ t. t.by ≢ k.dealt) k.taken
  not_the_last k row i d below e = let at = row.each i d below in let many = row.count in absurd (omega arith)

  module _ (generation : J → ℕ) where
    pub one_more_drained : (k before : Known J) (jobs : List J) (job : J) (after : Known J) → before ≡ drained k jobs → Took generation before job after → after ≡ drained k (jobs ++ job ∷ [])
    one_more_drained k before jobs job after e t = t.known ∙ ap (λ (b : Known J). record b { taken = one_more job b.taken }) e

    pub rest_parts : (k : Known J) (rest jobs left : List J) → HasAll k → IsSettled generation k rest → IsSettled generation (drained k jobs) left → rest ≡ jobs ++ left
    rest_parts k rest jobs left row s t =
        let P : Taken J → Type 0 = λ u. u.jobs ≡ taken_by u.by s.takes in
        let Q : Taken J → Type 0 = λ u. u.jobs ≡ taken_by u.by t.takes in
        let mine : Taken J = record { by = k.dealt; jobs = jobs } in
        let d : Taken J = record { by = 0; jobs = [] } in
        let own : jobs ≡ taken_by k.dealt t.takes = All-head Q mine k.taken t.each in
        let others : All Q k.taken = All-tail Q mine k.taken t.each in
        let same : (i : ℕ) → i < k.dealt → taken_by i s.takes ≡ taken_by i t.takes = λ i lt.
        let below : i < length k.taken = (let many = row.count in omega arith) in
        let at = row.each i d below in
        ap (λ (n : ℕ). taken_by n s.takes) (sym at) ∙ sym (s.each i d below) ∙ others i d below ∙ ap (λ (n : ℕ). taken_by n t.takes) at in
        rest_is generation k.dealt s.takes t.takes rest left (sym s.pushed ∙ t.pushed) (subst (λ l. Ascends generation l) t.pushed t.ascends) s.by_pullers t.by_pullers same
        ∙ ap (λ l. l ++ left) (sym own)

    -- as long as fewer were taken than were left, one is there
    pub not_empty_yet : (k : Known J) (count : ℕ) (jobs : List J) → HasAll k → Held count (IsSettled generation k) → Held 0 (IsSettled generation (drained k jobs)) → length jobs < count → ⊥
    not_empty_yet k count jobs row s t few =
        let e : length s.0 ≡ length jobs + length t.0 = ap length (rest_parts k s.0 jobs t.0 row s.2 t.2) ∙ length-append jobs t.0 in
        let n = s.1 in
        let z = t.1 in
        absurd (omega arith)

    -- once as many were taken, nothing else was left
    pub all_drained : (k : Known J) (count : ℕ) (jobs : List J) → HasAll k → Held count (IsSettled generation k) → (left : List J) × IsSettled generation (drained k jobs) left → count ≤ length jobs
        → IsSettled generation k jobs
    all_drained k count jobs row s t many =
        let parts : s.0 ≡ jobs ++ t.0 = rest_parts k s.0 jobs t.0 row s.2 t.1 in
        let e : length s.0 ≡ length jobs + length t.0 = ap length parts ∙ length-append jobs t.0 in
        let n = s.1 in
        let none : t.0 ≡ [] = no_items t.0 (omega arith) in
        subst (λ l. IsSettled generation k l) (parts ∙ ap (λ l. jobs ++ l) none ∙ append-nil jobs) s.2
