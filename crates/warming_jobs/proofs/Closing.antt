-- What stands while pullers are joined into the pusher, and what is learned once all are.
use Rattle.std.proofs.Common.{◌≡◌, ℕ, zero, suc, ◌<◌, true, List, [], ◌∷◌, ◌++◌, length, map, All, sym, refl, ap, ◌∙◌, subst, append_assoc, arith, Some, None}
use Rattle.std.specs.Prelude.{slice_get, slice_index_or}
use Rattle.std.proofs.lemmas.List.{length-map}
use Rattle.std.proofs.lemmas.List.Elements.{All-head, All-tail}
use Rattle.crossbeam_queue.specs.Passes.{Pass, view, IsSamePass}
use Rattle.warming_jobs.specs.declared.board.Jobs.{Jobs}
use Rattle.warming_jobs.specs.declared.board.Known.{Known}
use Rattle.warming_jobs.specs.declared.board.Taken.{Taken}
use Rattle.warming_jobs.specs.declared.pusher.Pusher.{Pusher}
use Rattle.warming_jobs.specs.declared.puller.Puller.{Puller}
use Rattle.warming_jobs.specs.Takes.{taken_by, Ascends}
use Rattle.warming_jobs.specs.Steps.{joined, IsSettled}
use Rattle.warming_jobs.specs.Passes.{pusher_queue, puller_queue, queue_of, pushed_of, pullers_of, taken_of}
use Rattle.warming_jobs.specs.Closing.{AreAll, IsHandedOut, HasAll}

-- what isn't above 0 is 0, and a list of no length is empty
pub none_left : (n : ℕ) → (0 < n → ⊥) → n ≡ 0
none_left zero off = refl
none_left (suc n) off = absurd (off (omega arith))

pub no_items : {A : Type 0} (xs : List A) → length xs ≡ 0 → xs ≡ []
no_items [] e = refl
no_items (x ∷ xs) e = absurd (omega arith)

last_at : {A : Type 0} (xs : List A) (a : A) (ys : List A) → slice_get ((xs ++ a ∷ []) ++ ys) (length xs) ≡ Some a
last_at [] a ys = refl
last_at (x ∷ xs) a ys = last_at xs a ys

of_mapped : {A B : Type 0} (P : B → Type 0) (f : A → B) (xs : List A) (i : ℕ) (a : A) → slice_get xs i ≡ Some a → All P (map f xs) → P (f a)
of_mapped P f [] i a e all = let no : None ≡ Some a = e in absurd (cc)
of_mapped P f (x ∷ xs) zero a e all = let p : Some x ≡ Some a = e in let same : x ≡ a = cc in subst (λ y. P (f y)) same (All-head P (f x) (map f xs) all)
of_mapped P f (x ∷ xs) (suc i) a e all = of_mapped P f xs i a e (All-tail P (f x) (map f xs) all)

mapped_at : {A B : Type 0} (f : A → B) (xs : List A) (i : ℕ) (d : B) → i < length (map f xs) → (a : A) × (slice_get xs i ≡ Some a) × (slice_index_or (map f xs) i d ≡ f a)
mapped_at f [] i d below = absurd (omega arith)
mapped_at f (x ∷ xs) zero d below = (x, refl, refl)
mapped_at f (x ∷ xs) (suc i) d below = mapped_at f xs i d (omega arith)

module _ {J : Type 0} where
  -- what the pusher comes to know of a puller
  abbrev pub hand : Puller J → Taken J
  hand p = record { by = p.number; jobs = taken_of p }

  -- some of all pullers are left, and the pusher's pass has what the others took
  pub record IsGathered (pusher : Pusher J) (all left : List (Puller J)) (pass : Pass J (Known J)) : Type 0 where
    pub table : pass.table_id ≡ pusher_queue pusher
    pub idle : pass.me.1 ≡ []
    pub pushes : (view pass).pushes ≡ true
    pub pushed : (view pass).pushed ≡ pushed_of pusher
    pub dealt : (view pass).dealt ≡ pullers_of pusher
    pub others : List (Puller J)
    pub parts : all ≡ left ++ others
    pub taken : (view pass).taken ≡ map hand others

  module _ (pusher : Pusher J) (all left left' : List (Puller J)) (p : Puller J) (pass : Pass J (Known J)) where
    pub one_joins : (pass' : Pass J (Known J)) → IsGathered pusher all left pass → left ≡ left' ++ p ∷ [] → IsSamePass pass pass' → view pass' ≡ joined (view pass) (view p.pass)
        → IsGathered pusher all left' pass'
    one_joins pass' g e same is = record {
      table = same.0 ∙ g.table;
      idle = same.2 ∙ g.idle;
      pushes = ap (λ (k : Known J). k.pushes) is ∙ g.pushes;
      pushed = ap (λ (k : Known J). k.pushed) is ∙ g.pushed;
      dealt = ap (λ (k : Known J). k.dealt) is ∙ g.dealt;
      others = p ∷ g.others;
      parts = g.parts ∙ ap (λ l. l ++ g.others) e ∙ append_assoc left' (p ∷ []) g.others;
      taken = ap (λ (k : Known J). k.taken) is ∙ (λ i. p.own i ++ g.taken i);
    }

    -- the puller that is joined next is of the same queue
    pub joins_its_own : (jobs : Jobs J) → AreAll jobs pusher all → IsGathered pusher all left pass → left ≡ left' ++ p ∷ [] → puller_queue p ≡ queue_of jobs
    joins_its_own jobs are g e =
        (are.each (length left') p (ap (λ l. slice_get l (length left')) (g.parts ∙ ap (λ l. l ++ g.others) e) ∙ last_at left' p g.others)).queue

  pub has_all : (jobs : Jobs J) (pusher : Pusher J) (all : List (Puller J)) (pass : Pass J (Known J)) → AreAll jobs pusher all → IsGathered pusher all [] pass → HasAll (view pass)
  has_all jobs pusher all pass are g =
      let all_taken : (view pass).taken ≡ map hand all = g.taken ∙ ap (map hand) (sym g.parts) in
      record {
        count = ap length all_taken ∙ length-map all hand ∙ are.count ∙ sym g.dealt;
        each = subst (λ (ts : List (Taken J)). (i : ℕ) (d : Taken J) → i < length ts → (slice_index_or ts i d).by ≡ i) (sym all_taken)
            (λ i d below. let m = mapped_at hand all i d below in ap (λ (t : Taken J). t.by) m.2 ∙ (are.each i m.0 m.1).number);
      }

  pub handed_out : (generation : J → ℕ) (jobs : Jobs J) (pusher : Pusher J) (all : List (Puller J)) (pass : Pass J (Known J)) (left : List J)
      → AreAll jobs pusher all → IsGathered pusher all [] pass → IsSettled generation (view pass) left → IsHandedOut generation pusher all left
  handed_out generation jobs pusher all pass left are g s =
      let P : Taken J → Type 0 = λ t. t.jobs ≡ taken_by t.by s.takes in
      let each : All P (map hand all) = subst (λ l. All P l) (g.taken ∙ ap (map hand) (sym g.parts)) s.each in
      record {
        takes = s.takes;
        pushed = sym g.pushed ∙ s.pushed;
        each = λ i p e. of_mapped P hand all i p e each ∙ ap (λ (n : ℕ). taken_by n s.takes) (are.each i p e).number;
        by_pullers = subst (λ (n : ℕ). All (λ t. t.by < n) s.takes) (g.dealt ∙ sym are.count) s.by_pullers;
        ascends = subst (λ l. Ascends generation l) g.pushed s.ascends;
      }
