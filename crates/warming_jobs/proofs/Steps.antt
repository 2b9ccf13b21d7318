-- Pushing and taking keep the rule, and what is learned from it.
use Rattle.std.proofs.Common.{◌≡◌, ◌≢◌, ℕ, ◌<◌, true, List, [], ◌∷◌, ◌++◌, All, sym, refl, ap, ◌∙◌, subst, arith, append_assoc}
use Rattle.std.proofs.lemmas.List.Elements.{All-nil, All-head, All-tail, All-cons, All-same, All-push, All-weaker}
use Rattle.crossbeam_queue.specs.Fifo.{Pushes, Pops, Learns}
use Rattle.warming_jobs.specs.declared.board.Known.{Known}
use Rattle.warming_jobs.specs.declared.board.Taken.{Taken}
use Rattle.warming_jobs.specs.Takes.{Take, jobs_in, taken_by, Ascends, IsLater, IsTheEndOf}
use Rattle.warming_jobs.specs.Rule.{opened, OwnsTaken, Fits, InTurn}
use Rattle.warming_jobs.specs.Steps.{first_jobs, one_more, Pushed, Took, HadTurns, IsSettled}
use Rattle.warming_jobs.proofs.Taking.{takes_one, takes_none, of_each_puller, moves_over, ascends_on, later_than_before}
use Rattle.warming_jobs.proofs.Frame.{each_set, each_snoc, each_none}

module _ {J : Type 0} (generation : J → ℕ) where
  pub begins : InTurn generation [] (opened ∷ [])
  begins =
      let F : ℕ → Known J → Type 0 = Fits [] [] 0 0 (λ _. 0) in
      record {
        takes = [];
        pullers = 0;
        pusher = 0;
        owner = λ _. 0;
        ascends = λ i j d lt below. absurd (omega arith);
        by_pullers = All-nil (λ t. t.by < 0);
        each = each_snoc F [] opened (each_none F) (record {
          pushing = λ _. record { alone = refl; dealt = refl; pushed = refl };
          pulling = All-nil (OwnsTaken [] 0 (λ _. 0) 0);
        });
      }

  pub pushes : (n pass : ℕ) (k : Known J) (x : J) → k.pushes ≡ true → IsLater generation x k.pushed → Pushes (InTurn generation) n pass k x (Pushed k x)
  pushes n pass k x may later items views _ h at =
      let w : Known J = record k { pushed = k.pushed ++ x ∷ [] } in
      let mine = h.each pass k at in
      let known = mine.pushing may in
      let more : k.pushed ++ x ∷ [] ≡ jobs_in h.takes ++ (items ++ x ∷ []) = ap (λ l. l ++ x ∷ []) known.pushed ∙ append_assoc (jobs_in h.takes) items (x ∷ []) in
      let F : ℕ → Known J → Type 0 = Fits h.takes (items ++ x ∷ []) h.pullers h.pusher h.owner in (
        w,
        record {
          takes = h.takes;
          pullers = h.pullers;
          pusher = h.pusher;
          owner = h.owner;
          ascends = subst (λ l. Ascends generation l) more (ascends_on generation k.pushed x (subst (λ l. Ascends generation l) (sym known.pushed) h.ascends) later);
          by_pullers = h.by_pullers;
          each = each_set F views pass w
              (record { pushing = λ _. record { alone = known.alone; dealt = known.dealt; pushed = more }; pulling = mine.pulling })
              (λ j u other e. let f = h.each j u e in record { pushing = λ p. absurd (other ((f.pushing p).alone ∙ sym known.alone)); pulling = f.pulling });
        },
        refl,
      )

  pub ends_with : (pass : ℕ) (k : Known J) → k.pushes ≡ true → Learns (InTurn generation) pass k (λ left. IsTheEndOf k.pushed left)
  ends_with pass k may items views h at = (jobs_in h.takes, ((h.each pass k at).pushing may).pushed)

  -- the first of the pullers whose pass this is takes a job
  pub takes : (pass : ℕ) (k : Known J) (n : ℕ) (jobs : List J) (rest : List (Taken J)) → k.taken ≡ record { by = n; jobs = jobs } ∷ rest → All (λ t. t.by ≢ n) rest
      → Pops (InTurn generation) pass k (Took generation k)
  takes pass k n jobs rest own apart x items views h at =
      let t : Take J = record { by = n; job = x } in
      let all : List (Take J) = h.takes ++ t ∷ [] in
      let w : Known J = record k { taken = one_more x k.taken } in
      let Old : ℕ → Taken J → Type 0 = OwnsTaken h.takes h.pullers h.owner in
      let New : ℕ → Taken J → Type 0 = OwnsTaken all h.pullers h.owner in
      let was : Taken J = record { by = n; jobs = jobs } in
      let is : Taken J = record { by = n; jobs = jobs ++ x ∷ [] } in
      let mine : All (Old pass) (was ∷ rest) = subst (λ l. All (Old pass) l) own (h.each pass k at).pulling in
      let it : Old pass was = All-head (Old pass) was rest mine in
      let same : jobs_in all ++ items ≡ jobs_in h.takes ++ x ∷ items = moves_over h.takes t items in
      let P : J → Type 0 = λ early. generation early < generation x in
      let F : ℕ → Known J → Type 0 = Fits all items h.pullers h.pusher h.owner in
      let stays : (j : ℕ) (l : Taken J) → l.by ≢ n → Old j l → New j l = λ j l ne o. record { own = o.own; number = o.number; jobs = o.jobs ∙ sym (takes_none l.by n h.takes x (λ e. ne (sym e))) } in
      let Apart : Taken J → Type 0 = λ l. (l.by ≢ n) × Old pass l in
      let others : All Apart rest = λ i d below. (apart i d below, All-tail (Old pass) was rest mine i d below) in (
        w,
        record {
          takes = all;
          pullers = h.pullers;
          pusher = h.pusher;
          owner = h.owner;
          ascends = subst (λ l. Ascends generation l) (sym same) h.ascends;
          by_pullers = All-push (λ u. u.by < h.pullers) h.takes t h.by_pullers it.number;
          each = each_set F views pass w
              (record {
                pushing = λ p. let q = (h.each pass k at).pushing p in record { alone = q.alone; dealt = q.dealt; pushed = q.pushed ∙ sym same };
                pulling = All-same (New pass) w.taken (is ∷ rest) (ap (one_more x) own)
                    (All-cons (New pass) is rest
                    (record { own = it.own; number = it.number; jobs = ap (λ l. l ++ x ∷ []) it.jobs ∙ sym (takes_one n h.takes x) })
                    (All-weaker Apart (New pass) (λ l o. stays pass l o.0 o.1) rest others));
              })
              (λ j u other e. let f = h.each j u e in record {
                pushing = λ p. let q = f.pushing p in record { alone = q.alone; dealt = q.dealt; pushed = q.pushed ∙ sym same };
                pulling = All-weaker (Old j) (New j) (λ l o. stays j l (λ e'. other (sym o.own ∙ ap h.owner e' ∙ it.own)) o) u.taken f.pulling;
              });
        },
        record {
          known = refl;
          later = All-same P (first_jobs k.taken) (taken_by n h.takes) (ap first_jobs own ∙ it.jobs)
              (of_each_puller P n h.takes (later_than_before generation (jobs_in h.takes) x items h.ascends));
        },
      )

  pub had_turns : (pass : ℕ) (k : Known J) → Learns (InTurn generation) pass k (HadTurns generation k)
  had_turns pass k items views h at = record {
    takes = h.takes;
    own = All-weaker (OwnsTaken h.takes h.pullers h.owner pass) (λ t. t.jobs ≡ taken_by t.by h.takes) (λ l o. o.jobs) k.taken (h.each pass k at).pulling;
    ascends = h.ascends;
  }

  pub settles : (pass : ℕ) (k : Known J) → k.pushes ≡ true → Learns (InTurn generation) pass k (IsSettled generation k)
  settles pass k may items views h at =
      let mine = h.each pass k at in
      let known = mine.pushing may in
      record {
        takes = h.takes;
        pushed = known.pushed;
        ascends = subst (λ l. Ascends generation l) (sym known.pushed) h.ascends;
        by_pullers = subst (λ (d : ℕ). All (λ t. t.by < d) h.takes) (sym known.dealt) h.by_pullers;
        each = All-weaker (OwnsTaken h.takes h.pullers h.owner pass) (λ t. t.jobs ≡ taken_by t.by h.takes) (λ l o. o.jobs) k.taken mine.pulling;
      }
