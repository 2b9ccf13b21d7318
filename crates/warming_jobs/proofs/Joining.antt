-- Dealing a puller and joining one into the pusher keep the rule.
use Rattle.std.proofs.Common.{◌≡◌, ◌≢◌, ℕ, ◌+◌, ◌<◌, true, true≢false, cond, eqb, eq-eqb, ne_eqb, List, [], ◌∷◌, length, All, set, sym, refl, ap, ◌∙◌, subst, arith}
use mathlib.Core.Option.{some}
use lib.ListN.{get_elem?}
use Rattle.std.proofs.lemmas.List.Elements.{All-nil, All-head, All-cons, All-same, All-append, All-weaker}
use Rattle.crossbeam_queue.specs.Fifo.{Forks, Merges}
use Rattle.crossbeam_queue.proofs.Lists.{set_else}
use Rattle.warming_jobs.specs.declared.board.Known.{Known}
use Rattle.warming_jobs.specs.declared.board.Taken.{Taken}
use Rattle.warming_jobs.specs.Rule.{OwnsTaken, Fits, InTurn}
use Rattle.warming_jobs.specs.Steps.{dealer, newcomer, joined, spent}
use Rattle.warming_jobs.proofs.Taking.{new_took_none}
use Rattle.warming_jobs.proofs.Frame.{Each, each_set, each_snoc}

-- a number of its own gets a new owner
abbrev given : ℕ → ℕ → (ℕ → ℕ) → ℕ → ℕ
given n pass owner m = cond (eqb m n) pass (owner m)

given_here : (n pass : ℕ) (owner : ℕ → ℕ) → given n pass owner n ≡ pass
given_here n pass owner = ap (λ b. cond b pass (owner n)) (eq-eqb n n refl)

given_else : (n pass : ℕ) (owner : ℕ → ℕ) (m : ℕ) → m ≢ n → given n pass owner m ≡ owner m
given_else n pass owner m ne = ap (λ b. cond b pass (owner m)) (ne_eqb m n ne)

module _ {J : Type 0} (generation : J → ℕ) where
  pub deals : (pass : ℕ) (k : Known J) → k.pushes ≡ true → Forks (InTurn generation) pass k (dealer k) (newcomer k)
  deals pass k may items views h at =
      let mine = h.each pass k at in
      let known = mine.pushing may in
      let old : List (Known J) = set views pass (dealer k) in
      let owner : ℕ → ℕ = given h.pullers (length old) h.owner in
      let Old : ℕ → Taken J → Type 0 = OwnsTaken h.takes h.pullers h.owner in
      let New : ℕ → Taken J → Type 0 = OwnsTaken h.takes (h.pullers + 1) owner in
      let kept : (j : ℕ) (ts : List (Taken J)) → All (Old j) ts → All (New j) ts = λ j ts all. All-weaker (Old j) (New j)
      (λ l o. let below : l.by < h.pullers = o.number in record {
        own = given_else h.pullers (length old) h.owner l.by (λ e. omega arith) ∙ o.own;
        number = omega arith;
        jobs = o.jobs;
      }) ts all in
      let F : ℕ → Known J → Type 0 = Fits h.takes items (h.pullers + 1) h.pusher owner in
      let next : Taken J = record { by = k.dealt; jobs = [] } in
      record {
        takes = h.takes;
        pullers = h.pullers + 1;
        pusher = h.pusher;
        owner = owner;
        ascends = h.ascends;
        by_pullers = All-weaker (λ t. t.by < h.pullers) (λ t. t.by < h.pullers + 1) (λ t below. omega arith) h.takes h.by_pullers;
        each = each_snoc F old (newcomer k)
            (each_set F views pass (dealer k)
            (record { pushing = λ _. record { alone = known.alone; dealt = ap (λ (d : ℕ). d + 1) known.dealt; pushed = known.pushed }; pulling = kept pass k.taken mine.pulling })
            (λ j u other e. let f = h.each j u e in record { pushing = λ p. absurd (other ((f.pushing p).alone ∙ sym known.alone)); pulling = kept j u.taken f.pulling }))
            (record {
              pushing = λ p. absurd (true≢false (sym p));
              pulling = All-cons (New (length old)) next [] (record {
                own = ap owner known.dealt ∙ given_here h.pullers (length old) h.owner;
                number = (let d = known.dealt in omega arith);
                jobs = sym (new_took_none k.dealt h.takes (subst (λ (d : ℕ). All (λ t. t.by < d) h.takes) (sym known.dealt) h.by_pullers));
              }) (All-nil (New (length old)));
            });
      }

  pub gathers : (pass : ℕ) (k : Known J) (other : ℕ) (w : Known J) (n : ℕ) (jobs : List J) → k.pushes ≡ true → w.taken ≡ record { by = n; jobs = jobs } ∷ []
      → Merges (InTurn generation) pass k other w (joined k w) spent
  gathers pass k other w n jobs may own items views h at apart at' =
      let both : Known J = joined k w in
      let some_views : List (Known J) = set views pass both in
      let was : get_elem? views other ≡ some w = sym (set_else views pass other both apart) ∙ at' in
      let mine = h.each pass k at in
      let known = mine.pushing may in
      let owner : ℕ → ℕ = given n pass h.owner in
      let Old : ℕ → Taken J → Type 0 = OwnsTaken h.takes h.pullers h.owner in
      let New : ℕ → Taken J → Type 0 = OwnsTaken h.takes h.pullers owner in
      let one : Taken J = record { by = n; jobs = jobs } in
      let it : Old other one = All-head (Old other) one [] (subst (λ l. All (Old other) l) own (h.each other w was).pulling) in
      let kept : (j : ℕ) (ts : List (Taken J)) → j ≢ other → All (Old j) ts → All (New j) ts = λ j ts away all. All-weaker (Old j) (New j)
      (λ l o. record {
        own = given_else n pass h.owner l.by (λ e. away (sym o.own ∙ ap h.owner e ∙ it.own)) ∙ o.own;
        number = o.number;
        jobs = o.jobs;
      }) ts all in
      let F : ℕ → Known J → Type 0 = Fits h.takes items h.pullers h.pusher owner in
      let G : ℕ → Known J → Type 0 = λ j u. j ≢ other → F j u in
      let first : Each G some_views = each_set G views pass both
      (λ away. record {
        pushing = λ _. record { alone = known.alone; dealt = known.dealt; pushed = known.pushed };
        pulling = All-append (New pass) w.taken k.taken
            (All-same (New pass) w.taken (one ∷ []) own
            (All-cons (New pass) one [] (record { own = given_here n pass h.owner; number = it.number; jobs = it.jobs }) (All-nil (New pass))))
            (kept pass k.taken away mine.pulling);
      })
      (λ j u _ e away. let f = h.each j u e in record { pushing = f.pushing; pulling = kept j u.taken away f.pulling }) in
      record {
        takes = h.takes;
        pullers = h.pullers;
        pusher = h.pusher;
        owner = owner;
        ascends = h.ascends;
        by_pullers = h.by_pullers;
        each = each_set F some_views other spent
            (record { pushing = λ p. absurd (true≢false (sym p)); pulling = All-nil (New other) })
            (λ j u away e. first j u e away);
      }
