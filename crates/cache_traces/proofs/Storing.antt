-- What each call leaves of a store with its calls, and the calls as a run of the machine.
use Rattle.std.proofs.Common.{◌≡◌, ℕ, Bool, true, false, List, [], ◌∷◌, ◌++◌, cond, Option, Some, None, refl, true≢false, sym, ap, subst, ◌∙◌}
use Rattle.std.specs.Prelude.{IsSome, is_some, if◌then◌else◌}
use Rattle.std.specs.Option.{option_and_then}
use Rattle.std.specs.Map.{lookup, remove_entry}
use Rattle.std.proofs.lemmas.List.{append-nil, append_assoc}
use Rattle.cache_machine.specs.declared.look.Look.TheVariants.{Hit, Own}
use Rattle.cache_machine.specs.Machine.{Kept, Cache, nothing_kept, with_entries, brought_first, served, stored, cut, is_light, look_answer, after_answer, answer_by}
use Rattle.cache_machine.specs.Runs.{Call, Answer, look, finish, give_up, looked, done, IsRun}
use Rattle.cache_traces.specs.declared.store_act.StoreAct.{StoreAct}
use Rattle.cache_traces.specs.declared.store_act.StoreAct.TheVariants.{Looked, Put}
use Rattle.cache_traces.specs.declared.store_act.StoreStep.{StoreStep}
use Rattle.cache_traces.specs.StoreLaws.{unowned, IsAskedBy, AreAskedBy}
use Rattle.cache_traces.specs.StoreTraces.{after_found, found, StoreFollows, StoreLeadsTo, store_begun, store_gone_on, IsStoreTrace}
use Rattle.cache_traces.specs.TracedStore.{one_more}
use Rattle.cache_traces.specs.Traces.{Rules}

-- whether something is there
some_by : {A : Type 0} (o : Option A) → true ≡ is_some o → (x : A) × (o ≡ Some x)
some_by None h = absurd (true≢false h)
some_by (Some x) h = (x, refl)

none_by : {A : Type 0} (o : Option A) → false ≡ is_some o → o ≡ None
none_by None h = refl
none_by (Some x) h = absurd (true≢false (sym h))

module _ {V N : Type 0} (r : Rules ℕ V N) where
  -- ---- one call

  -- the size and the greatest weight stay
  record IsSizedAs (c next : Kept ℕ V) : Type 0 where
    size : next.size ≡ c.size
    greatest : next.greatest ≡ c.greatest

  sized_stored : (n : ℕ) (v : V) (c : Kept ℕ V) → IsSizedAs c (stored r.eq r.weight n v c)
  sized_stored n v c =
      elim (is_light r.weight c.greatest v) as (λ b. IsSizedAs c (cond b (with_entries c (cut r.weight c.size c.greatest ((n, v) ∷ remove_entry (r.eq n) c.entries))) c)) [
        | true ↦ record { size = refl; greatest = refl }
        | false ↦ record { size = refl; greatest = refl }
      ]

  sized : (c next : Kept ℕ V) (a : StoreAct N) → StoreFollows r c a next → IsSizedAs c next
  sized c next (Looked n true) f = subst (IsSizedAs c) (sym f.1) (record { size = refl; greatest = refl })
  sized c next (Looked n false) f = subst (IsSizedAs c) (sym f.1) (record { size = refl; greatest = refl })
  sized c next (Put n numbers) f = subst (IsSizedAs c) (sym f.2) (sized_stored n f.0 c)

  -- nothing was called yet
  pub store_begins : (size : ℕ) (greatest : Option ℕ) (c : Kept ℕ V) (steps : List (StoreStep N)) → c ≡ nothing_kept size greatest → steps ≡ [] → IsStoreTrace r c.size c.greatest steps c
  store_begins size greatest c steps is none =
      subst (λ ss. IsStoreTrace r c.size c.greatest ss c) (sym none) (subst (λ d. IsStoreTrace r d.size d.greatest [] d) (sym is) store_begun)

  -- one more call
  pub store_goes_on : (c next : Kept ℕ V) (steps ss : List (StoreStep N)) (seat : ℕ) (act : StoreAct N) → IsStoreTrace r c.size c.greatest steps c → StoreFollows r c act next → ss ≡ one_more steps seat act → IsStoreTrace r next.size next.greatest ss next
  store_goes_on c next steps ss seat act trace f more =
      let same = sized c next act f in
      subst (λ l. IsStoreTrace r next.size next.greatest l next) (sym more)
      (subst (λ d. StoreLeadsTo r d (one_more steps seat act) next) (λ i. nothing_kept (sym same.size i) (sym same.greatest i)) (store_gone_on steps c next (record { seat = seat; act = act }) trace f))

  -- a look-up, by what was found
  pub look_follows : (n : ℕ) (c next : Kept ℕ V) (o : Option V) (hit : Bool) → o ≡ found r n c → (IsSome o → next ≡ with_entries c (brought_first r.eq n c.entries)) → (o ≡ None → next ≡ c) → hit ≡ is_some o → StoreFollows r c (Looked n hit) next
  look_follows n c next o hit is used missed told = (told ∙ ap is_some is, by o used missed ∙ ap (λ h. after_found r.eq n h c) (sym told))
    where
      by : (p : Option V) → (IsSome p → next ≡ with_entries c (brought_first r.eq n c.entries)) → (p ≡ None → next ≡ c) → next ≡ after_found r.eq n (is_some p) c
      by None u m = m refl
      by (Some v) u m = u refl

  -- ---- runs

  -- what the machine was asked and answered at a call
  record AskedOf (c : Kept ℕ V) (a : StoreAct N) (next : Kept ℕ V) : Type 0 where
    calls : List (Call ℕ V × Answer ℕ V)
    is_asked : IsAskedBy r a calls
    is_run : IsRun r.eq r.weight calls (unowned c) (unowned next)

  -- the seat owns the number
  abbrev owning : ℕ → Kept ℕ V → Cache ℕ V
  owning n c = record { kept = c; pending = Some n ∷ [] }

  answered : (n : ℕ) (c : Kept ℕ V) (serves : V → Bool) (o : Option V) → served r.eq serves n c.entries ≡ o → answer_by n o None ≡ look_answer r.eq serves n (unowned c)
  answered n c serves o is = ap (λ p. answer_by n p None) (sym is)

  hit_run : (n : ℕ) (c next : Kept ℕ V) → StoreFollows r c (Looked n true) next → AskedOf c (Looked n true) next
  hit_run n c next f =
      let v = some_by (found r n c) f.0 in
      let answer = answered n c (r.serves 0) (Some v.0) v.1 in
      record {
        calls = (look n (r.serves 0) 0, looked (Hit v.0)) ∷ [];
        is_asked = (v.0, refl);
        is_run = (unowned next, (answer, ap unowned f.1 ∙ ap (after_answer r.eq n 0 (unowned c)) answer), refl);
      }

  miss_run : (n : ℕ) (c next : Kept ℕ V) → StoreFollows r c (Looked n false) next → AskedOf c (Looked n false) next
  miss_run n c next f =
      let answer = answered n c (r.serves 0) None (none_by (found r n c) f.0) in
      record {
        calls = (look n (r.serves 0) 0, looked Own) ∷ (give_up 0, done) ∷ [];
        is_asked = refl;
        is_run = (owning n c, (answer, ap (after_answer r.eq n 0 (unowned c)) answer), (unowned c, refl, ap unowned f.1));
      }

  -- no value serves
  none_served : (o : Option V) → option_and_then (λ v. if false then Some v else None) o ≡ None
  none_served None = refl
  none_served (Some v) = refl

  put_run : (n : ℕ) (numbers : N) (c next : Kept ℕ V) → StoreFollows r c (Put n numbers) next → AskedOf c (Put n numbers) next
  put_run n numbers c next f =
      let answer = answered n c (λ _. false) None (none_served (lookup (r.eq n) c.entries)) in
      record {
        calls = (look n (λ _. false) 0, looked Own) ∷ (finish 0 f.0 true, done) ∷ [];
        is_asked = (f.0, f.1, refl);
        is_run = (owning n c, (answer, ap (after_answer r.eq n 0 (unowned c)) answer), (unowned (stored r.eq r.weight n f.0 c), refl, ap unowned f.2));
      }

  asked_of : (c next : Kept ℕ V) (a : StoreAct N) → StoreFollows r c a next → AskedOf c a next
  asked_of c next (Looked n true) f = hit_run n c next f
  asked_of c next (Looked n false) f = miss_run n c next f
  asked_of c next (Put n numbers) f = put_run n numbers c next f

  asked_then : (ss : List (StoreStep N)) (run ps : List (Call ℕ V × Answer ℕ V)) (s : StoreStep N) → AreAskedBy r ss run → IsAskedBy r s.act ps → AreAskedBy r (ss ++ s ∷ []) (run ++ ps)
  asked_then [] run ps s all one = (ps, [], one, refl, ap (λ l. l ++ ps) all ∙ sym (append-nil ps))
  asked_then (t ∷ ss) run ps s all one =
      (all.0, all.1 ++ ps, all.2, asked_then ss all.1 ps s all.3 one, ap (λ l. l ++ ps) all.4 ∙ append_assoc all.0 all.1 ps)

  runs_then : (ps qs : List (Call ℕ V × Answer ℕ V)) (c d next : Cache ℕ V) → IsRun r.eq r.weight ps c d → IsRun r.eq r.weight qs d next → IsRun r.eq r.weight (ps ++ qs) c next
  runs_then [] qs c d next run more = subst (λ e. IsRun r.eq r.weight qs e next) run more
  runs_then (p ∷ ps) qs c d next run more = (run.0, run.1, runs_then ps qs run.0 d next run.2 more)

  pub store_run : (first : Kept ℕ V) (steps : List (StoreStep N)) (c : Kept ℕ V) → StoreLeadsTo r first steps c → (run : List (Call ℕ V × Answer ℕ V)) × AreAskedBy r steps run × IsRun r.eq r.weight run (unowned first) (unowned c)
  store_run first steps c store_begun = ([], refl, refl)
  store_run first steps c (store_gone_on before d next s trace f) =
      let so_far = store_run first before d trace in
      let more = asked_of d next s.act f in
      (so_far.0 ++ more.calls, asked_then before so_far.0 more.calls s so_far.1 more.is_asked, runs_then so_far.0 more.calls (unowned first) (unowned d) (unowned next) so_far.2 more.is_run)
