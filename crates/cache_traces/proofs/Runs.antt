-- A trace is a run of the machine.
use Rattle.std.proofs.Common.{ℕ, Bool, true, false, List, [], ◌∷◌, ◌++◌, refl, sym, subst}
use Rattle.cache_machine.specs.Machine.{Cache, look_answer}
use Rattle.cache_machine.specs.Runs.{Call, Answer, look, finish, give_up, recent, looked as answered, done, keys, no_memory, Allows, IsRun}
use Rattle.cache_traces.specs.declared.act.Act.{Act}
use Rattle.cache_traces.specs.declared.act.Step.{Step}
use Rattle.cache_traces.specs.declared.act.Act.TheVariants.{Looked, Finished, GaveUp, Listed}
use Rattle.cache_traces.specs.Traces.{Rules, Follows, LeadsTo, begun, gone_on}
use Rattle.cache_traces.specs.Laws.{IsToldOf, AreToldOf}

module _ {K V N : Type 0} (r : Rules K V N) where
  -- what the machine was asked and answered at a call
  record Asked (seat : ℕ) (c : Cache K V) (a : Act K N) (next : Cache K V) : Type 0 where
    pair : Call K V × Answer K V
    is_told : IsToldOf r seat a pair
    is_allowed : Allows r.eq r.weight c pair.0 pair.1 next

  ended : (seat : ℕ) (c next : Cache K V) (k : K) (n : N) (stored : Bool) → Follows r seat c (Finished k n stored) next → Asked seat c (Finished k n stored) next
  ended seat c next k n true f = record { pair = (finish seat f.1.0 (r.keeps n), done); is_told = (f.1.0, f.1.1, refl); is_allowed = f.1.2 }
  ended seat c next k n false f = record { pair = (finish seat f.1.0 (r.keeps n), no_memory); is_told = (f.1.0, f.1.1, refl); is_allowed = f.1.2 }

  asked : (seat : ℕ) (c next : Cache K V) (a : Act K N) → Follows r seat c a next → Asked seat c a next
  asked seat c next (Looked k need again t) f =
      let a = look_answer r.eq (r.serves need) k c in
      record { pair = (look k (r.serves need) seat, answered a); is_told = (a, refl, sym f.1); is_allowed = (refl, f.2) }
  asked seat c next (Finished k n stored) f = ended seat c next k n stored f
  asked seat c next (GaveUp k) f = record { pair = (give_up seat, done); is_told = refl; is_allowed = f.1 }
  asked seat c next (Listed n ks) f = record { pair = (recent n, keys ks); is_told = refl; is_allowed = f }

  told-then : (ss : List (Step K N)) (ps : List (Call K V × Answer K V)) (s : Step K N) (p : Call K V × Answer K V) → AreToldOf r ss ps → IsToldOf r s.seat s.act p → AreToldOf r (ss ++ s ∷ []) (ps ++ p ∷ [])
  told-then [] [] s p all one = (one, tt)
  told-then [] (q ∷ ps) s p all one = absurd all
  told-then (t ∷ ss) [] s p all one = absurd all
  told-then (t ∷ ss) (q ∷ ps) s p all one = (all.0, told-then ss ps s p all.1 one)

  run-then : (ps : List (Call K V × Answer K V)) (p : Call K V × Answer K V) (c d next : Cache K V) → IsRun r.eq r.weight ps c d → Allows r.eq r.weight d p.0 p.1 next → IsRun r.eq r.weight (ps ++ p ∷ []) c next
  run-then [] p c d next run one = (next, subst (λ e. Allows r.eq r.weight e p.0 p.1 next) run one, refl)
  run-then (q ∷ ps) p c d next run one = (run.0, run.1, run-then ps p run.0 d next run.2 one)

  pub run : (first : Cache K V) (steps : List (Step K N)) (c : Cache K V) → LeadsTo r first steps c → (ps : List (Call K V × Answer K V)) × AreToldOf r steps ps × IsRun r.eq r.weight ps first c
  run first steps c begun = ([], tt, refl)
  run first steps c (gone_on before d next s trace within f) =
      let so_far = run first before d trace in
      let more = asked s.seat d next s.act f in
      (so_far.0 ++ more.pair ∷ [], told-then before so_far.0 s more.pair so_far.1 more.is_told, run-then so_far.0 more.pair first d next so_far.2 more.is_allowed)
