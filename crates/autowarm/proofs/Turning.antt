-- Keys in their turn, with one more.
use Rattle.std.proofs.Common.{◌≡◌, ℕ, ◌+◌, ◌<◌, cond, List, [], ◌∷◌, ◌++◌, length, take, get_or, refl, sym, ap, subst, ◌∙◌}
use Rattle.std.proofs.lemmas.List.{take_more}
use Rattle.cache_traces.specs.declared.act.Act.{Act}
use Rattle.autowarm.specs.Steps.{AreDone, Done, InTurn, is_computed, is_refused}
use Rattle.autowarm.proofs.Counting.{count_last}

module _ {K N : Type 0} (Step : K → Done → List (Act K N) → List (Act K N) → Type 0) where
  pub none_done : (old : List (Act K N)) → AreDone Step [] old old 0 0
  none_done old = record { done = []; in_turn = refl; computed_is = refl; refused_is = refl }

  turn_more : (ks : List K) (ds : List Done) (k : K) (d : Done) (old mid new : List (Act K N))
      → InTurn Step ks ds old mid → Step k d mid new → InTurn Step (ks ++ k ∷ []) (ds ++ d ∷ []) old new
  turn_more [] [] k d old mid new so step = (new, subst (λ m. Step k d m new) so step, refl)
  turn_more [] (e ∷ ds) k d old mid new so step = absurd so
  turn_more (j ∷ ks) [] k d old mid new so step = absurd so
  turn_more (j ∷ ks) (e ∷ ds) k d old mid new so step = (so.0, so.1, turn_more ks ds k d so.0 mid new so.2 step)

  -- the key at i was done behind those before it
  pub done_more : (ks : List K) (i : ℕ) (k : K) (d : Done) (old mid new : List (Act K N)) (c r c' r' : ℕ)
      → i < length ks → k ≡ get_or ks i k → AreDone Step (take i ks) old mid c r → Step k d mid new
      → c' ≡ c + cond (is_computed d) 1 0 → r' ≡ r + cond (is_refused d) 1 0 → AreDone Step (take (i + 1) ks) old new c' r'
  done_more ks i k d old mid new c r c' r' within item so step computed refused =
      let more : take (i + 1) ks ≡ take i ks ++ k ∷ [] = take_more ks i k within ∙ ap (λ x. take i ks ++ x ∷ []) (sym item) in
      record {
        done = so.done ++ d ∷ [];
        in_turn = subst (λ l. InTurn Step l (so.done ++ d ∷ []) old new) (sym more) (turn_more (take i ks) so.done k d old mid new so.in_turn step);
        computed_is = computed ∙ ap (λ n. n + cond (is_computed d) 1 0) so.computed_is ∙ sym (count_last is_computed so.done d);
        refused_is = refused ∙ ap (λ n. n + cond (is_refused d) 1 0) so.refused_is ∙ sym (count_last is_refused so.done d);
      }
