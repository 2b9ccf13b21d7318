-- Entries without a place leave the registry's openings as they are.
use Rattle.std.proofs.Common.{◌≡◌, ℕ, List, [], ◌∷◌, ◌++◌, fold, true, false, cond, append-nil, append_assoc, refl, sym, ap, ◌∙◌, subst, Option, None}
use Rattle.std.specs.List.{AllByRecursion}
use Rattle.registry_machine.specs.declared.entry.Entry.{Entry}
use Rattle.registry_machine.specs.declared.entry.Entry.TheVariants.{Open, TooMany, GenerationsSpent, Update, Finish, Superseded, Acquire, NotYet, Release, Free}
use Rattle.registry_machine.specs.Entries.{has_place}
use Rattle.registry_machine.specs.Machine.{Limits, State, is_some_of, after}
use Rattle.registry_machine.specs.Legal.{state_of}
use Rattle.registry_machine.proofs.Lists.{true_and_false}
use Rattle.registry_machine.proofs.Runs.{state_joined}
use Rattle.searcher_table.specs.Views.{HasNoPlaceSince}
use Rattle.searcher_table.proofs.Frame.{all_joined}

-- the same generations were opened, are warming and current, and a slot that was open for none still is
pub record HasSameOpenings (s t : State) : Type 0 where
  pub last : t.last_opened ≡ s.last_opened
  pub warming : t.warming ≡ s.warming
  pub current : t.current ≡ s.current
  pub free : (slot : ℕ) → s.slots slot ≡ None → t.slots slot ≡ None

pub same_trans : (s t u : State) → HasSameOpenings s t → HasSameOpenings t u → HasSameOpenings s u
same_trans s t u a b = record { last = b.last ∙ a.last; warming = b.warming ∙ a.warming; current = b.current ∙ a.current; free = λ slot e. b.free slot (a.free slot e) }

pub same_openings : (s t : State) → t ≡ s → HasSameOpenings s t
same_openings s t same = subst (HasSameOpenings s) (sym same) record { last = refl; warming = refl; current = refl; free = λ _ e. e }

module _ {U X L : Type 0} where
  -- entries without a place are none where there are none
  pub quiet_here : (log : List (Entry U X L)) → HasNoPlaceSince log log
  quiet_here log = record { rest = []; grown = sym (append-nil log); quiet = tt }

  pub quiet_trans : (a b c : List (Entry U X L)) → HasNoPlaceSince b a → HasNoPlaceSince c b → HasNoPlaceSince c a
  quiet_trans a b c x y = record {
    rest = x.rest ++ y.rest;
    grown = y.grown ∙ ap (λ l. l ++ y.rest) x.grown ∙ append_assoc a x.rest y.rest;
    quiet = all_joined (λ e. has_place e ≡ false) x.rest y.rest x.quiet y.quiet;
  }

  pub quiet_step : (s : State) (e : Entry U X L) → has_place e ≡ false → HasSameOpenings s (after s e)
  quiet_step s (Acquire c g k) q = record { last = refl; warming = refl; current = refl; free = λ _ e. e }
  quiet_step s (NotYet c) q = record { last = refl; warming = refl; current = refl; free = λ _ e. e }
  quiet_step s (Release c g l) q = record { last = refl; warming = refl; current = refl; free = λ _ e. e }
  quiet_step s (Free g) q = record {
    last = refl;
    warming = refl;
    current = refl;
    free = λ slot e. subst (λ (o : Option ℕ). cond (is_some_of g o) None o ≡ None) (sym e) refl;
  }
  quiet_step s (Open c u g slot d) q = absurd (true_and_false true refl q)
  quiet_step s (TooMany c u gs) q = absurd (true_and_false true refl q)
  quiet_step s (GenerationsSpent c u) q = absurd (true_and_false true refl q)
  quiet_step s (Update c u) q = absurd (true_and_false true refl q)
  quiet_step s (Finish g l) q = absurd (true_and_false true refl q)
  quiet_step s (Superseded g by l) q = absurd (true_and_false true refl q)

  quiet_rest : (s : State) (es : List (Entry U X L)) → AllByRecursion (λ e. has_place e ≡ false) es → HasSameOpenings s (fold after s es)
  quiet_rest s [] all = record { last = refl; warming = refl; current = refl; free = λ _ e. e }
  quiet_rest s (e ∷ es) all = same_trans s (after s e) (fold after (after s e) es) (quiet_step s e all.0) (quiet_rest (after s e) es all.1)

  pub quiet_since : (l : Limits) (log seen : List (Entry U X L)) → HasNoPlaceSince log seen → HasSameOpenings (state_of l seen) (state_of l log)
  quiet_since l log seen h =
      subst (λ (t : State). HasSameOpenings (state_of l seen) t) (sym (ap (state_of l) h.grown ∙ state_joined l seen h.rest)) (quiet_rest (state_of l seen) h.rest h.quiet)

  -- the state after one entry more
  pub state_next : (l : Limits) (log : List (Entry U X L)) (e : Entry U X L) → state_of l (log ++ e ∷ []) ≡ after (state_of l log) e
  state_next l log e = state_joined l log (e ∷ [])
