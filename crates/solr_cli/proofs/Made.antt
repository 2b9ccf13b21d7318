-- The generator's script is not refused.
use Rattle.std.proofs.Common.{◌≡◌, refl, sym, ◌∙◌, ap, subst, ℕ, List, Result, Ok, Err, MatchResult}
use Rattle.std.specs.Prelude.{is_ok}
use Rattle.std.proofs.lemmas.Bool.{false≢true}
use Rattle.script_form.specs.declared.config.Config.{Config}
use Rattle.script_maker.specs.Laws.{IsCount}
use Rattle.script_maker.specs.Made.{made}
use Rattle.script_maker.proofs.MadeReads.{config_made, limits_made, script_made}
use Rattle.solr_cli.specs.declared.status.Status.{Status}
use Rattle.solr_cli.specs.declared.status.Status.TheVariants as status
use Rattle.client_runner.specs.declared.rows.Output.{Output}
use Rattle.client_runner.specs.Outputs.{output_view}
use Rattle.solr_cli.specs.Answering.{IsAnswer, IsRefusal}

-- a result is not both
not_both : {A B : Type 0} (r : Result A B) (x : A) (y : B) → r ≡ Ok x → r ≡ Err y → ⊥
not_both r x y ok err = false≢true (sym (ap is_ok (sym ok ∙ err)))

-- so nothing but memory can be wanting
pub made_refused : (n : ℕ) (s : Status) → IsCount n → IsRefusal (made n) s → s ≡ status.NoMemory
made_refused n status.Done h r = absurd r
made_refused n status.Usage h r = absurd r
made_refused n status.ReadFault h r = absurd r
made_refused n status.WriteFault h r = absurd r
made_refused n (status.BadConfig at name) h r = absurd (not_both _ _ _ (config_made n h) r.config)
made_refused n (status.BadLine line name) h r = absurd (not_both _ _ _ (script_made n h) r.1.script)
made_refused n status.TooLarge h r = absurd (false≢true (sym (limits_made n h) ∙ r))
made_refused n status.NoMemory h r = refl

-- what running it gives
pub made_answered : (n : ℕ) (bytes : List ℕ) (r : Result (Config × Output) Status) → IsCount n → bytes ≡ made n
    → MatchResult r (λ p. IsAnswer bytes p.0 (output_view p.1)) (IsRefusal bytes) → MatchResult r (λ p. IsAnswer (made n) p.0 (output_view p.1)) (λ s. s ≡ status.NoMemory)
made_answered n bytes (Ok p) h e a = subst (λ b. IsAnswer b p.0 (output_view p.1)) e a
made_answered n bytes (Err s) h e a = made_refused n s h (subst (λ b. IsRefusal b s) e a)
