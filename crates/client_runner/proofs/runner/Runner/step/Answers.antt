use Rattle.std.proofs.Common.{◌≡◌, ℕ, List, Some, Option, OnOk, Bor, sym, ap, subst, ◌∙◌}
use Rattle.field_schema.specs.declared.text.Text.{Text}
use Rattle.run_laws.specs.Calls.{Call, call_as}
use Rattle.client_runner.specs.declared.rows.Verb.{Verb}
use Rattle.client_runner.specs.Runs.{FollowsIf}
use Rattle.client_runner.specs.Standings.{call_of, standing}
use Rattle.client_runner.proofs.runner.Runner.step.Goals as goal
use Rattle.client_runner.proofs.runner.Runner.step.Goals.{in-Add, in-Delete, in-Query, in-Commit}

-- the line's request is the one that is served
pub returns-clause-follows : goal.returns-clause-follows
returns-clause-follows g c =
    let asked : call_as c.args.phase c.args.line.now.number c.args.line.now.what
    ≡ Some (call_of (record { phase = c.args.phase; client = c.match-line.client.0; line = c.args.line.now.number; verb = c.match-line.client.1 }) c.match-line.client.2.now) =
    elim c.match-line.branch [
      | in-Add w ↦
          ap (call_as c.args.phase c.args.line.now.number) w.in-Add.is
          ∙ ap (λ (k : ℕ × Verb × Bor Text). Some (call_of (record { phase = c.args.phase; client = k.0; line = c.args.line.now.number; verb = k.1 }) k.2.now)) (sym w.client-is)
      | in-Delete w ↦
          ap (call_as c.args.phase c.args.line.now.number) w.in-Delete.is
          ∙ ap (λ (k : ℕ × Verb × Bor Text). Some (call_of (record { phase = c.args.phase; client = k.0; line = c.args.line.now.number; verb = k.1 }) k.2.now)) (sym w.client-is)
      | in-Query w ↦
          ap (call_as c.args.phase c.args.line.now.number) w.in-Query.is
          ∙ ap (λ (k : ℕ × Verb × Bor Text). Some (call_of (record { phase = c.args.phase; client = k.0; line = c.args.line.now.number; verb = k.1 }) k.2.now)) (sym w.client-is)
      | in-Commit w ↦
          ap (call_as c.args.phase c.args.line.now.number) w.in-Commit.is
          ∙ ap (λ (k : ℕ × Verb × Bor Text). Some (call_of (record { phase = c.args.phase; client = k.0; line = c.args.line.now.number; verb = k.1 }) k.2.now)) (sym w.client-is)
    ] in
    let served : call_as c.args.phase c.args.line.now.number c.args.line.now.what
    ≡ Some (call_of (record { phase = c.args.phase; client = c.match-line.client.0; line = c.args.line.now.number; verb = c.match-line.client.1 }) c.get.result.now) =
    asked ∙ ap (λ (t : List ℕ). Some (call_of (record { phase = c.args.phase; client = c.match-line.client.0; line = c.args.line.now.number; verb = c.match-line.client.1 }) t)) (sym c.get.ensures) in
    subst (λ (q : Option Call). OnOk c.serve.result (FollowsIf c.args.config.now q (standing c.args.self.now) (standing c.serve.new.self))) (sym served) c.serve.ensures.follows
