-- The clients of a script that is read are few.
use Rattle.std.proofs.Common.{ℕ, ◌<◌, IfSome, arith}
use Rattle.script_form.specs.declared.script.What.{What}
use Rattle.script_form.specs.declared.script.What.TheVariants as what
use Rattle.script_form.specs.Ranges.{HasClient}
use Rattle.client_runner.specs.RunOrder.{client_of}

pub are_few : (w : What) → HasClient 12 w → IfSome (client_of w) (λ client. client < 16)
are_few (what.Add client body) h = omega (arith, h.0, h.1)
are_few (what.Delete client body) h = omega (arith, h.0, h.1)
are_few (what.Query client body) h = omega (arith, h.0, h.1)
are_few (what.Commit client body) h = omega (arith, h.0, h.1)
are_few what.PhaseEnd h = tt
are_few what.Nothing h = tt
