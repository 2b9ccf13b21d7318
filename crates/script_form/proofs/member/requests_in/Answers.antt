use Rattle.std.proofs.Common.{arith}
use Rattle.serde_json.specs.View.{view}
use Rattle.script_form.proofs.Listeners.{of_values}
use Rattle.script_form.proofs.member.requests_in.Goals as goal

pub returns-in-Some : goal.returns-in-Some
returns-in-Some c =
    let listed = of_values c.args.schema.now c.args.defaults.now (view c.args.value.now) c.in-Some.texts.now.items c.in-Some.ensures in
    grind (arith, listed, c.as_slice.ensures.value, c.each_request.ensures)
