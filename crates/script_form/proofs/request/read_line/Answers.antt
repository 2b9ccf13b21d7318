use Rattle.std.proofs.Common.{◌≡◌, ap, sym, ◌∙◌, refl, subst}
use Rattle.field_schema.specs.Outcome.{Gives}
use Rattle.script_form.specs.ReadScript.{is_no_memory, told, what_in, what_of}
use Rattle.script_form.proofs.Scripts.{what_of_text, what_of_bytes}
use Rattle.script_form.proofs.request.read_line.Goals as goal

pub returns-in-Ok : goal.returns-in-Ok
returns-in-Ok c =
    let same : what_in c.args.clients c.in-Ok.text.now ≡ what_of c.args.clients c.args.line.now =
    ap (what_in c.args.clients) c.in-Ok.ensures.cases.0 ∙ sym (what_of_text c.args.clients c.args.line.now c.in-Ok.ensures.cases.1) in
    subst (λ w. Gives is_no_memory c.read_text.result (told c.args.number w)) same c.read_text.ensures

pub returns-in-Err : goal.returns-in-Err
returns-in-Err c = rw (c.fault.ensures, what_of_bytes c.args.clients c.args.line.now c.in-Err.ensures.cases.0) refl
