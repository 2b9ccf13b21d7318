use Rattle.std.proofs.Common.{◌≡◌, refl, sym, ◌∙◌, length, map}
use Rattle.std.proofs.lemmas.List.{length-map}
use Rattle.std.specs.Arc.{arc_value}
use Rattle.client_runner.proofs.Replies.{shown_found}
use Rattle.client_runner.proofs.serve.found_reply.Goals as goal

-- the page and the count are those of the answer
pub returns-clause-shown : goal.returns-clause-shown
returns-clause-shown g c =
    shown_found c.args.config.now c.args.index.now.served c.args.request.now (map arc_value c.in_ok-served.served.docs.items) _
    c.in_ok-reply_text.ensures refl c.in_ok-served.ensures.docs c.in_ok-served.ensures.found
    (c.len-docs.ensures ∙ c.in_ok-served.served.docs.ok.0 ∙ sym (length-map c.in_ok-served.served.docs.items arc_value))
