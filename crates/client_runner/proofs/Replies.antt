-- The reply of a query, from its parts.
use Rattle.std.proofs.Common.{◌≡◌, ◌≤◌, refl, ◌∙◌, ap, ap₂, ℕ, List, length, take, drop, length-take, length-drop, arith}
use Rattle.serde_json.specs.Written.{compact_text}
use Rattle.doc_model.specs.Document.{Document}
use Rattle.request_form.specs.declared.request.Request.{Request}
use Rattle.search_model.specs.Answer.{answer, matching}
use Rattle.search_model.specs.Reply.{docs_items, found_object}
use Rattle.script_form.specs.declared.config.Config.{Config}
use Rattle.run_laws.specs.CallReadings.{asked_by}
use Rattle.client_runner.specs.declared.runner.Reply.{Reply}
use Rattle.client_runner.specs.Standings.{Shown, found_by}

pub shown_found : (c : Config) (docs : List Document) (r : Request) (page : List Document) (reply : Reply) →
    reply.text ≡ compact_text (found_object (docs_items c.schema r.fields page) reply.found r.start) → reply.code ≡ 0 →
    page ≡ (answer docs (asked_by r)).docs → reply.found ≡ (answer docs (asked_by r)).found → reply.docs ≡ length page →
    Shown c (found_by docs r) reply
shown_found c docs r page reply text code ep en ek =
    record {
      text = text ∙ ap₂ (λ ds m. compact_text (found_object (docs_items c.schema r.fields ds) m r.start)) ep en;
      code = code;
      found = en;
      docs = ek ∙ ap length ep;
    }

-- a page is no longer than what was found
pub page_within : {A : Type 0} (start rows : ℕ) (xs : List A) → length (take rows (drop start xs)) ≤ length xs
page_within start rows xs = simp (length-take, length-drop) (omega arith)
