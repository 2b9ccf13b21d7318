-- What the bodies of requests read to, or the message of their refusal.
use Rattle.std.specs.Prelude.{ℕ, List, [], ◌∷◌, map, Result, Ok, Err, codes}
use Rattle.std.specs.Result.{result_map_both}
use Rattle.doc_model.specs.ReadDoc.{doc_of}
use Rattle.request_form.specs.declared.commit.CommitForm.{CommitForm}
use Rattle.request_form.specs.declared.delete.DeleteForm.{DeleteForm}
use Rattle.request_form.specs.declared.delete.DeleteForm.TheVariants as delete_form
use Rattle.request_form.specs.declared.fault.RequestFault.{RequestFault}
use Rattle.request_form.specs.declared.request.Defaults.{Defaults}
use Rattle.request_form.specs.declared.request.Request.{Request}
use Rattle.request_form.specs.Commits as commits
use Rattle.request_form.specs.Deletes.{delete_of}
use Rattle.request_form.specs.Messages.{request_message}
use Rattle.request_form.specs.Params.{params_of}
use Rattle.request_form.specs.Requests.{request_of}
use Rattle.search_model.specs.Live.{Change, added, deleted_id, deleted_query}
use Rattle.search_model.specs.Answer.{Asked}
use Rattle.search_model.specs.Messages.{doc_message}
use Rattle.script_form.specs.declared.config.Config.{Config}
use Rattle.run_laws.specs.Rows.{Verb, add, delete}
use Rattle.run_laws.specs.Calls.{Call}

-- what the configuration says of requests that do not say it themselves
abbrev pub defaults_of : Config → Defaults
defaults_of c = record { df = c.df; most = c.most_clauses }

-- what a delete takes away
abbrev pub change_by : DeleteForm → Change
change_by (delete_form.Id id) = deleted_id id
change_by (delete_form.Query query) = deleted_query query

-- an add's document, and what a delete's parameters take away
abbrev pub update_of : Config → Call → Result Change (List ℕ)
update_of c call = by_verb call.verb
  where
    by_verb : Verb → Result Change (List ℕ)
    by_verb add = result_map_both added doc_message (doc_of c.schema call.body)
    by_verb delete = result_map_both change_by request_message (delete_of c.schema.list (defaults_of c) (params_of call.body))
    by_verb _ = Err []

-- what a commit's parameters read to, or the message of their first fault
abbrev pub commit_told : Result CommitForm RequestFault → Result CommitForm (List ℕ)
commit_told read = result_map_both (λ form. form) request_message read

-- whether a commit opens a searcher, and whether its client waits for it; it may have no parameters
abbrev pub commit_of : List ℕ → Result CommitForm (List ℕ)
commit_of [] = commit_told (commits.commit_of [])
commit_of body = commit_told (commits.commit_of (params_of body))

-- what a request asks for
abbrev pub asked_by : Request → Asked
asked_by r = record {
  query = r.q;
  filters = map (λ f. f.query) r.filters;
  sort = r.sort;
  start = r.start;
  rows = r.rows;
  fields = r.fields;
}

-- what a query asks for, or the message of its first fault
abbrev pub query_of : Config → List ℕ → Result Asked (List ℕ)
query_of c body = result_map_both asked_by request_message (request_of c.schema.list (defaults_of c) (params_of body))
