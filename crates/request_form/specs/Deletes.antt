-- Which delete a list of parameters reads to.
use Rattle.std.specs.Prelude.{ℕ, List, Option, Some, None, Result, Ok, Err, codes}
use Rattle.field_schema.specs.declared.field.Field.{Field}
use Rattle.query_text.specs.declared.op.Op.TheVariants as op
use Rattle.query_text.specs.declared.reader.Parsed.{Parsed}
use Rattle.query_text.specs.Reads.{reading}
use Rattle.query_text.specs.Sorts.{and_then}
use Rattle.request_form.specs.declared.delete.DeleteForm.{DeleteForm}
use Rattle.request_form.specs.declared.delete.DeleteForm.TheVariants as delete
use Rattle.request_form.specs.declared.fault.RequestFault.{RequestFault}
use Rattle.request_form.specs.declared.fault.RequestFault.TheVariants as fault
use Rattle.request_form.specs.declared.params.Param.{Param}
use Rattle.request_form.specs.declared.request.Defaults.{Defaults}
use Rattle.request_form.specs.Params.{value_of}
use Rattle.request_form.specs.Requests.{query_told}

-- the delete of what a query finds, read with OR and the configuration's field
abbrev pub delete_by : List Field → Defaults → List ℕ → Result DeleteForm RequestFault
delete_by fields d text =
    and_then (query_told fault.DeleteQuery (reading fields d.df op.Or d.most text))
    (λ p. Ok (delete.Query p.query))

-- the same, where there is a query
abbrev pub delete_where : List Field → Defaults → Option (List ℕ) → Result DeleteForm RequestFault
delete_where fields d None = Err (fault.BadFlag (codes "id"))
delete_where fields d (Some text) = delete_by fields d text

-- the delete of a document by its unique key, if there is one; then no query is read
abbrev pub delete_named : List Field → Defaults → Option (List ℕ) → Option (List ℕ)
    → Result DeleteForm RequestFault
delete_named fields d (Some id) query = Ok (delete.Id id)
delete_named fields d None query = delete_where fields d query

-- the delete, or its first fault
abbrev pub delete_of : List Field → Defaults → List Param → Result DeleteForm RequestFault
delete_of fields d ps =
    delete_named fields d (value_of (codes "id") ps) (value_of (codes "query") ps)
