-- Which commit a list of parameters reads to.
use Rattle.std.specs.Prelude.{List, true, false, Result, Ok, codes}
use Rattle.query_text.specs.Sorts.{and_then}
use Rattle.request_form.specs.declared.commit.CommitForm.{CommitForm}
use Rattle.request_form.specs.declared.fault.RequestFault.{RequestFault}
use Rattle.request_form.specs.declared.params.Param.{Param}
use Rattle.request_form.specs.Values.{flag_of}

-- the commit, or its first fault; a soft commit is a plain one
abbrev pub commit_of : List Param → Result CommitForm RequestFault
commit_of ps =
    and_then (flag_of (codes "openSearcher") true ps) (λ opens.
    and_then (flag_of (codes "waitSearcher") true ps) (λ wait.
    and_then (flag_of (codes "softCommit") false ps) (λ soft.
    Ok (record { opens = opens; wait = wait }))))
