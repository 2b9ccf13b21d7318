use Rattle.std.proofs.Common.{◌≡◌, ◌++◌, drop, codes}
use Rattle.std.specs.List.{flat_map}
use Rattle.request_form.specs.Params.{values_of}
use Rattle.request_form.specs.Values.{names_in}
use Rattle.request_form.proofs.value.read_fields.Given as goal

-- the names so far, and those of the parameters that are left
abbrev pub invariant-loop-param : goal.invariant-loop-param
invariant-loop-param l =
    l.names.items ++ flat_map names_in (values_of (codes "fl") (drop l.param-index l.params)) ≡ flat_map names_in (values_of (codes "fl") l.params)
