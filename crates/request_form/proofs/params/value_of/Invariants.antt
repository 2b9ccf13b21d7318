use Rattle.std.proofs.Common.{◌≡◌, drop}
use Rattle.request_form.specs.Params.{value_of}
use Rattle.request_form.proofs.params.value_of.Given as goal

-- the first of the name is the first of those that are left
abbrev pub invariant-loop-param : goal.invariant-loop-param
invariant-loop-param l = value_of l.name (drop l.param-index l.params) ≡ value_of l.name l.params
