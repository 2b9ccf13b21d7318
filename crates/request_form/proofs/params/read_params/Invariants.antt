use Rattle.std.proofs.Common.{◌≡◌, ◌++◌, map}
use Rattle.form_urlencoded.specs.Parse.{owned_pairs_left}
use Rattle.request_form.specs.Params.{param_of, params_of}
use Rattle.request_form.proofs.params.read_params.Given as goal

-- those so far, and the pairs that are left
abbrev pub invariant-loop-pair : goal.invariant-loop-pair
invariant-loop-pair l = l.params.items ++ map param_of (owned_pairs_left l.pair-iterator) ≡ params_of l.text
