use Rattle.std.proofs.Common.{◌≡◌, ◌++◌, drop, map, option_map}
use Rattle.serde_json.specs.View.{view}
use Rattle.script_form.specs.ReadConfig.{each_some, request_in}
use Rattle.script_form.proofs.member.each_request.Given as goal

-- the requests so far, and those of the texts that are left
abbrev pub invariant-loop-text : goal.invariant-loop-text
invariant-loop-text l =
    option_map (λ rs. l.requests.items ++ rs) (each_some (request_in l.schema l.defaults) (map view (drop l.text-index l.texts)))
    ≡ each_some (request_in l.schema l.defaults) (map view l.texts)
