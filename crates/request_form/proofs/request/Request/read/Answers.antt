use Rattle.request_form.specs.Requests.{request_of}
use Rattle.request_form.proofs.Fits.{given_fits, request_fits}
use Rattle.request_form.proofs.request.Request.read.Goals as goal

pub returns-clause-ranges : goal.returns-clause-ranges
returns-clause-ranges c =
    given_fits c.read_request.result (request_of c.args.schema.now.list c.args.defaults.now c.as_slice.result.now) c.read_request.ensures (request_fits c.args.schema.now.list c.args.defaults.now c.as_slice.result.now)
