use Rattle.std.proofs.Common.{append_assoc}
use Rattle.script_maker.proofs.making.put_query.Goals as goal

-- the pieces one behind another, with the number of the client
pub returns : goal.returns
returns c = record { is = simp append_assoc (rw c.client_of-client.ensures at c.in_ok-write.ensures.bytes) }
