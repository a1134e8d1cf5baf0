-- Proof of `read_request`, src/requests.rt. The call of a line of a pool's script, or none where the line is at fault.
use Rattle.pool_run.proofs.RequestLemmas.{request-limits}
use Rattle.pool_run.proofs.requests.read_request.Goals as goal

pub returns-clause-fits : goal.returns-clause-fits
returns-clause-fits c = request-limits c.args.line.now c.read_long_request.result c.read_long_request.ensures
