-- What is numbered up to a moment stands before what is numbered above it.
use Rattle.meet_book.proofs.Standing.{moment_orders}
use Rattle.pool_threads.proofs.laws.closed_pools_keep_order.Goals as goal

pub returns : goal.returns
returns c = λ gone records lists listed. moment_orders gone records lists listed
