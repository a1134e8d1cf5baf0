-- Proof of `Pool::place`, src/pool.rt. Hands a job in, and starts no worker.
use Rattle.pool_threads.proofs.Unstarted.{handed_from}
use Rattle.pool_threads.specs.Told.{answer_told}
use Rattle.pool_threads.proofs.pool.Pool.place.Goals as goal

pub returns-in-Ok-clause-handed : goal.returns-in-Ok-clause-handed
returns-in-Ok-clause-handed g c =
    handed_from c.args.seat c.reserve.new.self c.hand.new.seat c.args.job.tag (answer_told c.in-Ok.placed.executed)
    c.reserve.ensures.number c.reserve.ensures.past c.reserve.ensures.moment c.reserve.ensures.list c.in-Ok.ensures.handed
