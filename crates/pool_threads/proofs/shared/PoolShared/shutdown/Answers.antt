-- Proof of `PoolShared::shutdown`, src/shared.rt. Shuts the pool down.
use Rattle.std.proofs.Common.{subst}
use Rattle.std.specs.Prelude.{option_to_list}
use Rattle.meet_place.specs.Seats.{Adds}
use Rattle.pool_core.specs.Placed.{pool_record}
use Rattle.pool_core.specs.declared.calls.PoolCall.TheVariants as call
use Rattle.pool_threads.proofs.shared.PoolShared.shutdown.Goals as goal
use Rattle.pool_threads.proofs.shared.PoolShared.shutdown.Goals.{in-Ok+in-WasShut, in-Err}

pub returns-clause-adds : goal.returns-clause-adds
returns-clause-adds g c = elim c.match-step.branch [
  | in-Ok+in-WasShut b ↦ rw b.result-is
      (subst (λ a. Adds c.args.seat.now.list c.step.new.seat.list (option_to_list (pool_record (λ x. x) c.args.seat.now.number call.ShutDown a)))
      b.in-WasShut.is b.in-Ok.ensures.adds)
  | in-Err b ↦ rw b.result-is tt
]
