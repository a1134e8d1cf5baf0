-- Proof of `PoolShared::start_failed`, src/steps.rt. A worker couldn't be started.
use Rattle.std.proofs.Common.{◌∙◌, sym, map}
use Rattle.pool_core.specs.Moves.{jobs_of}
use Rattle.pool_core.specs.Pools.{worker_of}
use Rattle.pool_threads.specs.Mirrored.{tags_of, tag_in, away}
use Rattle.pool_threads.proofs.Stepping.{failed_moves}
use Rattle.pool_threads.proofs.shared.PoolShared.start_failed.Goals as goal
use Rattle.pool_threads.proofs.shared.PoolShared.start_failed.Goals.{in-Err, in-Ok+in-NotStarted}

pub invariant_of-self : goal.invariant_of-self
invariant_of-self g c = elim c.match-step.branch [
  | in-Err b ↦ rw b.self-inside-is (c.self.invariant.0 ∙ sym b.in-Err.ensures.same.1, c.step.ensures.settings ∙ c.self.invariant.1)
  | in-Ok+in-NotStarted b ↦ rw b.self-inside-is (
    b.after_failed.ensures.moves (map tag_in c.self.inside.kept.items) (jobs_of c.step.new.shared.object.pool)
        (failed_moves c.worker_of-w.result (worker_of c.self.inside.shared.object.settings c.args.seat.number) b.in-NotStarted._ticket
        b.in-NotStarted.first b.in-Ok.answer (tags_of c.self.inside.kept.items c.self.inside.given.items (away c.self.inside.seats.items))
        (jobs_of c.self.inside.shared.object.pool) (jobs_of c.step.new.shared.object.pool) (cc) b.in-NotStarted.is c.self.invariant.0
        b.in-Ok.ensures.moves),
    c.step.ensures.settings ∙ c.self.invariant.1,
  )
]
