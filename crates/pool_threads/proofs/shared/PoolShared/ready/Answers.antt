-- Proof of `PoolShared::ready`, src/steps.rt. A worker's `ready`.
use Rattle.std.proofs.Common.{◌≡◌, ◌∙◌, sym, subst, ap, inr}
use Rattle.std.specs.Prelude.{option_to_list}
use Rattle.meet_place.specs.Seats.{Adds}
use Rattle.pool_core.specs.Placed.{pool_record}
use Rattle.pool_core.specs.declared.calls.PoolCall.TheVariants.{Ready}
use Rattle.pool_threads.proofs.Fitting.{refused_fits, ready_fits}
use Rattle.pool_threads.specs.declared.steps.Next.TheVariants as next
use Rattle.pool_threads.proofs.Stepping.{works, moved}
use Rattle.pool_core.specs.Moves.{jobs_of}
use Rattle.pool_core.specs.Pools.{worker_of}
use Rattle.pool_threads.proofs.shared.PoolShared.ready.Goals as goal
use Rattle.pool_threads.proofs.shared.PoolShared.ready.Goals.{in-Err, in-Ok+in-BeReady}

pub returns-clause-fits : goal.returns-clause-fits
returns-clause-fits g c = elim c.match-step.branch [
  | in-Err b ↦ rw b.result-is (refused_fits c.args.seat c.step.new.self b.in-Err.ensures.same.0)
  | in-Ok+in-BeReady b ↦ rw b.result-is
      (ready_fits c.args.seat c.step.new.self b.in-BeReady._ticket c.step.ensures.number c.step.ensures.room b.in-BeReady.answer _
      (subst (λ x. Adds c.args.seat.list c.step.new.self.list (option_to_list (pool_record (λ y. y) c.args.seat.number Ready x))) b.in-BeReady.is b.in-Ok.ensures.adds)
      b.after_ready.ensures.next)
]

pub returns-clause-step : goal.returns-clause-step
returns-clause-step g c = elim c.match-step.branch [
  | in-Err b ↦ rw (b.result-is, b.self-inside-is, ← c.self.view_is) (inr (ap next.Refused b.in-Err.ensures.same.0, b.in-Err.ensures.same.1))
  | in-Ok+in-BeReady b ↦ rw (b.result-is, b.self-inside-is, ← c.self.view_is)
      (works _ _ c.args.seat c.step.new.self _ b.in-Ok.answer _ _ b.in-BeReady.is b.in-Ok.ensures.made c.step.ensures.number b.in-Ok.ensures.adds b.after_ready.ensures.next)
]

pub invariant_of-self : goal.invariant_of-self
invariant_of-self g c =
    let number = c.number.ensures in
    let looked = c.probe.ensures.object in
    let found = c.worker_of-w.ensures in
    let worker : worker_of c.self.inside.shared.object.settings c.args.seat.number ≡ c.worker_of-w.result = cc in
    elim c.match-step.branch [
      | in-Err b ↦ rw (b.self-inside-is, b.in-Err.ensures.same.1) (c.self.invariant.0, c.step.ensures.settings ∙ c.self.invariant.1)
      | in-Ok+in-BeReady b ↦ rw b.self-inside-is (
        b.after_ready.ensures.moves (jobs_of c.step.new.shared.object.pool)
            (moved Ready b.in-Ok.answer _ _ _ _ _ _ b.in-BeReady.is worker (sym c.self.invariant.0) b.in-Ok.ensures.moves),
        c.step.ensures.settings ∙ c.self.invariant.1,
      )
    ]
