-- Proof of `PoolShared::shutdown_now`, src/shared.rt. Shuts the pool down, and takes all kept jobs out, in their order.
use Rattle.std.proofs.Common.{◌≡◌, [], ◌∷◌, length, sym, ap, ◌∙◌, subst}
use Rattle.std.specs.Prelude.{option_to_list}
use Rattle.std.proofs.lemmas.List.{length-map}
use Rattle.meet_place.specs.Seats.{Adds}
use Rattle.pool_core.specs.Moves.{job_in}
use Rattle.pool_core.specs.Placed.{PoolStep, pool_record}
use Rattle.pool_core.specs.Pools.{kept_tasks}
use Rattle.pool_core.specs.declared.calls.PoolCall.TheVariants as call
use Rattle.pool_core.specs.declared.deeds.PoolDeed.TheVariants.{ShutDownNow}
use Rattle.pool_threads.specs.Mirrored.{tag_in}
use Rattle.pool_threads.proofs.shared.PoolShared.shutdown_now.Goals as goal
use Rattle.pool_threads.proofs.shared.PoolShared.shutdown_now.Goals.{in-Ok+in-Returned, in-Err}

pub returns-clause-adds : goal.returns-clause-adds
returns-clause-adds g c =
    let n = c.args.seat.now.number in
    let was = c.args.seat.now.list in
    let is = c.step.new.seat.list in
    let object = c.self.inside.shared.object in
    let kept = c.self.inside.kept.items in
    elim c.match-step.branch [
      | in-Ok+in-Returned b ↦
          let adds = subst (λ a. Adds was is (option_to_list (pool_record (λ x. x) n call.ShutDownNow a))) b.in-Returned.is b.in-Ok.ensures.adds in
          let step = subst (λ a. PoolStep object n call.ShutDownNow a c.step.new.self.object) b.in-Returned.is b.in-Ok.ensures.step.step in
          let many : length b.in-Returned._tasks.items ≡ length b.replace.result.items = ap length step.1 ∙ sym (length-map (kept_tasks object.pool.line) job_in)
          ∙ sym (ap (λ jobs. length jobs.kept) c.self.invariant.0) ∙ length-map kept tag_in ∙ sym (ap (λ d. length d.items) b.replace.ensures.value) in
          rw b.result-is (subst (λ k. Adds was is (record { seat = n; ticket = 0; deed = ShutDownNow k } ∷ [])) many adds)
      | in-Err b ↦ rw b.result-is tt
    ]
