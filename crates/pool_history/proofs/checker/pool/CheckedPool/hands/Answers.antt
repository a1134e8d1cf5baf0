-- Proof of `CheckedPool::hands`, src/checker/pool/callers.rt. The waiting worker that is met gets the job.
use Rattle.std.proofs.Common.{◌≡◌, ◌∙◌, ◌-◌, ℕ, sym, ap, refl, arith}
use Rattle.meet_tickets.specs.declared.lines.Entry.{Entry}
use Rattle.pool_core.proofs.Stays.{takes-from}
use Rattle.pool_core.specs.Histories.{next_moment}
use Rattle.pool_core.specs.Pools.{met_one, staged}
use Rattle.pool_core.specs.Steps.{Allows}
use Rattle.pool_core.specs.declared.deeds.PoolDeed.TheVariants.{Handed}
use Rattle.pool_core.specs.declared.stages.Stage.TheVariants.{HandedOver}
use Rattle.pool_core.specs.declared.stages.Task.{Task}
use Rattle.std.specs.Option.{option_map_or}
use Rattle.pool_history.specs.Inside.{moment_in}
use Rattle.pool_history.proofs.Taken.{met-worker, orderly-at, worker-met}
use Rattle.pool_history.proofs.checker.pool.CheckedPool.hands.Goals as goal

pub overflow_sub-met : goal.overflow_sub-met
overflow_sub-met c =
    let found = rw c.self.invariant.order at (sym c.in-Some.ensures.partner) in
    let takes = takes-from c.in-Some.taker c.self.invariant.orderly.sound found in
    rw c.number.ensures.value takes.from

pub put-requires : goal.put-requires
put-requires c =
    let found = rw c.self.invariant.order at (sym c.in-Some.ensures.partner) in
    let takes = takes-from c.in-Some.taker c.self.invariant.orderly.sound found in
    rw c.number.ensures.value takes.there

pub returns-clause-allowed : goal.returns-clause-allowed
returns-clause-allowed c =
    let well = c.self.invariant in
    let caller = rw (← c.self.view_is) at c.requires.caller in
    let placed = rw (← c.self.view_is) at (c.goes.ensures.0 c.if-not-goes.false) in
    let found = rw well.order at (sym c.in-Some.ensures.partner) in
    let from = (takes-from c.in-Some.taker well.orderly.sound found).from in
    rw (← c.self.view_is) (
      (λ is. (caller, placed, (c.in-Some.taker, found, met-worker _ _ _ _ c.number.ensures.value from is))),
      (λ allowed. worker-met _ _ _ _ c.number.ensures.value (ap (λ o. option_map_or (λ (e : Entry ℕ). e.seat) o 0) (sym found ∙ allowed.2.1) ∙ allowed.2.2)),
    )

pub invariant_of-self-2 : goal.invariant_of-self-2
invariant_of-self-2 c =
    let well = c.self.invariant in
    let s = c.self.inside.settings in
    let m = moment_in c.self.inside in
    let caller = rw (← c.self.view_is) at c.requires.caller in
    let placed = rw (← c.self.view_is) at (c.goes.ensures.0 c.if-not-goes.false) in
    let found = rw well.order at (sym c.in-Some.ensures.partner) in
    let from = (takes-from c.in-Some.taker well.orderly.sound found).from in
    let value = c.number.ensures.value in
    let task : Task ℕ = record { ticket = c.args.ticket; job = c.args.tag } in
    let left = ap (λ o. option_map_or (λ (f : Entry ℕ). staged (met_one s m.pool) (c.number.result - s.sizes.callers) (HandedOver f.ticket task)) o m.pool) found in
    let allowed : Allows s m.pool c.args.seat c.args.ticket (Handed (c.number.result - s.sizes.callers) c.args.tag) = (caller, placed, (c.in-Some.taker, found, omega (arith, from, value))) in
    let same : moment_in (record c.self.inside { last = c.later-self-inside.result; line = c.partner.new.self; workers = c.put.new.self }) ≡ next_moment s m (record { seat = c.args.seat; ticket = c.args.ticket; deed = Handed (c.number.result - s.sizes.callers) c.args.tag }) = rw (c.later-self-inside.ensures.greater, c.in-Some.ensures.entries, c.put.ensures.stages, well.order, left) refl in
    record {
      orderly = orderly-at s m (moment_in (record c.self.inside { last = c.later-self-inside.result; line = c.partner.new.self; workers = c.put.new.self })) c.args.seat c.args.ticket (Handed (c.number.result - s.sizes.callers) c.args.tag) well.orderly c.later-self-inside.ensures.limit (λ some. rw (← c.self.view_is) at c.requires.above) allowed same;
      order = c.in-Some.ensures.end ∙ well.order;
    }
