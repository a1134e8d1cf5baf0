-- Proof of `with_tickets`, src/closing.rt. The kept jobs with their tickets, in their order; the tasks begin with
-- theirs.
use Rattle.std.proofs.Common.{arith}
use Rattle.std.proofs.lemmas.List.{nil_from_length}
use Rattle.pool_threads.proofs.Ticketed.{ticketed_step, ticketed_end}
use Rattle.pool_threads.proofs.closing.with_tickets.Goals as goal

pub loop-job-preserved : goal.loop-job-preserved
loop-job-preserved g c = record {
  room = omega (arith, c.loop-job.invariant.room, c.in-Some.ensures.cases, c.add_pair.ensures.len, c.add_pair.ensures.capacity);
  tickets = ticketed_step _ _ c.loop-job.kept.items c.pop_front.new.self.items c.loop-job.left.items c.add_pair.new.left.items c.in-Some.job _ _ c.next.result
      c.in-Some.ensures.items c.next.ensures.items c.add_pair.ensures.some c.add_pair.ensures.items c.loop-job.invariant.tickets;
}

pub returns : goal.returns
returns g c = ticketed_end _ _ c.loop-job.kept.items c.loop-job.left.items _
    (nil_from_length c.loop-job.kept.items (omega (arith, c.loop-job.kept.ok, c.in_default.ensures.cases.0))) c.loop-job.invariant.tickets
