-- Proof of `poll_all`, src/book/drain.rt. Polls so many times, where so many items, tickets and places are there, and
-- this empty list has room for what comes; the watch is told of each seat that may go on.
use Rattle.std.proofs.Common.{◌≡◌, ◌+◌, ◌∙◌, ap, arith, length}
use Rattle.std.proofs.lemmas.Grind.{common_steps}
use Rattle.meet_book.proofs.Draining.{Polls-last, AreNumbered-last}
use Rattle.meet_book.proofs.book.drain.poll_all.Goals as goal

pub loop-preserved : goal.loop-preserved
loop-preserved g c =
    let before = c.loop.invariant in
    let one = c.poll_one.ensures in
    let so_far : length c.loop.records.items ≡ length c.args.records.now.items + length c.loop.got.items = ap length before.records ∙ grind (arith, common_steps) in
    let place : c.poll_one.result.1.place ≡ c.args.gone + length c.args.records.now.items + length c.loop.got.items + 1 = omega (arith, one.place, so_far) in
    record {
      count = grind (arith, common_steps);
      room = c.push_reserved.ensures.capacity ∙ before.room;
      polls = rw c.push_reserved.ensures.items (Polls-last _ _ c.args.object.now c.loop.object c.poll_one.new.object c.loop.got.items c.poll_one.result before.polls (one.step, one.takes) one.record);
      records = grind (arith, common_steps);
      numbered = rw c.push_reserved.ensures.items (AreNumbered-last (c.args.gone + length c.args.records.now.items) c.loop.got.items c.poll_one.result before.numbered place);
      leads = λ base leads. one.leads base (before.leads base leads);
      there = omega (arith, one.takes.available, before.there);
      tickets = omega (arith, one.takes.tickets, before.tickets);
      spare = omega (arith, one.spare, before.spare);
      free = one.takes.free;
      owed = one.takes.owed ∙ before.owed;
      places = grind (arith, common_steps);
      capacity = one.capacity ∙ before.capacity;
    }
