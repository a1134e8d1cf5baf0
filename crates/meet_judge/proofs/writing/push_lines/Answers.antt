-- Proof of `push_lines`, src/writing.rt. Appends the lines of calls.
use Rattle.meet_judge.proofs.Lines.{one_more}
use Rattle.meet_judge.proofs.writing.push_lines.Goals as goal

pub loop-call-preserved : goal.loop-call-preserved
loop-call-preserved c =
    one_more c.args.order c.args.calls.now c.loop-call.call-index c.call-item.result c.args.out.now.items c.loop-call.out.items c.push_call.new.out.items
    c.loop-call-test.true c.call-item.is c.loop-call.invariant c.in_ok-push_call.ensures
