-- Proof of `all_effects`, src/buffer.rt. Lists the calls that can have an effect.
use Rattle.meet_overlap.proofs.Effective.{one_more}
use Rattle.meet_overlap.proofs.buffer.all_effects.Goals as goal

pub loop-call-preserved : goal.loop-call-preserved
loop-call-preserved c =
    one_more c.args.calls.now c.loop-call.call-index c.call-item.result c.loop-call.list.items c.add_effect.new.list.items
    c.loop-call-test.true c.call-item.is c.loop-call.invariant c.in_ok-add_effect.ensures
