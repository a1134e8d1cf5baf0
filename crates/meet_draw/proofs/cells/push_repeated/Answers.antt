-- Proof of `push_repeated`, src/cells.rt. Appends a sign so many times.
use Rattle.meet_draw.proofs.Repeats.{repeated-more}
use Rattle.meet_draw.proofs.cells.push_repeated.Goals as goal

pub loop-preserved : goal.loop-preserved
loop-preserved c = repeated-more c.args.out.now.items c.loop.out.items c.extend_from_slice.new.self.items c.args.sign.now c.loop.counter c.loop.invariant c.in_ok-extend_from_slice.ensures.items
