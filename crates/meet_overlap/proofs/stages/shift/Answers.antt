-- Proof of `shift`, src/stages.rt. Moves the window's begin behind the calls that are over.
use Rattle.std.proofs.Common.{◌<◌, ◌∙◌, length, arith}
use Rattle.meet_overlap.proofs.Windows.{stage_dropped}
use Rattle.meet_overlap.proofs.stages.shift.Goals as goal

pub loop-window-preserved : goal.loop-window-preserved
loop-window-preserved c =
    let items = c.loop-window.window.stages.items in
    let some : 0 < length items = omega (arith, c.len.ensures, c.loop-window-test.true) in
    stage_dropped c.loop-window.window.first c.index.result.now items c.remove-over.new.self.items some c.index.ensures c.in-Over.is c.remove-over.ensures.items
    ∙ c.loop-window.invariant
