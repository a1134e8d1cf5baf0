-- Proof of `chosen`, src/coming/answering.rt. Those of these deeds that may come next.
use Rattle.std.proofs.Common.{sym, subst, ◌+◌, take}
use Rattle.meet_explain.specs.Answers.{AreChosen, MayCome}
use Rattle.meet_explain.proofs.Choosing.{chosen_next}
use Rattle.meet_explain.proofs.coming.answering.chosen.Goals as goal

pub loop-deed-preserved : goal.loop-deed-preserved
loop-deed-preserved c =
    subst (AreChosen (MayCome c.args.kind c.args.base.now c.args.seat c.args.ticket) (take (c.loop-deed.deed-index + 1) c.args.deeds.now)) (sym c.in_ok-joins.ensures)
    (chosen_next (MayCome c.args.kind c.args.base.now c.args.seat c.args.ticket) c.args.deeds.now c.loop-deed.list.items c.loop-deed.deed-index c.deed-item.result c.may_come-may.result
    c.loop-deed-test.true (sym c.deed-item.is) c.may_come-may.ensures c.loop-deed.invariant)
