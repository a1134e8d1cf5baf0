-- Proof of `leads_nowhere`, src/search.rt. Whether it is known that this world leads nowhere: a call should have ended,
-- or was met so as it doesn't answer, or the world was seen before.
use Rattle.meet_overlap.specs.Places.{world_of}
use Rattle.meet_overlap.proofs.Answering.{misled_barren}
use Rattle.meet_overlap.proofs.Barren.{overdue_barren, known_barren}
use Rattle.meet_overlap.proofs.search.leads_nowhere.Goals as goal

pub returns-then-is_overdue : goal.returns-then-is_overdue
returns-then-is_overdue c = λ _. overdue_barren c.args.kind c.args.calls.now (world_of c.args.reached.now) (c.is_overdue.ensures c.if-is_overdue.true)

pub returns-then-is_misled : goal.returns-then-is_misled
returns-then-is_misled c = λ _. misled_barren c.args.kind c.args.calls.now (world_of c.args.reached.now) (c.is_misled.ensures c.if-is_misled.true)

pub returns : goal.returns
returns c = λ yes. known_barren c.args.kind c.args.calls.now c.args.seen.now.worlds.items c.args.reached.now c.requires (c.has.ensures yes)
