-- What stays true from turn to turn of `chosen`, src/coming/answering.rt.
use Rattle.std.proofs.Common.{take}
use Rattle.meet_explain.specs.Answers.{AreChosen, MayCome}
use Rattle.meet_explain.proofs.coming.answering.chosen.Given as goal

-- those of the deeds so far
abbrev pub invariant-loop-deed : goal.invariant-loop-deed
invariant-loop-deed l = AreChosen (MayCome l.kind l.base l.seat l.ticket) (take l.deed-index l.deeds) l.list.items
