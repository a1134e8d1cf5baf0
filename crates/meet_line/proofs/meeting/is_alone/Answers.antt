-- Proof of `is_alone`, src/meeting.rt. Whether a request of this side finds nobody in a line of one side, in which so
-- many givers stand: its own side stands there, or no side does.
use Rattle.std.proofs.Common.{◌∙◌, sym}
use Rattle.std.proofs.lemmas.Bool.{eqb-false}
use Rattle.meet_tickets.proofs.Line.Counted.{giver-meets, giver-told, taker-meets, taker-told}
use Rattle.meet_line.proofs.meeting.is_alone.Goals as goal

pub returns-in-Giver-clause-alone : goal.returns-in-Giver-clause-alone
returns-in-Giver-clause-alone g c =
    rw c.in-Giver.is (giver-told g.L.Line.end (g.L.Line.entries c.args.line.now) c.len.result c.args.givers c.requires.side c.len.ensures.count c.requires.givers)

pub returns-in-Giver-clause-finds : goal.returns-in-Giver-clause-finds
returns-in-Giver-clause-finds g c = λ unequal.
    rw c.in-Giver.is (giver-meets g.L.Line.end (g.L.Line.entries c.args.line.now) c.requires.side (λ all. eqb-false _ _ unequal (c.len.ensures.count ∙ all ∙ sym c.requires.givers)))

pub returns-in-Taker-clause-alone : goal.returns-in-Taker-clause-alone
returns-in-Taker-clause-alone g c =
    rw c.in-Taker.is (taker-told g.L.Line.end (g.L.Line.entries c.args.line.now) c.args.givers c.requires.side c.requires.givers)

pub returns-in-Taker-clause-finds : goal.returns-in-Taker-clause-finds
returns-in-Taker-clause-finds g c = λ some.
    rw c.in-Taker.is (taker-meets g.L.Line.end (g.L.Line.entries c.args.line.now) c.requires.side (λ none. eqb-false _ _ some (c.requires.givers ∙ none)))
