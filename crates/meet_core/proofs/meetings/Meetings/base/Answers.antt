-- Proof of `Meetings::base`, src/meetings/bases.rt. The base of this queue, where so many records were folded away.
use Rattle.std.proofs.Common.{refl}
use Rattle.meet_core.specs.Queue.{Queue}
use Rattle.meet_core.proofs.BaseOfQueue.{stands_so}
use Rattle.meet_core.proofs.meetings.Meetings.base.Goals as goal

pub returns-clause-base : goal.returns-clause-base
returns-clause-base g c =
    let q : Queue g.row.T.Denot = record { line = g.L.Line.entries c.self.inside.line; room = g.L.Line.spare c.self.inside.line; table = c.self.inside.seats; last = c.self.inside.last; next = c.self.inside.next } in
    let opened = c.in_ok-opened.ensures in
    rw (← c.self.view_is) (stands_so g.T.Marked.mark_of q c.args.gone _ refl refl c.in_ok-line.ensures.entries opened.pairs opened.pairs_rise opened.cut opened.cut_rises opened.flags opened.seats)
