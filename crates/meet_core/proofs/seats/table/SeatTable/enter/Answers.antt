-- Proof of `SeatTable::enter`, src/seats/table.rt. Puts what this seat holds, where it held nothing.
use Rattle.std.proofs.Common.{◌<◌, length}
use Rattle.meet_tickets.specs.declared.lines.Hold.TheVariants.{Free}
use Rattle.meet_core.proofs.Written.{put_at-set}
use Rattle.meet_core.proofs.seats.table.SeatTable.enter.Goals as goal

pub returns-clause-holds : goal.returns-clause-holds
returns-clause-holds g c =
    let holds = c.self.inside.holds.items in
    let there : c.args.seat < length holds = rw (← c.self.view_is) at c.requires.seat in
    rw (← c.self.view_is, c.number.ensures.value, c.replace-was.ensures.after) (put_at-set holds c.args.seat c.args.hold Free there)
