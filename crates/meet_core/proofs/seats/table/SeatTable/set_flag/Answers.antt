-- Proof of `SeatTable::set_flag`, src/seats/table.rt. Sets or clears this seat's flag.
use Rattle.std.proofs.Common.{◌<◌, length, arith, false}
use Rattle.meet_core.proofs.Written.{put_at-set}
use Rattle.meet_core.proofs.seats.table.SeatTable.set_flag.Goals as goal

pub returns-clause-flags : goal.returns-clause-flags
returns-clause-flags g c =
    let flags = c.self.inside.flags.items in
    let below : c.args.seat < length c.self.inside.holds.items = rw (← c.self.view_is) at c.requires in
    let there : c.args.seat < length flags = omega (arith, c.self.invariant.0) in
    rw (← c.self.view_is, c.number.ensures.value) (put_at-set flags c.args.seat c.args.flag false there)
