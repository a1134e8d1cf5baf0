-- Proof of `SeatTable::grow`, src/seats/table.rt. Makes it so many seats at least, at most 65,536.
use Rattle.std.proofs.Common.{◌∙◌, ◌++◌, ◌-◌, ap, replicate, false}
use Rattle.meet_tickets.specs.declared.lines.Hold.TheVariants.{Free}
use Rattle.meet_core.specs.Table.{hold_at, flag_at}
use Rattle.meet_core.proofs.Counts.{hold_at-more, flag_at-more}
use Rattle.meet_core.proofs.seats.table.SeatTable.grow.Goals as goal

pub returns-clause-holds : goal.returns-clause-holds
returns-clause-holds g c =
    let more = c.grown_to.result - c.count-was.result in
    ap hold_at (c.add_seats.ensures.holds ∙ ap (λ holds. holds ++ replicate more Free) c.reserve.ensures.items)
    ∙ hold_at-more c.self.inside.holds.items more
    ∙ ap (λ table. hold_at table.holds) c.self.view_is

pub returns-clause-flags : goal.returns-clause-flags
returns-clause-flags g c =
    let more = c.grown_to.result - c.count-was.result in
    ap flag_at (c.add_seats.ensures.flags ∙ ap (λ flags. flags ++ replicate more false) c.reserve-2.ensures.items)
    ∙ flag_at-more c.self.inside.flags.items more
    ∙ ap (λ table. flag_at table.flags) c.self.view_is
