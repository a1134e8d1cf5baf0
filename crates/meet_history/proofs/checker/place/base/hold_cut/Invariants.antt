-- What stays true from turn to turn of `hold_cut`, src/checker/place/base.rt.
use Rattle.std.proofs.Common.{◌≡◌, ◌≤◌, length, map, take}
use Rattle.meet_tickets.specs.Bases.{cut_held}
use Rattle.meet_core.specs.Table.{hold_at, flag_at}
use Rattle.meet_history.specs.Laid.{held_once}
use Rattle.meet_history.proofs.checker.place.base.hold_cut.Given as goal

abbrev pub invariant-loop-cut : goal.invariant-loop-cut
invariant-loop-cut l = record {
  holds : hold_at l.table.holds ≡ held_once (hold_at l.fn.table.holds) (map cut_held (take l.cut-index l.cuts));
  flags : flag_at l.table.flags ≡ flag_at l.fn.table.flags;
  more : length l.fn.table.holds ≤ length l.table.holds;
}
