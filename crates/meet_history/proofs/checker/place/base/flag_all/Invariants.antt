-- What stays true from turn to turn of `flag_all`, src/checker/place/base.rt.
use Rattle.std.proofs.Common.{◌≡◌, ◌≤◌, length, take}
use Rattle.meet_core.specs.Table.{hold_at, flag_at}
use Rattle.meet_history.specs.Laid.{flagged_once}
use Rattle.meet_history.proofs.checker.place.base.flag_all.Given as goal

abbrev pub invariant-loop-seat : goal.invariant-loop-seat
invariant-loop-seat l = record {
  holds : hold_at l.table.holds ≡ hold_at l.fn.table.holds;
  flags : flag_at l.table.flags ≡ flagged_once (flag_at l.fn.table.flags) (take l.seat-index l.seats);
  more : length l.fn.table.holds ≤ length l.table.holds;
}
