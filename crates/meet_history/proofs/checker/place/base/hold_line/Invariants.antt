-- What stays true from turn to turn of `hold_line`, src/checker/place/base.rt.
use Rattle.std.proofs.Common.{◌≡◌, length, take}
use Rattle.meet_core.specs.Table.{hold_at, flag_at}
use Rattle.meet_history.specs.Checking.{AreSeated}
use Rattle.meet_history.specs.Laid.{held_once, waiting_in_line}
use Rattle.meet_history.proofs.checker.place.base.hold_line.Given as goal

abbrev pub invariant-loop-entry : goal.invariant-loop-entry
invariant-loop-entry l = record {
  holds : hold_at l.table.holds ≡ held_once (hold_at l.fn.table.holds) (waiting_in_line (take l.entry-index l.line));
  flags : flag_at l.table.flags ≡ flag_at l.fn.table.flags;
  seated : AreSeated (length l.table.holds) (take l.entry-index l.line);
}
