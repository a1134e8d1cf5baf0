-- What stays true from turn to turn of `hold_pairs`, src/checker/place/base.rt.
use Rattle.std.proofs.Common.{◌≡◌, ◌≤◌, length, map, take}
use Rattle.meet_tickets.specs.Bases.{paired_held}
use Rattle.meet_core.specs.Table.{hold_at, flag_at}
use Rattle.meet_history.specs.Laid.{held_once}
use Rattle.meet_history.proofs.checker.place.base.hold_pairs.Given as goal

abbrev pub invariant-loop-pair : goal.invariant-loop-pair
invariant-loop-pair l = record {
  holds : hold_at l.table.holds ≡ held_once (hold_at l.fn.table.holds) (map paired_held (take l.pair-index l.pairs));
  flags : flag_at l.table.flags ≡ flag_at l.fn.table.flags;
  more : length l.fn.table.holds ≤ length l.table.holds;
}
