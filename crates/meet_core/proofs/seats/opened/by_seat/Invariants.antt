-- What stays true from turn to turn of `by_seat`, src/seats/opened.rt.
use Rattle.std.proofs.Common.{◌≡◌, length}
use Rattle.meet_core.specs.Opened.{pair_at, cut_at, flagged_at, gathered}
use Rattle.meet_core.proofs.seats.opened.by_seat.Given as goal

-- what so many seats have is there
abbrev pub invariant-loop-number : goal.invariant-loop-number
invariant-loop-number g l = record {
  pairs : l.pairs.items ≡ gathered (pair_at g.T.Marked.mark_of l.table) l.number;
  cut : l.cut.items ≡ gathered (cut_at g.T.Marked.mark_of l.table) l.number;
  flags : l.flags.items ≡ gathered (flagged_at l.table) l.number;
  end : l.number-end ≡ length l.table.holds;
}
