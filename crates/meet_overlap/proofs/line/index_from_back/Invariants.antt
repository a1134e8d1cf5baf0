-- What stays true from turn to turn of `index_from_back`, src/line.rt.
use Rattle.std.proofs.Common.{ℕ, ◌<◌, ◌≤◌, length, get_or}
use Rattle.meet_tickets.specs.declared.lines.Entry.{Entry}
use Rattle.meet_overlap.proofs.line.index_from_back.Given as goal

-- the tickets from here on are above the one that is looked for
abbrev pub invariant-loop-index : goal.invariant-loop-index
invariant-loop-index l = (l.index ≤ length l.entries)
    × ((k : ℕ) (d : Entry ℕ) → l.index ≤ k → k < length l.entries → l.ticket < (get_or l.entries k d).ticket)

-- how many are left
abbrev pub decreases-loop-index : goal.decreases-loop-index
decreases-loop-index l = l.index
