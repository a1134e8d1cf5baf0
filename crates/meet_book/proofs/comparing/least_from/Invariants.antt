-- What stays true from turn to turn of `least_from`, src/comparing.rt.
use Rattle.std.proofs.Common.{take}
use Rattle.meet_book.proofs.Listing.{IsLeast}
use Rattle.meet_book.proofs.comparing.least_from.Given as goal

-- the least of the records so far
abbrev pub invariant-loop-entry : goal.invariant-loop-entry
invariant-loop-entry g l = IsLeast l.from (take l.entry-index l.records) l.least
