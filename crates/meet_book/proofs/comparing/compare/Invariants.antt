-- What stays true from turn to turn of `compare`, src/comparing.rt.
use Rattle.std.proofs.Common.{◌<◌, ℕ, map}
use Rattle.meet_book.specs.Listed.{IsListed}
use Rattle.meet_book.proofs.comparing.compare.Given as goal

-- nothing differs so far
abbrev pub invariant-loop-number : goal.invariant-loop-number
invariant-loop-number g l =
    (seat : ℕ) → seat < l.number → IsListed l.gone l.records (map g.H.Holds.held l.seats) seat
