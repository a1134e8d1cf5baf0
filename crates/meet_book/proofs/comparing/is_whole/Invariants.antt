-- What stays true from turn to turn of `is_whole`, src/comparing.rt.
use Rattle.std.proofs.Common.{◌≡◌, ◌+◌, ◌<◌, ◌≤◌, ℕ, length, map}
use Rattle.meet_book.specs.Listed.{IsListed}
use Rattle.meet_book.proofs.Listing.{below}
use Rattle.meet_book.proofs.comparing.is_whole.Given as goal

-- the receipts so far are at most as many as these seats' records; if as many, they are these
abbrev pub invariant-loop-number : goal.invariant-loop-number
invariant-loop-number g l = record {
  fewer : length l.records ≤ l.unseen + length (below l.number l.records);
  these : length l.records ≡ l.unseen + length (below l.number l.records)
      → (seat : ℕ) → seat < l.number → IsListed l.gone l.records (map g.H.Holds.held l.seats) seat;
}
