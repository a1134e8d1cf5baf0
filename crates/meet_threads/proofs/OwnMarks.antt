-- The labels of two seats differ.
use Rattle.std.proofs.Common.{◌≡◌, ◌+◌, ◌*◌, ◌<◌, ℕ, sym, arith}
use Rattle.meet_tickets.specs.Limits.{most_seats}
use Rattle.meet_threads.specs.LabelMarks.{label_mark, IsOf}

-- the remainder of a mark is its seat
apart : (seat other a b : ℕ) → seat < 65536 → other < 65536 → seat + 65536 * a ≡ other + 65536 * b → other ≡ seat
apart seat other a b few lesser same = omega arith

pub of_its_seat : (seat given : ℕ) → seat < most_seats → IsOf seat (label_mark seat given)
of_its_seat seat given few = λ other more lesser same. apart seat other _ _ few lesser same
