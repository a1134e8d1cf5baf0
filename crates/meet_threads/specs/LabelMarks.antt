-- The marks of the labels that a seat gives (our choice).
use Rattle.std.specs.Prelude.{◌≡◌, ◌+◌, ◌*◌, ◌%◌, ◌^◌, ◌<◌, ℕ}
use Rattle.meet_tickets.specs.Limits.{most_seats}

-- the mark of a seat's label, by how many it gave before; after 2^48 labels they begin again
abbrev pub label_mark : (seat given : ℕ) → ℕ
label_mark seat given = seat + most_seats * (given % 2 ^ 48)

-- no other seat gives this mark
abbrev pub IsOf : (seat mark : ℕ) → Type 0
IsOf seat mark = (other given : ℕ) → other < most_seats → mark ≡ label_mark other given → other ≡ seat
