-- What each seat did.
use Rattle.std.specs.Prelude.{◌≡◌, ℕ, ◌+◌, ◌<◌, ◌==◌, ◌&&◌, ◌||◌, max, false, Option, Some, None, List, map, fold}
use Rattle.std.specs.Prelude.{length}
use Rattle.std.specs.Prelude.{count_by, slice_get, if◌then◌else◌}
use Rattle.std.specs.List.{list_any}
use Rattle.std.specs.Option.{option_map_or}
use Rattle.meet_tickets.specs.declared.records.Record.{Record}
use Rattle.meet_tickets.specs.declared.records.Deed.{Deed}
use Rattle.meet_tickets.specs.Bases.{Based}
use Rattle.meet_tickets.specs.BySeat.{is_request}
use Rattle.meet_tickets.specs.Fates.{opening}
use Rattle.meet_tickets.specs.Limits.{most_seats}
use Rattle.meet_sum.specs.declared.seats.SeatSum.{SeatSum}
use Rattle.meet_sum.specs.declared.stories.Story.{Story}
use Rattle.meet_sum.specs.Waits.{stay_told, stories_on}

-- the greater of two numbers, as far as they are there
abbrev pub greater : Option ℕ → Option ℕ → Option ℕ
greater None o = o
greater (Some m) None = Some m
greater (Some m) (Some n) = Some (max m n)

-- the greatest of these numbers, if there is one
abbrev pub greatest : List (Option ℕ) → Option ℕ
greatest numbers = fold greater None numbers

-- how long the ticket of a story stood in the line, if it did and is this seat's
abbrev pub stay_at : (seat opened all : ℕ) → Story → Option ℕ
stay_at seat opened all s =
    if option_map_or (λ a. a.seat == seat) s.asked false then stay_told opened all s else None

-- what a seat did, by the records that open a base, those since, and the stories of the tickets
abbrev pub seat_sum : (before records : List (Record Deed)) → (opened all : ℕ) → List Story → (seat : ℕ) → SeatSum
seat_sum before records opened all stories seat = record {
  present = list_any (λ r. r.seat == seat) before || list_any (λ r. r.seat == seat) records;
  records = count_by (λ r. r.seat == seat) records;
  requests = count_by (λ r. is_request r.deed && (r.seat == seat)) records;
  wait = greatest (map (stay_at seat opened all) stories);
}

-- a list that has for each seat, from 0 on, what this function says
pub record HasSeats (f : ℕ → SeatSum) (sums : List SeatSum) : Type 0 where
  pub every : length sums ≡ most_seats
  pub each : (seat : ℕ) → seat < most_seats → slice_get sums seat ≡ Some (f seat)

-- what each seat did, by a base, the records since and the tickets that they name as requested
abbrev pub AreSeatsOn : Based → List (Record Deed) → (tickets : List ℕ) → List SeatSum → Type 0
AreSeatsOn b records tickets sums = HasSeats
    (seat_sum (opening b) records (length (opening b)) (length (opening b) + length records)
    (stories_on b records tickets)) sums
