-- What stays true from turn to turn of `add_up`, src/sums.rt.
use Rattle.std.proofs.Common.{◌≡◌, map, take, List, [], vec_len}
use Rattle.meet_tickets.specs.declared.records.Record.{Record}
use Rattle.meet_tickets.specs.declared.records.Deed.{Deed}
use Rattle.meet_tickets.specs.Limits.{most_seats}
use Rattle.meet_sum.specs.FatesCounted.{numbers_of}
use Rattle.meet_sum.specs.Seats.{seat_sum, HasSeats}
use Rattle.meet_sum.specs.Stories.{fate_told}
use Rattle.meet_sum.specs.Waits.{IsLongest}
use Rattle.meet_sum.proofs.sums.add_up.Given as goal

-- what the stories so far add up to
abbrev pub invariant-loop-story : goal.invariant-loop-story
invariant-loop-story l = record {
  every : vec_len l.seats ≡ most_seats;
  counted : l.fates ≡ numbers_of (map fate_told (take l.story-index l.stories));
  longest : IsLongest l.opened l.all (take l.story-index l.stories) l.wait;
  noted : (before records : List (Record Deed)) → HasSeats (seat_sum before records l.opened l.all []) l.fn.seats.items
      → HasSeats (seat_sum before records l.opened l.all (take l.story-index l.stories)) l.seats.items;
}
