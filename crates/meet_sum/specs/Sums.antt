-- The sums of a base and records.
use Rattle.std.specs.Prelude.{◌≡◌, ℕ, List}
use Rattle.meet_tickets.specs.declared.records.Record.{Record}
use Rattle.meet_tickets.specs.declared.records.Deed.{Deed}
use Rattle.meet_tickets.specs.Bases.{Based}
use Rattle.meet_sum.specs.declared.sums.Sums.{Sums}
use Rattle.meet_sum.specs.Deeds.{deeds_in}
use Rattle.meet_sum.specs.FatesCounted.{fates_on}
use Rattle.meet_sum.specs.Lines.{FindsLongestLine}
use Rattle.meet_sum.specs.Seats.{AreSeatsOn}
use Rattle.meet_sum.specs.Stories.{AreRequested}
use Rattle.meet_sum.specs.Waits.{IsLongestWait}

-- these are the sums of a base and the records since
pub record AreSums (b : Based) (records : List (Record Deed)) (sums : Sums) : Type 0 where
  pub tickets : List ℕ
  pub requested : AreRequested b records tickets
  pub deeds : sums.deeds ≡ deeds_in records
  pub fates : sums.fates ≡ fates_on b records tickets
  pub line : FindsLongestLine b records sums.line
  pub wait : IsLongestWait b records tickets sums.wait
  pub seats : AreSeatsOn b records tickets sums.seats.items
