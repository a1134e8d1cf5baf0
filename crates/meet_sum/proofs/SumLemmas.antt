-- The sums, by what each is told from.
use Rattle.std.proofs.Common.{◌≡◌, ℕ, ◌+◌, subst, Option, List, length}
use Rattle.meet_tickets.specs.declared.records.Record.{Record}
use Rattle.meet_tickets.specs.declared.records.Deed.{Deed}
use Rattle.meet_tickets.specs.Bases.{Based}
use Rattle.meet_tickets.specs.Fates.{opening}
use Rattle.meet_sum.specs.declared.seats.SeatSum.{SeatSum}
use Rattle.meet_sum.specs.declared.stories.Story.{Story}
use Rattle.meet_sum.specs.declared.waits.Wait.{Wait}
use Rattle.meet_sum.specs.Seats.{seat_sum, HasSeats, AreSeatsOn}
use Rattle.meet_sum.specs.Waits.{IsLongest, stories_on, IsLongestWait}

module _ (b : Based) (records : List (Record Deed)) (opened : ℕ) (stories : List Story) (many : opened ≡ length (opening b)) (tickets : List ℕ) (are : stories ≡ stories_on b records tickets) where
  pub wait-on : (wait : Option Wait) → IsLongest opened (opened + length records) stories wait → IsLongestWait b records tickets wait
  wait-on wait is =
      subst (λ n. IsLongest n (n + length records) (stories_on b records tickets) wait) many (subst (λ xs. IsLongest opened (opened + length records) xs wait) are is)

  pub seats-on : (before : List (Record Deed)) (sums : List SeatSum) → before ≡ opening b → HasSeats (seat_sum before records opened (opened + length records) stories) sums → AreSeatsOn b records tickets sums
  seats-on before sums first has =
      subst (λ n. HasSeats (seat_sum (opening b) records n (n + length records) (stories_on b records tickets)) sums) many
      (subst (λ xs. HasSeats (seat_sum (opening b) records opened (opened + length records) xs) sums) are
      (subst (λ q. HasSeats (seat_sum q records opened (opened + length records) stories) sums) first has))
