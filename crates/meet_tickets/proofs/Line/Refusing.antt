-- No request and no interrupt is refused for want of memory by the rules.
use Rattle.std.proofs.Common.{◌≢◌, ℕ, ap, Bool, true, false, cond, Some, None, arith}
use Rattle.std.specs.Prelude.{nat_lt, nat_le, ◌||◌}
use Rattle.std.specs.Option.{option_map_or}
use Rattle.meet_tickets.specs.declared.refusals.Refusal.{Refusal}
use Rattle.meet_tickets.specs.declared.refusals.Refusal.TheVariants.{Memory, NoSuchSeat, SeatOpen, TicketsSpent}
use Rattle.meet_tickets.specs.BySeat.{Seats, is_open}
use Rattle.meet_tickets.specs.Limits.{last_ticket}
use Rattle.meet_tickets.specs.Refusals.{number_of, refusal_of, absent_refusal}

-- another refusal isn't Memory, whose number is 1
other : (why : Refusal) → number_of why ≢ 1 → Some why ≢ Some Memory
other why apart is = apart (ap (λ o. option_map_or number_of o 0) is)

pub request-own : {X : Type 0} (count next : ℕ) (s : Seats X) (seat : ℕ) → refusal_of count next s seat ≢ Some Memory
request-own count next s seat = by_tests (nat_le count seat) (is_open (s.holds seat)) (nat_lt last_ticket next)
  where
    by_tests : (a b c : Bool) → cond a (Some NoSuchSeat) (cond b (Some SeatOpen) (cond c (Some TicketsSpent) None)) ≢ Some Memory
    by_tests true b c = other NoSuchSeat (λ e. omega (arith, e))
    by_tests false true c = other SeatOpen (λ e. omega (arith, e))
    by_tests false false true = other TicketsSpent (λ e. omega (arith, e))
    by_tests false false false = λ is. absurd (omega (arith, ap (λ o. option_map_or number_of o 0) is))

pub interrupt-own : (count seat target : ℕ) → absent_refusal count seat target ≢ Some Memory
interrupt-own count seat target = by_test (nat_le count seat || nat_le count target)
  where
    by_test : (a : Bool) → cond a (Some NoSuchSeat) None ≢ Some Memory
    by_test true = other NoSuchSeat (λ e. omega (arith, e))
    by_test false = λ is. absurd (omega (arith, ap (λ o. option_map_or number_of o 0) is))
