-- What is known of a request that isn't refused.
use Rattle.std.proofs.Common.{◌≡◌, ℕ, ◌<◌, ◌≤◌, refl, Bool, true, false, cond, Some, None, arith}
use Rattle.std.specs.Prelude.{nat_lt, nat_le}
use Rattle.std.proofs.lemmas.Bool.{ltb-false}
use Rattle.std.proofs.lemmas.Bool.Decides.{leb_tells}
use Rattle.meet_tickets.specs.declared.lines.Hold.{Hold}
use Rattle.meet_tickets.specs.declared.lines.Hold.TheVariants.{Free, Waiting, Handed, Served, Cut}
use Rattle.meet_tickets.specs.declared.refusals.Refusal.TheVariants.{NoSuchSeat, SeatOpen, TicketsSpent}
use Rattle.meet_tickets.specs.BySeat.{Seats, is_open}
use Rattle.meet_tickets.specs.Limits.{last_ticket}
use Rattle.meet_tickets.specs.Refusals.{refusal_of}

-- the seat is there and holds nothing, and a ticket is left
pub record IsAdmitted {X : Type 0} (count next : ℕ) (s : Seats X) (seat : ℕ) : Type 0 where
  pub there : seat < count
  pub free : s.holds seat ≡ Free
  pub few : next ≤ last_ticket

-- what has no open ticket is free
free-from : {X : Type 0} (hold : Hold X) → is_open hold ≡ false → hold ≡ Free
free-from Free e = refl
free-from (Waiting t) e = cc
free-from (Handed t u mark) e = cc
free-from (Served t u item) e = cc
free-from (Cut t item) e = cc

-- no test of three holds
none_of : {R : Type 0} (a b c : Bool) (x y z : R) → cond a (Some x) (cond b (Some y) (cond c (Some z) None)) ≡ None → (a ≡ false) × (b ≡ false) × (c ≡ false)
none_of true b c x y z e = cc
none_of false true c x y z e = cc
none_of false false true x y z e = cc
none_of false false false x y z e = (refl, refl, refl)

-- a test that fails says that the other number is below
below-from : (a b : ℕ) → nat_le a b ≡ false → b < a
below-from a b e = grind (arith, leb_tells)

pub IsAdmitted-from : {X : Type 0} (count next : ℕ) (s : Seats X) (seat : ℕ) → refusal_of count next s seat ≡ None → IsAdmitted count next s seat
IsAdmitted-from count next s seat e =
    let none : (nat_le count seat ≡ false) × (is_open (s.holds seat) ≡ false) × (nat_lt last_ticket next ≡ false) = none_of (nat_le count seat) (is_open (s.holds seat)) (nat_lt last_ticket next) NoSuchSeat SeatOpen TicketsSpent e in
    record {
      there = below-from count seat none.0;
      free = free-from (s.holds seat) none.1;
      few = ltb-false last_ticket next none.2;
    }
