-- A record with a fault doesn't fit, and the prefix that it ends isn't legal.
use Rattle.std.proofs.Common.{◌≡◌, ℕ, ◌+◌, ◌<◌, sym, ap, ◌∙◌, true, false, Some, List, [], ◌∷◌, ◌++◌, length, append_assoc, refl, arith}
use Rattle.meet_tickets.specs.declared.places.Kind.{Kind}
use Rattle.meet_tickets.specs.declared.records.Record.{Record}
use Rattle.meet_tickets.specs.declared.records.Cause.TheVariants.{Cancelled, Expired, Interrupted}
use Rattle.meet_tickets.specs.declared.records.Deed.{Deed}
use Rattle.meet_tickets.specs.declared.records.Deed.TheVariants.{GiveWaits, GiveMeets, GiveFails, GiveKept, TakeWaits, TakeMeets, TakeFails, EntryInterrupted, Done, Got, Withdrawn, Interrupt}
use Rattle.meet_tickets.specs.BySeat.{Seats, Moment, moment_of, moment_after, open_ticket, is_open, IsFree, is_request, Allows, Fits, IsLegalBySeatFrom}
use Rattle.meet_tickets.specs.Bases.{Based, moment_of_base, IsWellFormed, IsLegalOn}
use Rattle.meet_tickets.proofs.Tellings.Continued.{legal-append}
use Rattle.meet_tickets.proofs.OnBases.Based.{tellings_agree_on}
use Rattle.meet_history.specs.declared.checker.Why.{Why}
use Rattle.meet_history.specs.declared.checker.Why.TheVariants.{SeatOpen, TicketOrder, NotOpen, WrongReply}
use Rattle.meet_history.specs.Checking.{is_ending, IsFaulty, IsIllegalAt}

-- a request that is allowed has a free seat
free-of : (k : Kind) (s : Seats ℕ) (i t : ℕ) (deed : Deed) → is_request deed ≡ true → Allows k s i t deed → IsFree s i
free-of k s i t (GiveWaits m) asks allowed = allowed.0
free-of k s i t (GiveMeets m u) asks allowed = allowed.0
free-of k s i t (GiveFails m) asks allowed = allowed.0
free-of k s i t (GiveKept m) asks allowed = allowed.0
free-of k s i t TakeWaits asks allowed = allowed.0
free-of k s i t (TakeMeets m u) asks allowed = allowed.0
free-of k s i t TakeFails asks allowed = allowed.0
free-of k s i t (EntryInterrupted side) asks allowed = allowed.0
free-of k s i t Done asks allowed = cc
free-of k s i t (Got m u) asks allowed = cc
free-of k s i t (Withdrawn cause) asks allowed = cc
free-of k s i t (Interrupt j) asks allowed = cc

-- an ending that is allowed is of the seat's open ticket
open-of : (k : Kind) (s : Seats ℕ) (i t : ℕ) (deed : Deed) → is_ending deed ≡ true → Allows k s i t deed → open_ticket (s.holds i) ≡ Some t
open-of k s i t (GiveWaits m) ends allowed = cc
open-of k s i t (GiveMeets m u) ends allowed = cc
open-of k s i t (GiveFails m) ends allowed = cc
open-of k s i t (GiveKept m) ends allowed = cc
open-of k s i t TakeWaits ends allowed = cc
open-of k s i t (TakeMeets m u) ends allowed = cc
open-of k s i t TakeFails ends allowed = cc
open-of k s i t (EntryInterrupted side) ends allowed = cc
open-of k s i t Done ends (u, mark, held) = ap open_ticket held
open-of k s i t (Got m u) ends held = ap open_ticket held
open-of k s i t (Withdrawn Cancelled) ends allowed = ap open_ticket allowed.0
open-of k s i t (Withdrawn Expired) ends allowed = ap open_ticket allowed.0
open-of k s i t (Withdrawn Interrupted) ends (item, held) = ap open_ticket held
open-of k s i t (Interrupt j) ends allowed = cc

-- a record with a fault doesn't fit
unfit : (k : Kind) (m : Moment) (r : Record Deed) (why : Why) → IsFaulty k m r why → Fits k m r → ⊥
unfit k m r SeatOpen (asks, opened) fits = let free : is_open (m.seats.holds r.seat) ≡ false = ap is_open (free-of k m.seats r.seat r.ticket r.deed asks fits.allowed) in let clash : true ≡ false = sym opened ∙ free in cc
unfit k m r TicketOrder (asks, free, below) fits = let above : m.last < r.ticket = fits.above asks in omega (arith, below)
unfit k m r NotOpen (ends, other) fits = other (open-of k m.seats r.seat r.ticket r.deed ends fits.allowed)
unfit k m r WrongReply (timely, not) fits = not fits.allowed

-- what comes last in a legal history fits
last-fits : (k : Kind) (m : Moment) (xs : List (Record Deed)) (r : Record Deed) → IsLegalBySeatFrom k m (xs ++ r ∷ []) → Fits k (moment_of k m xs) r
last-fits k m [] r legal = legal.0
last-fits k m (x ∷ xs) r legal = last-fits k (moment_after k m x) xs r legal.1

-- so behind legal records it is the last of the shortest prefix that isn't legal
pub illegal-at : (k : Kind) (base : Based) (past : List (Record Deed)) (r : Record Deed) (why : Why) → IsWellFormed k base → IsLegalOn k base past → IsFaulty k (moment_of k (moment_of_base base) past) r why → IsIllegalAt k base (past ++ r ∷ []) (base.gone + length past + 1) why
illegal-at k base past r why well legal faulty = record {
  prefix = past;
  bad = r;
  rest = [];
  parts = refl;
  last = refl;
  legal = legal;
  illegal = λ longer. unfit k (moment_of k (moment_of_base base) past) r why faulty (last-fits k (moment_of_base base) past r ((tellings_agree_on k base (past ++ r ∷ []) well).legal.0 longer));
  faulty = faulty;
}

-- whatever comes behind
pub illegal-on : (k : Kind) (base : Based) (past more : List (Record Deed)) (n : ℕ) (why : Why) → IsIllegalAt k base past n why → IsIllegalAt k base (past ++ more) n why
illegal-on k base past more n why found = record {
  prefix = found.prefix;
  bad = found.bad;
  rest = found.rest ++ more;
  parts = ap (λ xs. xs ++ more) found.parts ∙ append_assoc found.prefix (found.bad ∷ found.rest) more;
  last = found.last;
  legal = found.legal;
  illegal = found.illegal;
  faulty = found.faulty;
}

-- a record that fits goes on a legal history
pub legal-on : (k : Kind) (base : Based) (past : List (Record Deed)) (r : Record Deed) → IsWellFormed k base → IsLegalOn k base past → Fits k (moment_of k (moment_of_base base) past) r → IsLegalOn k base (past ++ r ∷ [])
legal-on k base past r well legal fits =
    (tellings_agree_on k base (past ++ r ∷ []) well).legal.1 (legal-append k (moment_of_base base) past (r ∷ []) ((tellings_agree_on k base past well).legal.0 legal) (fits, tt))
