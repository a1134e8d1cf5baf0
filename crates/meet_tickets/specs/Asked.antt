-- What a place holds is what was asked: each item in its line and at its seats is the one that a request brought.
use Rattle.std.specs.Prelude.{◌≡◌, ℕ, true, Option, Some, None, option_and_then, List, ◌++◌, Contains}
use Rattle.meet_tickets.specs.declared.lines.Entry.{Entry}
use Rattle.meet_tickets.specs.declared.lines.Hold.TheVariants.{Waiting, Handed, Served, Cut}
use Rattle.meet_tickets.specs.declared.records.Record.{Record}
use Rattle.meet_tickets.specs.declared.records.Deed.{Deed}
use Rattle.meet_tickets.specs.declared.records.Deed.TheVariants.{GiveWaits, GiveMeets, GiveFails, GiveKept, TakeWaits}
use Rattle.meet_tickets.specs.declared.records.Deed.TheVariants.{TakeMeets}
use Rattle.meet_tickets.specs.BySeat.{Seats}
use Rattle.meet_tickets.specs.Bases.{Based}
use Rattle.meet_tickets.specs.Fates.{request_of, asked_for, opening}

-- the request of a ticket after a base
abbrev pub request_on : Based → List (Record Deed) → (ticket : ℕ) → Option Deed
request_on b records t = request_of (opening b ++ records) t

-- the mark of the item that a request brings
abbrev pub brought_by : Deed → Option ℕ
brought_by (GiveWaits m) = Some m
brought_by (GiveMeets m u) = Some m
brought_by (GiveFails m) = Some m
brought_by (GiveKept m) = Some m
brought_by deed = None

-- the mark of the item that a ticket's request brought, after a base
abbrev pub brought_on : Based → List (Record Deed) → (ticket : ℕ) → Option ℕ
brought_on b records t = option_and_then brought_by (request_on b records t)

-- what stands in the line and what the seats hold is what these requests asked
pub record Remembers (asked : ℕ → Option Deed) (s : Seats ℕ) : Type 0 where
  -- an entry is as its request asked: with the item that it brought, or none
  pub line : (e : Entry ℕ) → Contains s.line e → asked e.ticket ≡ Some (asked_for e.item e.waits)
  -- the request of a seat's waiting ticket waited; what it brought, its entry tells
  pub waiting : (i t : ℕ) → s.holds i ≡ Waiting t → (item : Option ℕ) × (asked t ≡ Some (asked_for item true))
  -- a giver that was met waited, and its own request brought the item; the taker's request took it
  pub handed : (i t u m : ℕ) → s.holds i ≡ Handed t u m → asked t ≡ Some (GiveWaits m)
  pub handed_to : (i t u m : ℕ) → s.holds i ≡ Handed t u m → asked u ≡ Some (TakeMeets m t)
  -- the item that came to a taker is the one that the giver's request brought; the taker waited
  pub served : (i t u m : ℕ) → s.holds i ≡ Served t u m → asked u ≡ Some (GiveMeets m t)
  pub served_to : (i t u m : ℕ) → s.holds i ≡ Served t u m → asked t ≡ Some TakeWaits
  -- a ticket that was cut waited, and has the item that its own request brought, or none
  pub cut : (i t : ℕ) (item : Option ℕ) → s.holds i ≡ Cut t item → asked t ≡ Some (asked_for item true)
