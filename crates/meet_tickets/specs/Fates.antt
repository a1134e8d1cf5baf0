-- What became of each ticket, read from the records alone, and how many tickets stand where. That a ticket's records
-- tell its whole story is our choice; Java shows a caller no such record.
use Rattle.std.specs.Prelude.{◌≡◌, ℕ, nat_lt, ◌==◌, ◌&&◌, Bool, true, false, Option, Some, None, is_some, is_none}
use Rattle.std.specs.Prelude.{option_map, option_and_then, List, [], ◌∷◌, ◌++◌, map, filter, find, count_by, nat_le}
use Rattle.std.specs.Prelude.{Contains, if◌then◌else◌}
use Rattle.std.specs.List.{list_any, flat_map}
use Rattle.std.specs.Option.{option_or, option_map_or}
use Rattle.meet_tickets.specs.declared.records.Record.{Record}
use Rattle.meet_tickets.specs.declared.records.Cause.{Cause}
use Rattle.meet_tickets.specs.declared.records.Deed.{Deed}
use Rattle.meet_tickets.specs.declared.records.Deed.TheVariants.{GiveWaits, GiveMeets, GiveFails, GiveKept, TakeWaits}
use Rattle.meet_tickets.specs.declared.records.Deed.TheVariants.{TakeMeets, TakeFails, EntryInterrupted, Done, Got}
use Rattle.meet_tickets.specs.declared.records.Deed.TheVariants.{Withdrawn, Interrupt}
use Rattle.meet_tickets.specs.declared.fates.Fate.{Fate}
use Rattle.meet_tickets.specs.declared.fates.Fate.TheVariants.{Never, Failed, EntryRefused, Paired, Collected}
use Rattle.meet_tickets.specs.declared.fates.Fate.TheVariants.{Withdrawn as WasWithdrawn, Cut, Kept, Waiting, Past}
use Rattle.meet_tickets.specs.declared.lines.Entry.{Entry}
use Rattle.meet_tickets.specs.declared.places.Side.{Side}
use Rattle.meet_tickets.specs.declared.places.Side.TheVariants.{Giver, Taker}
use Rattle.meet_tickets.specs.declared.bases.OpenPair.{OpenPair}
use Rattle.meet_tickets.specs.declared.bases.OpenCut.{OpenCut}
use Rattle.meet_tickets.specs.declared.places.Kind.{Kind}
use Rattle.meet_tickets.specs.Meeting.{waiting_count, kept_count}
use Rattle.meet_tickets.specs.Bases.{Based, moment_of_base}
use Rattle.meet_tickets.specs.BySeat.{is_request, moment_of, settled_of}

-- the request of a ticket
abbrev pub request_of : List (Record Deed) → (ticket : ℕ) → Option Deed
request_of history t = option_map (λ r. r.deed) (find (λ r. is_request r.deed && (r.ticket == t)) history)

-- the ticket that a request names as its partner
abbrev pub named_by : Deed → Option ℕ
named_by (GiveMeets m u) = Some u
named_by (TakeMeets m u) = Some u
named_by deed = None

-- whether a record is a request that meets this ticket
abbrev pub meets_it : (ticket : ℕ) → Record Deed → Bool
meets_it t r = option_map_or (λ u. u == t) (named_by r.deed) false

-- whom a ticket met: the partner that its own request names, or the one whose request names it
abbrev pub partner_in : List (Record Deed) → (ticket : ℕ) → Option ℕ
partner_in history t =
    option_or (option_and_then named_by (request_of history t)) (option_map (λ r. r.ticket) (find (meets_it t) history))

-- whether a deed tells a ticket that it was met
abbrev pub tells_of_meeting : Deed → Bool
tells_of_meeting Done = true
tells_of_meeting (Got m u) = true
tells_of_meeting deed = false

-- whether a ticket learned that it was met
abbrev pub has_learned : List (Record Deed) → (ticket : ℕ) → Bool
has_learned history t = list_any (λ r. tells_of_meeting r.deed && (r.ticket == t)) history

-- why a deed takes its ticket back, if it does
abbrev pub withdrawn_by : Deed → Option Cause
withdrawn_by (Withdrawn cause) = Some cause
withdrawn_by deed = None

-- why a ticket was taken back, if it was
abbrev pub withdrawal_of : List (Record Deed) → (ticket : ℕ) → Option Cause
withdrawal_of history t =
    option_and_then (λ r. withdrawn_by r.deed) (find (λ r. is_some (withdrawn_by r.deed) && (r.ticket == t)) history)

-- whether a deed interrupts a seat
abbrev pub interrupts : Deed → Bool
interrupts (Interrupt j) = true
interrupts deed = false

-- whether an interrupt cut a ticket; where one flagged its seat, its record names ticket 0
abbrev pub was_cut : List (Record Deed) → (ticket : ℕ) → Bool
was_cut history t = list_any (λ r. interrupts r.deed && nat_lt 0 t && (r.ticket == t)) history

-- whether a request's ticket waits, and isn't settled at once
abbrev pub waits_first : Deed → Bool
waits_first (GiveWaits m) = true
waits_first TakeWaits = true
waits_first deed = false

-- the fate of a ticket whose request has this deed: the first that applies
abbrev pub fate_asked : List (Record Deed) → (ticket : ℕ) → Deed → Fate
fate_asked history t (GiveFails m) = Failed
fate_asked history t TakeFails = Failed
fate_asked history t (EntryInterrupted side) = EntryRefused
fate_asked history t deed =
    option_map_or (λ u. if has_learned history t then Collected u else Paired u) (partner_in history t)
    (option_map_or (λ cause. WasWithdrawn cause) (withdrawal_of history t)
    (if was_cut history t then Cut else (if waits_first deed then Waiting else Kept)))

-- the fate of a ticket
abbrev pub fate : List (Record Deed) → (ticket : ℕ) → Fate
fate history t = option_map_or (fate_asked history t) (request_of history t) Never

-- the tickets of the requests, each of which uses a new one
abbrev pub tickets_of : List (Record Deed) → List ℕ
tickets_of history = map (λ r. r.ticket) (filter (λ r. is_request r.deed) history)

-- the ticket stands in the line, and is open
abbrev pub is_waiting : Fate → Bool
is_waiting Waiting = true
is_waiting fate = false

-- the item stands in the line, and its giver went on
abbrev pub is_kept : Fate → Bool
is_kept Kept = true
is_kept fate = false

-- met or cut, and not told so
abbrev pub is_unlearned : Fate → Bool
is_unlearned (Paired u) = true
is_unlearned Cut = true
is_unlearned fate = false

-- whether a ticket waited, at first
abbrev pub has_waited : List (Record Deed) → (ticket : ℕ) → Bool
has_waited history t = option_map_or waits_first (request_of history t) false

-- how many tickets wait in the line
abbrev pub waiting_in : List (Record Deed) → ℕ
waiting_in history = count_by (λ t. is_waiting (fate history t)) (tickets_of history)

-- how many tickets waited, were met or cut, and weren't told so
abbrev pub uncollected_in : List (Record Deed) → ℕ
uncollected_in history = count_by (λ t. has_waited history t && is_unlearned (fate history t)) (tickets_of history)

-- how many items are kept in the line
abbrev pub kept_in : List (Record Deed) → ℕ
kept_in history = count_by (λ t. is_kept (fate history t)) (tickets_of history)

-- the request of an entry that presents this item, or none
abbrev pub asked_for : Option ℕ → (waits : Bool) → Deed
asked_for None waits = TakeWaits
asked_for (Some m) true = GiveWaits m
asked_for (Some m) false = GiveKept m

-- the request of a ticket of this side, which waited
abbrev pub asked_on : Side → (mark : ℕ) → Deed
asked_on Giver m = GiveWaits m
asked_on Taker m = TakeWaits

-- the request that met it
abbrev pub met_on : Side → (mark ticket : ℕ) → Deed
met_on Giver m t = TakeMeets m t
met_on Taker m t = GiveMeets m t

-- the records of an entry of a base, as fates read them: its request; of one that was met its partner's too; of one
-- that was cut its interrupt
abbrev pub line_record : Entry ℕ → Record Deed
line_record e = record { seat = e.seat; ticket = e.ticket; deed = asked_for e.item e.waits }

abbrev pub pair_records : OpenPair → List (Record Deed)
pair_records p = record { seat = p.seat; ticket = p.ticket; deed = asked_on p.side p.mark } ∷ record {
  seat =
      p.seat;
  ticket = p.partner;
  deed = met_on p.side p.mark p.ticket;
} ∷ []

abbrev pub cut_records : OpenCut → List (Record Deed)
cut_records c = record { seat = c.seat; ticket = c.ticket; deed = asked_for c.item true } ∷ record {
  seat =
      c.seat;
  ticket = c.ticket;
  deed = Interrupt c.seat;
} ∷ []

-- a base's entries, as requests before the first record
abbrev pub opening : Based → List (Record Deed)
opening b = map line_record b.line ++ (flat_map pair_records b.pairs ++ flat_map cut_records b.cut)

-- the tickets of a base's entries
abbrev pub entered_in : Based → List ℕ
entered_in b = map (λ e. e.ticket) b.line ++ (map (λ p. p.ticket) b.pairs ++ map (λ c. c.ticket) b.cut)

-- a ticket of the time before a base that isn't one of its entries
abbrev pub is_past : Based → (ticket : ℕ) → Bool
is_past b t = nat_lt 0 t && nat_le t b.last && is_none (find (λ u. u == t) (entered_in b))

-- the fate of a ticket after a base
abbrev pub fate_on : Based → List (Record Deed) → (ticket : ℕ) → Fate
fate_on b records t = if is_past b t then Past else fate (opening b ++ records) t

-- what a base shows of the tickets' fates: that of each entry; and a past ticket stays so, whatever records follow
pub record ShowsFates (b : Based) : Type 0 where
  pub line : (e : Entry ℕ) → Contains b.line e → fate_on b [] e.ticket ≡ (if e.waits then Waiting else Kept)
  pub pairs : (p : OpenPair) → Contains b.pairs p → fate_on b [] p.ticket ≡ Paired p.partner
  pub cut : (c : OpenCut) → Contains b.cut c → fate_on b [] c.ticket ≡ Cut
  pub past : (t : ℕ) → is_past b t ≡ true → (records : List (Record Deed)) → fate_on b records t ≡ Past

-- the numbers that a base and the records tell are those of the place
pub record StandsOn (k : Kind) (b : Based) (records : List (Record Deed)) (seats : ℕ) : Type 0 where
  pub waiting : waiting_in (opening b ++ records) ≡ waiting_count (moment_of k (moment_of_base b) records).seats.line
  pub uncollected : uncollected_in (opening b ++ records)
      ≡ settled_of seats (moment_of k (moment_of_base b) records).seats.holds
  pub kept : kept_in (opening b ++ records) ≡ kept_count (moment_of k (moment_of_base b) records).seats.line
