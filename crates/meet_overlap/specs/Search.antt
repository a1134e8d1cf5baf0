-- The search's steps. Where a place is known, each call has at most one record that it can make next; so the search
-- chooses only which call makes its next record now.
use Rattle.std.specs.Prelude.{◌≡◌, ℕ, ◌+◌, ◌==◌, max, nat_lt, Bool, true, false, Option, Some, None}
use Rattle.std.specs.Prelude.{is_some, option_map, List, [], ◌∷◌, find, slice_get, if◌then◌else◌}
use Rattle.std.specs.Option.{option_map_or}
use Rattle.meet_tickets.specs.declared.lines.Entry.{Entry}
use Rattle.meet_tickets.specs.declared.lines.Hold.{Hold}
use Rattle.meet_tickets.specs.declared.lines.Hold.TheVariants.{Free, Waiting, Handed, Served, Cut}
use Rattle.meet_tickets.specs.declared.places.Side.TheVariants.{Giver, Taker}
use Rattle.meet_tickets.specs.declared.places.Kind.{Kind}
use Rattle.meet_tickets.specs.declared.records.Cause.TheVariants.{Expired, Interrupted}
use Rattle.meet_tickets.specs.declared.records.Deed.{Deed}
use Rattle.meet_tickets.specs.declared.records.Deed.TheVariants.{GiveWaits, GiveMeets, GiveFails, GiveKept, TakeWaits}
use Rattle.meet_tickets.specs.declared.records.Deed.TheVariants.{TakeMeets, TakeFails, EntryInterrupted, Done, Got}
use Rattle.meet_tickets.specs.declared.records.Deed.TheVariants.{Withdrawn, Interrupt}
use Rattle.meet_tickets.specs.Meeting.{end_of, partner, keeps, kept_count}
use Rattle.meet_tickets.specs.BySeat.{Seats, Moment, beginning, put_at, open_ticket, cut_ticket, moment_after}
use Rattle.meet_overlap.specs.declared.calls.Patience.{Patience}
use Rattle.meet_overlap.specs.declared.calls.Patience.TheVariants.{Now, Forever, Timed}
use Rattle.meet_overlap.specs.declared.calls.Verb.{Verb}
use Rattle.meet_overlap.specs.declared.calls.Verb.TheVariants.{Keep, Give, Take, Interrupt as InterruptSeat}
use Rattle.meet_overlap.specs.declared.calls.Call.{Call}
use Rattle.meet_overlap.specs.Explaining.{Event}
use Rattle.meet_overlap.specs.declared.calls.Stage.{Stage}
use Rattle.meet_overlap.specs.declared.calls.Stage.TheVariants.{Ahead, Open, Over}
use Rattle.meet_overlap.specs.Calls.{Tells, MayStop, IsInTurn, IsWithin, stage_after}

-- what the events so far left: the place, how far each call is, and the time of the last event
pub record World : Type 0 where
  pub moment : Moment
  pub stages : ℕ → Stage
  pub time : ℕ

-- no event yet
abbrev pub start : World
start = record { moment = beginning; stages = λ _. Ahead; time = 0 }

-- what an event leaves
abbrev pub world_after : Kind → World → Event → World
world_after k w e = record {
  moment = moment_after k w.moment e.entry;
  stages = put_at w.stages e.call (stage_after (w.stages e.call) e.entry);
  time = e.time;
}

-- whether an item may be kept
abbrev pub may_keep : Kind → List (Entry ℕ) → Bool
may_keep k line = if keeps k.order then option_map_or (λ most. nat_lt (kept_count line) most) k.bound true else false

-- a giver of this mark meets this entry, if that is a taker
abbrev pub giving : (mark : ℕ) → Entry ℕ → Option Deed
giving m e = option_map_or (λ _. None) e.item (Some (GiveMeets m e.ticket))

-- a taker meets this entry, if that is a giver
abbrev pub taking : Entry ℕ → Option Deed
taking e = option_map (λ m. TakeMeets m e.ticket) e.item

-- what a giver does that finds nobody
abbrev pub giving_alone : Kind → List (Entry ℕ) → (flag : Bool) → Verb → Option Deed
giving_alone k line flag (Keep m) = if may_keep k line then Some (GiveKept m) else Some (GiveFails m)
giving_alone k line flag (Give Now m) = Some (GiveFails m)
giving_alone k line flag (Give Forever m) = Some (if flag then EntryInterrupted Giver else GiveWaits m)
giving_alone k line flag (Give Timed m) = Some (if flag then EntryInterrupted Giver else GiveWaits m)
giving_alone k line flag (Take p) = None
giving_alone k line flag (InterruptSeat j) = None

-- what a taker does that finds nobody
abbrev pub taking_alone : (flag : Bool) → Patience → Option Deed
taking_alone flag Now = Some TakeFails
taking_alone flag Forever = Some (if flag then EntryInterrupted Taker else TakeWaits)
taking_alone flag Timed = Some (if flag then EntryInterrupted Taker else TakeWaits)

-- a request of a seat that holds this: none where a ticket is open
abbrev pub unless_open : Hold ℕ → Option Deed → Option Deed
unless_open Free deed = deed
unless_open (Waiting t) deed = None
unless_open (Handed t u mark) deed = None
unless_open (Served t u item) deed = None
unless_open (Cut t item) deed = None

-- a call's first deed
abbrev pub request_of : Kind → Seats ℕ → (seat : ℕ) → Verb → Option Deed
request_of k s i (Keep m) = unless_open (s.holds i)
    (option_map_or (giving m) (partner (end_of k.order) s.line Giver) (giving_alone k s.line (s.flags i) (Keep m)))
request_of k s i (Give p m) = unless_open (s.holds i)
    (option_map_or (giving m) (partner (end_of k.order) s.line Giver) (giving_alone k s.line (s.flags i) (Give p m)))
request_of k s i (Take p) = unless_open (s.holds i)
    (option_map_or taking (partner (end_of k.order) s.line Taker) (taking_alone (s.flags i) p))
request_of k s i (InterruptSeat j) = Some (Interrupt j)

-- a waiting ticket's time runs out, where it stands in the line
abbrev pub expiry : List (Entry ℕ) → Patience → (ticket : ℕ) → Option Deed
expiry line Now t = None
expiry line Forever t = None
expiry line Timed t = if is_some (find (λ e. e.ticket == t) line) then Some (Withdrawn Expired) else None

-- how a giver's ticket ends
abbrev pub giver_ending : List (Entry ℕ) → Patience → Hold ℕ → Option Deed
giver_ending line p Free = None
giver_ending line p (Waiting t) = expiry line p t
giver_ending line p (Handed t u mark) = Some Done
giver_ending line p (Served t u item) = None
giver_ending line p (Cut t item) = Some (Withdrawn Interrupted)

-- how a taker's ticket ends
abbrev pub taker_ending : List (Entry ℕ) → Patience → Hold ℕ → Option Deed
taker_ending line p Free = None
taker_ending line p (Waiting t) = expiry line p t
taker_ending line p (Handed t u mark) = None
taker_ending line p (Served t u item) = Some (Got item u)
taker_ending line p (Cut t item) = Some (Withdrawn Interrupted)

-- how the ticket that a seat holds ends
abbrev pub ending_of : List (Entry ℕ) → Verb → Hold ℕ → Option Deed
ending_of line (Keep m) hold = None
ending_of line (Give p m) hold = giver_ending line p hold
ending_of line (Take p) hold = taker_ending line p hold
ending_of line (InterruptSeat j) hold = None

-- whether this ticket is the one that a seat holds
abbrev pub is_held : (ticket : ℕ) → Hold ℕ → Bool
is_held t hold = option_map_or (λ u. u == t) (open_ticket hold) false

-- the next deed of a call, by how far it is
abbrev pub deed_of : Kind → Seats ℕ → Call → Stage → Option Deed
deed_of k s call Ahead = request_of k s call.seat call.verb
deed_of k s call (Open t) =
    if is_held t (s.holds call.seat) then ending_of s.line call.verb (s.holds call.seat) else None
deed_of k s call Over = None

-- the ticket of a request: the next, or for an interrupt the one that is cut
abbrev pub request_ticket : Moment → Verb → ℕ
request_ticket m (Keep item) = m.last + 1
request_ticket m (Give p item) = m.last + 1
request_ticket m (Take p) = m.last + 1
request_ticket m (InterruptSeat j) = cut_ticket m.seats j

-- the ticket of a call's next record
abbrev pub ticket_of : Moment → Verb → Stage → ℕ
ticket_of m verb Ahead = request_ticket m verb
ticket_of m verb (Open t) = t
ticket_of m verb Over = 0

-- the event is the next of its call, as early as can be, with the next ticket
pub record Steps (k : Kind) (calls : List Call) (w : World) (e : Event) : Type 0 where
  pub call : Call
  pub known : slice_get calls e.call ≡ Some call
  pub seat : e.entry.seat ≡ call.seat
  pub ticket : e.entry.ticket ≡ ticket_of w.moment call.verb (w.stages e.call)
  pub deed : deed_of k w.moment.seats call (w.stages e.call) ≡ Some e.entry.deed
  pub time : e.time ≡ max w.time call.begin
  pub tells : Tells call e.entry.deed
  pub within : IsWithin call e.time e.entry.deed
  pub turn : IsInTurn calls w.stages e.call

-- each call may be left as it is
abbrev pub MayAllStop : List Call → (ℕ → Stage) → Type 0
MayAllStop calls stages = (number : ℕ) (call : Call) → slice_get calls number ≡ Some call → MayStop call (stages number)

-- these events lead from here to where each call may be left
abbrev pub IsRun : Kind → List Call → World → List Event → Type 0
IsRun k calls w [] = MayAllStop calls w.stages
IsRun k calls w (e ∷ events) = Steps k calls w e × IsRun k calls (world_after k w e) events
