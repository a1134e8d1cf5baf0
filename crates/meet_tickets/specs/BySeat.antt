-- The same rules told by seat, as the code sees them. A seat has at most one open ticket, so what it has open is one
-- value. The rules are generic in the item: the item itself in the contracts of the queues, its mark in histories.
use Rattle.std.specs.Prelude.{◌≡◌, ℕ, ◌-◌, ◌<◌, ◌==◌, Bool, true, false, Option, Some, None, is_some, IsSome, List}
use Rattle.std.specs.Prelude.{[], ◌∷◌, ◌++◌, take, drop, length, find, count_by, if◌then◌else◌}
use Rattle.std.specs.List.{range_with_len}
use Rattle.std.specs.Option.{option_map_or}
use Rattle.meet_tickets.specs.declared.lines.Entry.{Entry}
use Rattle.meet_tickets.specs.declared.lines.Hold.{Hold}
use Rattle.meet_tickets.specs.declared.lines.Hold.TheVariants.{Free, Waiting, Handed, Served, Cut}
use Rattle.meet_tickets.specs.declared.places.Side.{Side}
use Rattle.meet_tickets.specs.declared.places.Side.TheVariants.{Giver, Taker}
use Rattle.meet_tickets.specs.declared.places.End.{End}
use Rattle.meet_tickets.specs.declared.places.End.TheVariants.{Front, Back}
use Rattle.meet_tickets.specs.declared.places.Kind.{Kind}
use Rattle.meet_tickets.specs.declared.records.Record.{Record}
use Rattle.meet_tickets.specs.declared.records.Cause.TheVariants.{Cancelled, Expired, Interrupted}
use Rattle.meet_tickets.specs.declared.records.Deed.{Deed}
use Rattle.meet_tickets.specs.declared.records.Deed.TheVariants.{GiveWaits, GiveMeets, GiveFails, GiveKept, TakeWaits}
use Rattle.meet_tickets.specs.declared.records.Deed.TheVariants.{TakeMeets, TakeFails, EntryInterrupted, Done, Got}
use Rattle.meet_tickets.specs.declared.records.Deed.TheVariants.{Withdrawn, Interrupt}
use Rattle.meet_tickets.specs.Meeting.{end_of, partner, Alone, Finds, MayKeep}

-- the line, and what each seat has open
pub record Seats (X : Type 0) : Type 0 where
  pub line : List (Entry X)  -- the unmatched tickets in order of request
  pub holds : ℕ → Hold X  -- what each seat has open
  pub flags : ℕ → Bool  -- which seats are flagged

-- nobody is there
abbrev pub nobody : {X : Type 0} → Seats X
nobody = record { line = []; holds = λ _. Free; flags = λ _. false }

-- the function that answers `value` at `key`, and elsewhere what `f` does
abbrev pub put_at : {A : Type 0} → (ℕ → A) → ℕ → A → ℕ → A
put_at f key value k = if k == key then value else f k

-- the open ticket of a seat that holds this
abbrev pub open_ticket : {X : Type 0} → Hold X → Option ℕ
open_ticket Free = None
open_ticket (Waiting t) = Some t
open_ticket (Handed t u mark) = Some t
open_ticket (Served t u item) = Some t
open_ticket (Cut t item) = Some t

-- whether a seat that holds this has an open ticket
abbrev pub is_open : {X : Type 0} → Hold X → Bool
is_open hold = is_some (open_ticket hold)

-- whether it is open and not in the line: paired, or cut
abbrev pub is_settled : {X : Type 0} → Hold X → Bool
is_settled Free = false
is_settled (Waiting t) = false
is_settled (Handed t u mark) = true
is_settled (Served t u item) = true
is_settled (Cut t item) = true

-- how many of the first `count` seats have an open ticket
abbrev pub owed_of : {X : Type 0} → (count : ℕ) → (ℕ → Hold X) → ℕ
owed_of count holds = count_by (λ seat. is_open (holds seat)) (range_with_len 0 count)

-- how many of these tickets aren't in the line
abbrev pub settled_of : {X : Type 0} → (count : ℕ) → (ℕ → Hold X) → ℕ
settled_of count holds = count_by (λ seat. is_settled (holds seat)) (range_with_len 0 count)

-- the entry of what a seat holds, where it stands in the line
abbrev pub entry_of : {X : Type 0} → List (Entry X) → Hold X → Option (Entry X)
entry_of line Free = None
entry_of line (Waiting t) = find (λ e. e.ticket == t) line
entry_of line (Handed t u mark) = None
entry_of line (Served t u item) = None
entry_of line (Cut t item) = None

-- the line without the entry that is met
abbrev pub unmet : {E : Type 0} → End → List E → List E
unmet Front line = drop 1 line
unmet Back line = take (length line - 1) line

-- the line without its first entry that passes
abbrev pub without_first : {E : Type 0} → (E → Bool) → List E → List E
without_first passes [] = []
without_first passes (e ∷ line) = if passes e then line else e ∷ without_first passes line

-- the moves that deeds are made of

-- an entry goes to the line's end; where it waits, its ticket is what its seat holds
abbrev pub queued : {X : Type 0} → Seats X → (seat ticket : ℕ) → Option X → (waits : Bool) → Seats X
queued s i t item waits = record s {
  line = s.line ++ record { ticket = t; seat = i; item = item; waits = waits } ∷ [];
  holds = if waits then put_at s.holds i (Waiting t) else s.holds;
}

-- what a taker holds once it was met by this giver
abbrev pub served : {X : Type 0} → (ticket giver : ℕ) → Option X → Hold X
served t u None = Free
served t u (Some item) = Served t u item

-- what the seat of a waiting ticket holds once request u met it with this item (none: a taker's request): a giver knows
-- the mark that went, a taker has the item that came
abbrev pub paired_hold : {X : Type 0} → (X → ℕ) → (ticket : ℕ) → (own : Option X) → (u : ℕ) → (brought : Option X)
    → Hold X
paired_hold mark t None u brought = served t u brought
paired_hold mark t (Some item) u brought = Handed t u (mark item)

-- the met entry leaves the line; where it waits, its seat holds the pair
abbrev pub paired : {X : Type 0} → (X → ℕ) → End → Seats X → (ticket : ℕ) → Option X → Entry X → Seats X
paired mark end s t item e = record s {
  line = unmet end s.line;
  holds = if e.waits then put_at s.holds e.seat (paired_hold mark e.ticket e.item t item) else s.holds;
}

-- the seat's open ticket ends
abbrev pub released : {X : Type 0} → Seats X → ℕ → Seats X
released s i = record s { holds = put_at s.holds i Free }

-- the seat's flag is set or cleared
abbrev pub flagged : {X : Type 0} → Seats X → ℕ → Bool → Seats X
flagged s i flag = record s { flags = put_at s.flags i flag }

-- the seat's ticket leaves the line and ends
abbrev pub withdrawn : {X : Type 0} → Seats X → (seat ticket : ℕ) → Seats X
withdrawn s i t = record (released s i) { line = without_first (λ e. e.ticket == t) s.line }

-- the target's entry leaves the line, and awaits its follow-up
abbrev pub cut_off : {X : Type 0} → Seats X → (target : ℕ) → Entry X → Seats X
cut_off s j e =
    record s { line = without_first (λ f. f.ticket == e.ticket) s.line; holds = put_at s.holds j (Cut e.ticket e.item) }

-- an interrupt of the target cuts its ticket where it stands in the line, and else flags the target
abbrev pub interrupted : {X : Type 0} → Seats X → ℕ → Seats X
interrupted s j = option_map_or (cut_off s j) (entry_of s.line (s.holds j)) (flagged s j true)

-- the ticket of an interrupt's record: the one that was cut, or 0
abbrev pub cut_ticket : {X : Type 0} → Seats X → ℕ → ℕ
cut_ticket s j = option_map_or (λ e. e.ticket) (entry_of s.line (s.holds j)) 0

-- a meeting of histories, where an item is its own mark
abbrev pub meets : Kind → Seats ℕ → (ticket : ℕ) → Option ℕ → Side → Seats ℕ
meets k s t item side = option_map_or (paired (λ mark. mark) (end_of k.order) s t item)
    (partner (end_of k.order) s.line side) s

-- the seat holds nothing
abbrev pub IsFree : {X : Type 0} → Seats X → ℕ → Type 0
IsFree s i = s.holds i ≡ Free

-- which deed may come next, but for the order of tickets
abbrev pub Allows : Kind → Seats ℕ → (seat ticket : ℕ) → Deed → Type 0
Allows k s i t (GiveWaits m) = IsFree s i × Alone k s.line Giver × (s.flags i ≡ false)
Allows k s i t (GiveMeets m u) = IsFree s i × Finds k s.line Giver u None
Allows k s i t (GiveFails m) = IsFree s i × Alone k s.line Giver
Allows k s i t (GiveKept m) = IsFree s i × Alone k s.line Giver × MayKeep k s.line
Allows k s i t TakeWaits = IsFree s i × Alone k s.line Taker × (s.flags i ≡ false)
Allows k s i t (TakeMeets m u) = IsFree s i × Finds k s.line Taker u (Some m)
Allows k s i t TakeFails = IsFree s i × Alone k s.line Taker
Allows k s i t (EntryInterrupted side) = IsFree s i × Alone k s.line side × (s.flags i ≡ true)
Allows k s i t Done = (u : ℕ) × (mark : ℕ) × (s.holds i ≡ Handed t u mark)
Allows k s i t (Got m u) = s.holds i ≡ Served t u m
Allows k s i t (Withdrawn Cancelled) = (s.holds i ≡ Waiting t) × IsSome (entry_of s.line (s.holds i))
Allows k s i t (Withdrawn Expired) = (s.holds i ≡ Waiting t) × IsSome (entry_of s.line (s.holds i))
Allows k s i t (Withdrawn Interrupted) = (item : Option ℕ) × (s.holds i ≡ Cut t item)
Allows k s i t (Interrupt j) = t ≡ cut_ticket s j

-- what a deed leaves
abbrev pub seats_after : Kind → Seats ℕ → (seat ticket : ℕ) → Deed → Seats ℕ
seats_after k s i t (GiveWaits m) = queued s i t (Some m) true
seats_after k s i t (GiveMeets m u) = meets k s t (Some m) Giver
seats_after k s i t (GiveFails m) = s
seats_after k s i t (GiveKept m) = queued s i t (Some m) false
seats_after k s i t TakeWaits = queued s i t None true
seats_after k s i t (TakeMeets m u) = meets k s t None Taker
seats_after k s i t TakeFails = s
seats_after k s i t (EntryInterrupted side) = flagged s i false
seats_after k s i t Done = released s i
seats_after k s i t (Got m u) = released s i
seats_after k s i t (Withdrawn Cancelled) = withdrawn s i t
seats_after k s i t (Withdrawn Expired) = withdrawn s i t
seats_after k s i t (Withdrawn Interrupted) = released s i
seats_after k s i t (Interrupt j) = interrupted s j

-- whether a deed is a request's, which uses a new ticket
abbrev pub is_request : Deed → Bool
is_request (GiveWaits m) = true
is_request (GiveMeets m u) = true
is_request (GiveFails m) = true
is_request (GiveKept m) = true
is_request TakeWaits = true
is_request (TakeMeets m u) = true
is_request TakeFails = true
is_request (EntryInterrupted side) = true
is_request Done = false
is_request (Got m u) = false
is_request (Withdrawn cause) = false
is_request (Interrupt j) = false

-- the seats, and the greatest ticket so far
pub record Moment : Type 0 where
  pub last : ℕ
  pub seats : Seats ℕ

-- no record yet
abbrev pub beginning : Moment
beginning = record { last = 0; seats = nobody }

-- the record may come next
pub record Fits (k : Kind) (m : Moment) (r : Record Deed) : Type 0 where
  pub above : is_request r.deed ≡ true → m.last < r.ticket
  pub allowed : Allows k m.seats r.seat r.ticket r.deed

-- what a record leaves
abbrev pub moment_after : Kind → Moment → Record Deed → Moment
moment_after k m r = record {
  last = if is_request r.deed then r.ticket else m.last;
  seats = seats_after k m.seats r.seat r.ticket r.deed;
}

-- each record fits what the earlier ones left
abbrev pub IsLegalBySeatFrom : Kind → Moment → List (Record Deed) → Type 0
IsLegalBySeatFrom k m [] = Unit {0}
IsLegalBySeatFrom k m (r ∷ history) = Fits k m r × IsLegalBySeatFrom k (moment_after k m r) history

-- a history is legal where it is so from the beginning
abbrev pub IsLegalBySeat : Kind → List (Record Deed) → Type 0
IsLegalBySeat k history = IsLegalBySeatFrom k beginning history

-- what a history leaves
abbrev pub moment_of : Kind → Moment → List (Record Deed) → Moment
moment_of k m [] = m
moment_of k m (r ∷ history) = moment_of k (moment_after k m r) history
