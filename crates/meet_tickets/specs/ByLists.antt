-- Which histories are legal, told by lists. This is the telling to believe: a state is what the records so far left,
-- `IsStep` says which deed may come next, and `after` what it leaves.
--
-- A waiting call is split into its request and its follow-up (Scherer and Scott 2004), with givers that wait too
-- (Scherer, Lea and Scott 2006).
use Rattle.std.specs.Prelude.{◌≡◌, ℕ, zero, suc, ◌<◌, ◌==◌, not, true, false, Some, None, List, [], ◌∷◌, ◌++◌, filter}
use Rattle.std.specs.Prelude.{Contains}
use Rattle.meet_tickets.specs.declared.lines.Entry.{Entry}
use Rattle.meet_tickets.specs.declared.places.Side.TheVariants.{Giver, Taker}
use Rattle.meet_tickets.specs.declared.places.Kind.{Kind}
use Rattle.meet_tickets.specs.declared.records.Record.{Record}
use Rattle.meet_tickets.specs.declared.records.Cause.TheVariants.{Cancelled, Expired, Interrupted}
use Rattle.meet_tickets.specs.declared.records.Deed.{Deed}
use Rattle.meet_tickets.specs.declared.records.Deed.TheVariants.{GiveWaits, GiveMeets, GiveFails, GiveKept, TakeWaits}
use Rattle.meet_tickets.specs.declared.records.Deed.TheVariants.{TakeMeets, TakeFails, EntryInterrupted, Done, Got}
use Rattle.meet_tickets.specs.declared.records.Deed.TheVariants.{Withdrawn, Interrupt}
use Rattle.meet_tickets.specs.Meeting.{Alone, Finds, MayKeep}

-- two tickets that met, with the mark of the giver's item
pub record Pair : Type 0 where
  pub giver : ℕ
  pub taker : ℕ
  pub mark : ℕ

-- an open ticket, one that waits or awaits its ending, with its seat
pub record Open : Type 0 where
  pub ticket : ℕ
  pub seat : ℕ

-- what the records so far left
pub record State : Type 0 where
  pub last : ℕ  -- the greatest ticket so far
  pub line : List (Entry ℕ)  -- the unmatched tickets in order of request, items by their marks
  pub pairs : List Pair  -- the tickets that met
  pub cut : List ℕ  -- the interrupted tickets not yet collected
  pub unended : List Open  -- the open tickets
  pub flags : List ℕ  -- the flagged seats, as a set

-- no record yet
abbrev pub empty : State
empty = record { last = 0; line = []; pairs = []; cut = []; unended = []; flags = [] }

-- the ticket is the seat's open one
abbrev pub IsOpen : State → ℕ → ℕ → Type 0
IsOpen s seat ticket = Contains s.unended (record { ticket = ticket; seat = seat })

-- a ticket stands in the line
abbrev pub IsInLine : State → ℕ → Type 0
IsInLine s ticket = (e : Entry ℕ) × Contains s.line e × (e.ticket ≡ ticket)

-- a request has a ticket above all earlier ones, and its seat has none open
pub record IsNew (s : State) (seat ticket : ℕ) : Type 0 where
  pub above : s.last < ticket
  pub free : (t : ℕ) → IsOpen s seat t → ⊥

-- which deed may come next
abbrev pub IsStep : Kind → State → (seat ticket : ℕ) → Deed → Type 0
-- SynchronousQueue.put and LinkedTransferQueue.transfer with no taker there; a flag stops only a request that would
-- wait (our choice)
IsStep k s i t (GiveWaits m) = IsNew s i t × Alone k s.line Giver × (Contains s.flags i → ⊥)
-- put, offer, transfer and tryTransfer with a taker there (Scherer and Scott 2004: the item goes to a reservation)
IsStep k s i t (GiveMeets m u) = IsNew s i t × Finds k s.line Giver u None
-- SynchronousQueue.offer and LinkedTransferQueue.tryTransfer with no taker there; put and offer of a queue that is full
-- (our choice)
IsStep k s i t (GiveFails m) = IsNew s i t × Alone k s.line Giver
-- LinkedTransferQueue.put and offer with no taker there
IsStep k s i t (GiveKept m) = IsNew s i t × Alone k s.line Giver × MayKeep k s.line
-- take of either queue with no giver there (Scherer and Scott 2004: a reservation); flags as of a giver
IsStep k s i t TakeWaits = IsNew s i t × Alone k s.line Taker × (Contains s.flags i → ⊥)
-- take and poll of either queue with a giver there
IsStep k s i t (TakeMeets m u) = IsNew s i t × Finds k s.line Taker u (Some m)
-- poll of either queue with no giver there
IsStep k s i t TakeFails = IsNew s i t × Alone k s.line Taker
-- InterruptedException of put, transfer and take at their entry
IsStep k s i t (EntryInterrupted side) = IsNew s i t × Alone k s.line side × Contains s.flags i
-- the follow-up of a giver that waited (Scherer, Lea and Scott 2006): put or transfer returns
IsStep k s i t Done = IsOpen s i t × ((p : Pair) × Contains s.pairs p × (p.giver ≡ t))
-- the follow-up of a taker that waited (Scherer and Scott 2004): take returns the item
IsStep k s i t (Got m u) = IsOpen s i t × Contains s.pairs (record { giver = u; taker = t; mark = m })
-- a waiting ticket is taken back (our choice)
IsStep k s i t (Withdrawn Cancelled) = IsOpen s i t × IsInLine s t
-- timed offer, poll and tryTransfer whose time ran out
IsStep k s i t (Withdrawn Expired) = IsOpen s i t × IsInLine s t
-- InterruptedException of put, transfer and take while they wait, told at the follow-up
IsStep k s i t (Withdrawn Interrupted) = IsOpen s i t × Contains s.cut t
-- Thread.interrupt of a seat that doesn't stand in the line: it is flagged; 0 names no ticket (our choice)
IsStep k s i zero (Interrupt j) = (t : ℕ) → IsOpen s j t → IsInLine s t → ⊥
-- Thread.interrupt of a seat that does: its ticket is cut
IsStep k s i (suc t) (Interrupt j) = IsOpen s j (suc t) × IsInLine s (suc t)

-- the moves that deeds are made of; `filter` is the only way to remove

-- an entry goes to the line's end
abbrev pub join : State → Entry ℕ → State
join s e = record s { last = e.ticket; line = s.line ++ e ∷ [] }

-- and its ticket is open
abbrev pub wait : State → Entry ℕ → State
wait s e = record (join s e) { unended = s.unended ++ record { ticket = e.ticket; seat = e.seat } ∷ [] }

-- the line without this ticket
abbrev pub without : ℕ → List (Entry ℕ) → List (Entry ℕ)
without ticket line = filter (λ e. not (e.ticket == ticket)) line

-- a set without this number
abbrev pub minus : ℕ → List ℕ → List ℕ
minus number numbers = filter (λ n. not (n == number)) numbers

-- partner u leaves the line, and the pair is added; the new ticket isn't open
abbrev pub meet : State → (ticket partner : ℕ) → Pair → State
meet s t u pair = record s { last = t; line = without u s.line; pairs = s.pairs ++ pair ∷ [] }

-- the ticket isn't open any more
abbrev pub closed : State → ℕ → State
closed s ticket = record s { unended = filter (λ o. not (o.ticket == ticket)) s.unended }

-- what a deed leaves
abbrev pub after : State → (seat ticket : ℕ) → Deed → State
after s i t (GiveWaits m) = wait s (record { ticket = t; seat = i; item = Some m; waits = true })
after s i t (GiveMeets m u) = meet s t u (record { giver = t; taker = u; mark = m })
after s i t (GiveFails m) = record s { last = t }
after s i t (GiveKept m) = join s (record { ticket = t; seat = i; item = Some m; waits = false })
after s i t TakeWaits = wait s (record { ticket = t; seat = i; item = None; waits = true })
after s i t (TakeMeets m u) = meet s t u (record { giver = u; taker = t; mark = m })
after s i t TakeFails = record s { last = t }
after s i t (EntryInterrupted side) = record s { last = t; flags = minus i s.flags }
after s i t Done = closed s t
after s i t (Got m u) = closed s t
after s i t (Withdrawn Cancelled) = record (closed s t) { line = without t s.line }
after s i t (Withdrawn Expired) = record (closed s t) { line = without t s.line }
after s i t (Withdrawn Interrupted) = record (closed s t) { cut = minus t s.cut }
after s i zero (Interrupt j) = record s { flags = j ∷ s.flags }
after s i (suc t) (Interrupt j) = record s { line = without (suc t) s.line; cut = s.cut ++ suc t ∷ [] }

-- each record is a step from what the earlier ones left
abbrev pub IsLegalFrom : Kind → State → List (Record Deed) → Type 0
IsLegalFrom k s [] = Unit {0}
IsLegalFrom k s (r ∷ history) = IsStep k s r.seat r.ticket r.deed
    × IsLegalFrom k (after s r.seat r.ticket r.deed) history

-- a history is legal where it is so from the empty place
abbrev pub IsLegal : Kind → List (Record Deed) → Type 0
IsLegal k history = IsLegalFrom k empty history

-- what a history leaves
abbrev pub run : State → List (Record Deed) → State
run s [] = s
run s (r ∷ history) = run (after s r.seat r.ticket r.deed) history
