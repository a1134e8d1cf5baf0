-- What may come next behind a base, of what a seat tries.
use Rattle.std.specs.Prelude.{◌≡◌, ◌⊎◌, ◌&&◌, ℕ, ◌+◌, ◌<◌, ◌≤◌, Bool, true, ⊤, List, All, Contains, if◌then◌else◌}
use Rattle.meet_tickets.specs.declared.places.Kind.{Kind}
use Rattle.meet_tickets.specs.declared.places.Side.TheVariants.{Giver, Taker}
use Rattle.meet_tickets.specs.declared.records.Deed.{Deed}
use Rattle.meet_tickets.specs.declared.records.Record.{Record}
use Rattle.meet_tickets.specs.declared.records.Deed.TheVariants.{GiveWaits, GiveMeets, GiveFails, GiveKept, TakeWaits}
use Rattle.meet_tickets.specs.declared.records.Deed.TheVariants.{TakeMeets, TakeFails, EntryInterrupted, Done, Got}
use Rattle.meet_tickets.specs.declared.records.Deed.TheVariants.{Withdrawn, Interrupt}
use Rattle.meet_tickets.specs.Bases.{Based, moment_of_base}
use Rattle.meet_tickets.specs.BySeat.{is_open, is_request, Fits}
use Rattle.meet_tickets.specs.Limits.{last_ticket}
use Rattle.meet_explain.specs.declared.coming.replacing.Instead.{Instead}
use Rattle.meet_explain.specs.declared.coming.attempts.Attempt.{Attempt}
use Rattle.meet_explain.specs.declared.coming.attempts.Attempt.TheVariants.{Give, Take, End, Interrupt as ToInterrupt}

-- the deeds of requests to give an item with this mark; one that was interrupted at its entry tells no mark
abbrev pub OfGiver : (mark : ℕ) → Deed → Type 0
OfGiver m (GiveWaits n) = n ≡ m
OfGiver m (GiveMeets n u) = n ≡ m
OfGiver m (GiveFails n) = n ≡ m
OfGiver m (GiveKept n) = n ≡ m
OfGiver m (EntryInterrupted side) = side ≡ Giver
OfGiver m deed = ⊥

-- the deeds of requests to take
abbrev pub OfTaker : Deed → Type 0
OfTaker TakeWaits = ⊤
OfTaker (TakeMeets n u) = ⊤
OfTaker TakeFails = ⊤
OfTaker (EntryInterrupted side) = side ≡ Taker
OfTaker deed = ⊥

-- the deeds that end a ticket
abbrev pub OfEnding : Deed → Type 0
OfEnding Done = ⊤
OfEnding (Got n u) = ⊤
OfEnding (Withdrawn cause) = ⊤
OfEnding deed = ⊥

-- the deed of an interrupt of this seat
abbrev pub OfInterrupt : (target : ℕ) → Deed → Type 0
OfInterrupt j (Interrupt i) = i ≡ j
OfInterrupt j deed = ⊥

-- a deed is an answer to what a seat tries
abbrev pub Answers : Attempt → Deed → Type 0
Answers (Give m) deed = OfGiver m deed
Answers Take deed = OfTaker deed
Answers End deed = OfEnding deed
Answers (ToInterrupt j) deed = OfInterrupt j deed

-- what a seat tried, if its record has this deed; the record of a giver that was interrupted at its entry has no mark,
-- so there the mark is 0
abbrev pub attempt_of : Deed → Attempt
attempt_of (GiveWaits n) = Give n
attempt_of (GiveMeets n u) = Give n
attempt_of (GiveFails n) = Give n
attempt_of (GiveKept n) = Give n
attempt_of TakeWaits = Take
attempt_of (TakeMeets n u) = Take
attempt_of TakeFails = Take
attempt_of (EntryInterrupted Giver) = Give 0
attempt_of (EntryInterrupted Taker) = Take
attempt_of Done = End
attempt_of (Got n u) = End
attempt_of (Withdrawn cause) = End
attempt_of (Interrupt i) = ToInterrupt i

-- what a seat may try in the place of this deed: if its ticket is open it can't make a request, so it ends the ticket
abbrev pub attempt_instead : Deed → (is_busy : Bool) → Attempt
attempt_instead deed is_busy = if is_busy && is_request deed then End else attempt_of deed

-- this ticket is new after a base with this last ticket: the one that was asked for, if that is new, else the next; if
-- no new one is left, the one that was asked for
pub record IsNew (last asked ticket : ℕ) : Type 0 where
  pub kept : last < asked → ticket ≡ asked
  pub next : asked ≤ last → last < last_ticket → ticket ≡ last + 1
  pub none : asked ≤ last → last_ticket ≤ last → ticket ≡ asked

-- a request gets such a ticket
abbrev pub NewFor : Attempt → (last asked ticket : ℕ) → Type 0
NewFor (Give m) last asked ticket = IsNew last asked ticket
NewFor Take last asked ticket = IsNew last asked ticket
NewFor End last asked ticket = ⊤
NewFor (ToInterrupt j) last asked ticket = ⊤

-- a record of this seat with this ticket and deed may come next behind a base
abbrev pub MayCome : Kind → Based → (seat ticket : ℕ) → Deed → Type 0
MayCome k base i t deed = Fits k (moment_of_base base) (record { seat = i; ticket = t; deed = deed })

-- a list has each answer of which this is true, and no other deed
pub record AreAll (P : Deed → Type 0) (attempt : Attempt) (list : List Deed) : Type 0 where
  pub sound : All (λ deed. Answers attempt deed × P deed) list
  pub whole : (deed : Deed) → Answers attempt deed → P deed → Contains list deed

-- a list has each answer of this seat with this ticket that may come next behind a base, and no other deed
abbrev pub AreAnswers : Kind → Based → (seat ticket : ℕ) → Attempt → List Deed → Type 0
AreAnswers k base i t attempt list = AreAll (MayCome k base i t) attempt list

-- of these deeds a list has those of which this is true, and no others
pub record AreChosen (P : Deed → Type 0) (deeds list : List Deed) : Type 0 where
  pub sound : All (λ deed. Contains deeds deed × P deed) list
  pub whole : (deed : Deed) → Contains deeds deed → P deed → Contains list deed

-- an answer that may come with any ticket may come with this one
abbrev pub IsBest : Kind → Based → (seat : ℕ) → Attempt → (ticket : ℕ) → Type 0
IsBest k base i attempt best = (t : ℕ) (deed : Deed) → t ≤ last_ticket → Answers attempt deed → MayCome k base i t deed
    → MayCome k base i best deed

-- what may come in the place of a record: each answer to what its seat tried; or, of a request whose seat has an open
-- ticket, each ending of that; with a ticket with which each may come that may with any
pub record IsInstead (k : Kind) (base : Based) (r : Record Deed) (it : Instead) : Type 0 where
  pub attempt : Attempt
  pub is : attempt ≡ attempt_instead r.deed (is_open ((moment_of_base base).seats.holds r.seat))
  pub tried : Answers attempt r.deed ⊎ ((attempt ≡ End) × (is_open ((moment_of_base base).seats.holds r.seat) ≡ true))
  pub ends : is_open ((moment_of_base base).seats.holds r.seat) ≡ true → is_request r.deed ≡ true → attempt ≡ End
  pub new : NewFor attempt base.last r.ticket it.ticket
  pub best : IsBest k base r.seat attempt it.ticket
  pub answers : AreAnswers k base r.seat it.ticket attempt it.deeds.items
