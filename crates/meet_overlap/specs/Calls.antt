-- Which records a call makes: its request, and where that waits, the ending of its ticket.
use Rattle.std.specs.Prelude.{◌≡◌, ℕ, ◌<◌, ◌≤◌, true, Option, Some, None, IfSome, List, [], ◌∷◌, slice_get}
use Rattle.meet_tickets.specs.declared.places.Side.TheVariants.{Giver, Taker}
use Rattle.meet_tickets.specs.declared.records.Record.{Record}
use Rattle.meet_tickets.specs.declared.records.Cause.TheVariants.{Cancelled, Expired, Interrupted}
use Rattle.meet_tickets.specs.declared.records.Deed.{Deed}
use Rattle.meet_tickets.specs.declared.records.Deed.TheVariants.{GiveWaits, GiveMeets, GiveFails, GiveKept, TakeWaits}
use Rattle.meet_tickets.specs.declared.records.Deed.TheVariants.{TakeMeets, TakeFails, EntryInterrupted, Done, Got}
use Rattle.meet_tickets.specs.declared.records.Deed.TheVariants.{Withdrawn, Interrupt}
use Rattle.meet_tickets.specs.BySeat.{is_request}
use Rattle.meet_overlap.specs.declared.calls.Patience.TheVariants.{Now, Forever, Timed}
use Rattle.meet_overlap.specs.declared.calls.Verb.{Verb}
use Rattle.meet_overlap.specs.declared.calls.Verb.TheVariants.{Keep, Give, Take, Interrupt as InterruptSeat}
use Rattle.meet_overlap.specs.declared.calls.Answer.{Answer}
use Rattle.meet_overlap.specs.declared.calls.Answer.TheVariants.{Went, Got as GotItem, Nothing, Expired as TimeRanOut}
use Rattle.meet_overlap.specs.declared.calls.Answer.TheVariants.{Interrupted as WasInterrupted, Made}
use Rattle.meet_overlap.specs.declared.calls.Call.{Call}
use Rattle.meet_overlap.specs.declared.calls.Stage.{Stage}
use Rattle.meet_overlap.specs.declared.calls.Stage.TheVariants.{Ahead, Open, Over}

-- what a deed tells its caller; nothing where the call goes on
abbrev pub told_by : Deed → Option Answer
told_by (GiveWaits m) = None
told_by (GiveMeets m u) = Some Went
told_by (GiveFails m) = Some Nothing
told_by (GiveKept m) = Some Went
told_by TakeWaits = None
told_by (TakeMeets m u) = Some (GotItem m)
told_by TakeFails = Some Nothing
told_by (EntryInterrupted side) = Some WasInterrupted
told_by Done = Some Went
told_by (Got m u) = Some (GotItem m)
told_by (Withdrawn Cancelled) = None
told_by (Withdrawn Expired) = Some TimeRanOut
told_by (Withdrawn Interrupted) = Some WasInterrupted
told_by (Interrupt j) = Some Made

-- which deed is a call's first
abbrev pub Begins : Verb → Deed → Type 0
Begins (Keep m) (GiveMeets n u) = n ≡ m
Begins (Keep m) (GiveKept n) = n ≡ m
Begins (Keep m) (GiveFails n) = n ≡ m
Begins (Give p m) (GiveMeets n u) = n ≡ m
Begins (Give Now m) (GiveFails n) = n ≡ m
Begins (Give Forever m) (GiveWaits n) = n ≡ m
Begins (Give Timed m) (GiveWaits n) = n ≡ m
Begins (Give Forever m) (EntryInterrupted Giver) = Unit {0}
Begins (Give Timed m) (EntryInterrupted Giver) = Unit {0}
Begins (Take p) (TakeMeets n u) = Unit {0}
Begins (Take Now) TakeFails = Unit {0}
Begins (Take Forever) TakeWaits = Unit {0}
Begins (Take Timed) TakeWaits = Unit {0}
Begins (Take Forever) (EntryInterrupted Taker) = Unit {0}
Begins (Take Timed) (EntryInterrupted Taker) = Unit {0}
Begins (InterruptSeat j) (Interrupt i) = i ≡ j
Begins verb deed = ⊥

-- which deed ends the ticket of a call that waited
abbrev pub Ends : Verb → Deed → Type 0
Ends (Give p m) Done = Unit {0}
Ends (Give p m) (Withdrawn Interrupted) = Unit {0}
Ends (Give Timed m) (Withdrawn Expired) = Unit {0}
Ends (Take p) (Got n u) = Unit {0}
Ends (Take p) (Withdrawn Interrupted) = Unit {0}
Ends (Take Timed) (Withdrawn Expired) = Unit {0}
Ends verb deed = ⊥

-- what the deed tells is what the call answered, if it ended
abbrev pub Tells : Call → Deed → Type 0
Tells call deed = IfSome (told_by deed) (λ a. IfSome call.returned (λ r. r.answer ≡ a))

-- the record may be the call's next
abbrev pub Moves : Call → Stage → Record Deed → Type 0
Moves call Ahead r = Begins call.verb r.deed × Tells call r.deed
Moves call (Open t) r = (r.ticket ≡ t) × Ends call.verb r.deed × Tells call r.deed
Moves call Over r = ⊥

-- how far a call is whose request told this: over where it was told anything
abbrev pub stage_told : (ticket : ℕ) → Option Answer → Stage
stage_told t None = Open t
stage_told t (Some a) = Over

-- how far the call is behind this record
abbrev pub stage_after : Stage → Record Deed → Stage
stage_after Ahead r = stage_told r.ticket (told_by r.deed)
stage_after (Open t) r = Over
stage_after Over r = Over

-- the call may be left so: it never ended, or its last record is made; one that was seen to wait made its request
abbrev pub MayStop : Call → Stage → Type 0
MayStop call Ahead = (call.returned ≡ None) × (call.waits ≡ None)
MayStop call (Open t) = call.returned ≡ None
MayStop call Over = Unit {0}

-- these are all the records that the call has still to make
abbrev pub Remains : Call → Stage → List (Record Deed) → Type 0
Remains call stage [] = MayStop call stage
Remains call stage (r ∷ records) = Moves call stage r × Remains call (stage_after stage r) records

-- no call of its seat that stands behind the one of this number has begun
abbrev pub IsInTurn : List Call → (stages : ℕ → Stage) → (number : ℕ) → Type 0
IsInTurn calls stages n = (m : ℕ) (call later : Call) → n < m → slice_get calls n ≡ Some call
    → slice_get calls m ≡ Some later → later.seat ≡ call.seat → stages m ≡ Ahead

-- the deed may be made at this time: not before the call began, nor after it ended; the request of a call that was seen
-- to wait waits, and is made by then
pub record IsWithin (call : Call) (time : ℕ) (deed : Deed) : Type 0 where
  pub begun : call.begin ≤ time
  pub ended : IfSome call.returned (λ r. time ≤ r.at)
  pub seen : is_request deed ≡ true → IfSome call.waits (λ w. (told_by deed ≡ None) × (time ≤ w))
