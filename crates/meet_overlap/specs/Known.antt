-- What the search by memory finds.
use Rattle.std.specs.Prelude.{◌≡◌, ℕ, ◌+◌, ◌<◌, ◌≤◌, true, Some, List, [], ◌∷◌, ◌++◌, length, slice_get, slice_index_or}
use Rattle.std.specs.Prelude.{All, IsSomeAnd, ◌⊎◌}
use Rattle.meet_tickets.specs.declared.places.Kind.{Kind}
use Rattle.meet_tickets.specs.declared.records.Record.{Record}
use Rattle.meet_tickets.specs.declared.records.Deed.{Deed}
use Rattle.meet_tickets.specs.declared.lines.Entry.{Entry}
use Rattle.meet_tickets.specs.declared.lines.Hold.{Hold}
use Rattle.meet_tickets.specs.declared.lines.Hold.TheVariants.{Free, Waiting, Handed, Served, Cut}
use Rattle.meet_overlap.specs.declared.calls.Call.{Call}
use Rattle.meet_overlap.specs.declared.calls.Verb.{Verb}
use Rattle.meet_overlap.specs.declared.calls.Verb.TheVariants.{Keep, Give, Take, Interrupt as InterruptSeat}
use Rattle.meet_overlap.specs.Calls.{Tells}
use Rattle.meet_overlap.specs.declared.calls.Returned.{Returned}
use Rattle.meet_overlap.specs.declared.calls.Stage.{Stage}
use Rattle.meet_overlap.specs.declared.calls.Stage.TheVariants.{Ahead, Open, Over}
use Rattle.meet_overlap.specs.declared.world.Reached.{Reached}
use Rattle.meet_overlap.specs.Explaining.{Event, records_of}
use Rattle.meet_overlap.specs.Places.{world_of}
use Rattle.meet_overlap.specs.Plays.{Plays, IsPlay}
use Rattle.meet_overlap.specs.Search.{World, world_after, ending_of, Steps}

-- no events lead from here to where each call may be left
abbrev pub IsBarren : Kind → List Call → World → Type 0
IsBarren k calls w = (run : List Event) → IsPlay k calls w run → ⊥

-- each of these is so
abbrev pub AreBarren : Kind → List Call → List Reached → Type 0
AreBarren k calls seen = All (λ r. IsBarren k calls (world_of r)) seen

-- none of the first calls begins a play
abbrev pub HasNonePlayed : Kind → List Call → World → (number : ℕ) → Type 0
HasNonePlayed k calls w number = (e : Event) (run : List Event) → e.call < number → IsPlay k calls w (e ∷ run) → ⊥

-- two worlds are the same but for the last ticket
pub record IsAlike (w v : World) : Type 0 where
  pub seats : w.moment.seats ≡ v.moment.seats
  pub stages : w.stages ≡ v.stages
  pub time : w.time ≡ v.time

-- the call ended at this time
abbrev pub IsEndedAt : Call → (at : ℕ) → Type 0
IsEndedAt call at = IsSomeAnd call.returned (λ r. r.at ≡ at)

-- what is called is no interrupt, whose record is no request
abbrev pub IsPatient : Verb → Type 0
IsPatient (Keep m) = Unit {0}
IsPatient (Give p m) = Unit {0}
IsPatient (Take p) = Unit {0}
IsPatient (InterruptSeat j) = ⊥

-- a call that isn't over ended at this time, or was seen to wait at it and hasn't made its request
abbrev pub IsBound : Call → Stage → (at : ℕ) → Type 0
IsBound call Ahead at = IsEndedAt call at ⊎ (IsPatient call.verb × (call.waits ≡ Some at))
IsBound call (Open t) at = IsEndedAt call at
IsBound call Over at = ⊥

-- the call of this number has to move by this time
pub record IsDue (calls : List Call) (w : World) (number at : ℕ) : Type 0 where
  pub call : Call
  pub known : slice_get calls number ≡ Some call
  pub bound : IsBound call (w.stages number) at

-- a call should have moved before now
pub record IsOverdue (calls : List Call) (w : World) : Type 0 where
  pub number : ℕ
  pub at : ℕ
  pub due : IsDue calls w number at
  pub passed : at < w.time

-- the call of this number makes no event now
abbrev pub HasNoPlay : Kind → List Call → World → (number : ℕ) → Type 0
HasNoPlay k calls w number = (e : Event) → e.call ≡ number → Plays k calls w e → ⊥

-- the event is the only next one of the call of this number
pub record IsOnlyPlay (k : Kind) (calls : List Call) (w : World) (number : ℕ) (e : Event) : Type 0 where
  pub call : e.call ≡ number
  pub plays : Plays k calls w e
  pub only : (f : Event) → f.call ≡ number → Plays k calls w f → f ≡ e

-- the only next event of the call of this number leads there
pub record LeadsOn (k : Kind) (calls : List Call) (w : World) (number : ℕ) (then : World) : Type 0 where
  pub event : Event
  pub only : IsOnlyPlay k calls w number event
  pub leaves : then ≡ world_after k w event

-- these events lead from one world to another
abbrev pub IsRunTo : Kind → List Call → World → List Event → World → Type 0
IsRunTo k calls w [] v = w ≡ v
IsRunTo k calls w (e ∷ events) v = Steps k calls w e × IsRunTo k calls (world_after k w e) events v

-- an event leads there, and its record is noted
pub record IsNoted (k : Kind) (calls : List Call) (w then : World) (old new : List (Record Deed)) : Type 0 where
  pub event : Event
  pub steps : Steps k calls w event
  pub leaves : then ≡ world_after k w event
  pub noted : new ≡ old ++ event.entry ∷ []

-- events of these records lead there
pub record IsRunThere (k : Kind) (calls : List Call) (w : World) (history : List (Record Deed)) (v : World)
    : Type 0 where
  pub run : List Event
  pub is : IsRunTo k calls w run v
  pub records : records_of run ≡ history

-- one of these is the same as this world
abbrev pub HasAlike : List Reached → World → Type 0
HasAlike seen w = (i : ℕ) × (i < length seen) × ((d : Reached) → IsAlike (world_of (slice_index_or seen i d)) w)

-- no call that has begun stands behind the latest of its seat
abbrev pub AreLatest : List Call → (stages : ℕ → Stage) → (latest : ℕ → ℕ) → Type 0
AreLatest calls stages latest = (n : ℕ) (call : Call) → slice_get calls n ≡ Some call
    → (stages n ≡ Ahead) ⊎ (n ≤ latest call.seat)

-- no call from a number on begins before the time that stands there
abbrev pub AreLeast : List Call → List ℕ → Type 0
AreLeast calls begins = (from number : ℕ) (call : Call) → from ≤ number → slice_get calls number ≡ Some call
    → slice_index_or begins from 0 ≤ call.begin

-- this ticket was met or cut, and its call holds it still
abbrev pub IsSettledBy : (ticket : ℕ) → Hold ℕ → Type 0
IsSettledBy t Free = ⊥
IsSettledBy t (Waiting u) = ⊥
IsSettledBy t (Handed u with mark) = u ≡ t
IsSettledBy t (Served u with item) = u ≡ t
IsSettledBy t (Cut u item) = u ≡ t

-- no entry of this seat waits in the line
abbrev pub IsGone : (seat : ℕ) → List (Entry ℕ) → Type 0
IsGone i [] = Unit {0}
IsGone i (e ∷ line) = (e.waits ≡ true → e.seat ≡ i → ⊥) × IsGone i line

-- the call of this number began and was met or cut, and hasn't ended; no other call waits by its ticket, nor in the
-- line for its seat
pub record IsSettled (calls : List Call) (w : World) : Type 0 where
  pub number : ℕ
  pub call : Call
  pub known : slice_get calls number ≡ Some call
  pub begun : call.begin ≤ w.time
  pub stage : w.stages number ≡ Open (number + 1)
  pub alone : (other : ℕ) → w.stages other ≡ Open (number + 1) → other ≡ number
  pub settled : IsSettledBy (number + 1) (w.moment.seats.holds call.seat)
  pub gone : IsGone call.seat w.moment.seats.line

-- the call of this number was met or cut, so as it doesn't answer: it can't end as it did
pub record IsMisled (calls : List Call) (w : World) : Type 0 where
  pub number : ℕ
  pub call : Call
  pub known : slice_get calls number ≡ Some call
  pub returned : Returned
  pub ended : call.returned ≡ Some returned
  pub stage : w.stages number ≡ Open (number + 1)
  pub alone : (other : ℕ) → w.stages other ≡ Open (number + 1) → other ≡ number
  pub settled : IsSettledBy (number + 1) (w.moment.seats.holds call.seat)
  pub gone : IsGone call.seat w.moment.seats.line
  pub misled : (line : List (Entry ℕ)) (d : Deed) → ending_of line call.verb (w.moment.seats.holds call.seat) ≡ Some d
      → Tells call d → ⊥
