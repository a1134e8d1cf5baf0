-- What explains calls that overlap: a legal history, each of whose records belongs to a call and has a time in it.
use Rattle.std.specs.Prelude.{◌≡◌, ℕ, ◌≤◌, ◌==◌, List, [], ◌∷◌, Some, map, filter, slice_get}
use Rattle.meet_tickets.specs.declared.places.Kind.{Kind}
use Rattle.meet_tickets.specs.declared.records.Record.{Record}
use Rattle.meet_tickets.specs.declared.records.Deed.{Deed}
use Rattle.meet_tickets.specs.declared.records.Deed.TheVariants.{GiveFails}
use Rattle.meet_tickets.specs.declared.lines.Entry.{Entry}
use Rattle.meet_tickets.specs.Meeting.{MayKeep}
use Rattle.meet_tickets.specs.BySeat.{Moment, beginning, moment_after}
use Rattle.meet_tickets.specs.ByLists.{IsLegal}
use Rattle.meet_overlap.specs.declared.calls.Verb.{Verb}
use Rattle.meet_overlap.specs.declared.calls.Verb.TheVariants.{Keep}
use Rattle.meet_overlap.specs.declared.calls.Call.{Call}
use Rattle.meet_overlap.specs.declared.calls.Stage.TheVariants.{Ahead}
use Rattle.meet_overlap.specs.Calls.{IsWithin, Remains}

-- a record of the call of this number, at a time
pub record Event : Type 0 where
  pub call : ℕ
  pub time : ℕ
  pub entry : Record Deed

-- the records of events
abbrev pub records_of : List Event → List (Record Deed)
records_of events = map (λ e. e.entry) events

-- the records that are dealt to the call of this number
abbrev pub dealt : (number : ℕ) → List Event → List (Record Deed)
dealt number events = map (λ e. e.entry) (filter (λ e. e.call == number) events)

-- the event is of a call that is there, by its seat, at a time that lies in the call
pub record IsOf (calls : List Call) (e : Event) : Type 0 where
  pub call : Call
  pub known : slice_get calls e.call ≡ Some call
  pub seat : e.entry.seat ≡ call.seat
  pub within : IsWithin call e.time e.entry.deed

-- each event is so
abbrev pub AreOf : List Call → List Event → Type 0
AreOf calls [] = Unit {0}
AreOf calls (e ∷ events) = IsOf calls e × AreOf calls events

-- no event comes before this time, nor before one that stands in front of it
abbrev pub IsRising : (time : ℕ) → List Event → Type 0
IsRising time [] = Unit {0}
IsRising time (e ∷ events) = (time ≤ e.time) × IsRising e.time events

-- none of these events is of a call of this seat before the one of this number
abbrev pub NoneBefore : (number seat : ℕ) → List Event → Type 0
NoneBefore n i [] = Unit {0}
NoneBefore n i (e ∷ events) = (e.entry.seat ≡ i → n ≤ e.call) × NoneBefore n i events

-- the calls of a seat make their records in their order
abbrev pub AreInTurn : List Event → Type 0
AreInTurn [] = Unit {0}
AreInTurn (e ∷ events) = NoneBefore e.call e.entry.seat events × AreInTurn events

-- an item that was to be kept fails only where none may be kept
abbrev pub FailsFull : Kind → List (Entry ℕ) → Verb → Deed → Type 0
FailsFull k line (Keep m) (GiveFails n) = MayKeep k line → ⊥
FailsFull k line verb deed = Unit {0}

-- each of these events is so, from there on
abbrev pub AreFull : Kind → List Call → Moment → List Event → Type 0
AreFull k calls m [] = Unit {0}
AreFull k calls m (e ∷ events) = ((call : Call) → slice_get calls e.call ≡ Some call
    → FailsFull k m.seats.line call.verb e.entry.deed) × AreFull k calls (moment_after k m e.entry) events

-- these events explain the calls: their records are a legal history, times lie in the calls and don't go back, the calls
-- of a seat come in their order, the records that are dealt to a call are those that it makes, with its answer, and a put
-- fails only at a full queue
pub record IsExplained (k : Kind) (calls : List Call) (events : List Event) : Type 0 where
  pub legal : IsLegal k (records_of events)
  pub owned : AreOf calls events
  pub rising : IsRising 0 events
  pub turns : AreInTurn events
  pub formed : (number : ℕ) (call : Call) → slice_get calls number ≡ Some call
      → Remains call Ahead (dealt number events)
  pub full : AreFull k calls beginning events

-- the history explains the calls: there is such a dealing of its records
pub record Explains (k : Kind) (calls : List Call) (history : List (Record Deed)) : Type 0 where
  pub events : List Event
  pub records : records_of events ≡ history
  pub explained : IsExplained k calls events
