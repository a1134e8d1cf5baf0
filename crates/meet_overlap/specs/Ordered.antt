-- Real time without times: no event stands before one that had to be made before it could be.
use Rattle.std.specs.Prelude.{◌≡◌, ℕ, ◌≤◌, true, None, IfSome, List, [], ◌∷◌, Some, slice_get}
use Rattle.meet_tickets.specs.declared.places.Kind.{Kind}
use Rattle.meet_tickets.specs.BySeat.{is_request, beginning}
use Rattle.meet_tickets.specs.declared.records.Deed.{Deed}
use Rattle.meet_tickets.specs.ByLists.{IsLegal}
use Rattle.meet_overlap.specs.declared.calls.Call.{Call}
use Rattle.meet_overlap.specs.declared.calls.Stage.TheVariants.{Ahead}
use Rattle.meet_overlap.specs.Calls.{Remains, told_by}
use Rattle.meet_overlap.specs.Explaining.{Event, records_of, dealt, AreInTurn, AreFull}

-- the deed is still in time: the call hasn't ended, and a request of one that was seen to wait isn't late for that
pub record IsInTime (call : Call) (time : ℕ) (deed : Deed) : Type 0 where
  pub ended : IfSome call.returned (λ r. time ≤ r.at)
  pub seen : is_request deed ≡ true → IfSome call.waits (λ w. (told_by deed ≡ None) × (time ≤ w))

-- the event is of a call that is there, by its seat
pub record IsBy (calls : List Call) (e : Event) : Type 0 where
  pub call : Call
  pub known : slice_get calls e.call ≡ Some call
  pub seat : e.entry.seat ≡ call.seat

-- each event is so
abbrev pub AreBy : List Call → List Event → Type 0
AreBy calls [] = Unit {0}
AreBy calls (e ∷ events) = IsBy calls e × AreBy calls events

-- each of these events is still in time
abbrev pub AreInTime : (calls : List Call) → (time : ℕ) → (events : List Event) → AreBy calls events → Type 0
AreInTime calls time [] by = Unit {0}
AreInTime calls time (e ∷ events) by = IsInTime by.0.call time e.entry.deed × AreInTime calls time events by.1

-- when an event's call begins, that event and those behind it are still in time
abbrev pub AreOrdered : (calls : List Call) → (events : List Event) → AreBy calls events → Type 0
AreOrdered calls [] by = Unit {0}
AreOrdered calls (e ∷ events) by = AreInTime calls by.0.call.begin (e ∷ events) by × AreOrdered calls events by.1

-- these events explain the calls, whatever their times
pub record IsOrderlyExplained (k : Kind) (calls : List Call) (events : List Event) : Type 0 where
  pub legal : IsLegal k (records_of events)
  pub by : AreBy calls events
  pub ordered : AreOrdered calls events by
  pub turns : AreInTurn events
  pub formed : (number : ℕ) (call : Call) → slice_get calls number ≡ Some call
      → Remains call Ahead (dealt number events)
  pub full : AreFull k calls beginning events
