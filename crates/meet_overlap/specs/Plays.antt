-- The search's steps once more, where a call's ticket is told by the call's number. So two ways to one state leave the
-- same, and a state that was seen is known again.
use Rattle.std.specs.Prelude.{◌≡◌, ℕ, ◌+◌, max, Some, List, [], ◌∷◌, slice_get}
use Rattle.meet_tickets.specs.declared.places.Kind.{Kind}
use Rattle.meet_tickets.specs.BySeat.{Seats, cut_ticket}
use Rattle.meet_overlap.specs.declared.calls.Verb.{Verb}
use Rattle.meet_overlap.specs.declared.calls.Verb.TheVariants.{Keep, Give, Take, Interrupt as InterruptSeat}
use Rattle.meet_overlap.specs.declared.calls.Call.{Call}
use Rattle.meet_overlap.specs.declared.calls.Stage.{Stage}
use Rattle.meet_overlap.specs.declared.calls.Stage.TheVariants.{Ahead, Open, Over}
use Rattle.meet_overlap.specs.Calls.{Tells, IsInTurn, IsWithin}
use Rattle.meet_overlap.specs.Explaining.{Event}
use Rattle.meet_overlap.specs.Search.{World, world_after, deed_of, MayAllStop}

-- the ticket of a request: one more than its call's number, or for an interrupt the one that is cut
abbrev pub own_ticket : Seats ℕ → (number : ℕ) → Verb → ℕ
own_ticket s n (Keep item) = n + 1
own_ticket s n (Give p item) = n + 1
own_ticket s n (Take p) = n + 1
own_ticket s n (InterruptSeat j) = cut_ticket s j

-- the ticket of a call's next record
abbrev pub play_ticket : Seats ℕ → (number : ℕ) → Verb → Stage → ℕ
play_ticket s n verb Ahead = own_ticket s n verb
play_ticket s n verb (Open t) = t
play_ticket s n verb Over = 0

-- the event is the next of its call, as early as can be, with the call's own ticket
pub record Plays (k : Kind) (calls : List Call) (w : World) (e : Event) : Type 0 where
  pub call : Call
  pub known : slice_get calls e.call ≡ Some call
  pub seat : e.entry.seat ≡ call.seat
  pub ticket : e.entry.ticket ≡ play_ticket w.moment.seats e.call call.verb (w.stages e.call)
  pub deed : deed_of k w.moment.seats call (w.stages e.call) ≡ Some e.entry.deed
  pub time : e.time ≡ max w.time call.begin
  pub tells : Tells call e.entry.deed
  pub within : IsWithin call e.time e.entry.deed
  pub turn : IsInTurn calls w.stages e.call

-- these events lead from here to where each call may be left
abbrev pub IsPlay : Kind → List Call → World → List Event → Type 0
IsPlay k calls w [] = MayAllStop calls w.stages
IsPlay k calls w (e ∷ events) = Plays k calls w e × IsPlay k calls (world_after k w e) events
