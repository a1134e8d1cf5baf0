-- What a call from a handle leaves in its seat's list, and how it ends: as a whole call of the seat, before which the
-- handle may compact the log (our choice).
use Rattle.std.specs.Prelude.{◌≡◌, ◌<◌, ◌⊎◌, ℕ, Option, None, IfSome, List, Bool, true, false, not, ◌&&◌}
use Rattle.meet_tickets.specs.declared.places.Kind.{Kind}
use Rattle.meet_tickets.specs.declared.places.Order.{Order}
use Rattle.meet_tickets.specs.declared.records.Deed.{Deed}
use Rattle.meet_place.specs.Seats.{SeatView, SameSeat, Checkpoints, Trims}
use Rattle.meet_place.specs.Tending.{Tends, is_to_look}
use Rattle.meet_sync.specs.Drained.{DrainedTo}
use Rattle.meet_sync.specs.Ending.{EndsAs}
use Rattle.meet_sync.specs.Stopping.{Interrupts, others}
use Rattle.meet_sync.specs.declared.asked.End.{End}
use Rattle.meet_sync.specs.declared.asked.Request.{Request}

-- the kind of a queue of this order: it keeps as many items as are given, where it keeps any
abbrev pub kind_at : Order → Kind
kind_at order = record { order = order; bound = None }

-- a handle: its seat, which is absent only during a call; whether it keeps the log, so that no call compacts it; and how
-- many labels it gave
pub record HandleView : Type 0 where
  pub seat : Option (SeatView Deed)
  pub keeps_log : Bool
  pub labels : ℕ

-- whether it keeps the log, and how many labels it gave, stay
abbrev pub SameSettings : (old new : HandleView) → Type 0
SameSettings old new = (new.keeps_log ≡ old.keeps_log) × (new.labels ≡ old.labels)

-- what a call does to its seat first: it compacts the log if it is time to
abbrev pub Readies : (is_time : Bool) → (seat ready : SeatView Deed) → Type 0
Readies true seat ready = Tends seat ready
Readies false seat ready = ready ≡ seat

-- it is time to exactly if the handle doesn't keep the log, and its seat is to look at it
abbrev pub is_time : (cap seats : ℕ) → (keeps_log : Bool) → SeatView Deed → Bool
is_time cap seats keeps_log seat = not keeps_log && is_to_look cap seats seat

-- a handle's call readied the seat, and then did this with it
abbrev pub Does : (cap seats : ℕ) → (old new : HandleView) → (SeatView Deed → SeatView Deed → Type 0) → Type 0
Does cap seats old new Did = SameSettings old new × IfSome old.seat (λ seat. IfSome new.seat (λ after.
    (ready : SeatView Deed) × Readies (is_time cap seats old.keeps_log seat) seat ready × Did ready after))

-- a call that was refused left the seat as it was then, but for room
abbrev pub Keeps : (cap seats : ℕ) → (old new : HandleView) → Type 0
Keeps cap seats old new = Does cap seats old new (λ ready after. SameSeat ready after × (after.list ≡ ready.list))

-- the handle's seat interrupted these targets, one after another
abbrev pub InterruptsAs : (cap seats : ℕ) → (old new : HandleView) → (targets : List ℕ) → Type 0
InterruptsAs cap seats old new targets = Does cap seats old new (λ ready after. Interrupts ready after targets)

-- it interrupted all other seats
abbrev pub InterruptsAll : (cap seats : ℕ) → (old new : HandleView) → Type 0
InterruptsAll cap seats old new =
    Does cap seats old new (λ ready after. Interrupts ready after (others ready.number seats))

-- it interrupted the other seats below some number
abbrev pub InterruptsSome : (cap seats : ℕ) → (old new : HandleView) → Type 0
InterruptsSome cap seats old new = Does cap seats old new (λ ready after. (below : ℕ) × (below < seats)
    × Interrupts ready after (others ready.number below))

-- the handle's seat did this, and nothing before
abbrev pub DoesAlone : (old new : HandleView) → (SeatView Deed → SeatView Deed → Type 0) → Type 0
DoesAlone old new Did =
    SameSettings old new × IfSome old.seat (λ seat. IfSome new.seat (λ after. Did seat after))

-- it compacted the log, or had nothing to do
abbrev pub TendsAs : (old new : HandleView) → Type 0
TendsAs old new = DoesAlone old new (λ seat after. (after ≡ seat) ⊎ Tends seat after)

-- it dropped receipts for what was compacted
abbrev pub TrimsAs : (old new : HandleView) → Type 0
TrimsAs old new = DoesAlone old new (λ seat after. (gone : ℕ) × Trims gone seat after)

-- this many records were returned, and count for its seat
abbrev pub RotatesAs : (old new : HandleView) → (more : ℕ) → Type 0
RotatesAs old new more = DoesAlone old new (Checkpoints more)

module _ {T : Type 0} where
  -- a call of this request came to this end
  abbrev pub CalledAs : (cap seats : ℕ) → Kind → (MayExpire : Type 0) → (T → ℕ) → (old new : HandleView) → Request T
      → End T → Type 0
  CalledAs cap seats k MayExpire mark old new request end = Does cap seats old new (λ ready after.
      SameSeat ready after × EndsAs k MayExpire mark ready after request end)

  -- a drain took these items
  abbrev pub DrainsAs : (cap seats : ℕ) → (T → ℕ) → (old new : HandleView) → List T → Type 0
  DrainsAs cap seats mark old new items =
      Does cap seats old new (λ ready after. SameSeat ready after × DrainedTo mark ready after items)
