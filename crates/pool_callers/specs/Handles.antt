-- What a call of a handle leaves in its seat's list: as the pool's call of that seat, before which the handle may
-- compact the log (our choice).
use Rattle.std.specs.Prelude.{◌≡◌, ℕ, Bool, true, false, not, ◌&&◌, ◌∷◌, [], Option, IfSome}
use Rattle.meet_tickets.specs.Limits.{most_records}
use Rattle.meet_place.specs.Seats.{SeatView, SameSeat, Adds}
use Rattle.meet_place.specs.Tending.{Tends, is_to_look}
use Rattle.pool_core.specs.declared.deeds.PoolDeed.{PoolDeed}
use Rattle.pool_threads.specs.Outcomes.{Handed, IsUnstarted, ItemFits, answer_of}
use Rattle.pool_threads.specs.declared.jobs.Job.{Job}
use Rattle.pool_threads.specs.declared.outcomes.Outcome.{Outcome}

-- a handle: its seat, which is absent only during a call, and whether it keeps the log, so that no call compacts it
pub record HandleView : Type 0 where
  pub seat : Option (SeatView (PoolDeed ℕ))
  pub keeps_log : Bool

-- what `execute` does with its seat first: it compacts the log if it is time to
abbrev pub Readies : (is_time : Bool) → (seat ready : SeatView (PoolDeed ℕ)) → Type 0
Readies true seat ready = Tends seat ready
Readies false seat ready = ready ≡ seat

-- it is time to exactly if the handle doesn't keep the log, and its seat is to look at it
abbrev pub is_time : (seats : ℕ) → (keeps_log : Bool) → SeatView (PoolDeed ℕ) → Bool
is_time seats keeps_log seat = not keeps_log && is_to_look most_records seats seat

-- the handle's seat did this, and nothing before
abbrev pub DoesAlone : (old new : HandleView) → (SeatView (PoolDeed ℕ) → SeatView (PoolDeed ℕ) → Type 0) → Type 0
DoesAlone old new Did =
    (new.keeps_log ≡ old.keeps_log) × IfSome old.seat (λ seat. IfSome new.seat (λ after. Did seat after))

-- the handle readied its seat, which then did this
abbrev pub Does : (seats : ℕ) → (old new : HandleView) → (SeatView (PoolDeed ℕ) → SeatView (PoolDeed ℕ) → Type 0)
    → Type 0
Does seats old new Did = DoesAlone old new (λ seat after. (ready : SeatView (PoolDeed ℕ))
    × Readies (is_time seats old.keeps_log seat) seat ready × Did ready after)

-- a call that was refused left the seat as it was then, but for room
abbrev pub Stays : (seat after : SeatView (PoolDeed ℕ)) → Type 0
Stays seat after = SameSeat seat after × (after.list ≡ seat.list)

-- the seat wrote a record of this deed, without a ticket
abbrev pub Writes : PoolDeed ℕ → (seat after : SeatView (PoolDeed ℕ)) → Type 0
Writes deed seat after = SameSeat seat after
    × Adds seat.list after.list (record { seat = seat.number; ticket = 0; deed = deed } ∷ [])

module _ {C : Type 0} where
  -- a job of this tag was handed in, with this outcome
  abbrev pub HandsIn : (seats : ℕ) → (old new : HandleView) → (tag : ℕ) → Outcome C → Type 0
  HandsIn seats old new tag outcome = Does seats old new (λ ready after. Handed ready after tag (answer_of tag outcome))

  -- the outcome of a job of this tag and call: the job itself comes back, or what it is worth
  abbrev pub CallFits : (worth tag : ℕ) → C → Outcome C → Type 0
  CallFits worth tag call outcome = (job : Job C) → job.tag ≡ tag → job.call ≡ call → ItemFits worth job outcome

  -- no thread was made for the worker of a job of this tag and call
  abbrev pub IsUnbegun : (seat after : SeatView (PoolDeed ℕ)) → (tag : ℕ) → C → Option (Job C) → Type 0
  IsUnbegun seat after tag call back = (job : Job C) → job.tag ≡ tag → job.call ≡ call → IsUnstarted seat after job back

  abbrev pub StartsNone : (seats : ℕ) → (old new : HandleView) → (tag : ℕ) → C → Option (Job C) → Type 0
  StartsNone seats old new tag call back = Does seats old new (λ ready after. IsUnbegun ready after tag call back)

  -- the job of this tag and call is returned
  abbrev pub Returns : (tag : ℕ) → C → Job C → Type 0
  Returns tag call job = (job.tag ≡ tag) × (job.call ≡ call)
