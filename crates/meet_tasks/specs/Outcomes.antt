-- What a call of a handle returns: its item was sent or received, or why not; by how the whole call ended (our choice).
use Rattle.std.specs.Prelude.{◌≡◌, ◌⊎◌, ℕ, ⊤, Option, Some, None, IsSome, Result, Ok, Err}
use Rattle.meet_tickets.specs.declared.places.Kind.{Kind}
use Rattle.meet_tickets.specs.declared.refusals.Refusal.{Refusal}
use Rattle.meet_tickets.specs.declared.refusals.Refusal.TheVariants.{Differs}
use Rattle.meet_sync.specs.Asking.{item_of}
use Rattle.meet_sync.specs.Told.{IsRequestWhy}
use Rattle.meet_sync.specs.declared.asked.End.{End}
use Rattle.meet_sync.specs.declared.asked.End.TheVariants.{Gave, Got, Failed, Kept, EntryInterrupted, Done}
use Rattle.meet_sync.specs.declared.asked.End.TheVariants.{Interrupted, TimedOut}
use Rattle.meet_sync.specs.declared.asked.Request.{Request}
use Rattle.meet_tasks.specs.declared.refused.CallRefused.{CallRefused}
use Rattle.meet_tasks.specs.declared.outcomes.NotReceived.{NotReceived}
use Rattle.meet_tasks.specs.declared.outcomes.NotReceived.TheVariants.{Nobody, TimedOut as OutOfTime}
use Rattle.meet_tasks.specs.declared.outcomes.NotReceived.TheVariants.{Interrupted as ByInterrupt, Refused}
use Rattle.meet_tasks.specs.Handles.{HandleView, CalledAs, Keeps}

module _ {T : Type 0} where
  -- a producer's call can end so: if its item isn't taken, one comes back
  abbrev pub IsGivers : End T → Type 0
  IsGivers (Failed back) = IsSome back
  IsGivers (EntryInterrupted back) = IsSome back
  IsGivers (Interrupted back) = IsSome back
  IsGivers (TimedOut back) = IsSome back
  IsGivers end = ⊤

  -- a consumer's call can end so: no item comes back
  abbrev pub IsTakers : End T → Type 0
  IsTakers (Gave u) = ⊥
  IsTakers Kept = ⊥
  IsTakers (Failed back) = back ≡ None
  IsTakers (EntryInterrupted back) = back ≡ None
  IsTakers (Interrupted back) = back ≡ None
  IsTakers (TimedOut back) = back ≡ None
  IsTakers end = ⊤

  -- the call of a request that brought this item can end so
  abbrev pub EndFits : (brought : Option T) → End T → Type 0
  EndFits (Some item) end = IsGivers end
  EndFits None end = IsTakers end

  -- the item is a consumer's, or the queue buffers it
  abbrev pub IsSent : End T → Type 0
  IsSent (Gave u) = ⊤
  IsSent Kept = ⊤
  IsSent Done = ⊤
  IsSent end = ⊥

  -- the end of another side's call: no legal history has it after such a request, so the queue can't be closed
  abbrev pub IsOthers : (back : Option T) → End T → Type 0
  IsOthers (Some item) (Got u got) = item ≡ got
  IsOthers None Done = ⊤
  IsOthers back end = ⊥

  -- a call that met nobody for this reason, and handed this back, ended so
  abbrev pub EndsFor : NotReceived → (back : Option T) → End T → Type 0
  EndsFor Nobody back end = end ≡ Failed back
  EndsFor OutOfTime back end = end ≡ TimedOut back
  EndsFor ByInterrupt back end = (end ≡ EntryInterrupted back) ⊎ (end ≡ Interrupted back)
  EndsFor (Refused why) back end = (why ≡ Differs) × IsOthers back end

  -- what was asked gives this reason, and hands this back
  abbrev pub Tells : Result (End T) (CallRefused T) → NotReceived → (back : Option T) → Type 0
  Tells (Ok end) reason back = EndsFor reason back end
  Tells (Err refused) reason back = (reason ≡ Refused refused.why) × (back ≡ refused.item)

  -- a call of this request sent its item
  abbrev pub SendsAs : (cap seats : ℕ) → Kind → (MayExpire : Type 0) → (T → ℕ) → (old new : HandleView) → Request T
      → Type 0
  SendsAs cap seats k MayExpire mark old new request =
      (end : End T) × IsSent end × CalledAs cap seats k MayExpire mark old new request end

  -- it received this item
  abbrev pub ReceivesAs : (cap seats : ℕ) → Kind → (MayExpire : Type 0) → (T → ℕ) → (old new : HandleView) → Request T
      → T → Type 0
  ReceivesAs cap seats k MayExpire mark old new request item =
      (ticket : ℕ) × CalledAs cap seats k MayExpire mark old new request (Got ticket item)

  -- it met nobody for this reason, and handed this back: so it ended, or it was refused, and nothing was written
  abbrev pub FailsAs : (cap seats : ℕ) → Kind → (MayExpire : Type 0) → (T → ℕ) → (old new : HandleView) → Request T
      → NotReceived → (back : Option T) → Type 0
  FailsAs cap seats k MayExpire mark old new request reason back =
      ((end : End T) × EndsFor reason back end × CalledAs cap seats k MayExpire mark old new request end)
      ⊎ ((why : Refusal) × (reason ≡ Refused why) × IsRequestWhy why × (back ≡ item_of request)
      × Keeps cap seats old new)
