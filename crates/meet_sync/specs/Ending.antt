-- What a whole call leaves in its seat's list, and how it ends: the record of its request, and where that waits, the
-- record of its ending (our choice).
use Rattle.std.specs.Prelude.{◌≡◌, ◌⊎◌, ℕ, ⊤, Option, Some, None, option_map, [], ◌∷◌}
use Rattle.meet_tickets.specs.declared.places.Kind.{Kind}
use Rattle.meet_tickets.specs.declared.records.Cause.TheVariants.{Interrupted as ByInterrupt, Expired}
use Rattle.meet_tickets.specs.declared.records.Deed.{Deed}
use Rattle.meet_tickets.specs.declared.records.Deed.TheVariants.{Done as DoneDeed, Got as GotDeed}
use Rattle.meet_tickets.specs.declared.records.Deed.TheVariants.{Withdrawn as WithdrawnDeed}
use Rattle.meet_core.specs.QueueRecords.{made}
use Rattle.meet_place.specs.Seats.{SeatView, PendingView, Adds, SameSeat, FreesSeat}
use Rattle.meet_sync.specs.Asking.{waiting_deed, brought, SettledAs}
use Rattle.meet_sync.specs.declared.asked.Request.{Request}
use Rattle.meet_sync.specs.declared.asked.Answer.{Answer}
use Rattle.meet_sync.specs.declared.asked.Answer.TheVariants.{Gave as ToGave, Got as ToGot, Failed as ToFailed}
use Rattle.meet_sync.specs.declared.asked.Answer.TheVariants.{Kept as ToKept}
use Rattle.meet_sync.specs.declared.asked.Answer.TheVariants.{EntryInterrupted as ToEntryInterrupted}
use Rattle.meet_sync.specs.declared.asked.End.{End}
use Rattle.meet_sync.specs.declared.asked.End.TheVariants.{Gave, Got, Failed, Kept, EntryInterrupted, Done}
use Rattle.meet_sync.specs.declared.asked.End.TheVariants.{Interrupted, TimedOut}
use Rattle.meet_sync.specs.declared.asked.Ended.{Ended}

-- a call with a limit in milliseconds may run out of time, and one without can't
abbrev pub MayRunOut : (limit : Option ℕ) → Type 0
MayRunOut None = ⊥
MayRunOut (Some limit) = ⊤

module _ {T : Type 0} where
  -- the end of a whole call that was settled so
  abbrev pub end_of : Answer T → End T
  end_of (ToGave u) = Gave u
  end_of (ToGot u item) = Got u item
  end_of (ToFailed back) = Failed back
  end_of ToKept = Kept
  end_of (ToEntryInterrupted back) = EntryInterrupted back

  -- the deed with which a ticket that waited ended so; none where it can't
  abbrev pub last_deed : (T → ℕ) → End T → Option Deed
  last_deed mark Done = Some DoneDeed
  last_deed mark (Got u item) = Some (GotDeed (mark item) u)
  last_deed mark (Interrupted back) = Some (WithdrawnDeed ByInterrupt)
  last_deed mark (TimedOut back) = Some (WithdrawnDeed Expired)
  last_deed mark end = None

  -- what such an end hands back has the mark that the request brought
  abbrev pub MarksBack : (T → ℕ) → (mark : Option ℕ) → End T → Type 0
  MarksBack mark own (Interrupted back) = option_map mark back ≡ own
  MarksBack mark own (TimedOut back) = option_map mark back ≡ own
  MarksBack mark own end = ⊤

  -- the request waited, and its ticket ended with this deed: two receipts
  abbrev pub WaitedAs : Kind → (T → ℕ) → (old new : SeatView Deed) → Request T → Deed → Type 0
  WaitedAs k mark old new request last = (ticket : ℕ) × (first : Deed) × (waiting_deed k mark request ≡ Some first)
      × Adds old.list new.list (made old.number ticket first ∷ made old.number ticket last ∷ [])

  -- a whole call's receipts and its end; where it may expire, its time may run out
  abbrev pub EndsAs : Kind → (MayExpire : Type 0) → (T → ℕ) → (old new : SeatView Deed) → Request T → End T → Type 0
  EndsAs k MayExpire mark old new request (Gave u) = SettledAs k mark old new request (ToGave u)
  EndsAs k MayExpire mark old new request (Got u item) =
      SettledAs k mark old new request (ToGot u item) ⊎ WaitedAs k mark old new request (GotDeed (mark item) u)
  EndsAs k MayExpire mark old new request (Failed back) = SettledAs k mark old new request (ToFailed back)
  EndsAs k MayExpire mark old new request Kept = SettledAs k mark old new request ToKept
  EndsAs k MayExpire mark old new request (EntryInterrupted back) =
      SettledAs k mark old new request (ToEntryInterrupted back)
  EndsAs k MayExpire mark old new request Done = WaitedAs k mark old new request DoneDeed
  EndsAs k MayExpire mark old new request (Interrupted back) = (option_map mark back ≡ brought mark request)
      × WaitedAs k mark old new request (WithdrawnDeed ByInterrupt)
  EndsAs k MayExpire mark old new request (TimedOut back) = MayExpire × (option_map mark back ≡ brought mark request)
      × WaitedAs k mark old new request (WithdrawnDeed Expired)

  -- an end that isn't an expiry
  abbrev pub NotExpired : End T → Type 0
  NotExpired (TimedOut back) = ⊥
  NotExpired end = ⊤

module _ {T N : Type 0} where
  -- a whole call of this request came to this end
  abbrev pub EndedAs : Kind → (MayExpire : Type 0) → (T → ℕ) → SeatView Deed → Request T → Ended T N → Type 0
  EndedAs k MayExpire mark seat request ended =
      SameSeat seat ended.seat × EndsAs k MayExpire mark seat ended.seat request ended.end

  -- an open ticket ended so, with one receipt
  abbrev pub OutcomeOf : (T → ℕ) → PendingView Deed → Ended T N → Type 0
  OutcomeOf mark p ended = FreesSeat p ended.seat × MarksBack mark p.mark ended.end
      × ((deed : Deed) × (last_deed mark ended.end ≡ Some deed)
      × Adds p.list ended.seat.list (made p.number p.ticket deed ∷ []))
