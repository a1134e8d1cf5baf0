-- How the calls of producers and of consumers can end, and what they tell.
use Rattle.std.proofs.Common.{◌≡◌, ◌∙◌, ℕ, Option, Some, None, Result, Ok, Err, refl, sym, subst, inl, inr}
use Rattle.std.specs.Prelude.{IfOk, IfErr, option_map}
use Rattle.meet_tickets.specs.declared.places.Kind.{Kind}
use Rattle.meet_tickets.specs.declared.records.Deed.{Deed}
use Rattle.meet_place.specs.Seats.{SeatView}
use Rattle.meet_sync.specs.Asking.{item_of}
use Rattle.meet_sync.specs.Ending.{EndsAs}
use Rattle.meet_sync.specs.Told.{IsRequestWhy}
use Rattle.meet_sync.specs.declared.asked.Request.{Request}
use Rattle.meet_sync.specs.declared.asked.Request.TheVariants.{Put, Give, Offer, Take, Poll}
use Rattle.meet_sync.specs.declared.asked.End.{End}
use Rattle.meet_sync.specs.declared.asked.End.TheVariants.{Gave, Got, Failed, Kept, EntryInterrupted, Done}
use Rattle.meet_sync.specs.declared.asked.End.TheVariants.{Interrupted, TimedOut}
use Rattle.meet_tasks.specs.declared.refused.CallRefused.{CallRefused}
use Rattle.meet_tasks.specs.declared.outcomes.NotReceived.{NotReceived}
use Rattle.meet_tasks.specs.declared.outcomes.Unsent.{Unsent}
use Rattle.meet_tasks.specs.Handles.{HandleView, CalledAs, Keeps}
use Rattle.meet_tasks.specs.Outcomes.{EndFits, Tells, FailsAs}

-- what a settled call hands back is what was brought
failed : {T : Type 0} (brought : Option T) → EndFits brought (Failed brought)
failed (Some item) = refl
failed None = refl

entry : {T : Type 0} (brought : Option T) → EndFits brought (EntryInterrupted brought)
entry (Some item) = refl
entry None = refl

-- and what a call hands back that waited has its mark
cut : {T : Type 0} (mark : T → ℕ) (brought back : Option T) → option_map mark back ≡ option_map mark brought
    → EndFits brought (Interrupted back) × EndFits brought (TimedOut back)
cut mark (Some item) (Some other) same = (refl, refl)
cut mark (Some item) None same = absurd (cc)
cut mark None (Some other) same = absurd (cc)
cut mark None None same = (refl, refl)

-- a whole call of a request ends as such calls can
pub ends_fit : {T : Type 0} (k : Kind) (MayExpire : Type 0) (mark : T → ℕ) (old new : SeatView Deed) (request : Request T)
    (end : End T) → EndsAs k MayExpire mark old new request end → EndFits (item_of request) end
ends_fit k E mark old new (Put item) (Gave u) ends = tt
ends_fit k E mark old new (Give item) (Gave u) ends = tt
ends_fit k E mark old new (Offer item) (Gave u) ends = tt
ends_fit k E mark old new Take (Gave u) (back, (ticket, deed, is, adds)) = absurd (cc)
ends_fit k E mark old new Poll (Gave u) (back, (ticket, deed, is, adds)) = absurd (cc)
ends_fit k E mark old new (Put item) Kept ends = tt
ends_fit k E mark old new (Give item) Kept ends = tt
ends_fit k E mark old new (Offer item) Kept ends = tt
ends_fit k E mark old new Take Kept (back, (ticket, deed, is, adds)) = absurd (cc)
ends_fit k E mark old new Poll Kept (back, (ticket, deed, is, adds)) = absurd (cc)
ends_fit k E mark old new (Put item) (Got u got) ends = tt
ends_fit k E mark old new (Give item) (Got u got) ends = tt
ends_fit k E mark old new (Offer item) (Got u got) ends = tt
ends_fit k E mark old new Take (Got u got) ends = tt
ends_fit k E mark old new Poll (Got u got) ends = tt
ends_fit k E mark old new (Put item) Done ends = tt
ends_fit k E mark old new (Give item) Done ends = tt
ends_fit k E mark old new (Offer item) Done ends = tt
ends_fit k E mark old new Take Done ends = tt
ends_fit k E mark old new Poll Done ends = tt
ends_fit k E mark old new request (Failed back) (same, settled) =
    subst (λ back. EndFits (item_of request) (Failed back)) (sym same) (failed (item_of request))
ends_fit k E mark old new request (EntryInterrupted back) (same, settled) =
    subst (λ back. EndFits (item_of request) (EntryInterrupted back)) (sym same) (entry (item_of request))
ends_fit k E mark old new request (Interrupted back) (same, waited) = (cut mark (item_of request) back same).0
ends_fit k E mark old new request (TimedOut back) (may, same, waited) = (cut mark (item_of request) back same).1

module _ {T : Type 0} (cap seats : ℕ) (k : Kind) (E : Type 0) (mark : T → ℕ) (old new : HandleView) (request : Request T) where
  -- a call that met nobody
  fails : (asked : Result (End T) (CallRefused T)) (reason : NotReceived) (back : Option T)
      → IfOk asked (λ end. CalledAs cap seats k E mark old new request end) → IfErr asked (λ refused. Keeps cap seats old new)
      → IfErr asked (λ refused. refused.item ≡ item_of request) → IfErr asked (λ refused. IsRequestWhy refused.why)
      → Tells asked reason back → FailsAs cap seats k E mark old new request reason back
  fails (Ok end) reason back called keeps item why tells = inl (end, tells, called)
  fails (Err refused) reason back called keeps item why (is, same) = inr (refused.why, is, why, same ∙ item, keeps)

  -- one whose item wasn't sent
  pub not_sent : {A : Type 0} (asked : Result (End T) (CallRefused T)) (told : Result A (Unsent T))
      → IfOk asked (λ end. CalledAs cap seats k E mark old new request end) → IfErr asked (λ refused. Keeps cap seats old new)
      → IfErr asked (λ refused. refused.item ≡ item_of request) → IfErr asked (λ refused. IsRequestWhy refused.why)
      → IfErr told (λ unsent. Tells asked unsent.why (Some unsent.item))
      → IfErr told (λ unsent. FailsAs cap seats k E mark old new request unsent.why (Some unsent.item))
  not_sent asked (Ok a) called keeps item why tells = tt
  not_sent asked (Err unsent) called keeps item why tells =
      fails asked unsent.why (Some unsent.item) called keeps item why tells
