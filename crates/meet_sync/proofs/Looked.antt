-- What an ending tells of the queue that it looked at.
use Rattle.std.proofs.Common.{◌≡◌, ℕ, List, Option, Some, None, refl, ap, ◌∙◌, subst, option_to_list}
use Rattle.std.specs.Prelude.{option_map}
use Rattle.meet_tickets.specs.declared.places.Kind.{Kind}
use Rattle.meet_tickets.specs.declared.records.Deed.{Deed}
use Rattle.meet_tickets.specs.declared.records.Record.{Record}
use Rattle.meet_book.specs.Received.{Received}
use Rattle.meet_tickets.specs.BySeat.{entry_of}
use Rattle.meet_core.specs.Awaits.{AwaitsAs}
use Rattle.meet_core.specs.Queue.{Queue, seats_of}
use Rattle.meet_core.specs.QueueRecords.{queue_record}
use Rattle.meet_core.specs.QueueSteps.{QueueStep}
use Rattle.meet_core.specs.declared.answers.TakenBack.TheVariants.{Back as CameBack, Late as CameLate}
use Rattle.meet_core.specs.declared.calls.queue_calls.QueueAnswer.{QueueAnswer}
use Rattle.meet_core.specs.declared.calls.queue_calls.QueueAnswer.TheVariants.{TakenBack as ToTakeBack}
use Rattle.meet_core.specs.declared.calls.queue_calls.QueueCall.{QueueCall}
use Rattle.meet_place.specs.Seats.{SeatView, PendingView, Adds, FreesSeat}
use Rattle.meet_sync.proofs.Wholes.{adds_nothing}
use Rattle.meet_sync.specs.Asking.{TakenBackBy}
use Rattle.meet_sync.specs.Told.{IsEnding, IsWithdrawal, LookedAt, ending_call}
use Rattle.meet_sync.specs.declared.asked.TakenBack.TheVariants.{Back, Late}
use Rattle.meet_sync.specs.declared.queue.Ending.{Ending}
use Rattle.meet_sync.specs.declared.queue.Ending.TheVariants.{FollowUp, Cancel, Expire}

-- nothing was written, so nothing came to the list
pub none_came : (old new : List (Received Deed)) (r : Option (Record Deed)) → r ≡ None → Adds old new (option_to_list r) → new ≡ old
none_came old new r none adds = adds_nothing old new (subst (λ x. Adds old new (option_to_list x)) none adds)

-- a seat whose ticket is open, part by part
pub pending_same : (p q : PendingView Deed) → q.number ≡ p.number → q.past ≡ p.past → q.moment ≡ p.moment → q.list ≡ p.list
    → q.ticket ≡ p.ticket → q.mark ≡ p.mark → q ≡ p
pending_same p q number past moment list ticket mark =
    λ j. record { number = number j; past = past j; moment = moment j; list = list j; ticket = ticket j; mark = mark j }

module _ {T : Type 0} (mark : T → ℕ) where
  -- what came too late has no record
  pub late_has_none : (ending : Ending) (seat ticket : ℕ) → queue_record mark seat (ending_call ending ticket) (ToTakeBack CameLate) ≡ None
  late_has_none FollowUp seat ticket = refl
  late_has_none Cancel seat ticket = refl
  late_has_none Expire seat ticket = refl

module _ {T : Type 0} (k : Kind) (mark : T → ℕ) where
  -- the same look, of the same moment, seat, ticket, mark and call
  pub looked_same : (moment moment' seat seat' ticket ticket' : ℕ) (own own' : Option ℕ) (call call' : QueueCall T) (answer answer' : QueueAnswer T)
      → moment ≡ moment' → seat ≡ seat' → ticket ≡ ticket' → own ≡ own' → call ≡ call' → answer ≡ answer'
      → LookedAt k mark moment seat ticket own call answer → LookedAt k mark moment' seat' ticket' own' call' answer'
  looked_same m m' s s' t t' o o' c c' a a' em es et eo ec ea looked =
      subst (λ x. LookedAt k mark m' s' t' o' c' x) ea
      (subst (λ x. LookedAt k mark m' s' t' o' x a) ec
      (subst (λ x. LookedAt k mark m' s' t' x c a) eo
      (subst (λ x. LookedAt k mark m' s' x o c a) et
      (subst (λ x. LookedAt k mark m' x t o c a) es
      (subst (λ x. LookedAt k mark x s t o c a) em looked)))))

  -- what comes back of a ticket that its seat awaits has the mark that the request brought
  back_has_mark : (ending : Ending) (seat ticket : ℕ) (own : Option ℕ) (item : Option T) → IsWithdrawal ending
      → IsEnding k mark seat ticket own (ending_call ending ticket) (ToTakeBack (CameBack item)) → option_map mark item ≡ own
  back_has_mark FollowUp seat ticket own item withdrawal ending = absurd withdrawal
  back_has_mark Cancel seat ticket own item withdrawal (old, new, awaits, (e, waits, there, same, leaves)) =
      ap (option_map mark) same ∙ awaits.waiting e (ap (entry_of (seats_of old).line) waits ∙ there)
  back_has_mark Expire seat ticket own item withdrawal (old, new, awaits, (e, waits, there, same, leaves)) =
      ap (option_map mark) same ∙ awaits.waiting e (ap (entry_of (seats_of old).line) waits ∙ there)

module _ {T : Type 0} (k : Kind) (mark : T → ℕ) (p : PendingView Deed) where
  -- a ticket that was taken back by this ending
  pub taken_back : (N : Type 0) (ending : Ending) (s : SeatView Deed) (item : Option T) → IsWithdrawal ending → FreesSeat p s
      → IsEnding k mark p.number p.ticket p.mark (ending_call ending p.ticket) (ToTakeBack (CameBack item))
      → Adds p.list s.list (option_to_list (queue_record mark p.number (ending_call ending p.ticket) (ToTakeBack (CameBack item))))
      → TakenBackBy {N = N} k mark p ending (Back s item)
  taken_back N FollowUp s item withdrawal same ended adds = absurd withdrawal
  taken_back N Cancel s item withdrawal same ended adds =
      (same, back_has_mark k mark Cancel p.number p.ticket p.mark item withdrawal ended, adds)
  taken_back N Expire s item withdrawal same ended adds =
      (same, back_has_mark k mark Expire p.number p.ticket p.mark item withdrawal ended, adds)

  -- or that came too late
  pub came_late : (N : Type 0) (ending : Ending) (q : PendingView Deed) → IsWithdrawal ending → q ≡ p
      → LookedAt k mark p.moment p.number p.ticket p.mark (ending_call ending p.ticket) (ToTakeBack CameLate)
      → TakenBackBy {N = N} k mark p ending (Late q)
  came_late N FollowUp q withdrawal same looked = absurd withdrawal
  came_late N Cancel q withdrawal same looked = (same, looked)
  came_late N Expire q withdrawal same looked = (same, looked)
