-- The item that an answer hands out, and whose it was.
use Rattle.std.specs.Prelude.{◌≡◌, ℕ, Option, Some, None, IfSome, List}
use Rattle.meet_tickets.specs.declared.places.Kind.{Kind}
use Rattle.meet_tickets.specs.declared.places.End.{End}
use Rattle.meet_tickets.specs.declared.records.Record.{Record}
use Rattle.meet_tickets.specs.declared.records.Deed.{Deed}
use Rattle.meet_tickets.specs.Asked.{brought_on}
use Rattle.meet_tickets.specs.Bases.{Based}
use Rattle.meet_core.specs.Queue.{Queue}
use Rattle.meet_core.specs.declared.answers.Took.TheVariants.{Meets}
use Rattle.meet_core.specs.declared.answers.Polled.TheVariants.{Meets as PollMeets}
use Rattle.meet_core.specs.declared.answers.Followed.TheVariants.{Got, Interrupted}
use Rattle.meet_core.specs.declared.answers.TakenBack.TheVariants.{Back}
use Rattle.meet_core.specs.declared.calls.queue_calls.QueueCall.{QueueCall}
use Rattle.meet_core.specs.declared.calls.queue_calls.QueueCall.TheVariants.{Take, Poll, FollowUp, Cancel, Expire}
use Rattle.meet_core.specs.declared.calls.queue_calls.QueueAnswer.{QueueAnswer}
use Rattle.meet_core.specs.declared.calls.queue_calls.QueueAnswer.TheVariants.{Took as ToTake, Polled as ToPoll}
use Rattle.meet_core.specs.declared.calls.queue_calls.QueueAnswer.TheVariants.{Followed as ToFollowUp}
use Rattle.meet_core.specs.declared.calls.queue_calls.QueueAnswer.TheVariants.{TakenBack as ToWithdrawal}
use Rattle.meet_core.specs.QueueSteps.{DualStep, LeadsTo}

-- a giver's ticket, and its item
pub record Given (T : Type 0) : Type 0 where
  pub ticket : ℕ
  pub item : T

-- the item that an answer hands out, where it is that of an earlier request: to a taker, or back to its giver
abbrev pub handed : {T : Type 0} → QueueCall T → QueueAnswer T → Option (Given T)
handed Take (ToTake (Meets t u item)) = Some (record { ticket = u; item = item })
handed Poll (ToPoll (PollMeets t u item)) = Some (record { ticket = u; item = item })
handed (FollowUp t) (ToFollowUp (Got u item)) = Some (record { ticket = u; item = item })
handed (FollowUp t) (ToFollowUp (Interrupted (Some item))) = Some (record { ticket = t; item = item })
handed (Cancel t) (ToWithdrawal (Back (Some item))) = Some (record { ticket = t; item = item })
handed (Expire t) (ToWithdrawal (Back (Some item))) = Some (record { ticket = t; item = item })
handed call answer = None

-- whatever led to a queue, an item that a step hands out has the mark that its giver's request brought
abbrev pub HandsOutWhatWasBrought : {T : Type 0} → (mark : T → ℕ) → Type 0
HandsOutWhatWasBrought {T} mark =
    (k : Kind) (base : Based) (records : List (Record Deed)) (end : End) (old new : Queue T) (seat : ℕ)
    (call : QueueCall T) (answer : QueueAnswer T)
    → LeadsTo mark k base records old → DualStep mark end old seat call answer new
    → IfSome (handed call answer) (λ given. brought_on base records given.ticket ≡ Some (mark given.item))
