-- The ending of a ticket that its seat awaits isn't refused.
use Rattle.std.proofs.Common.{◌≡◌, ℕ, refl, ap, ◌∙◌, Option, Some, None}
use Rattle.std.proofs.lemmas.Bool.{eq-eqb}
use Rattle.std.specs.Prelude.{if◌then◌else◌}
use Rattle.meet_tickets.specs.Refusals.{refusal_unless}
use Rattle.meet_tickets.specs.declared.refusals.Refusal.TheVariants.{NotOpen}
use Rattle.meet_core.specs.Awaits.{AwaitsAs}
use Rattle.meet_core.specs.Queue.{Queue, seats_of}
use Rattle.meet_core.specs.QueueSteps.{queue_need, queue_refusal}
use Rattle.meet_sync.specs.Told.{ending_call}
use Rattle.meet_sync.specs.declared.queue.Ending.{Ending}
use Rattle.meet_sync.specs.declared.queue.Ending.TheVariants.{FollowUp, Cancel, Expire}

pub no_need : (T : Type 0) (ending : Ending) (t : ℕ) → queue_need {T = T} (ending_call ending t) ≡ 0
no_need T FollowUp t = refl
no_need T Cancel t = refl
no_need T Expire t = refl

module _ {T : Type 0} (mark : T → ℕ) (q : Queue T) (seat t : ℕ) (own : Option ℕ)
    (awaits : AwaitsAs mark (seats_of q) seat t own) where
  own_ticket : refusal_unless (Some t) t ≡ None
  own_ticket = ap (λ b. if b then None else Some NotOpen) (eq-eqb t t refl)

  pub not_refused : (ending : Ending) → queue_refusal q seat (ending_call ending t) ≡ None
  not_refused FollowUp = ap (λ o. refusal_unless o t) awaits.is_open ∙ own_ticket
  not_refused Cancel = ap (λ o. refusal_unless o t) awaits.is_open ∙ own_ticket
  not_refused Expire = ap (λ o. refusal_unless o t) awaits.is_open ∙ own_ticket
