-- A poll of a queue of any kind in which a giver stands.
use Rattle.std.proofs.Common.{◌≡◌, ℕ, ◌<◌, refl, subst, Option, None}
use Rattle.meet_tickets.specs.declared.places.End.{End}
use Rattle.meet_tickets.specs.declared.places.Kind.{Kind}
use Rattle.meet_tickets.specs.Meeting.{end_of}
use Rattle.meet_core.specs.Queue.{Queue}
use Rattle.meet_book.specs.Draining.{TakesOne}
use Rattle.meet_core.specs.declared.calls.queue_calls.QueueCall.TheVariants.{Poll}
use Rattle.meet_core.specs.declared.calls.queue_calls.QueueAnswer.{QueueAnswer}
use Rattle.meet_core.specs.QueueRecords.{queue_record}
use Rattle.meet_core.specs.QueueSteps.{DualStep, QueueStep, queue_refusal, queue_owed, queue_available, queue_unspent}
use Rattle.meet_core.specs.Bounded.{Bounded, BoundedStep}
use Rattle.meet_queues.specs.Queues.{QueueOfKind}

-- what a poll of a queue takes
abbrev PollTakes : End → Queue ℕ → Type 0
PollTakes end old =
    (seat : ℕ) (answer : QueueAnswer ℕ) (new : Queue ℕ) → DualStep (λ m. m) end old seat Poll answer new → queue_refusal old seat Poll ≡ None → 0 < queue_available old → TakesOne queue_available queue_unspent queue_owed (λ q. queue_refusal q seat Poll) (queue_record (λ m. m) seat Poll answer) old new

-- one of any kind takes as much
pub any-takes : (old : QueueOfKind) (k : Kind) (q : Queue ℕ) → record { kind = k; queue = q } ≡ old → PollTakes (end_of k.order) q → (seat : ℕ) (answer : QueueAnswer ℕ) (new : QueueOfKind) → (new.kind ≡ old.kind) × QueueStep (λ m. m) old.kind old.queue seat Poll answer new.queue → queue_refusal old.queue seat Poll ≡ None → 0 < queue_available old.queue → TakesOne (λ any. queue_available any.queue) (λ any. queue_unspent any.queue) (λ any. queue_owed any.queue) (λ any. queue_refusal any.queue seat Poll) (queue_record (λ m. m) seat Poll answer) old new
any-takes old k q is takes seat answer new step none some =
    let here : PollTakes (end_of old.kind.order) old.queue = subst (λ (o : QueueOfKind). PollTakes (end_of o.kind.order) o.queue) is takes in
    let one = here seat answer new.queue step.1 none some in
    record { recorded = one.recorded; available = one.available; tickets = one.tickets; owed = one.owed; free = one.free }

-- and so does one whose kind is known by its bound
pub kept-takes : (kind : Option ℕ → Kind) (old : Bounded ℕ) → ((seat : ℕ) (answer : QueueAnswer ℕ) (new : Bounded ℕ) → BoundedStep (λ m. m) kind old seat Poll answer new → queue_refusal old.queue seat Poll ≡ None → 0 < queue_available old.queue → TakesOne (λ b. queue_available b.queue) (λ b. queue_unspent b.queue) (λ b. queue_owed b.queue) (λ b. queue_refusal b.queue seat Poll) (queue_record (λ m. m) seat Poll answer) old new) → PollTakes (end_of (kind old.bound).order) old.queue
kept-takes kind old takes seat answer new step none some =
    let one = takes seat answer (record { queue = new; bound = old.bound }) (refl, step) none some in
    record { recorded = one.recorded; available = one.available; tickets = one.tickets; owed = one.owed; free = one.free }
