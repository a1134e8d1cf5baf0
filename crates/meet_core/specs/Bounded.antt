-- What a queue of one thread shows of itself, and its steps.
use Rattle.std.proofs.Common.{◌≡◌, ◌≤◌, ◌<◌, ◌∙◌, ℕ, Option, None, List, All, false, sym, subst, true≢false, arith}
use Rattle.meet_line.specs.Merged.{Comes}
use Rattle.meet_tickets.specs.declared.lines.Entry.{Entry}
use Rattle.meet_tickets.specs.declared.places.Kind.{Kind}
use Rattle.meet_tickets.specs.declared.records.Record.{Record}
use Rattle.meet_tickets.specs.declared.records.Deed.{Deed}
use Rattle.meet_tickets.specs.Bases.{Based}
use Rattle.meet_core.specs.Queue.{Queue}
use Rattle.meet_core.specs.declared.calls.queue_calls.QueueCall.{QueueCall}
use Rattle.meet_core.specs.declared.calls.queue_calls.QueueAnswer.{QueueAnswer}
use Rattle.meet_core.specs.QueueSteps.{QueueStep, LeadsTo}

-- a queue, and its bound
pub record Bounded (T : Type 0) : Type 0 where
  pub queue : Queue T  -- the line, the room, the seats and the next ticket
  pub bound : Option ℕ  -- how many items are kept at most (our choice; LinkedTransferQueue has no bound)

-- a step of a queue whose kind is known by its bound, which stays
abbrev pub BoundedStep : {T : Type 0} → (T → ℕ) → (kind : Option ℕ → Kind) → Bounded T → (seat : ℕ) → QueueCall T
    → QueueAnswer T → Bounded T → Type 0
BoundedStep mark kind old i call answer new = (new.bound ≡ old.bound)
    × QueueStep mark (kind old.bound) old.queue i call answer new.queue

-- where the kind is one whatever the bound, it is a step of that kind
pub one-kind-step : {T : Type 0} (mark : T → ℕ) (kind : Option ℕ → Kind) → ((bound : Option ℕ) → kind bound ≡ kind None)
    → (old : Bounded T) (seat : ℕ) (call : QueueCall T) (answer : QueueAnswer T) (new : Bounded T)
    → BoundedStep mark kind old seat call answer new
    → QueueStep mark (kind None) old.queue seat call answer new.queue
one-kind-step mark kind one old seat call answer new step =
    subst (λ k. QueueStep mark k old.queue seat call answer new.queue) (one old.bound) step.1

-- and so is its history
pub one-kind-leads : {T : Type 0} (mark : T → ℕ) (kind : Option ℕ → Kind) → ((bound : Option ℕ) → kind bound ≡ kind None)
    → (base : Based) (records : List (Record Deed)) (b : Bounded T) → LeadsTo mark (kind b.bound) base records b.queue
    → LeadsTo mark (kind None) base records b.queue
one-kind-leads mark kind one base records b leads =
    subst (λ k. LeadsTo mark k base records b.queue) (one b.bound) leads

-- where none is kept, none of fewer is
pub none-fewer : (kept fewer : ℕ) → fewer ≤ kept → kept ≡ 0 → fewer ≡ 0
none-fewer kept fewer few none = omega (arith, few, none)

-- a node that doesn't wait may come to a line, if its ticket is above all others
abbrev pub IsBuffering : {T : Type 0} → (fits : (width : ℕ) → List (Entry T) → Entry T → Type 0) → Type 0
IsBuffering {T} fits = (width : ℕ) (line : List (Entry T)) (entry : Entry T) → entry.waits ≡ false
    → All (λ e. e.ticket < entry.ticket) line → fits width line entry

-- to the line of a transfer queue
pub transfer-buffers : {T : Type 0} → IsBuffering (λ (width : ℕ) (line : List (Entry T)) (entry : Entry T). Comes width line entry)
transfer-buffers width line entry kept above =
    record { above = above; seated = λ waits. absurd (true≢false (sym waits ∙ kept)) }
