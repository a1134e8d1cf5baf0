-- One thread's calls of a pool, whatever seats it speaks for: what each is told, writes and leaves.
use Rattle.std.specs.Prelude.{◌≡◌, ℕ, ◌+◌, ◌-◌, nat_lt, nat_le, Option, Some, None, List, [], ◌∷◌, ◌++◌, length, map}
use Rattle.std.specs.Prelude.{replicate, option_to_list, MatchOption, if◌then◌else◌}
use Rattle.meet_tickets.specs.declared.records.Record.{Record}
use Rattle.meet_tickets.specs.declared.refusals.Refusal.{Refusal}
use Rattle.meet_tickets.specs.declared.refusals.Refusal.TheVariants.{NoSuchSeat}
use Rattle.meet_tickets.specs.Limits.{most_records, most_gone}
use Rattle.meet_book.specs.Booking.{call_refusal}
use Rattle.meet_book.specs.Received.{Received}
use Rattle.pool_core.specs.declared.settings.Settings.{Settings}
use Rattle.pool_core.specs.declared.stages.Task.{Task}
use Rattle.pool_core.specs.declared.stages.Stage.TheVariants.{Absent}
use Rattle.pool_core.specs.declared.deeds.PoolDeed.{PoolDeed}
use Rattle.pool_core.specs.declared.calls.PoolCall.{PoolCall}
use Rattle.pool_core.specs.declared.calls.PoolCall.TheVariants.{Execute, ShutDown, ShutDownNow, Ready, Follow, Finish}
use Rattle.pool_core.specs.declared.calls.PoolCall.TheVariants.{IdleEnd, Leave, StartFailed}
use Rattle.pool_core.specs.declared.calls.PoolAnswer.{PoolAnswer}
use Rattle.pool_core.specs.declared.calls.PoolAnswer.TheVariants.{Executed, WasShut, Returned as ReturnedJobs, BeReady}
use Rattle.pool_core.specs.declared.calls.PoolAnswer.TheVariants.{Followed, Finished, Idled, Left, NotStarted}
use Rattle.pool_core.specs.declared.answers.IdleEnd.TheVariants.{Exit as IdleExits, Stay, Late as IdleLate}
use Rattle.pool_core.specs.declared.answers.IdleEnd.{IdleEnd as IdleAnswer}
use Rattle.pool_core.specs.Shown.{Shown}
use Rattle.pool_core.specs.Pools.{owed}
use Rattle.pool_core.specs.Histories.{nobody}
use Rattle.pool_core.specs.Placed.{PoolStep, pool_refusal, pool_need, pool_record}
use Rattle.pool_history.specs.declared.one_thread.verbs.PoolRequest.{PoolRequest}
use Rattle.pool_history.specs.declared.one_thread.verbs.PoolVerb.{PoolVerb}
use Rattle.pool_history.specs.declared.one_thread.verbs.PoolVerb.TheVariants.{Execute as ExecuteJob}
use Rattle.pool_history.specs.declared.one_thread.verbs.PoolVerb.TheVariants.{Ready as BeReadyNow}
use Rattle.pool_history.specs.declared.one_thread.verbs.PoolVerb.TheVariants.{Follow as FollowUp, Finish as FinishJob}
use Rattle.pool_history.specs.declared.one_thread.verbs.PoolVerb.TheVariants.{Idle, Leave as LeaveNow, Failed, Now}
use Rattle.pool_history.specs.declared.one_thread.verbs.PoolVerb.TheVariants.{ShutDown as ShutNow, Counters as CountNow}
use Rattle.pool_history.specs.declared.one_thread.verbs.PoolVerb.TheVariants.{Checkpoint}
use Rattle.pool_history.specs.declared.one_thread.replies.PoolReply.{PoolReply}
use Rattle.pool_history.specs.declared.one_thread.replies.PoolOutcome.{PoolOutcome}
use Rattle.pool_history.specs.declared.one_thread.replies.PoolOutcome.TheVariants.{Recorded, Returned, NotYet, Stays}
use Rattle.pool_history.specs.declared.one_thread.replies.PoolOutcome.TheVariants.{Late, Counted, Based, Refused}
use Rattle.pool_history.specs.Pushing.{counters_of}

-- a pool that one thread uses: the pool, whose jobs are their own tags; all records since the first; and how many of
-- them were folded away
pub record Thread : Type 0 where
  pub pool : Shown ℕ
  pub written : List (Record (PoolDeed ℕ))
  pub gone : ℕ

-- the first ticket of a new pool
abbrev pub first_ticket : ℕ
first_ticket = 1

-- before the first call, but for room: nobody works, and nothing is written
pub record IsNew (s : Settings) (t : Thread) : Type 0 where
  pub settings : t.pool.settings ≡ s
  pub pool : t.pool.pool ≡ nobody (replicate s.sizes.maximum Absent)
  pub next : t.pool.next ≡ first_ticket
  pub written : t.written ≡ []
  pub gone : t.gone ≡ 0

-- how many records there are since the last checkpoint
abbrev pub since : Thread → ℕ
since t = length t.written - t.gone

-- the pool's call of a verb; the counters and a checkpoint are none
abbrev pub call_of : PoolVerb → Option (PoolCall ℕ)
call_of (ExecuteJob tag) = Some (Execute tag)
call_of BeReadyNow = Some Ready
call_of FollowUp = Some Follow
call_of (FinishJob answer) = Some (Finish answer)
call_of Idle = Some IdleEnd
call_of LeaveNow = Some Leave
call_of Failed = Some StartFailed
call_of ShutNow = Some ShutDown
call_of Now = Some ShutDownNow
call_of CountNow = None
call_of Checkpoint = None

-- why a call is refused: the first that applies
abbrev pub refusal_at : Thread → (seat : ℕ) → PoolCall ℕ → Option Refusal
refusal_at t i call =
    call_refusal (pool_refusal t.pool i call) (nat_lt most_records (since t + owed t.pool.pool + pool_need call))

-- why a checkpoint is refused: the seat is neither a caller's nor a worker's, or too many records would be gone
abbrev pub checkpoint_refusal : Thread → (seat : ℕ) → Option Refusal
checkpoint_refusal t i =
    call_refusal
    (if nat_le (t.pool.settings.sizes.callers + t.pool.settings.sizes.maximum) i then Some NoSuchSeat else None)
    (nat_lt most_gone (length t.written))

-- a reply to a seat
abbrev pub reply : (seat : ℕ) → PoolOutcome → PoolReply
reply i outcome = record { seat = i; outcome = outcome }

-- what an answer says that writes no record
abbrev pub silent_idle : IdleAnswer → PoolOutcome
silent_idle IdleExits = Late
silent_idle Stay = Stays
silent_idle IdleLate = Late

abbrev pub silent : PoolAnswer ℕ → PoolOutcome
silent (Executed t answer) = NotYet
silent WasShut = NotYet
silent (ReturnedJobs jobs) = NotYet
silent (BeReady t answer) = NotYet
silent (Followed t answer) = NotYet
silent (Finished t) = NotYet
silent (Idled t answer) = silent_idle answer
silent Left = NotYet
silent (NotStarted t job) = NotYet

-- the jobs that come back with an answer, each by its ticket
abbrev pub returned : (seat : ℕ) → List (Task ℕ) → List PoolReply
returned i tasks = map (λ task. reply i (Returned task.ticket task.job)) tasks

abbrev pub job_back : (seat ticket : ℕ) → Option ℕ → List PoolReply
job_back i t None = []
job_back i t (Some job) = reply i (Returned t job) ∷ []

abbrev pub jobs_back : (seat : ℕ) → PoolAnswer ℕ → List PoolReply
jobs_back i (Executed t answer) = []
jobs_back i WasShut = []
jobs_back i (ReturnedJobs jobs) = returned i jobs.items
jobs_back i (BeReady t answer) = []
jobs_back i (Followed t answer) = []
jobs_back i (Finished t) = []
jobs_back i (Idled t answer) = []
jobs_back i Left = []
jobs_back i (NotStarted t job) = job_back i t job

-- how many replies a call has at most, where so many jobs are kept
abbrev pub most_replies : PoolCall ℕ → (kept : ℕ) → ℕ
most_replies ShutDownNow kept = kept + 1
most_replies call kept = 2

-- what a seat is told of the record of this number, or that there is none
abbrev pub told : (seat number : ℕ) → (silent : PoolOutcome) → Option (Record (PoolDeed ℕ)) → PoolReply
told i number silent None = reply i silent
told i number silent (Some r) = reply i (Recorded number r.ticket r.deed)

-- the same of its receipt
abbrev pub told_receipt : (seat : ℕ) → (silent : PoolOutcome) → Option (Received (PoolDeed ℕ)) → PoolReply
told_receipt i silent None = reply i silent
told_receipt i silent (Some r) = reply i (Recorded r.place r.entry.ticket r.entry.deed)

-- the record of an answer, if it has one
abbrev pub record_of : (seat : ℕ) → PoolCall ℕ → PoolAnswer ℕ → Option (Record (PoolDeed ℕ))
record_of i call answer = pool_record (λ tag. tag) i call answer

-- the replies to a call: of its record, and then the jobs that come back
abbrev pub replies_to : Thread → (seat : ℕ) → PoolCall ℕ → PoolAnswer ℕ → List PoolReply
replies_to t i call answer =
    told i (length t.written + 1) (silent answer) (record_of i call answer) ∷ jobs_back i answer

-- a call is answered: the pool makes its step, and the answer's record is written
pub record IsAnswered (old : Thread) (i : ℕ) (call : PoolCall ℕ) (replies : List PoolReply) (new : Thread)
    : Type 0 where
  pub answer : PoolAnswer ℕ
  pub step : PoolStep old.pool i call answer new.pool
  pub said : replies ≡ replies_to old i call answer
  pub written : new.written ≡ old.written ++ option_to_list (record_of i call answer)
  pub gone : new.gone ≡ old.gone

-- nothing changes but room
pub record IsSame (old new : Thread) : Type 0 where
  pub pool : new.pool ≡ record old.pool { room = new.pool.room }
  pub written : new.written ≡ old.written
  pub gone : new.gone ≡ old.gone

-- a call is refused, and nothing changes
pub record IsRefused (old : Thread) (i : ℕ) (why : Refusal) (replies : List PoolReply) (new : Thread) : Type 0 where
  pub same : IsSame old new
  pub said : replies ≡ reply i (Refused why) ∷ []

-- a call of the pool: it is refused, or answered
abbrev pub IsCalled : Thread → (seat : ℕ) → PoolCall ℕ → List PoolReply → Thread → Type 0
IsCalled old i call replies new =
    MatchOption (refusal_at old i call) (IsAnswered old i call replies new) (λ why. IsRefused old i why replies new)

-- the counters are told, and nothing changes
pub record AreCounted (old : Thread) (i : ℕ) (replies : List PoolReply) (new : Thread) : Type 0 where
  pub same : IsSame old new
  pub said : replies ≡ reply i (Counted (counters_of old.pool.pool)) ∷ []

-- all records so far are folded away
pub record AreFolded (old : Thread) (i : ℕ) (replies : List PoolReply) (new : Thread) : Type 0 where
  pub pool : new.pool ≡ old.pool
  pub written : new.written ≡ old.written
  pub gone : new.gone ≡ length old.written
  pub said : replies ≡ reply i (Based (length old.written)) ∷ []

-- a checkpoint: it is refused, or made
abbrev pub IsCheckpoint : Thread → (seat : ℕ) → List PoolReply → Thread → Type 0
IsCheckpoint old i replies new =
    MatchOption (checkpoint_refusal old i) (AreFolded old i replies new) (λ why. IsRefused old i why replies new)

-- what is no call of the pool
abbrev pub IsAside : PoolVerb → Thread → (seat : ℕ) → List PoolReply → Thread → Type 0
IsAside CountNow old i replies new = AreCounted old i replies new
IsAside Checkpoint old i replies new = IsCheckpoint old i replies new
IsAside verb old i replies new = ⊥

-- the turn of a call: what it is told, and where it leaves the pool
abbrev pub IsTurn : Thread → PoolRequest → List PoolReply → Thread → Type 0
IsTurn old request replies new =
    MatchOption (call_of request.verb) (IsAside request.verb old request.seat replies new)
    (λ call. IsCalled old request.seat call replies new)

-- the turns of one call after another
abbrev pub AreTurns : Thread → List PoolRequest → List PoolReply → Thread → Type 0
AreTurns old [] replies new = (replies ≡ []) × (new ≡ old)
AreTurns old (request ∷ requests) replies new =
    (between : Thread) × (first : List PoolReply) × (rest : List PoolReply) × (replies ≡ first ++ rest)
    × IsTurn old request first between × AreTurns between requests rest new
