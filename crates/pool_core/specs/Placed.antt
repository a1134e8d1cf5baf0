-- A pool as a book's place: its calls, their steps, refusals, costs and records.
use Rattle.std.specs.Prelude.{◌≡◌, ℕ, ◌<◌, Option, Some, None, List, length, MatchOption, ⊤, refl}
use Rattle.std.proofs.Common.{arith}
use Rattle.meet_tickets.specs.declared.records.Record.{Record}
use Rattle.meet_tickets.specs.declared.refusals.Refusal.{Refusal}
use Rattle.pool_core.specs.declared.deeds.PoolDeed.{PoolDeed}
use Rattle.pool_core.specs.declared.deeds.PoolDeed.TheVariants.{Exits, Runs, IdleExit, Leaves}
use Rattle.pool_core.specs.declared.deeds.PoolDeed.TheVariants.{StartFailed as StartFailedDeed}
use Rattle.pool_core.specs.declared.deeds.PoolDeed.TheVariants.{Finished as FinishedDeed, ShutDown as ShutDownDeed}
use Rattle.pool_core.specs.declared.deeds.PoolDeed.TheVariants.{ShutDownNow as ShutDownNowDeed}
use Rattle.pool_core.specs.declared.calls.PoolCall.{PoolCall}
use Rattle.pool_core.specs.declared.calls.PoolCall.TheVariants.{Execute, ShutDown, ShutDownNow, Ready, Follow, Finish}
use Rattle.pool_core.specs.declared.calls.PoolCall.TheVariants.{IdleEnd, Leave, StartFailed}
use Rattle.pool_core.specs.declared.calls.PoolAnswer.{PoolAnswer}
use Rattle.pool_core.specs.declared.calls.PoolAnswer.TheVariants.{Executed, WasShut, Returned, BeReady}
use Rattle.pool_core.specs.declared.calls.PoolAnswer.TheVariants.{Followed as ToFollow}
use Rattle.pool_core.specs.declared.calls.PoolAnswer.TheVariants.{Finished, Idled, Left, NotStarted}
use Rattle.pool_core.specs.declared.answers.Followed.{Followed}
use Rattle.pool_core.specs.declared.answers.Followed.TheVariants.{Run as FollowRun, Exit as FollowExit, NotYet}
use Rattle.pool_core.specs.declared.answers.IdleEnd.TheVariants.{Exit as IdleExits, Stay, Late}
use Rattle.pool_core.specs.declared.answers.IdleEnd.{IdleEnd as IdleAnswer}
use Rattle.pool_core.specs.Shown.{Shown}
use Rattle.pool_core.specs.Histories.{Based}
use Rattle.pool_core.specs.Bases.{tagged_deed, LeadsTo}
use Rattle.pool_core.specs.Calls.{Step, ComesBack, FollowStep, IdleStep, execute_refusal, shutdown_refusal}
use Rattle.pool_core.specs.Calls.{worker_refusal, is_running, is_starting, is_at_queue, is_jobless, execute_deed}
use Rattle.pool_core.specs.Calls.{ready_deed, ReturnStep, StartStep}

-- a seat's call makes the pool's step, with an answer of its own kind
abbrev pub PoolStep : {X : Type 0} → Shown X → (seat : ℕ) → PoolCall X → PoolAnswer X → Shown X → Type 0
PoolStep old i (Execute job) (Executed t answer) new = Step old i t (execute_deed job answer) new × ComesBack job answer
PoolStep old i ShutDown WasShut new = Step old i 0 ShutDownDeed new
PoolStep old i ShutDownNow (Returned jobs) new = ReturnStep old i jobs.items new
PoolStep old i Ready (BeReady t answer) new = Step old i t (ready_deed answer) new
PoolStep old i Follow (ToFollow t answer) new = FollowStep old i t answer new
PoolStep old i (Finish a) (Finished t) new = Step old i t (FinishedDeed a) new
PoolStep old i IdleEnd (Idled t answer) new = IdleStep old i t answer new
PoolStep old i Leave Left new = Step old i 0 Leaves new
PoolStep old i StartFailed (NotStarted t job) new = StartStep old i t job new
PoolStep old i call answer new = ⊥

-- why a call is refused, HistoryFull and Memory aside: the first that applies
abbrev pub pool_refusal : {X : Type 0} → Shown X → (seat : ℕ) → PoolCall X → Option Refusal
pool_refusal p i (Execute job) = execute_refusal p i
pool_refusal p i ShutDown = shutdown_refusal p i
pool_refusal p i ShutDownNow = shutdown_refusal p i
pool_refusal p i Ready = worker_refusal is_starting p i
pool_refusal p i Follow = worker_refusal is_at_queue p i
pool_refusal p i (Finish a) = worker_refusal is_running p i
pool_refusal p i IdleEnd = worker_refusal is_at_queue p i
pool_refusal p i Leave = worker_refusal is_jobless p i
pool_refusal p i StartFailed = worker_refusal is_starting p i

-- how many records a call may need: an `execute` its own and those of the job and of a worker that starts, a shutdown
-- its own
abbrev pub pool_need : {X : Type 0} → PoolCall X → ℕ
pool_need (Execute job) = 6
pool_need ShutDown = 1
pool_need ShutDownNow = 1
pool_need Ready = 0
pool_need Follow = 0
pool_need (Finish a) = 0
pool_need IdleEnd = 0
pool_need Leave = 0
pool_need StartFailed = 0

-- a job may be kept
abbrev pub pool_room : {X : Type 0} → PoolCall X → ℕ
pool_room (Execute job) = 1
pool_room ShutDown = 0
pool_room ShutDownNow = 0
pool_room Ready = 0
pool_room Follow = 0
pool_room (Finish a) = 0
pool_room IdleEnd = 0
pool_room Leave = 0
pool_room StartFailed = 0

-- a record of this seat
abbrev pub recorded : (seat ticket : ℕ) → PoolDeed ℕ → Option (Record (PoolDeed ℕ))
recorded i t deed = Some (record { seat = i; ticket = t; deed = deed })

-- the record of an answer to `follow`, and to `idle_end`
abbrev pub follow_record : {X : Type 0} → (X → ℕ) → (seat ticket : ℕ) → Followed X → Option (Record (PoolDeed ℕ))
follow_record mark i t (FollowRun u job) = recorded i t (Runs u (mark job))
follow_record mark i t FollowExit = recorded i t Exits
follow_record mark i t NotYet = None

abbrev pub idle_record : (seat ticket : ℕ) → IdleAnswer → Option (Record (PoolDeed ℕ))
idle_record i t IdleExits = recorded i t IdleExit
idle_record i t Stay = None
idle_record i t Late = None

-- the record of a call that was answered so
abbrev pub pool_record : {X : Type 0} → (X → ℕ) → (seat : ℕ) → PoolCall X → PoolAnswer X → Option (Record (PoolDeed ℕ))
pool_record mark i (Execute job) (Executed t answer) = recorded i t (tagged_deed mark (execute_deed job answer))
pool_record mark i ShutDown WasShut = recorded i 0 ShutDownDeed
pool_record mark i ShutDownNow (Returned jobs) = recorded i 0 (ShutDownNowDeed (length jobs.items))
pool_record mark i Ready (BeReady t answer) = recorded i t (tagged_deed mark (ready_deed answer))
pool_record mark i Follow (ToFollow t answer) = follow_record mark i t answer
pool_record mark i (Finish a) (Finished t) = recorded i t (FinishedDeed a)
pool_record mark i IdleEnd (Idled t answer) = idle_record i t answer
pool_record mark i Leave Left = recorded i 0 Leaves
pool_record mark i StartFailed (NotStarted t job) = recorded i t StartFailedDeed
pool_record mark i call answer = None

-- a record is of the seat that called
own-follow : {X : Type 0} (mark : X → ℕ) (i t : ℕ) (answer : Followed X)
    → MatchOption (follow_record mark i t answer) ⊤ (λ r. r.seat ≡ i)
own-follow mark i t (FollowRun u job) = refl
own-follow mark i t FollowExit = refl
own-follow mark i t NotYet = tt

own-idle : (i t : ℕ) (answer : IdleAnswer) → MatchOption (idle_record i t answer) ⊤ (λ r. r.seat ≡ i)
own-idle i t IdleExits = refl
own-idle i t Stay = tt
own-idle i t Late = tt

pub own-record : {X : Type 0} (mark : X → ℕ) (i : ℕ) (call : PoolCall X) (answer : PoolAnswer X)
    → MatchOption (pool_record mark i call answer) ⊤ (λ r. r.seat ≡ i)
own-record mark i (Execute job) (Executed t answer) = refl
own-record mark i (Execute job) WasShut = tt
own-record mark i (Execute job) (Returned jobs) = tt
own-record mark i (Execute job) (BeReady t answer) = tt
own-record mark i (Execute job) (ToFollow t answer) = tt
own-record mark i (Execute job) (Finished t) = tt
own-record mark i (Execute job) (Idled t answer) = tt
own-record mark i (Execute job) Left = tt
own-record mark i (Execute job) (NotStarted t job2) = tt
own-record mark i ShutDown (Executed t answer) = tt
own-record mark i ShutDown WasShut = refl
own-record mark i ShutDown (Returned jobs) = tt
own-record mark i ShutDown (BeReady t answer) = tt
own-record mark i ShutDown (ToFollow t answer) = tt
own-record mark i ShutDown (Finished t) = tt
own-record mark i ShutDown (Idled t answer) = tt
own-record mark i ShutDown Left = tt
own-record mark i ShutDown (NotStarted t job2) = tt
own-record mark i ShutDownNow (Executed t answer) = tt
own-record mark i ShutDownNow WasShut = tt
own-record mark i ShutDownNow (Returned jobs) = refl
own-record mark i ShutDownNow (BeReady t answer) = tt
own-record mark i ShutDownNow (ToFollow t answer) = tt
own-record mark i ShutDownNow (Finished t) = tt
own-record mark i ShutDownNow (Idled t answer) = tt
own-record mark i ShutDownNow Left = tt
own-record mark i ShutDownNow (NotStarted t job2) = tt
own-record mark i Ready (Executed t answer) = tt
own-record mark i Ready WasShut = tt
own-record mark i Ready (Returned jobs) = tt
own-record mark i Ready (BeReady t answer) = refl
own-record mark i Ready (ToFollow t answer) = tt
own-record mark i Ready (Finished t) = tt
own-record mark i Ready (Idled t answer) = tt
own-record mark i Ready Left = tt
own-record mark i Ready (NotStarted t job2) = tt
own-record mark i Follow (Executed t answer) = tt
own-record mark i Follow WasShut = tt
own-record mark i Follow (Returned jobs) = tt
own-record mark i Follow (BeReady t answer) = tt
own-record mark i Follow (ToFollow t answer) = own-follow mark i t answer
own-record mark i Follow (Finished t) = tt
own-record mark i Follow (Idled t answer) = tt
own-record mark i Follow Left = tt
own-record mark i Follow (NotStarted t job2) = tt
own-record mark i (Finish a) (Executed t answer) = tt
own-record mark i (Finish a) WasShut = tt
own-record mark i (Finish a) (Returned jobs) = tt
own-record mark i (Finish a) (BeReady t answer) = tt
own-record mark i (Finish a) (ToFollow t answer) = tt
own-record mark i (Finish a) (Finished t) = refl
own-record mark i (Finish a) (Idled t answer) = tt
own-record mark i (Finish a) Left = tt
own-record mark i (Finish a) (NotStarted t job2) = tt
own-record mark i IdleEnd (Executed t answer) = tt
own-record mark i IdleEnd WasShut = tt
own-record mark i IdleEnd (Returned jobs) = tt
own-record mark i IdleEnd (BeReady t answer) = tt
own-record mark i IdleEnd (ToFollow t answer) = tt
own-record mark i IdleEnd (Finished t) = tt
own-record mark i IdleEnd (Idled t answer) = own-idle i t answer
own-record mark i IdleEnd Left = tt
own-record mark i IdleEnd (NotStarted t job2) = tt
own-record mark i Leave (Executed t answer) = tt
own-record mark i Leave WasShut = tt
own-record mark i Leave (Returned jobs) = tt
own-record mark i Leave (BeReady t answer) = tt
own-record mark i Leave (ToFollow t answer) = tt
own-record mark i Leave (Finished t) = tt
own-record mark i Leave (Idled t answer) = tt
own-record mark i Leave Left = refl
own-record mark i Leave (NotStarted t job2) = tt
own-record mark i StartFailed (Executed t answer) = tt
own-record mark i StartFailed WasShut = tt
own-record mark i StartFailed (Returned jobs) = tt
own-record mark i StartFailed (BeReady t answer) = tt
own-record mark i StartFailed (ToFollow t answer) = tt
own-record mark i StartFailed (Finished t) = tt
own-record mark i StartFailed (Idled t answer) = tt
own-record mark i StartFailed Left = tt
own-record mark i StartFailed (NotStarted t job2) = refl

-- room changes no refusal
pub roomy-refusal : {X : Type 0} (p : Shown X) (room i : ℕ) (call : PoolCall X)
    → pool_refusal (record p { room = room }) i call ≡ pool_refusal p i call
roomy-refusal p room i (Execute job) = refl
roomy-refusal p room i ShutDown = refl
roomy-refusal p room i ShutDownNow = refl
roomy-refusal p room i Ready = refl
roomy-refusal p room i Follow = refl
roomy-refusal p room i (Finish a) = refl
roomy-refusal p room i IdleEnd = refl
roomy-refusal p room i Leave = refl
roomy-refusal p room i StartFailed = refl

-- a call that needs no record uses no room
pub roomless : {X : Type 0} (call : PoolCall X) → pool_need call ≡ 0 → pool_room call ≡ 0
roomless (Execute job) none = absurd (let no : 6 ≡ 0 = none in cc)
roomless ShutDown none = refl
roomless ShutDownNow none = refl
roomless Ready none = refl
roomless Follow none = refl
roomless (Finish a) none = refl
roomless IdleEnd none = refl
roomless Leave none = refl
roomless StartFailed none = refl

-- room changes no history
pub roomy-leads : {X : Type 0} (mark : X → ℕ) (b : Based) (records : List (Record (PoolDeed ℕ))) (p : Shown X)
    (room : ℕ) → LeadsTo mark b records p → LeadsTo mark b records (record p { room = room })
roomy-leads mark b records p room leads =
    record { well_formed = leads.well_formed; legal = leads.legal; next = leads.next; leaves = leads.leaves }

-- room changes no step of a call that asks for it
pub roomy-steps : {X : Type 0} (old : Shown X) (room i : ℕ) (call : PoolCall X) (answer : PoolAnswer X) (new : Shown X)
    → 0 < pool_room call → PoolStep (record old { room = room }) i call answer new → PoolStep old i call answer new
roomy-steps old room i (Execute job) (Executed t answer) new some step = (
  record {
    allowed = step.0.allowed;
    pool_is = step.0.pool_is;
    used = step.0.used;
    newest = step.0.newest;
    settings = step.0.settings;
  },
  step.1,
)
roomy-steps old room i (Execute job) WasShut new some step = absurd step
roomy-steps old room i (Execute job) (Returned jobs) new some step = absurd step
roomy-steps old room i (Execute job) (BeReady t answer) new some step = absurd step
roomy-steps old room i (Execute job) (ToFollow t answer) new some step = absurd step
roomy-steps old room i (Execute job) (Finished t) new some step = absurd step
roomy-steps old room i (Execute job) (Idled t answer) new some step = absurd step
roomy-steps old room i (Execute job) Left new some step = absurd step
roomy-steps old room i (Execute job) (NotStarted t job2) new some step = absurd step
roomy-steps old room i ShutDown answer new some step = absurd (omega (arith, some))
roomy-steps old room i ShutDownNow answer new some step = absurd (omega (arith, some))
roomy-steps old room i Ready answer new some step = absurd (omega (arith, some))
roomy-steps old room i Follow answer new some step = absurd (omega (arith, some))
roomy-steps old room i (Finish a) answer new some step = absurd (omega (arith, some))
roomy-steps old room i IdleEnd answer new some step = absurd (omega (arith, some))
roomy-steps old room i Leave answer new some step = absurd (omega (arith, some))
roomy-steps old room i StartFailed answer new some step = absurd (omega (arith, some))
