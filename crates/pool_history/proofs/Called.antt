-- A call of one thread's pool is answered or refused, and there is room for its replies.
use Rattle.std.proofs.Common.{◌≡◌, ◌≢◌, ℕ, ◌+◌, ◌≤◌, sym, ap, ◌∙◌, subst, Option, Some, None, List, ◌++◌, length, length-append, ltb, arith}
use Rattle.std.proofs.lemmas.List.{length-map}
use Rattle.std.specs.Prelude.{MatchOption, ⊤, OnOk, Result, Ok, Err, is_err, false}
use Rattle.meet_tickets.specs.declared.records.Record.{Record}
use Rattle.meet_tickets.specs.declared.refusals.Refusal.{Refusal}
use Rattle.meet_tickets.specs.declared.refusals.Refusal.TheVariants.{Memory}
use Rattle.meet_tickets.specs.Limits.{most_records}
use Rattle.meet_tickets.specs.Meeting.{kept_count}
use Rattle.meet_tickets.specs.Refusals.{IsWhy}
use Rattle.meet_book.specs.Booking.{call_refusal, record_of_receipt}
use Rattle.meet_book.specs.Received.{Received}
use Rattle.pool_core.specs.declared.deeds.PoolDeed.{PoolDeed}
use Rattle.pool_core.specs.declared.stages.Task.{Task}
use Rattle.pool_core.specs.declared.calls.PoolCall.{PoolCall}
use Rattle.pool_core.specs.declared.calls.PoolCall.TheVariants.{Execute, ShutDown, ShutDownNow, Ready, Follow, Finish, IdleEnd, Leave, StartFailed}
use Rattle.pool_core.specs.declared.calls.PoolAnswer.{PoolAnswer}
use Rattle.pool_core.specs.declared.calls.PoolAnswer.TheVariants.{Executed, WasShut, Returned, BeReady, Followed, Finished, Idled, Left, NotStarted}
use Rattle.pool_core.specs.Shown.{Shown}
use Rattle.pool_core.specs.Pools.{owed, kept_tasks}
use Rattle.pool_core.specs.Sound.{IsSound}
use Rattle.pool_core.specs.Placed.{PoolStep, pool_refusal, pool_need}
use Rattle.pool_core.proofs.Emptied.{tasks-count}
use Rattle.pool_history.specs.declared.one_thread.replies.PoolReply.{PoolReply}
use Rattle.pool_history.specs.declared.one_thread.replies.PoolOutcome.{PoolOutcome}
use Rattle.pool_history.specs.declared.one_thread.replies.PoolOutcome.TheVariants.{Recorded, Returned as Back}
use Rattle.pool_history.specs.OneThread.{Thread, since, refusal_at, jobs_back, most_replies, returned, reply, told, told_receipt, IsAnswered, IsRefused, IsCalled}

-- the records since the last checkpoint are those of the book
pub since-is : (past records : List (Record (PoolDeed ℕ))) (gone : ℕ) (pool : Shown ℕ) → length past ≡ gone → since (record { pool = pool; written = past ++ records; gone = gone }) ≡ length records
since-is past records gone pool is = omega (arith, is, length-append past records)

pub refusal-same : (past records : List (Record (PoolDeed ℕ))) (gone cap i : ℕ) (pool : Shown ℕ) (call : PoolCall ℕ) → length past ≡ gone → cap ≡ most_records → refusal_at (record { pool = pool; written = past ++ records; gone = gone }) i call ≡ call_refusal (pool_refusal pool i call) (ltb cap (length records + owed pool.pool + pool_need call))
refusal-same past records gone cap i pool call is own =
    ap (λ n. call_refusal (pool_refusal pool i call) (ltb most_records (n + owed pool.pool + pool_need call))) (since-is past records gone pool is)
    ∙ ap (λ n. call_refusal (pool_refusal pool i call) (ltb n (length records + owed pool.pool + pool_need call))) (sym own)

-- a call that isn't refused is answered
pub called-ok : (old new : Thread) (i : ℕ) (call : PoolCall ℕ) (replies : List PoolReply) → refusal_at old i call ≡ None → IsAnswered old i call replies new → IsCalled old i call replies new
called-ok old new i call replies none answered =
    subst (λ o. MatchOption o (IsAnswered old i call replies new) (λ why. IsRefused old i why replies new)) (sym none) answered

-- and one that is refused, not for memory, is refused for its reason
pub called-refused : (old new : Thread) (i : ℕ) (call : PoolCall ℕ) (why : Refusal) (replies : List PoolReply) → IsWhy (refusal_at old i call) why → why ≢ Memory → IsRefused old i why replies new → IsCalled old i call replies new
called-refused old new i call why replies is other refused = by_refusal (refusal_at old i call) is
  where
    by_refusal : (o : Option Refusal) → IsWhy o why → MatchOption o (IsAnswered old i call replies new) (λ own. IsRefused old i own replies new)
    by_refusal None none = absurd (other none)
    by_refusal (Some own) same = subst (λ w. IsRefused old i w replies new) same refused

-- there is room for one reply
one-replies : (call : PoolCall ℕ) (kept : ℕ) → 1 ≤ most_replies call kept
one-replies (Execute tag) kept = omega arith
one-replies ShutDown kept = omega arith
one-replies ShutDownNow kept = omega arith
one-replies Ready kept = omega arith
one-replies Follow kept = omega arith
one-replies (Finish a) kept = omega arith
one-replies IdleEnd kept = omega arith
one-replies Leave kept = omega arith
one-replies StartFailed kept = omega arith

module _ (old new : Shown ℕ) (i : ℕ) (sound : IsSound old.settings old.pool old.next) where
  few-returned : (jobs : List (Task ℕ)) → jobs ≡ kept_tasks old.pool.line → 1 + length (returned i jobs) ≤ kept_count old.pool.line + 1
  few-returned jobs all =
      let count : length jobs ≡ length (kept_tasks old.pool.line) = ap length all in
      omega (arith, count, tasks-count old.pool.line sound.takes, length-map jobs (λ task. reply i (Back task.ticket task.job)))

  few-failed : (call : PoolCall ℕ) (t job : ℕ) → PoolStep old i call (NotStarted t (Some job)) new → 2 ≤ most_replies call (kept_count old.pool.line)
  few-failed (Execute tag) t job step = absurd step
  few-failed ShutDown t job step = absurd step
  few-failed ShutDownNow t job step = absurd step
  few-failed Ready t job step = absurd step
  few-failed Follow t job step = absurd step
  few-failed (Finish a) t job step = absurd step
  few-failed IdleEnd t job step = absurd step
  few-failed Leave t job step = absurd step
  few-failed StartFailed t job step = omega arith

  -- there are as many jobs to bring back as there is room for
  pub few-back : (call : PoolCall ℕ) (answer : PoolAnswer ℕ) → PoolStep old i call answer new → 1 + length (jobs_back i answer) ≤ most_replies call (kept_count old.pool.line)
  few-back call (Executed t answer) step = one-replies call (kept_count old.pool.line)
  few-back call WasShut step = one-replies call (kept_count old.pool.line)
  few-back call (BeReady t answer) step = one-replies call (kept_count old.pool.line)
  few-back call (Followed t answer) step = one-replies call (kept_count old.pool.line)
  few-back call (Finished t) step = one-replies call (kept_count old.pool.line)
  few-back call (Idled t answer) step = one-replies call (kept_count old.pool.line)
  few-back call Left step = one-replies call (kept_count old.pool.line)
  few-back call (NotStarted t None) step = one-replies call (kept_count old.pool.line)
  few-back (Execute tag) (Returned jobs) step = absurd step
  few-back ShutDown (Returned jobs) step = absurd step
  few-back ShutDownNow (Returned jobs) step = few-returned jobs.items step.1
  few-back Ready (Returned jobs) step = absurd step
  few-back Follow (Returned jobs) step = absurd step
  few-back (Finish a) (Returned jobs) step = absurd step
  few-back IdleEnd (Returned jobs) step = absurd step
  few-back Leave (Returned jobs) step = absurd step
  few-back StartFailed (Returned jobs) step = absurd step
  few-back call (NotStarted t (Some job)) step = few-failed call t job step

-- what is told of a receipt is what is told of its record
pub told-same : (i n : ℕ) (silent : PoolOutcome) (receipt : Option (Received (PoolDeed ℕ))) (of : Option (Record (PoolDeed ℕ))) → record_of_receipt receipt ≡ of → MatchOption receipt ⊤ (λ r. r.place ≡ n) → told_receipt i silent receipt ≡ told i n silent of
told-same i n silent None of is at = ap (told i n silent) is
told-same i n silent (Some r) of is at = ap (λ k. reply i (Recorded k r.entry.ticket r.entry.deed)) at ∙ ap (told i n silent) is

-- what holds of an answer that isn't refused
pub on-ok : {A E : Type 0} {P : Type 0} (r : Result A E) → is_err r ≡ false → OnOk r P → P
on-ok (Ok a) is holds = holds
on-ok (Err e) is holds = cc
