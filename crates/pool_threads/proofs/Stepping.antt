-- A worker's step under the lock is its core's.
use Rattle.std.proofs.Common.{◌≡◌, ℕ, ap, inl, inr, sym, subst, Option}
use Rattle.std.specs.Prelude.{option_to_list}
use Rattle.meet_place.specs.Seats.{SeatView, Adds}
use Rattle.pool_core.specs.Moves.{IsMade, Jobs, Moves, FailMoves, jobs_of}
use Rattle.pool_core.specs.Placed.{pool_record}
use Rattle.pool_core.specs.Shown.{Shown}
use Rattle.pool_core.specs.declared.calls.PoolCall.{PoolCall}
use Rattle.pool_core.specs.declared.calls.PoolCall.TheVariants as core
use Rattle.pool_core.specs.declared.calls.PoolAnswer.{PoolAnswer}
use Rattle.pool_core.specs.declared.calls.PoolAnswer.TheVariants as answer
use Rattle.pool_core.specs.declared.deeds.PoolDeed.{PoolDeed}
use Rattle.pool_threads.specs.declared.jobs.Job.{Job}
use Rattle.pool_threads.specs.declared.steps.Next.{Next}
use Rattle.pool_threads.specs.declared.steps.Next.TheVariants as next
use Rattle.pool_threads.specs.Mirrored.{given_tag}
use Rattle.pool_threads.specs.Stepped.{IsTold, Works, Fails}

module _ {C : Type 0} (old new : Shown ℕ) (seat after : SeatView (PoolDeed ℕ)) (call : PoolCall ℕ) where
  -- the core made it
  pub works : (said told : PoolAnswer ℕ) (n : Next C (SeatView (PoolDeed ℕ))) → said ≡ told → IsMade old seat.number call said new
      → after.number ≡ seat.number → Adds seat.list after.list (option_to_list (pool_record (λ x. x) seat.number call said))
      → IsTold after told n → Works old new seat call n
  works said told n is made number adds tells = inl (record {
    said = said;
    after = after;
    made = made;
    number = number;
    adds = adds;
    told = subst (λ s. IsTold after s n) (sym is) tells;
  })

  -- it was refused
  pub refuses : after ≡ seat → jobs_of new.pool ≡ jobs_of old.pool → Works {C = C} old new seat call (next.Refused after)
  refuses same jobs = inr (ap next.Refused same, jobs)

module _ {C : Type 0} (old new : Shown ℕ) (seat : SeatView (PoolDeed ℕ)) where
  -- a start that failed
  pub fails : (said : PoolAnswer ℕ) (t : ℕ) (first : Option ℕ) (job : Option (Job C)) → said ≡ answer.NotStarted t first
      → IsMade old seat.number core.StartFailed said new → given_tag job ≡ first → Fails old new seat job
  fails said t first job is made back = inl (t, first, subst (λ s. IsMade old seat.number core.StartFailed s new) is made, back)

-- what a start that failed does to the jobs
pub failed_moves : (v w t : ℕ) (first : Option ℕ) (said : PoolAnswer ℕ) (jobs old new : Jobs ℕ) → v ≡ w → said ≡ answer.NotStarted t first
    → jobs ≡ old → Moves w core.StartFailed said old new → FailMoves v first jobs new
failed_moves v w t first said jobs old new e is same m =
    subst (λ j. FailMoves v first j new) (sym same)
    (subst (λ u. FailMoves u first old new) (sym e) (subst (λ s. Moves w core.StartFailed s old new) is m))

-- what a step did to the jobs, as it is told of the worker and the jobs that were found there
pub moved : (call : PoolCall ℕ) (said told : PoolAnswer ℕ) (w at : ℕ) (was found now : Jobs ℕ) → said ≡ told → w ≡ at → was ≡ found
    → Moves w call said was now → Moves at call told found now
moved call said told w at was found now is worker same moves =
    subst (λ a. Moves at call a found now) is (subst (λ jobs. Moves at call said jobs now) same (subst (λ v. Moves v call said was now) worker moves))
