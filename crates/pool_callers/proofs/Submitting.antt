-- What `submit` returns, by what `execute` states.
use Rattle.std.proofs.Common.{◌≡◌, ℕ, Option, Result, Ok, Err, sym, subst, inl, inr}
use Rattle.std.specs.Prelude.{◌≢◌, IfSome, IsSomeAnd, IsOkAnd, IfOk, IfErr}
use Rattle.meet_tickets.specs.declared.refusals.Refusal.TheVariants.{NoThread}
use Rattle.pool_threads.specs.Told.{IsExecuteWhy}
use Rattle.pool_threads.specs.declared.jobs.Job.{Job}
use Rattle.pool_threads.specs.declared.outcomes.Outcome.{Outcome}
use Rattle.pool_callers.specs.Handles.{HandleView, Does, Stays, HandsIn, CallFits, StartsNone, Returns}
use Rattle.pool_callers.specs.Submits.{IsTaken, Gives, Submits, FailsAs}
use Rattle.pool_callers.specs.declared.refused.ExecuteRefused.{ExecuteRefused}
use Rattle.pool_callers.specs.declared.submitted.NotRun.{NotRun}
use Rattle.pool_callers.specs.declared.submitted.Unrun.{Unrun}

module _ {C : Type 0} (seats worth callers : ℕ) (old new : HandleView) (tag : ℕ) (call : C) where
  -- a job that was taken
  pub taken : {A E : Type 0} (executed : Result (Outcome C) (ExecuteRefused C)) (submitted : Result A E)
      → IfOk executed (HandsIn seats old new tag) → IfOk executed (CallFits worth tag call)
      → IfOk submitted (λ _. IsOkAnd executed IsTaken)
      → IfOk submitted (λ _. Submits IsTaken seats worth old new tag call)
  taken (Ok outcome) (Ok a) handed item is = (outcome, is, handed, item)
  taken (Err refused) (Ok a) handed item is = absurd is
  taken executed (Err e) handed item is = tt

  -- a job that won't be run
  fails : (executed : Result (Outcome C) (ExecuteRefused C)) (reason : NotRun) (back : Option (Job C))
      → IfOk executed (HandsIn seats old new tag) → IfOk executed (CallFits worth tag call)
      → IfErr executed (λ refused. refused.why ≡ NoThread → StartsNone seats old new tag call refused.job)
      → IfErr executed (λ refused. refused.why ≢ NoThread → Does seats old new Stays)
      → IfErr executed (λ refused. refused.why ≢ NoThread → IsSomeAnd refused.job (Returns tag call))
      → IfErr executed (λ refused. refused.why ≢ NoThread → IfSome old.seat (λ seat. IsExecuteWhy callers seat.number refused.why))
      → Gives executed reason back → FailsAs seats worth callers old new tag call reason back
  fails (Ok outcome) reason back handed item unstarted same returns why gives = inl (outcome, gives, handed, item)
  fails (Err refused) reason back handed item unstarted same returns why (is, backs) = inr (
    refused.why,
    is,
    subst (λ b. (refused.why ≡ NoThread → StartsNone seats old new tag call b)
        × (refused.why ≢ NoThread → Does seats old new Stays × IsSomeAnd b (Returns tag call)
        × IfSome old.seat (λ seat. IsExecuteWhy callers seat.number refused.why))) (sym backs)
        (unstarted, λ other. (same other, returns other, why other)),
  )

  pub not_run : {A : Type 0} (executed : Result (Outcome C) (ExecuteRefused C)) (submitted : Result A (Unrun C))
      → IfOk executed (HandsIn seats old new tag) → IfOk executed (CallFits worth tag call)
      → IfErr executed (λ refused. refused.why ≡ NoThread → StartsNone seats old new tag call refused.job)
      → IfErr executed (λ refused. refused.why ≢ NoThread → Does seats old new Stays)
      → IfErr executed (λ refused. refused.why ≢ NoThread → IsSomeAnd refused.job (Returns tag call))
      → IfErr executed (λ refused. refused.why ≢ NoThread → IfSome old.seat (λ seat. IsExecuteWhy callers seat.number refused.why))
      → IfErr submitted (λ unrun. Gives executed unrun.why unrun.job)
      → IfErr submitted (λ unrun. FailsAs seats worth callers old new tag call unrun.why unrun.job)
  not_run executed (Ok a) handed item unstarted same returns why gives = tt
  not_run executed (Err unrun) handed item unstarted same returns why gives =
      fails executed unrun.why unrun.job handed item unstarted same returns why gives
