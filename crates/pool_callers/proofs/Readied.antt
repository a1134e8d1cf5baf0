-- What a handle's call does, by what its seat did once it was ready.
use Rattle.std.proofs.Common.{◌≡◌, ℕ, Bool, true, false, Option, Some, Result, Ok, Err, refl, sym, subst, ap₂, ◌∙◌, arith}
use Rattle.std.specs.Prelude.{IfSome, IfOk, IfErr, IsOk}
use Rattle.meet_place.specs.Seats.{SeatView, Checkpoints, Trims}
use Rattle.meet_place.specs.Tending.{Tends}
use Rattle.pool_core.specs.declared.deeds.PoolDeed.{PoolDeed}
use Rattle.meet_tickets.specs.declared.refusals.Refusal.TheVariants.{NoThread}
use Rattle.pool_threads.specs.Outcomes.{IsUnstarted}
use Rattle.pool_threads.specs.declared.jobs.Job.{Job}
use Rattle.pool_callers.specs.declared.refused.ExecuteRefused.{ExecuteRefused}
use Rattle.pool_callers.specs.Handles.{HandleView, Does, Readies, is_time, IsUnbegun}

-- the handle's seat was made ready, and then did this
does : (seats : ℕ) (old new : HandleView) (Did : SeatView (PoolDeed ℕ) → SeatView (PoolDeed ℕ) → Type 0) (seat ready after : SeatView (PoolDeed ℕ))
    → old.seat ≡ Some seat → new.seat ≡ Some after → new.keeps_log ≡ old.keeps_log
    → Readies (is_time seats old.keeps_log seat) seat ready → Did ready after → Does seats old new Did
does seats old new Did seat ready after there left kept readies did =
    let InTurn = (λ (was is : Option (SeatView (PoolDeed ℕ))). IfSome was (λ seat. IfSome is (λ after. (ready : SeatView (PoolDeed ℕ))
    × Readies (is_time seats old.keeps_log seat) seat ready × Did ready after))) in (
      kept,
      subst (λ was. InTurn was new.seat) (sym there) (subst (λ is. InTurn (Some seat) is) (sym left) (ready, readies, did)),
    )

-- the same, where it is told by a result
pub does_ok : {A E : Type 0} (told : Result A E) (seats : ℕ) (old new : HandleView)
    (Did : A → SeatView (PoolDeed ℕ) → SeatView (PoolDeed ℕ) → Type 0) (seat ready after : SeatView (PoolDeed ℕ))
    → old.seat ≡ Some seat → new.seat ≡ Some after → new.keeps_log ≡ old.keeps_log
    → Readies (is_time seats old.keeps_log seat) seat ready → IfOk told (λ a. Did a ready after)
    → IfOk told (λ a. Does seats old new (Did a))
does_ok (Ok a) seats old new Did seat ready after there left kept readies did =
    does seats old new (Did a) seat ready after there left kept readies did
does_ok (Err e) seats old new Did seat ready after there left kept readies did = did

-- and where it is told by an error of some kind
pub does_err : {A E : Type 0} (told : Result A E) (Is : E → Type 0) (seats : ℕ) (old new : HandleView)
    (Did : E → SeatView (PoolDeed ℕ) → SeatView (PoolDeed ℕ) → Type 0) (seat ready after : SeatView (PoolDeed ℕ))
    → old.seat ≡ Some seat → new.seat ≡ Some after → new.keeps_log ≡ old.keeps_log
    → Readies (is_time seats old.keeps_log seat) seat ready → IfErr told (λ e. Is e → Did e ready after)
    → IfErr told (λ e. Is e → Does seats old new (Did e))
does_err (Ok a) Is seats old new Did seat ready after there left kept readies did = did
does_err (Err e) Is seats old new Did seat ready after there left kept readies did =
    λ is. does seats old new (Did e) seat ready after there left kept readies (did is)

-- nothing was folded away
none_folded : (seat : SeatView (PoolDeed ℕ)) → Checkpoints 0 seat seat
none_folded seat = record {
  folded = omega arith;
  trimmed = refl;
  seen = refl;
  number = refl;
  moment = refl;
  list = refl;
  room = refl;
}

-- a seat that tended, if it was to look, is ready, even if no record could be folded away
pub readied : {A E : Type 0} (told : Result A E) (look : Bool) (seat after : SeatView (PoolDeed ℕ))
    → (look ≡ false → IsOk told × (after ≡ seat)) → (look ≡ true → IfOk told (λ _. Tends seat after))
    → IfErr told (λ _. (gone : ℕ) × Trims gone seat after) → Readies look seat after
readied told false seat after idle looked trimmed = (idle refl).1
readied (Ok a) true seat after idle looked trimmed = looked refl
readied (Err e) true seat after idle looked (gone, trims) = (0, gone, seat, none_folded seat, trims)

-- which leaves its number
pub same_number : (look : Bool) (seat ready : SeatView (PoolDeed ℕ)) → Readies look seat ready → ready.number ≡ seat.number
same_number false seat ready is = subst (λ (s : SeatView (PoolDeed ℕ)). s.number ≡ seat.number) (sym is) refl
same_number true seat ready (more, gone, between, folds, trims) = trims.number ∙ folds.number

-- a job is its tag and its call
pub same_job : {C : Type 0} (a b : Job C) → a.tag ≡ b.tag → a.call ≡ b.call → a ≡ b
same_job a b tags calls = ap₂ (λ tag call. record { tag = tag; call = call }) tags calls

-- no thread was made for the worker of the job that was made of this call
pub unbegun : {A C : Type 0} (told : Result A (ExecuteRefused C)) (seat after : SeatView (PoolDeed ℕ)) (made : Job C) (tag : ℕ) (call : C)
    → made.tag ≡ tag → made.call ≡ call
    → IfErr told (λ refused. refused.why ≡ NoThread → IsUnstarted seat after made refused.job)
    → IfErr told (λ refused. refused.why ≡ NoThread → IsUnbegun seat after tag call refused.job)
unbegun (Ok a) seat after made tag call tags calls unstarted = unstarted
unbegun (Err refused) seat after made tag call tags calls unstarted = λ is job own_tag own_call.
    subst (λ j. IsUnstarted seat after j refused.job) (same_job made job (tags ∙ sym own_tag) (calls ∙ sym own_call)) (unstarted is)
