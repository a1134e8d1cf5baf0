-- The seats that lie in a pool, and the one of a worker that is started.
use Rattle.std.proofs.Common.{◌≡◌, ◌≤◌, ℕ, zero, suc, List, [], ◌∷◌, Option, Some, None, refl, sym, ap, subst, ◌∙◌, ⊎_elim}
use Rattle.std.specs.Prelude.{slice_get, slice_set, slice_index_or, is_none, IfSome, option_to_list}
use Rattle.meet_place.specs.Seats.{SeatView, Adds, IsLater}
use Rattle.pool_core.specs.Bases.{tagged_deed}
use Rattle.pool_core.specs.Calls.{execute_deed}
use Rattle.pool_core.specs.Moves.{IsMade}
use Rattle.pool_core.specs.Placed.{pool_record, PoolStep}
use Rattle.pool_core.specs.Shown.{Shown}
use Rattle.pool_core.specs.Pools.{Pool, free}
use Rattle.pool_core.specs.Steps.{Allows}
use Rattle.pool_core.specs.declared.settings.Settings.{Settings}
use Rattle.pool_core.specs.declared.calls.PoolCall.TheVariants as call
use Rattle.pool_core.specs.declared.calls.PoolAnswer.{PoolAnswer}
use Rattle.pool_core.specs.declared.calls.PoolAnswer.TheVariants as answer
use Rattle.pool_core.specs.declared.answers.Executed.{Executed as ExecuteAnswer}
use Rattle.pool_core.specs.declared.answers.Executed.TheVariants as executed
use Rattle.pool_core.specs.declared.deeds.PoolDeed.{PoolDeed}
use Rattle.pool_threads.specs.Mirrored.{away, HasFour}
use Rattle.pool_threads.specs.Outcomes.{Handed}
use Rattle.pool_threads.specs.Told.{Starts}

-- a seat that stays where it lies leaves who is away
pub away_set : {S : Type 0} (xs : List (Option S)) (w : ℕ) (x y : Option S) → x ≡ slice_index_or xs w x → is_none y ≡ is_none x
    → away (slice_set xs w y) ≡ away xs
away_set [] w x y at same = refl
away_set (z ∷ xs) zero x y at same = ap (λ b. b ∷ away xs) (same ∙ ap is_none at)
away_set (z ∷ xs) (suc w) x y at same = ap (λ l. is_none z ∷ l) (away_set xs w x y at same)

-- what was set is there
pub got_set : {S : Type 0} (xs : List S) (w : ℕ) (y z : S) → slice_get (slice_set xs w y) w ≡ Some z → y ≡ z
got_set [] w y z e = absurd (cc)
got_set (x ∷ xs) zero y z e = cc
got_set (x ∷ xs) (suc w) y z e = got_set xs w y z e

-- the seat that was made room in has room
pub four_set : {D : Type 0} (xs : List (Option (SeatView D))) (w : ℕ) (y : Option (SeatView D)) → IfSome y (λ seat. 4 ≤ seat.room)
    → HasFour (slice_set xs w y) w
four_set xs w y some seat e = subst (λ o. IfSome o (λ s. 4 ≤ s.room)) (got_set xs w y (Some seat) e) some

-- a job's record names it by its tag
tagged_same : (tag : ℕ) (e : ExecuteAnswer ℕ) → tagged_deed (λ x. x) (execute_deed tag e) ≡ execute_deed tag e
tagged_same tag (executed.Handed w) = refl
tagged_same tag (executed.Started w) = refl
tagged_same tag executed.Kept = refl
tagged_same tag (executed.KeptStart w) = refl
tagged_same tag (executed.Aborted b) = refl
tagged_same tag (executed.CallerRuns b) = refl
tagged_same tag (executed.Dropped b) = refl
tagged_same tag (executed.DroppedOldest u b) = refl

-- the seat after its job was answered so
pub handed_as : (old new : SeatView (PoolDeed ℕ)) (tag given t : ℕ) (a : PoolAnswer ℕ) (e told : ExecuteAnswer ℕ)
    → new.number ≡ old.number → new.past ≡ old.past → IsLater old.moment new.moment old.list new.list
    → a ≡ answer.Executed t e → given ≡ tag → told ≡ e
    → Adds old.list new.list (option_to_list (pool_record (λ x. x) old.number (call.Execute given) a))
    → Handed old new tag told
handed_as old new tag given t a e told number past later is same tell adds =
    let one : Adds old.list new.list (record { seat = old.number; ticket = t; deed = tagged_deed (λ x. x) (execute_deed tag e) } ∷ []) =
    subst (λ b. Adds old.list new.list (option_to_list (pool_record (λ x. x) old.number (call.Execute tag) b))) is
    (subst (λ k. Adds old.list new.list (option_to_list (pool_record (λ x. x) old.number (call.Execute k) a))) same adds) in
    let two : Adds old.list new.list (record { seat = old.number; ticket = t; deed = execute_deed tag e } ∷ []) =
    subst (λ (d : PoolDeed ℕ). Adds old.list new.list (record { seat = old.number; ticket = t; deed = d } ∷ [])) (tagged_same tag e) one in
    record {
      same = (number, past, later);
      adds = (t, subst (λ (b : ExecuteAnswer ℕ). Adds old.list new.list (record { seat = old.number; ticket = t; deed = execute_deed tag b } ∷ [])) (sym tell) two);
    }

-- a worker that is started was the least that no worker had
free_of : (s : Settings) (p : Pool ℕ) (i t tag : ℕ) (e : ExecuteAnswer ℕ) (w : ℕ) → Allows s p i t (execute_deed tag e)
    → Starts e w → free p ≡ Some w
free_of s p i t tag e w allows starts =
    ⊎_elim
    (λ (is : e ≡ executed.Started w). (subst (λ (b : ExecuteAnswer ℕ). Allows s p i t (execute_deed tag b)) is allows).2)
    (λ (is : e ≡ executed.KeptStart w). (subst (λ (b : ExecuteAnswer ℕ). Allows s p i t (execute_deed tag b)) is allows).3)
    starts

-- its seat has room for four receipts
pub worker_has : {D : Type 0} (worker : Option (SeatView D)) (seats : List (Option (SeatView D))) (told e : ExecuteAnswer ℕ) (f : Option ℕ)
    → told ≡ e → ((w : ℕ) → Starts e w → f ≡ Some w) → IfSome f (λ w. HasFour seats w)
    → IfSome worker (λ s. (w : ℕ) × Starts e w × (slice_get seats w ≡ Some (Some s)))
    → IfSome worker (λ s. (w : ℕ) × Starts told w × (4 ≤ s.room))
worker_has None seats told e f tell free four at = tt
worker_has (Some s) seats told e f tell free four (w, starts, at) =
    (w, subst (λ a. Starts a w) (sym tell) starts, (subst (λ o. IfSome o (λ v. HasFour seats v)) (free w starts) four) s at)

-- what an answer to `execute` says of the pool before
allowed_of : (old new : Shown ℕ) (i t tag : ℕ) (a : PoolAnswer ℕ) (e : ExecuteAnswer ℕ) → a ≡ answer.Executed t e
    → IsMade old i (call.Execute tag) a new → Allows old.settings old.pool i t (execute_deed tag e)
allowed_of old new i t tag a e is made =
    (subst (λ (b : PoolAnswer ℕ). PoolStep old i (call.Execute tag) b new) is made.step).0.allowed

pub started_free : (old new : Shown ℕ) (i t tag : ℕ) (a : PoolAnswer ℕ) (e : ExecuteAnswer ℕ) → a ≡ answer.Executed t e
    → IsMade old i (call.Execute tag) a new → (w : ℕ) → Starts e w → free old.pool ≡ Some w
started_free old new i t tag a e is made w starts =
    free_of old.settings old.pool i t tag e w (allowed_of old new i t tag a e is made) starts
