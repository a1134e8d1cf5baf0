-- What a handle's call does, by what its seat did once it was ready.
use Rattle.std.proofs.Common.{◌≡◌, ℕ, Bool, true, false, Option, Some, Result, Ok, Err, refl, sym, subst, arith}
use Rattle.std.specs.Prelude.{IfSome, IfOk, IfErr, IsOk}
use Rattle.meet_tickets.specs.declared.records.Deed.{Deed}
use Rattle.meet_place.specs.Seats.{SeatView, Checkpoints, Trims}
use Rattle.meet_place.specs.Tending.{Tends}
use Rattle.meet_tasks.specs.Handles.{HandleView, SameSettings, Does, Readies, is_time}

-- the handle's seat was made ready, and then did this
does : (cap seats : ℕ) (old new : HandleView) (Did : SeatView Deed → SeatView Deed → Type 0) (seat ready after : SeatView Deed)
    → old.seat ≡ Some seat → new.seat ≡ Some after → SameSettings old new
    → Readies (is_time cap seats old.keeps_log seat) seat ready → Did ready after → Does cap seats old new Did
does cap seats old new Did seat ready after there left kept readies did =
    let InTurn = (λ (was is : Option (SeatView Deed)). IfSome was (λ seat. IfSome is (λ after. (ready : SeatView Deed)
    × Readies (is_time cap seats old.keeps_log seat) seat ready × Did ready after))) in (
      kept,
      subst (λ was. InTurn was new.seat) (sym there) (subst (λ is. InTurn (Some seat) is) (sym left) (ready, readies, did)),
    )

-- the same, by a result
pub does_ok : {A E : Type 0} (told : Result A E) (cap seats : ℕ) (old new : HandleView)
    (Did : A → SeatView Deed → SeatView Deed → Type 0) (seat ready after : SeatView Deed)
    → old.seat ≡ Some seat → new.seat ≡ Some after → SameSettings old new
    → Readies (is_time cap seats old.keeps_log seat) seat ready → IfOk told (λ a. Did a ready after)
    → IfOk told (λ a. Does cap seats old new (Did a))
does_ok (Ok a) cap seats old new Did seat ready after there left kept readies did =
    does cap seats old new (Did a) seat ready after there left kept readies did
does_ok (Err e) cap seats old new Did seat ready after there left kept readies did = did

-- and by an error
pub does_err : {A E : Type 0} (told : Result A E) (cap seats : ℕ) (old new : HandleView)
    (Did : SeatView Deed → SeatView Deed → Type 0) (seat ready after : SeatView Deed)
    → old.seat ≡ Some seat → new.seat ≡ Some after → SameSettings old new
    → Readies (is_time cap seats old.keeps_log seat) seat ready → IfErr told (λ _. Did ready after)
    → IfErr told (λ _. Does cap seats old new Did)
does_err (Ok a) cap seats old new Did seat ready after there left kept readies did = did
does_err (Err e) cap seats old new Did seat ready after there left kept readies did =
    does cap seats old new Did seat ready after there left kept readies did

-- nothing was folded away
none_folded : (seat : SeatView Deed) → Checkpoints 0 seat seat
none_folded seat = record {
  folded = omega arith;
  trimmed = refl;
  seen = refl;
  number = refl;
  moment = refl;
  list = refl;
  room = refl;
}

-- a seat that tended, if it was to look, is ready, even if no record could be folded away
pub readied : {A E : Type 0} (told : Result A E) (look : Bool) (seat after : SeatView Deed)
    → (look ≡ false → IsOk told × (after ≡ seat)) → (look ≡ true → IfOk told (λ _. Tends seat after))
    → IfErr told (λ _. (gone : ℕ) × Trims gone seat after) → Readies look seat after
readied told false seat after idle looked trimmed = (idle refl).1
readied (Ok a) true seat after idle looked trimmed = looked refl
readied (Err e) true seat after idle looked (gone, trims) = (0, gone, seat, none_folded seat, trims)
