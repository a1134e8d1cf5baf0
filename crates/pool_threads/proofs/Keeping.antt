-- A call of a pool keeps what it was made with, also where it is refused.
use Rattle.std.proofs.Common.{◌≡◌, ℕ, ap, Ok, Err}
use Rattle.std.specs.Prelude.{Result, IfOk, IfErr}
use Rattle.meet_book.specs.Booked.{Booked}
use Rattle.pool_core.specs.Histories.{Based}
use Rattle.pool_core.specs.Moves.{IsMade}
use Rattle.pool_core.specs.SettingsStay.{settings-stay}
use Rattle.pool_core.specs.Shown.{Shown}
use Rattle.pool_core.specs.declared.calls.PoolCall.{PoolCall}
use Rattle.pool_core.specs.declared.calls.PoolAnswer.{PoolAnswer}
use Rattle.pool_core.specs.declared.deeds.PoolDeed.{PoolDeed}

pub settings_stay : {B : Type 0} (old new : Booked (Shown ℕ) Based (PoolDeed ℕ)) (i : ℕ) (c : PoolCall ℕ)
    (r : Result (PoolAnswer ℕ) B) → IfOk r (λ a. IsMade old.object i c a new.object)
    → IfErr r (λ _. new ≡ record old { room = new.room }) → new.object.settings ≡ old.object.settings
settings_stay old new i c (Ok a) made same = settings-stay old.object i c a new.object made.step
settings_stay old new i c (Err b) made same = ap (λ b. b.object.settings) same
