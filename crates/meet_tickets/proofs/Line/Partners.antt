-- What isn't there.
use Rattle.std.proofs.Common.{◌≡◌, refl, false, Option, Some, None}
use Rattle.std.specs.Prelude.{is_some}

-- what isn't there is none
pub none-from : {X : Type 0} (o : Option X) → is_some o ≡ false → o ≡ None
none-from None e = refl
none-from (Some x) e = cc
