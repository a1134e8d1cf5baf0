-- A synchronous place is met at its line's end, and keeps nothing.
use Rattle.std.proofs.Common.{◌≡◌, ◌∙◌, refl, sym, true, false}
use Rattle.meet_tickets.specs.declared.places.End.{End}
use Rattle.meet_tickets.specs.declared.places.End.TheVariants.{Front, Back}
use Rattle.meet_tickets.specs.Meeting.{end_of, keeps}
use Rattle.meet_core.specs.QueueSteps.{synchronous}

-- a place is met at the end at which its line is
pub synchronous-end : (end : End) → end_of (synchronous end) ≡ end
synchronous-end Front = refl
synchronous-end Back = refl

-- it keeps nothing, so a put of it waits
synchronous-waits : (end : End) → keeps (synchronous end) ≡ false
synchronous-waits Front = refl
synchronous-waits Back = refl

pub synchronous-never : (end : End) → keeps (synchronous end) ≡ true → ⊥
synchronous-never end keeps = let both : false ≡ true = sym (synchronous-waits end) ∙ keeps in cc
