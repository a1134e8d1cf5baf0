-- An item that comes back has the mark that was remembered.
use Rattle.std.proofs.Common.{◌≡◌, ℕ, Option, option_map, ap, ◌∙◌}
use Rattle.meet_tickets.specs.BySeat.{entry_of}
use Rattle.meet_core.specs.declared.answers.Followed.TheVariants.{Interrupted}
use Rattle.meet_core.specs.declared.answers.TakenBack.TheVariants.{Back}
use Rattle.meet_core.specs.Awaits.{AwaitsAs}
use Rattle.meet_core.specs.Queue.{Queue, seats_of}
use Rattle.meet_core.specs.Steps.{FollowStep, WithdrawStep}

-- where the ticket was cut
pub cut_comes_back : {T : Type 0} (mark_of : T → ℕ) (old new : Queue T) (seat ticket : ℕ) (mark : Option ℕ) (item : Option T) → AwaitsAs mark_of (seats_of old) seat ticket mark → FollowStep old seat ticket (Interrupted item) new → option_map mark_of item ≡ mark
cut_comes_back mark_of old new seat ticket mark item awaits step = awaits.cut item step.0

-- where it was taken back from the line
pub withdrawn_comes_back : {T : Type 0} (mark_of : T → ℕ) (old new : Queue T) (seat ticket : ℕ) (mark : Option ℕ) (item : Option T) → AwaitsAs mark_of (seats_of old) seat ticket mark → WithdrawStep old seat ticket (Back item) new → option_map mark_of item ≡ mark
withdrawn_comes_back mark_of old new seat ticket mark item awaits step =
    ap (option_map mark_of) step.3 ∙ awaits.waiting step.0 (ap (entry_of old.line) step.1 ∙ step.2)
