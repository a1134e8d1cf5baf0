-- A drive as text.
use Rattle.std.specs.Prelude.{◌≡◌, ◌⊎◌, ℕ, Bool, true, Option, None, Result, Ok, Err, List, ◌++◌, codes, decimal}
use Rattle.std.specs.Io.KnownBytes.{Appends}
use Rattle.meet_drive.specs.Driven.{IsDriven}
use Rattle.meet_drive.specs.declared.outcome.Drive.{Drive}
use Rattle.meet_run.specs.declared.text.faults.RunFault.{RunFault}
use Rattle.meet_run.specs.Scripts.Wording.{last_line}
use Rattle.meet_run.specs.Texts.Writing.{AppendsPrefix}

-- its lines: how many items the takers counted, the sum of these, how many pairs the history tells of, and the line
-- that ends a script
unfoldable pub drive_text : Drive → List ℕ
drive_text drive =
    codes "items " ++ decimal drive.items ++ codes "\nsum " ++ decimal drive.sum ++ codes "\npairs "
    ++ decimal drive.pairs ++ codes "\n" ++ last_line drive.records drive.standing

-- what came of a drive of so many givers of so many items each, whose text was to be written: all of it was; or the
-- fault is in no line, and nothing was written, or a prefix of the text
abbrev pub DriveEnds : (givers each : ℕ) → Result Bool RunFault → (old new : Option (List ℕ)) → Type 0
DriveEnds givers each (Ok legal) old new =
    (legal ≡ true) × ((drive : Drive) × IsDriven givers each drive × Appends old new (drive_text drive))
DriveEnds givers each (Err fault) old new = (fault.line ≡ None)
    × ((new ≡ old) ⊎ ((drive : Drive) × IsDriven givers each drive × AppendsPrefix old new (drive_text drive)))
