-- A drive of a pool as text.
use Rattle.std.specs.Prelude.{◌≡◌, ◌⊎◌, ℕ, Bool, true, Option, None, Result, Ok, Err, List, ◌++◌, codes, decimal}
use Rattle.std.specs.Io.KnownBytes.{Appends}
use Rattle.meet_run.specs.declared.text.faults.RunFault.{RunFault}
use Rattle.meet_run.specs.Texts.Writing.{AppendsPrefix}
use Rattle.pool_drive.specs.Driven.{IsPoolDriven}
use Rattle.pool_drive.specs.declared.whole.PoolDrive.{PoolDrive}
use Rattle.pool_run.specs.Wording.{pool_last_line}

-- its lines: how many jobs were handed in, the sum of what they answered, how many are done by the records, and the
-- line that ends a script
unfoldable pub pool_drive_text : PoolDrive → List ℕ
pool_drive_text drive =
    codes "jobs " ++ decimal drive.jobs ++ codes "\nsum " ++ decimal drive.sum ++ codes "\ndone " ++ decimal drive.done
    ++ codes "\n" ++ pool_last_line drive.records drive.counters

-- what came of a drive of so many callers, so many jobs of each and so many workers, whose text was to be written: all
-- of it was; or the fault is in no line, and nothing was written, or a prefix of the text
abbrev pub PoolDriveEnds : (callers each workers : ℕ) → Result Bool RunFault → (old new : Option (List ℕ)) → Type 0
PoolDriveEnds callers each workers (Ok legal) old new =
    (legal ≡ true) × ((drive : PoolDrive) × IsPoolDriven callers each workers drive
    × Appends old new (pool_drive_text drive))
PoolDriveEnds callers each workers (Err fault) old new = (fault.line ≡ None)
    × ((new ≡ old) ⊎ ((drive : PoolDrive) × IsPoolDriven callers each workers drive
    × AppendsPrefix old new (pool_drive_text drive)))
