-- What a caller in C is told of a text that was written.
use Rattle.std.specs.Prelude.{◌≡◌, ℕ, ◌<◌, ◌≤◌, min, Bool, true, false, List, length, slice_get, Result, Ok, Err}
use Rattle.std.specs.Option.{unwrap_or}
use Rattle.meet_tickets.specs.Refusals.{number_of}
use Rattle.meet_run.specs.declared.text.faults.RunFault.{RunFault}
use Rattle.meet_c_texts.specs.declared.judges.Written.{Written}

-- the first bytes are those of the text, as many as have room; the others are what they were
pub record AreFirst (text old new : List ℕ) : Type 0 where
  pub first : (k : ℕ) → k < min (length text) (length old) → slice_get new k ≡ slice_get text k
  pub others : (k : ℕ) → min (length text) (length old) ≤ k → slice_get new k ≡ slice_get old k

-- what came of a text, of which there are so many bytes to write
abbrev pub told_as : Result Bool RunFault → (length : ℕ) → Written
told_as (Ok true) n = record { status = 0; line = 0; length = n }
told_as (Ok false) n = record { status = 31; line = 0; length = n }
told_as (Err f) n = record { status = number_of f.why; line = unwrap_or f.line 0; length = n }

-- what was asked for ended so and wrote a text, and the first bytes of that stand there
pub record IsWrittenBy (Ends : Result Bool RunFault → (written : List ℕ) → Type 0) (old : List ℕ) (told : Written)
    (new : List ℕ) : Type 0 where
  pub ended : Result Bool RunFault
  pub written : List ℕ
  pub ends : Ends ended written
  pub is_told : told ≡ told_as ended (length written)
  pub first : AreFirst written old new
