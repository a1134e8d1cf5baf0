-- What is said of a trace.
use Rattle.std.specs.Prelude.{◌≡◌, ℕ, Bool, true, Option, List, [], ◌++◌, Result, IfOk}
use Rattle.std.specs.Io.KnownBytes.{Appends}
use Rattle.meet_run.specs.declared.text.faults.RunFault.{RunFault}
use Rattle.meet_run.specs.Tracing.Traces.{IsFoundIn}

-- of these lines this is told: the line that `check` finds, and behind it more; of a legal trace nothing more
pub record IsTold (lines : List (List ℕ)) (legal : Bool) (text : List ℕ) : Type 0 where
  pub line : List ℕ
  pub found : IsFoundIn lines legal line
  pub more : List ℕ
  pub whole : text ≡ line ++ more
  pub alone : legal ≡ true → more ≡ []

-- what is told of these lines is written
abbrev pub IsExplained : (lines : List (List ℕ)) → (legal : Bool) → (old new : Option (List ℕ)) → Type 0
IsExplained lines legal old new = (text : List ℕ) × IsTold lines legal text × Appends old new text

-- what comes of it; where it is refused nothing is said
abbrev pub ExplainEnds : (lines : List (List ℕ)) → Result Bool RunFault → (old new : Option (List ℕ)) → Type 0
ExplainEnds lines result old new = IfOk result (λ legal. IsExplained lines legal old new)
