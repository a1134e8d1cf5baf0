-- What came of a run, and of a line of it.
use Rattle.std.specs.Prelude.{◌≡◌, ◌⊎◌, ℕ, ◌+◌, ◌≤◌, ⊤, Bool, true, Option, Some, None, IfSome, Result, Ok, Err, List}
use Rattle.std.specs.Prelude.{◌∷◌, []}
use Rattle.std.specs.Io.KnownBytes.{Appends, Consumes, IsAtEnd}
use Rattle.meet_tickets.specs.declared.refusals.Refusal.{Refusal}
use Rattle.meet_tickets.specs.declared.refusals.Refusal.TheVariants.{Memory, BadLine, ReadFault, WriteFault}
use Rattle.meet_history.specs.declared.one_thread.setup.Setup.{Setup}
use Rattle.meet_run.specs.declared.text.faults.RunFault.{RunFault}
use Rattle.meet_run.specs.declared.text.next.Next.{Next}
use Rattle.meet_run.specs.declared.text.next.Next.TheVariants.{Read, Ended, Faulty, Broken}
use Rattle.meet_run.specs.declared.text.reading.LineRead.{LineRead}
use Rattle.meet_run.specs.declared.text.reading.LineRead.TheVariants.{Line, End, TooLong, Failed}
use Rattle.meet_run.specs.Texts.Reading.{lines_of, Both}
use Rattle.meet_run.specs.Texts.Writing.{AppendsPrefix}
use Rattle.meet_history.specs.OneThread.{start}
use Rattle.meet_run.specs.Scripts.Script.{Reached, fault_of, text_before, output_of}

-- what the next line is, by what came of reading it, and what it then reads as
abbrev pub next_from : {A : Type 0} → LineRead → Option A → Next A
next_from Line (Some item) = Read item
next_from Line None = Faulty
next_from End read = Ended
next_from TooLong read = Faulty
next_from Failed read = Broken

-- what the next line is, by a reading of lines: one that reads as this; none; one that reads as nothing; or a failed
-- read
abbrev pub IsNext : {A : Type 0} → (List ℕ → Option A) → Next A → (old new : Option (List ℕ)) → (turns rest : ℕ)
    → Type 0
IsNext reading (Read a) old new turns rest =
    Both old new (λ xs ys. (line : List ℕ) × (lines_of xs ≡ line ∷ lines_of ys) × (reading line ≡ Some a))
    × (rest + 1 ≤ turns)
IsNext reading Ended old new turns rest =
    IfSome old (λ xs. lines_of xs ≡ []) × Consumes old new [] × IsAtEnd new × (rest + 1 ≤ turns)
IsNext reading Faulty old new turns rest =
    IfSome old (λ xs. (line : List ℕ) × (lines : List (List ℕ)) × (lines_of xs ≡ line ∷ lines)
    × (reading line ≡ None)) × (rest + 1 ≤ turns)
IsNext reading Broken old new turns rest = rest ≤ turns

-- a fact of what the next line reads as
abbrev pub IfRead : {A : Type 0} → Next A → (A → Type 0) → Type 0
IfRead (Read a) P = P a
IfRead Ended P = ⊤
IfRead Faulty P = ⊤
IfRead Broken P = ⊤

-- a run that was cut short: there was no memory, or a write failed
abbrev pub IsCutShort : Refusal → Type 0
IsCutShort why = (why ≡ Memory) ⊎ (why ≡ WriteFault)

-- a faulty line, or a run that broke off outside any line
abbrev pub FaultIs : Refusal → Option ℕ → Type 0
FaultIs BadLine (Some n) = ⊤
FaultIs Memory None = ⊤
FaultIs ReadFault None = ⊤
FaultIs WriteFault None = ⊤
FaultIs _ _ = ⊥

-- a text that wasn't read to its end: there was no memory, or a read failed
abbrev pub IsUnread : Refusal → Type 0
IsUnread why = (why ≡ Memory) ⊎ (why ≡ ReadFault)

-- what comes of a run that has no turn left: ReadFault in no line, whether or not there is memory
abbrev pub CannotRead : {A : Type 0} → Result A RunFault → Type 0
CannotRead (Ok a) = ⊥
CannotRead (Err f) = (f.line ≡ None) × (f.why ≡ ReadFault)

-- what a fault leaves of a text: at a faulty line the whole of what comes before it; of a run that broke off, a prefix,
-- and no last line but where a write failed
abbrev pub FaultEnds : (fault : Option ℕ) → (text output : List ℕ) → Refusal → Option ℕ → (old new : Option (List ℕ))
    → Type 0
FaultEnds fault text output BadLine (Some n) old new = (fault ≡ Some n) × Appends old new output
FaultEnds fault text output Memory None old new = AppendsPrefix old new text
FaultEnds fault text output ReadFault None old new = AppendsPrefix old new text
FaultEnds fault text output WriteFault None old new = AppendsPrefix old new output
FaultEnds fault text output _ _ old new = ⊥

-- what came of a run over a text with this first faulty line, this text of the replies and this whole output
abbrev pub RunEnds : (fault : Option ℕ) → (text output : List ℕ) → Result Bool RunFault → (old new : Option (List ℕ))
    → Type 0
RunEnds fault text output (Ok legal) old new = (legal ≡ true) × (fault ≡ None) × Appends old new output
RunEnds fault text output (Err f) old new = FaultEnds fault text output f.why f.line old new

-- the faults that end a run
abbrev pub IsRunFault : RunFault → Type 0
IsRunFault f = FaultIs f.why f.line

-- what came of the calls behind a first line, wherever that line came from
abbrev pub RunsOn : Setup → (rest : List ℕ) → Result Bool RunFault → (old new : Option (List ℕ)) → Type 0
RunsOn setup rest result old new =
    (input : List ℕ) → Reached setup input rest 2 (start setup) []
    → RunEnds (fault_of input) (text_before input) (output_of input) result old new
