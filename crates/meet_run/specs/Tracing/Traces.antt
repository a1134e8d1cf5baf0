-- What a whole trace says, and what is found of it; and the trace that a script leaves.
use Rattle.std.specs.Prelude.{◌+◌, ◌≡◌, ◌⊎◌, ℕ, nat_lt, Bool, true, false, Option, Some, None, Result, Ok, Err, List}
use Rattle.std.specs.Prelude.{[], ◌∷◌, length, MatchOption, if◌then◌else◌}
use Rattle.std.specs.Io.KnownBytes.{Appends}
use Rattle.std.specs.Option.{option_map_or}
use Rattle.meet_tickets.specs.declared.places.Kind.{Kind}
use Rattle.meet_tickets.specs.declared.records.Deed.{Deed}
use Rattle.meet_tickets.specs.declared.records.Record.{Record}
use Rattle.meet_tickets.specs.declared.refusals.Refusal.{Refusal}
use Rattle.meet_tickets.specs.declared.refusals.Refusal.TheVariants.{Memory, BadLine, BadTrace, ReadFault, WriteFault}
use Rattle.meet_tickets.specs.Bases.{Based, no_base}
use Rattle.meet_tickets.specs.ByLists.{IsLegal}
use Rattle.meet_tickets.specs.Limits.{most_records}
use Rattle.meet_history.specs.declared.checker.Why.{Why}
use Rattle.meet_history.specs.declared.one_thread.setup.Setup.{Setup}
use Rattle.meet_history.specs.Checking.{IsIllegalAt}
use Rattle.meet_history.specs.OneThread.{records, start, turns}
use Rattle.meet_history.specs.Pushing.{Progress, HasSeen}
use Rattle.meet_history.specs.Standings.{standing_in, IsFolded}
use Rattle.meet_run.specs.declared.trace.check.ReadTrace.{ReadTrace}
use Rattle.meet_run.specs.declared.text.faults.RunFault.{RunFault}
use Rattle.meet_run.specs.declared.trace.kept.Kept.{Kept}
use Rattle.meet_run.specs.Scripts.Grammar.{setup_of}
use Rattle.meet_run.specs.Tracing.Keeping.{HasKept}
use Rattle.meet_run.specs.Texts.Reading.{lines_of, Listed, listed}
use Rattle.meet_run.specs.Scripts.Running.{RunEnds}
use Rattle.meet_run.specs.Scripts.Script.{calls_behind, fault_of}
use Rattle.meet_run.specs.Tracing.TraceGrammar.{head_of, record_of}
use Rattle.meet_run.specs.Tracing.BaseGrammar.{based_head_of}
use Rattle.meet_run.specs.Tracing.BasedTraces.{told_behind, IsBasedTrace, IsVerdictOn, IsFoundOn}
use Rattle.meet_run.specs.Tracing.BaseWording.{run_text}
use Rattle.meet_run.specs.Tracing.TraceWording.{illegal_line}
use Rattle.meet_run.specs.Scripts.Wording.{last_line}
use Rattle.meet_run.specs.Texts.Writing.{AppendsPrefix}

-- the record of a line with this number: a trace has at most 1,048,576 of them, and no line behind these (our choice)
unfoldable pub record_at : (n : ℕ) → (line : List ℕ) → Option (Record Deed)
record_at n line = if nat_lt (most_records + 1) n then None else record_of line

-- the records of the lines behind a trace's first
abbrev pub records_behind : (lines : List (List ℕ)) → Listed (Record Deed)
records_behind lines = listed record_at 2 lines

-- the number of a trace's first faulty line; without a first line it is 1
unfoldable pub trace_fault_in : (lines : List (List ℕ)) → Option ℕ
trace_fault_in [] = Some 1
trace_fault_in (line ∷ lines) = option_map_or (λ kind. (records_behind lines).fault) (head_of line)
    (option_map_or (λ kind. (told_behind kind lines).fault) (based_head_of line) (Some 1))

-- these lines are a whole trace, of such a place, with these records
pub record IsTrace (lines : List (List ℕ)) (kind : Kind) (records : List (Record Deed)) : Type 0 where
  pub first : List ℕ
  pub rest : List (List ℕ)
  pub parts : lines ≡ first ∷ rest
  pub head : head_of first ≡ Some kind
  pub behind : records_behind rest ≡ record { items = records; fault = None }

-- these lines are a whole trace, of such a place, with this base, which is empty where none is told, and these records
abbrev pub IsTraceOn : (lines : List (List ℕ)) → Kind → Based → List (Record Deed) → Type 0
IsTraceOn lines kind base records =
    (IsTrace lines kind records × (base ≡ no_base)) ⊎ IsBasedTrace lines kind base records

-- whether records are legal, and the line that says so: it counts them, and says what stands at their end; or it names
-- the first that can't stand, and why
abbrev pub IsVerdict : Kind → List (Record Deed) → (legal : Bool) → (text : List ℕ) → Type 0
IsVerdict kind records true text = IsLegal kind records × (text ≡ last_line (length records) (standing_in records))
IsVerdict kind records false text = (number : ℕ) × (why : Why) × IsIllegalAt kind no_base records number why
    × (text ≡ illegal_line number why)

-- these lines are records to their end, so many, and just they were pushed on the checker
abbrev pub ArePushed : Progress → (count : ℕ) → Listed (Record Deed) → Type 0
ArePushed checker count lines = (lines.fault ≡ None) × (count ≡ length lines.items)
    × HasSeen no_base checker lines.items

-- whatever so many records were pushed on the checker, this is found of them
abbrev pub IsVerdictOf : Progress → (count : ℕ) → (legal : Bool) → (text : List ℕ) → Type 0
IsVerdictOf checker count legal text = (base : Based) (records : List (Record Deed)) → HasSeen base checker records
    → count ≡ base.gone + length records → IsVerdictOn checker.place.kind base records legal text

-- these lines are a whole trace that was read: its checker has seen the records, and there are so many from the first
pub record IsRead (lines : List (List ℕ)) (trace : ReadTrace) : Type 0 where
  pub records : List (Record Deed)
  pub told : IsTraceOn lines trace.kind trace.base records
  pub whole : trace_fault_in lines ≡ None
  pub own : trace.checker.place.kind ≡ trace.kind
  pub seen : HasSeen trace.base trace.checker records
  pub counted : trace.count ≡ trace.base.gone + length records

-- these lines are a whole trace that was read, with just these records
abbrev pub IsReadWith : (lines : List (List ℕ)) → ReadTrace → List (Record Deed) → Type 0
IsReadWith lines trace records = (read : IsRead lines trace) × (read.records ≡ records)

-- these lines are a whole trace that was read, and its records were kept where they are wanted
abbrev pub IsReadInto : (lines : List (List ℕ)) → ReadTrace → (wanted : Bool) → Kept → Type 0
IsReadInto lines trace wanted kept = (read : IsRead lines trace) × HasKept wanted kept read.records

-- the lines are a whole trace, of which this is found
pub record IsFound (lines : List (List ℕ)) (legal : Bool) (text : List ℕ) : Type 0 where
  pub kind : Kind
  pub records : List (Record Deed)
  pub trace : IsTrace lines kind records
  pub verdict : IsVerdict kind records legal text

-- the lines are a whole trace, with a base or without, of which this is found
abbrev pub IsFoundIn : (lines : List (List ℕ)) → (legal : Bool) → (text : List ℕ) → Type 0
IsFoundIn lines legal text = IsFound lines legal text ⊎ IsFoundOn lines legal text

-- a fault of a trace's line names it
abbrev pub NamesLine : RunFault → (fault : Option ℕ) → Type 0
NamesLine f fault = f.why ≡ BadTrace → f.line ≡ fault

-- what a fault leaves of a check: nothing is written but where a write failed, and then a prefix of what is found
abbrev pub CheckBreaks : (lines : List (List ℕ)) → Refusal → Option ℕ → (old new : Option (List ℕ)) → Type 0
CheckBreaks lines BadTrace (Some n) old new = (trace_fault_in lines ≡ Some n) × Appends old new []
CheckBreaks lines Memory None old new = Appends old new []
CheckBreaks lines ReadFault None old new = Appends old new []
CheckBreaks lines WriteFault None old new = (legal : Bool) × (text : List ℕ) × IsFoundIn lines legal text
    × AppendsPrefix old new text
CheckBreaks lines _ _ old new = ⊥

-- what came of a check
abbrev pub CheckEnds : (lines : List (List ℕ)) → Result Bool RunFault → (old new : Option (List ℕ)) → Type 0
CheckEnds lines (Ok legal) old new = (text : List ℕ) × IsFoundIn lines legal text × Appends old new text
CheckEnds lines (Err f) old new = CheckBreaks lines f.why f.line old new

-- the faults of a trace that wasn't read to its end: a line's, and want of memory or a read that failed
abbrev pub IsUnreadTrace : RunFault → Type 0
IsUnreadTrace f =
    ((n : ℕ) × (f ≡ record { why = BadTrace; line = Some n }))
    ⊎ ((f ≡ record { why = Memory; line = None }) ⊎ (f ≡ record { why = ReadFault; line = None }))

-- the faults that end a check
abbrev pub TraceFaultIs : Refusal → Option ℕ → Type 0
TraceFaultIs BadTrace (Some n) = Unit {0}
TraceFaultIs Memory None = Unit {0}
TraceFaultIs ReadFault None = Unit {0}
TraceFaultIs WriteFault None = Unit {0}
TraceFaultIs _ _ = ⊥

-- such a fault, with the line that it names
abbrev pub IsTraceFault : RunFault → Type 0
IsTraceFault f = TraceFaultIs f.why f.line

-- the calls of these lines, up to the first that is none, leave this base and these records since; a checkpoint was
-- made among them, or wasn't
pub record LeavesRun (setup : Setup) (lines : List (List ℕ)) (cut : Bool) (base : Based) (since : List (Record Deed))
    (bad : Option ℕ) : Type 0 where
  pub folded : IsFolded setup.kind (records setup (calls_behind setup lines).items) base since
  pub gone : base.gone ≡ (turns setup (start setup) (calls_behind setup lines).items).place.gone
  pub was_cut : cut ≡ (turns setup (start setup) (calls_behind setup lines).items).place.cut
  pub fault : (calls_behind setup lines).fault ≡ bad

-- the trace of these lines' calls: of what they leave, which there is once
pub record IsTraceBehind (setup : Setup) (lines : List (List ℕ)) (text : List ℕ) : Type 0 where
  pub cut : Bool
  pub base : Based
  pub since : List (Record Deed)
  pub leaves : LeavesRun setup lines cut base since (calls_behind setup lines).fault
  pub spelled : text ≡ run_text setup.kind cut base since

-- the trace of a script's calls before its first fault; where that is its first line, nothing
unfoldable pub IsTraceIn : (lines : List (List ℕ)) → (text : List ℕ) → Type 0
IsTraceIn [] text = text ≡ []
IsTraceIn (line ∷ lines) text = MatchOption (setup_of line) (text ≡ []) (λ setup. IsTraceBehind setup lines text)

-- what came of tracing a whole input
abbrev pub TracesAll : (input : List ℕ) → Result Bool RunFault → (old new : Option (List ℕ)) → Type 0
TracesAll input result old new =
    (text : List ℕ) → IsTraceIn (lines_of input) text → RunEnds (fault_of input) text text result old new

-- what came of tracing these lines
abbrev pub TracesOn : Setup → (lines : List (List ℕ)) → Result Bool RunFault → (old new : Option (List ℕ)) → Type 0
TracesOn setup lines result old new =
    (text : List ℕ) → IsTraceBehind setup lines text
    → RunEnds (calls_behind setup lines).fault text text result old new

-- a run whose text was read to its end, or to a faulty line
abbrev pub WasRun : Result Bool RunFault → Type 0
WasRun (Ok legal) = Unit {0}
WasRun (Err f) = f.why ≡ BadLine

-- there is a trace of these lines
abbrev pub HasTrace : (lines : List (List ℕ)) → Type 0
HasTrace lines = (text : List ℕ) × IsTraceIn lines text
