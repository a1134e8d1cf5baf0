-- A trace without the tickets that were cut, taken back or refused at their entry.
use Rattle.std.specs.Prelude.{◌≡◌, ◌⊎◌, ℕ, Bool, true, false, Option, Some, None, Result, Ok, Err, List, [], ◌∷◌}
use Rattle.std.specs.Io.KnownBytes.{Appends}
use Rattle.std.specs.Option.{option_map_or}
use Rattle.meet_tickets.specs.declared.places.Kind.{Kind}
use Rattle.meet_tickets.specs.declared.records.Deed.{Deed}
use Rattle.meet_tickets.specs.declared.records.Record.{Record}
use Rattle.meet_tickets.specs.declared.refusals.Refusal.{Refusal}
use Rattle.meet_tickets.specs.declared.refusals.Refusal.TheVariants.{Memory, BadTrace, ReadFault, WriteFault}
use Rattle.meet_tickets.specs.Bases.{no_base}
use Rattle.meet_tickets.specs.ByLists.{IsLegal}
use Rattle.meet_laws.specs.Erasing.{erase}
use Rattle.meet_history.specs.declared.checker.Why.{Why}
use Rattle.meet_history.specs.Checking.{IsIllegalAt}
use Rattle.meet_run.specs.declared.text.faults.RunFault.{RunFault}
use Rattle.meet_run.specs.Texts.Reading.{Listed}
use Rattle.meet_run.specs.Tracing.TraceGrammar.{head_of}
use Rattle.meet_run.specs.Tracing.Traces.{records_behind, IsTrace}
use Rattle.meet_run.specs.Tracing.TraceWording.{trace_text, illegal_line}
use Rattle.meet_run.specs.Texts.Writing.{AppendsPrefix}

-- these lines are records to their end, and just these
abbrev pub AreRecords : List (Record Deed) → Listed (Record Deed) → Type 0
AreRecords records lines = lines ≡ record { items = records; fault = None }

-- the number of the first line at fault, where a trace is to be erased: a first line that announces a base is at fault
unfoldable pub erase_fault_in : (lines : List (List ℕ)) → Option ℕ
erase_fault_in [] = Some 1
erase_fault_in (line ∷ lines) = option_map_or (λ kind. (records_behind lines).fault) (head_of line) (Some 1)

-- whether records are legal, and what is written of them: the trace of what is left of them, or the line that names the
-- first that can't stand, and why
abbrev pub IsErasure : Kind → List (Record Deed) → (legal : Bool) → (text : List ℕ) → Type 0
IsErasure kind records true text = IsLegal kind records × (text ≡ trace_text kind (erase records))
IsErasure kind records false text = (number : ℕ) × (why : Why) × IsIllegalAt kind no_base records number why
    × (text ≡ illegal_line number why)

-- of these records just that was written
abbrev pub WritesErased : Kind → List (Record Deed) → (legal : Bool) → (old new : Option (List ℕ)) → Type 0
WritesErased kind records legal old new = (text : List ℕ) × IsErasure kind records legal text × Appends old new text

-- of these records nothing was written, or a prefix of that
abbrev pub BeginsErased : Kind → List (Record Deed) → (old new : Option (List ℕ)) → Type 0
BeginsErased kind records old new = Appends old new []
    ⊎ ((legal : Bool) × (text : List ℕ) × IsErasure kind records legal text × AppendsPrefix old new text)

-- the lines are a whole trace, of which this is written
abbrev pub IsErasedTrace : (lines : List (List ℕ)) → (legal : Bool) → (old new : Option (List ℕ)) → Type 0
IsErasedTrace lines legal old new = (kind : Kind) × (records : List (Record Deed)) × IsTrace lines kind records
    × WritesErased kind records legal old new

-- nothing was written, or the lines are a whole trace, of which a prefix of what is to be written was
abbrev pub BeginsErasedTrace : (lines : List (List ℕ)) → (old new : Option (List ℕ)) → Type 0
BeginsErasedTrace lines old new = Appends old new []
    ⊎ ((kind : Kind) × (records : List (Record Deed)) × IsTrace lines kind records × BeginsErased kind records old new)

-- what a fault leaves of it
abbrev pub EraseBreaks : (lines : List (List ℕ)) → Refusal → Option ℕ → (old new : Option (List ℕ)) → Type 0
EraseBreaks lines BadTrace (Some n) old new = (erase_fault_in lines ≡ Some n) × Appends old new []
EraseBreaks lines Memory None old new = BeginsErasedTrace lines old new
EraseBreaks lines ReadFault None old new = Appends old new []
EraseBreaks lines WriteFault None old new = BeginsErasedTrace lines old new
EraseBreaks lines _ _ old new = ⊥

-- what came of it
abbrev pub EraseEnds : (lines : List (List ℕ)) → Result Bool RunFault → (old new : Option (List ℕ)) → Type 0
EraseEnds lines (Ok legal) old new = IsErasedTrace lines legal old new
EraseEnds lines (Err f) old new = EraseBreaks lines f.why f.line old new
