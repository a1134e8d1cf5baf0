-- How a program ends: its exit status, and its line on standard error.
use Rattle.std.specs.Prelude.{ℕ, Bool, true, false, Option, Some, None, Result, Ok, Err, List, [], ◌++◌, codes, decimal}
use Rattle.meet_tickets.specs.declared.refusals.Refusal.{Refusal}
use Rattle.meet_tickets.specs.declared.refusals.Refusal.TheVariants.{Memory, HistoryFull, TicketsSpent, SeatOpen}
use Rattle.meet_tickets.specs.declared.refusals.Refusal.TheVariants.{NoSuchSeat, NotOpen, Differs, SeatMissing}
use Rattle.meet_tickets.specs.declared.refusals.Refusal.TheVariants.{Contended, Worn, BadSizes, PolicyNeedsBuffer}
use Rattle.meet_tickets.specs.declared.refusals.Refusal.TheVariants.{NoThread, BadLine, BadTrace, ReadFault}
use Rattle.meet_tickets.specs.declared.refusals.Refusal.TheVariants.{WriteFault, HasBase}
use Rattle.meet_tickets.specs.Refusals.{name_of}
use Rattle.meet_run.specs.declared.text.faults.RunFault.{RunFault}

-- the exit status of a fault: 3 for a line that can't be read, 5 for a reader or a writer that fails, else 4
unfoldable pub fault_status : Refusal → ℕ
fault_status Memory = 4
fault_status HistoryFull = 4
fault_status TicketsSpent = 4
fault_status SeatOpen = 4
fault_status NoSuchSeat = 4
fault_status NotOpen = 4
fault_status Differs = 4
fault_status SeatMissing = 4
fault_status Contended = 4
fault_status Worn = 4
fault_status BadSizes = 4
fault_status PolicyNeedsBuffer = 4
fault_status NoThread = 4
fault_status BadLine = 3
fault_status BadTrace = 3
fault_status ReadFault = 5
fault_status WriteFault = 5
fault_status HasBase = 4

-- the exit status of a run: 0 where all is well, 1 for a trace that isn't legal
unfoldable pub status_of : Result Bool RunFault → ℕ
status_of (Ok true) = 0
status_of (Ok false) = 1
status_of (Err fault) = fault_status fault.why

-- where a fault is, if it is in a line
unfoldable pub line_text : (line : Option ℕ) → List ℕ
line_text None = []
line_text (Some n) = codes "line " ++ decimal n ++ codes ": "

-- a fault's line
unfoldable pub fault_text : RunFault → List ℕ
fault_text fault = codes "meet: " ++ line_text fault.line ++ name_of fault.why ++ codes "\n"

-- the line of a run on standard error, if it has one
unfoldable pub fault_line : Result Bool RunFault → List ℕ
fault_line (Ok legal) = []
fault_line (Err fault) = fault_text fault
