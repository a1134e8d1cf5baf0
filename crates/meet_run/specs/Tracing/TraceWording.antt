-- The text of a trace, and of what is found against it.
use Rattle.std.specs.Prelude.{ℕ, List, ◌++◌, codes, decimal}
use Rattle.std.specs.List.{flat_map}
use Rattle.meet_tickets.specs.declared.places.Kind.{Kind}
use Rattle.meet_tickets.specs.declared.records.Deed.{Deed}
use Rattle.meet_tickets.specs.declared.records.Record.{Record}
use Rattle.meet_history.specs.declared.checker.Why.{Why}
use Rattle.meet_history.specs.declared.checker.Why.TheVariants.{SeatOpen, TicketOrder, NotOpen, WrongReply}
use Rattle.meet_run.specs.Tracing.TraceSpelling.{record_text, head_text}

-- a trace's first line
unfoldable pub head_line : Kind → List ℕ
head_line kind = head_text kind ++ codes "\n"

-- a record's line
unfoldable pub record_line : Record Deed → List ℕ
record_line r = record_text r ++ codes "\n"

-- a whole trace
unfoldable pub trace_text : Kind → List (Record Deed) → List ℕ
trace_text kind records = head_line kind ++ flat_map record_line records

-- why a record can't come next
unfoldable pub why_text : Why → List ℕ
why_text SeatOpen = codes "SeatOpen"
why_text TicketOrder = codes "TicketOrder"
why_text NotOpen = codes "NotOpen"
why_text WrongReply = codes "WrongReply"

-- the line that names the first record that can't stand, from 1, and why
unfoldable pub illegal_line : (number : ℕ) → Why → List ℕ
illegal_line number why = codes "illegal " ++ decimal number ++ codes " " ++ why_text why ++ codes "\n"
