-- What stays true from turn to turn of `hear_line`, src/fates.rt.
use Rattle.std.proofs.Common.{◌≡◌, ◌++◌, take, map, List}
use Rattle.meet_tickets.specs.declared.records.Record.{Record}
use Rattle.meet_tickets.specs.declared.records.Deed.{Deed}
use Rattle.meet_tickets.specs.Fates.{line_record}
use Rattle.meet_laws.specs.Hearing.{told_in}
use Rattle.meet_laws.proofs.fates.hear_line.Given as goal

-- what the entries so far tell
abbrev pub invariant-loop-entry : goal.invariant-loop-entry
invariant-loop-entry l = (history : List (Record Deed)) → l.fn.start ≡ told_in history l.ticket → l.told ≡ told_in (history ++ map line_record (take l.entry-index l.line)) l.ticket
