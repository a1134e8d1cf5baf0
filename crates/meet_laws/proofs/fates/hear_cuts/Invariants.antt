-- What stays true from turn to turn of `hear_cuts`, src/fates.rt.
use Rattle.std.proofs.Common.{◌≡◌, ◌++◌, take, List}
use Rattle.std.specs.List.{flat_map}
use Rattle.meet_tickets.specs.declared.records.Record.{Record}
use Rattle.meet_tickets.specs.declared.records.Deed.{Deed}
use Rattle.meet_tickets.specs.Fates.{cut_records}
use Rattle.meet_laws.specs.Hearing.{told_in}
use Rattle.meet_laws.proofs.fates.hear_cuts.Given as goal

-- what the entries so far tell
abbrev pub invariant-loop-cut : goal.invariant-loop-cut
invariant-loop-cut l = (history : List (Record Deed)) → l.fn.start ≡ told_in history l.ticket → l.told ≡ told_in (history ++ flat_map cut_records (take l.cut-index l.cuts)) l.ticket
