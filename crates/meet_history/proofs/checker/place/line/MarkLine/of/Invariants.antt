-- What stays true from turn to turn of `MarkLine::of`, src/checker/place/line.rt.
use Rattle.std.proofs.Common.{◌≡◌, take}
use Rattle.meet_history.specs.Marks.{IsNewest}
use Rattle.meet_history.proofs.checker.place.line.MarkLine.of.Given as goal

abbrev pub invariant-loop-entry : goal.invariant-loop-entry
invariant-loop-entry l = record {
  end : l.marks.end ≡ l.fn.end;
  entries : l.marks.entries ≡ take l.entry-index l.entries;
  newest : IsNewest (take l.entry-index l.entries) l.marks.newest;
}
