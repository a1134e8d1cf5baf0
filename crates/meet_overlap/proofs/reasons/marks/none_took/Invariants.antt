-- What stays true from turn to turn of `none_took`, src/reasons/marks.rt.
use Rattle.meet_overlap.specs.Marks.{NoneTook}
use Rattle.meet_overlap.proofs.reasons.marks.none_took.Given as goal

-- none of the calls so far is so
abbrev pub invariant-loop-number : goal.invariant-loop-number
invariant-loop-number l = NoneTook l.calls l.number l.mark l.by
