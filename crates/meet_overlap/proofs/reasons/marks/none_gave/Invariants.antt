-- What stays true from turn to turn of `none_gave`, src/reasons/marks.rt.
use Rattle.meet_overlap.specs.Marks.{NoneGave}
use Rattle.meet_overlap.proofs.reasons.marks.none_gave.Given as goal

-- none of the calls so far is so
abbrev pub invariant-loop-number : goal.invariant-loop-number
invariant-loop-number l = NoneGave l.calls l.number l.mark l.by
