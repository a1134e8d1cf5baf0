-- What stays true from turn to turn of `none_may_give`, src/reasons/marks.rt.
use Rattle.meet_overlap.specs.Marks.{NoneMayGive}
use Rattle.meet_overlap.proofs.reasons.marks.none_may_give.Given as goal

-- none of the calls so far is so
abbrev pub invariant-loop-number : goal.invariant-loop-number
invariant-loop-number l = NoneMayGive l.calls l.number l.mark l.by
