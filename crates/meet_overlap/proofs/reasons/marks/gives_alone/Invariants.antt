-- What stays true from turn to turn of `gives_alone`, src/reasons/marks.rt.
use Rattle.meet_overlap.specs.Marks.{IsOnlyGiver}
use Rattle.meet_overlap.proofs.reasons.marks.gives_alone.Given as goal

-- of the calls so far no other gives it
abbrev pub invariant-loop-number : goal.invariant-loop-number
invariant-loop-number l = IsOnlyGiver l.calls l.number l.mark l.giver
