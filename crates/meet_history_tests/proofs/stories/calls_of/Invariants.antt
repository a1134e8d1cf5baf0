-- What stays true from turn to turn of `calls_of`, src/stories.rt.
use Rattle.std.proofs.Common.{All, IsTrue}
use Rattle.meet_history.specs.Served.{serves}
use Rattle.meet_history_tests.proofs.stories.calls_of.Given as goal

-- the place has the verbs of the calls so far
abbrev pub invariant-loop-number : goal.invariant-loop-number
invariant-loop-number g l = All (λ call. IsTrue (serves l.fn.order call.verb)) l.calls.items
