-- What stays true from turn to turn of `answers_of`, src/answers.rt.
use Rattle.std.proofs.Common.{◌≡◌, ◌++◌, drop, map}
use Rattle.pool_callers.specs.Answers.{answers_in}
use Rattle.pool_callers.proofs.answers.answers_of.Given as goal

-- the answers so far, with those that the other lists tell, are those of all lists
abbrev pub invariant-loop-list : goal.invariant-loop-list
invariant-loop-list g l = l.answers.items ++ answers_in (map (λ list. list.items) (drop l.list-index l.chronicle.lists.items))
    ≡ answers_in (map (λ list. list.items) l.chronicle.lists.items)
