-- What stays true from turn to turn of `push_answers`, src/answers.rt.
use Rattle.std.proofs.Common.{◌≡◌, ◌++◌, drop, None}
use Rattle.pool_callers.specs.Answers.{answers_from}
use Rattle.pool_callers.proofs.answers.push_answers.Given as goal

-- the answers so far, with those that the rest of the list tells, are those of the whole list behind the others
abbrev pub invariant-loop-receipt : goal.invariant-loop-receipt
invariant-loop-receipt l =
    l.answers.items ++ answers_from l.running (drop l.receipt-index l.list) ≡ l.fn.answers.items ++ answers_from None l.list
