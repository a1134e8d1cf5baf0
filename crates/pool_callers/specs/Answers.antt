-- What the jobs of a pool returned, by the receipts of its workers (our choice).
use Rattle.std.specs.Prelude.{ℕ, Option, Some, None, List, [], ◌∷◌, ◌++◌}
use Rattle.meet_book.specs.Received.{Received}
use Rattle.pool_core.specs.declared.deeds.PoolDeed.{PoolDeed}
use Rattle.pool_core.specs.declared.deeds.PoolDeed.TheVariants.{Runs, Finished}
use Rattle.pool_callers.specs.declared.answers.Answer.{Answer}

-- the job that a worker runs after this deed
abbrev pub in_hand : PoolDeed ℕ → Option ℕ
in_hand (Runs ticket job) = Some job
in_hand deed = None

-- what this deed tells of the job that its worker runs
abbrev pub told_by : Option ℕ → PoolDeed ℕ → Option Answer
told_by (Some job) (Finished value) = Some (record { job = job; value = value })
told_by running deed = None

abbrev pub one_or_none : Option Answer → List Answer
one_or_none (Some answer) = answer ∷ []
one_or_none None = []

-- the answers that a worker's list tells from here, where it runs this job
abbrev pub answers_from : (running : Option ℕ) → List (Received (PoolDeed ℕ)) → List Answer
answers_from running [] = []
answers_from running (receipt ∷ list) =
    one_or_none (told_by running receipt.entry.deed) ++ answers_from (in_hand receipt.entry.deed) list

-- the answers that all lists tell, one list after another
abbrev pub answers_in : List (List (Received (PoolDeed ℕ))) → List Answer
answers_in [] = []
answers_in (list ∷ lists) = answers_from None list ++ answers_in lists
