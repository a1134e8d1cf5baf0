-- What workers count is little.
use Rattle.std.proofs.Common.{◌*◌, ◌≤◌, List, length, get_or, Bool, Some, None, arith}
use Rattle.std.specs.Prelude.{sum_by, count_by}
use Rattle.std.proofs.lemmas.List.Sums.{sum_by-le, count_by-le-length}
use Rattle.pool_core.specs.declared.stages.Stage.{Stage}
use Rattle.pool_core.specs.declared.stages.Stage.TheVariants.{Absent, Starting, Waiting, Cut, HandedOver, Running}
use Rattle.pool_core.specs.Pools.{stage_owes}

owes-four : {X : Type 0} (stage : Stage X) → stage_owes stage ≤ 4
owes-four Absent = omega arith
owes-four (Starting None) = omega arith
owes-four (Starting (Some task)) = omega arith
owes-four (Waiting t) = omega arith
owes-four (Cut t) = omega arith
owes-four (HandedOver t task) = omega arith
owes-four (Running t) = omega arith

pub few-owed : {X : Type 0} (stages : List (Stage X)) → sum_by stage_owes stages ≤ length stages * 4
few-owed stages = sum_by-le stage_owes 4 stages (λ k d below. owes-four (get_or stages k d))

pub few-counted : {X : Type 0} (p : X → Bool) (xs : List X) → count_by p xs ≤ length xs
few-counted p xs = count_by-le-length p xs
