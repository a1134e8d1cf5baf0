-- What stays true from turn to turn of `count_others`, src/tally.rt.
use Rattle.std.proofs.Common.{◌≡◌, ◌≤◌, not, take}
use Rattle.std.specs.Prelude.{count_by}
use Rattle.meet_laws.specs.Tally.{stands_kept}
use Rattle.meet_laws.proofs.tally.count_others.Given as goal

-- so many so far
abbrev pub invariant-loop-one : goal.invariant-loop-one
invariant-loop-one g l = record { count : l.count ≡ count_by (λ a. not (stands_kept a.standing)) (take l.one-index l.left); few : l.count ≤ l.one-index }
