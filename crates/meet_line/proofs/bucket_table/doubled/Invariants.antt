-- What stays true from turn to turn of `doubled`, src/bucket_table.rt.
use Rattle.std.proofs.Common.{◌≡◌, ℕ, ◌*◌, ◌-◌, ◌^◌, ◌<◌, ◌≤◌}
use Rattle.meet_line.proofs.bucket_table.doubled.Given as goal

abbrev pub invariant-loop-size : goal.invariant-loop-size
invariant-loop-size l = (1 ≤ l.size) × (l.count ≤ l.size) × (l.count < l.needed → l.size < 2 * l.needed) × ((k : ℕ) × (l.size ≡ 2 ^ k))

abbrev pub decreases-loop-size : goal.decreases-loop-size
decreases-loop-size l = l.needed - l.size
