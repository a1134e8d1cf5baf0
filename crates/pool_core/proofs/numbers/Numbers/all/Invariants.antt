-- What stays true from turn to turn of `Numbers::all`, src/numbers.rt.
use Rattle.std.proofs.Common.{◌≡◌, ℕ, ◌*◌, ◌≤◌, nat_lt, if◌then◌else◌, length}
use Rattle.pool_core.specs.Numbers.{holds}
use Rattle.pool_core.proofs.numbers.Numbers.all.Given as goal

abbrev pub invariant-loop-number : goal.invariant-loop-number
invariant-loop-number l = record {
  room : l.below ≤ 64 * length l.all.words.items;
  all : (n : ℕ) → holds l.all.words.items n ≡ (if nat_lt n l.number then 1 else 0);
}
