-- What stays true from turn to turn of `blanks`, src/rebuild.rt.
use Rattle.std.proofs.Common.{◌≡◌, ◌<◌, ◌≤◌, ℕ, length, map, replicate, vec_len, vec_capacity}
use Rattle.meet_exchange.specs.Rebuild.{blank, posts_of}
use Rattle.meet_exchange.specs.Closed.{back_lists, entry_at}
use Rattle.meet_exchange.proofs.rebuild.blanks.Given as goal

abbrev pub invariant-loop-slot : goal.invariant-loop-slot
invariant-loop-slot g l = record {
  count : length l.all.items ≡ l.slot;
  size : vec_len l.all ≡ l.slot;
  room : l.fn.slots ≤ vec_capacity l.all;
  each : (k : ℕ) → k < l.slot → entry_at (map (λ rounds. rounds.items) l.all.items) k ≡ replicate (posts_of k (back_lists l.seats)) blank;
}
