-- What stays true from turn to turn of `fill_all`, src/rebuild.rt.
use Rattle.std.proofs.Common.{◌≡◌, ◌<◌, ◌≤◌, ℕ, length, map}
use Rattle.meet_exchange.specs.Rebuild.{rebuilt_from}
use Rattle.meet_exchange.specs.Closed.{numbered, entry_at}
use Rattle.meet_exchange.proofs.rebuild.fill_all.Given as goal

abbrev pub invariant-loop-slot : goal.invariant-loop-slot
invariant-loop-slot l = record {
  count : length l.slots.items ≡ length l.fn.slots.items;
  done : (k : ℕ) → k < l.slot → entry_at (map (λ rounds. rounds.items) l.slots.items) k ≡ rebuilt_from l.start k (numbered 0 (map (λ list. list.items) l.lists)) (entry_at (map (λ rounds. rounds.items) l.fn.slots.items) k);
  rest : (k : ℕ) → l.slot ≤ k → entry_at (map (λ rounds. rounds.items) l.slots.items) k ≡ entry_at (map (λ rounds. rounds.items) l.fn.slots.items) k;
}
