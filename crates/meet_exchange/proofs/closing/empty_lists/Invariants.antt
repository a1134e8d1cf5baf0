-- What stays true from turn to turn of `empty_lists`, src/closing.rt.
use Rattle.std.proofs.Common.{◌≡◌, ◌≤◌, List, [], length, map, replicate, vec_len, vec_capacity}
use Rattle.meet_exchange.specs.declared.records.Part.{Part}
use Rattle.meet_exchange.proofs.closing.empty_lists.Given as goal

abbrev pub invariant-loop-number : goal.invariant-loop-number
invariant-loop-number l = record {
  count : length l.lists.items ≡ l.number;
  empty : map (λ list. list.items) l.lists.items ≡ replicate {A = List Part} l.number [];
  size : vec_len l.lists ≡ l.number;
  room : l.fn.seats ≤ vec_capacity l.lists;
}
