-- What stays true from turn to turn of `take_left`, src/left.rt.
use Rattle.std.proofs.Common.{◌≡◌, ℕ, ◌+◌, ◌-◌, ◌<◌, ◌≤◌, false, get_or, vec_len, vec_capacity}
use Rattle.std.specs.Mem.Slots.{slots_filled, slots_len, slots_items}
use Rattle.std.specs.Mem.Slots.Ownership.{Filled}
use Rattle.meet_exchange.specs.Closed.{TakenUpTo}
use Rattle.meet_exchange.proofs.left.take_left.Given as goal

abbrev pub invariant-loop-slot : goal.invariant-loop-slot
invariant-loop-slot g l = record {
  filled : Filled (slots_filled l.closed.slots) l.slot (slots_len l.closed.slots);
  emptied : (k : ℕ) → k < l.slot → get_or (slots_filled l.closed.slots) k false ≡ false;
  items : slots_items l.closed.slots ≡ slots_items l.fn.closed.slots;
  words : l.closed.words ≡ l.fn.closed.words;
  size : slots_len l.closed.slots ≡ l.fn.slots;
  taken : TakenUpTo (slots_items l.fn.closed.words) (slots_items l.fn.closed.slots) l.slot l.left.items;
  room : vec_len l.left + (l.fn.slots - l.slot) ≤ vec_capacity l.left;
}
