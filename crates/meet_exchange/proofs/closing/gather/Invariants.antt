-- What stays true from turn to turn of `gather`, src/closing.rt.
use Rattle.std.proofs.Common.{◌≡◌, ◌+◌, ◌⊎◌, ℕ, List, [], length, map, vec_len}
use Rattle.meet_exchange.specs.declared.records.Part.{Part}
use Rattle.meet_exchange.specs.Rebuild.{posts_of}
use Rattle.meet_exchange.specs.Closing.{AllSettled, lists_of, put_all}
use Rattle.meet_exchange.specs.Closed.{AreOf, AreAt, HasList, back_lists}
use Rattle.meet_exchange.proofs.closing.gather.Given as goal

abbrev pub invariant-loop-back : goal.invariant-loop-back
invariant-loop-back g l = record {
  place : l.master.table_id ≡ l.board.table_id;
  held : l.master.me.1 ≡ [];
  settled : AllSettled l.master.me.0;
  count : length l.master.me.0 + vec_len l.seats ≡ vec_len l.fn.seats;
  at : AreOf l.board.table_id l.seats.items;
  lists : map (λ x. x.items) l.lists.items ≡ put_all (lists_of l.master.me.0) (map (λ x. x.items) l.fn.lists.items);
  many : length l.lists.items ≡ length l.fn.lists.items;
  own : (lists : List (List Part)) → AreAt lists (lists_of l.master.me.0) → AreAt lists (back_lists l.seats.items) → AreAt lists (back_lists l.fn.seats.items);
  back : (x : ℕ) → HasList x (lists_of l.master.me.0) ⊎ HasList x (back_lists l.seats.items) → HasList x (back_lists l.fn.seats.items);
  posts : (k : ℕ) → posts_of k (lists_of l.master.me.0) + posts_of k (back_lists l.seats.items) ≡ posts_of k (back_lists l.fn.seats.items);
}

abbrev pub decreases-loop-back : goal.decreases-loop-back
decreases-loop-back g l = vec_len l.seats
