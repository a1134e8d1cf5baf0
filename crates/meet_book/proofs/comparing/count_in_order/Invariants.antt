-- What stays true from turn to turn of `count_in_order`, src/comparing.rt.
use Rattle.std.proofs.Common.{◌≡◌, ◌+◌, ◌≤◌, length, take, filter}
use Rattle.meet_book.specs.Listed.{is_own, numbered, since, FewerOrThese}
use Rattle.meet_book.proofs.comparing.count_in_order.Given as goal

-- so far the receipts were counted, and they are fewer than the records up to the last, or just these
abbrev pub invariant-loop-receipt : goal.invariant-loop-receipt
invariant-loop-receipt g l = record {
  count : l.unseen + length (since l.gone (take l.receipt-index l.list)) ≡ l.all;
  within : l.next ≤ length l.records;
  fewer : FewerOrThese (since l.gone (take l.receipt-index l.list)) (filter (is_own l.seat) (take l.next (numbered l.gone l.records)));
}
