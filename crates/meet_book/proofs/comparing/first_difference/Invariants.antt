-- What stays true from turn to turn of `first_difference`, src/comparing.rt.
use Rattle.std.proofs.Common.{◌≡◌, ◌≤◌, ◌++◌, length, take, drop, filter}
use Rattle.meet_book.specs.Listed.{is_own, numbered, since}
use Rattle.meet_book.proofs.comparing.first_difference.Given as goal

-- the receipts for the seat's records so far are what its receipts begin with
abbrev pub invariant-loop-entry : goal.invariant-loop-entry
invariant-loop-entry g l = record {
  within : l.at ≤ length l.list;
  few : l.index ≤ l.at;
  before : l.before ≡ l.entry-index;
  index : l.index ≡ length (filter (is_own l.fn.seat) (take l.entry-index (numbered l.gone l.records)));
  same : since l.gone l.list
      ≡ filter (is_own l.fn.seat) (take l.entry-index (numbered l.gone l.records)) ++ since l.gone (drop l.at l.list);
}
