-- What stays true from turn to turn of `next_since`, src/comparing.rt.
use Rattle.std.proofs.Common.{◌≡◌, ◌≤◌, drop}
use Rattle.meet_book.specs.Listed.{since}
use Rattle.meet_book.proofs.comparing.next_since.Given as goal

-- what was passed over isn't since
abbrev pub invariant-loop-at : goal.invariant-loop-at
invariant-loop-at g l = record {
  from : l.from ≤ l.at;
  same : since l.gone (drop l.from l.list) ≡ since l.gone (drop l.at l.list);
}
