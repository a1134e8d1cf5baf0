-- What stays true from turn to turn of `missing_seats`, src/missing.rt.
use Rattle.std.proofs.Common.{◌≡◌, ◌≤◌}
use Rattle.std.specs.Prelude.{filter, not}
use Rattle.std.specs.List.{range_with_len}
use Rattle.meet_place.specs.Backs.{is_back}
use Rattle.meet_place.proofs.missing.missing_seats.Given as goal

abbrev pub invariant-loop-number : goal.invariant-loop-number
invariant-loop-number g l = record {
  within : l.number ≤ l.number-end;
  list : l.list.items ≡ filter (λ number. not (is_back l.fn.seats number)) (range_with_len 0 l.number);
}
