-- What stays true from turn to turn of `push_repeated`, src/cells.rt.
use Rattle.std.proofs.Common.{◌≡◌, ◌++◌}
use Rattle.std.specs.List.{repeat}
use Rattle.meet_draw.proofs.cells.push_repeated.Given as goal

abbrev pub invariant-loop : goal.invariant-loop
invariant-loop l = l.out.items ≡ l.fn.out.items ++ repeat l.counter l.sign
