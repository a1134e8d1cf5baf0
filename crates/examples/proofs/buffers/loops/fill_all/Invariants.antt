-- What stays true from turn to turn of `fill_all`, src/buffers/loops.rt.
use Rattle.std.proofs.Common.{◌≡◌}
use Rattle.examples.proofs.buffers.loops.fill_all.Given as goal

-- the seat is one of this arena
abbrev pub invariant-loop : goal.invariant-loop
invariant-loop g l = record { place : l.seat.arena ≡ l.fn.arena.id }
