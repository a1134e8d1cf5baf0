-- Proof of `take_seat`, src/moving.rt. Takes the seat of a worker that isn't there.
use Rattle.std.proofs.Common.{None, is_none, ap, ◌∙◌}
use Rattle.std.proofs.lemmas.List.{map-set}
use Rattle.std.specs.Prelude.{slice_set}
use Rattle.pool_threads.specs.Mirrored.{away}
use Rattle.pool_threads.proofs.moving.take_seat.Goals as goal

pub returns-clause-seats : goal.returns-clause-seats
returns-clause-seats g c =
    ap (λ x. away (slice_set c.args.seats.now.items c.args.at x)) c.replace.ensures.after
    ∙ map-set is_none c.args.seats.now.items c.args.at None
