-- Proof of `put_back`, src/moving.rt. Puts the seat of a worker that isn't there any more back.
use Rattle.std.proofs.Common.{Some, is_none, ap, ◌∙◌}
use Rattle.std.proofs.lemmas.List.{map-set}
use Rattle.std.specs.Prelude.{slice_set}
use Rattle.pool_threads.specs.Mirrored.{away}
use Rattle.pool_threads.proofs.moving.put_back.Goals as goal

pub returns : goal.returns
returns g c =
    ap (λ x. away (slice_set c.args.seats.now.items c.args.at x)) c.replace-before.ensures.after
    ∙ map-set is_none c.args.seats.now.items c.args.at (Some c.args.seat)
