-- Proof of `PoolShared::seats_here`, src/closing.rt. How many seats of workers lie here: those of the workers that
-- aren't there.
use Rattle.std.proofs.Common.{ap, ◌∙◌, not, is_some}
use Rattle.std.specs.Prelude.{count_by}
use Rattle.pool_threads.proofs.Lying.{lying}
use Rattle.pool_threads.proofs.shared.PoolShared.seats_here.Goals as goal

pub returns : goal.returns
returns g c =
    rw (← c.self.view_is)
    (c.seats_in.ensures ∙ ap (λ l. count_by is_some l) c.as_slice.ensures.value ∙ lying c.self.inside.seats.items
    ∙ ap (λ j. count_by not j.there) c.self.invariant.0)
