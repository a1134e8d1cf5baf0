-- Proof of `Crew::free`, src/crew.rt. The least number that no worker has.
use Rattle.std.proofs.Common.{sym, refl, not}
use Rattle.pool_core.specs.declared.stages.Stage.TheVariants.{Running}
use Rattle.pool_core.specs.Pools.{is_there}
use Rattle.pool_core.proofs.Marked.{marks-least}
use Rattle.pool_core.proofs.crew.Crew.free.Goals as goal

pub returns : goal.returns
returns g c =
    let stages = c.self.inside.stages.items in
    let words = c.self.inside.free.words.items in
    rw (← c.self.view_is) (sym (marks-least (λ stage. not (is_there stage)) (Running 0) stages words c.self.invariant.free refl c.least.result c.least.ensures))
