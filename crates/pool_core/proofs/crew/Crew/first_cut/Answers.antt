-- Proof of `Crew::first_cut`, src/crew.rt. The first worker whose take was cut.
use Rattle.std.proofs.Common.{sym, refl}
use Rattle.pool_core.specs.declared.stages.Stage.TheVariants.{Absent}
use Rattle.pool_core.specs.Calls.{is_cut}
use Rattle.pool_core.proofs.Marked.{marks-least}
use Rattle.pool_core.proofs.crew.Crew.first_cut.Goals as goal

pub returns : goal.returns
returns g c =
    let stages = c.self.inside.stages.items in
    let words = c.self.inside.cut.words.items in
    rw (← c.self.view_is) (sym (marks-least is_cut Absent stages words c.self.invariant.cut refl c.least.result c.least.ensures))
