-- Proof of `PoolHandle::submit`, src/handle.rt.
use Rattle.pool_callers.proofs.Submitting.{taken, not_run}
use Rattle.pool_callers.proofs.handle.PoolHandle.submit.Goals as goal

pub returns-clause-taken : goal.returns-clause-taken
returns-clause-taken g c =
    let handle = g.Self.PoolHandle.handle_of in let e = c.execute.ensures in let tag = g.C.Call.tag_of c.args.job in
    taken g.Self.PoolHandle.count (g.W.Work.worth tag) g.Self.PoolHandle.settings.sizes.callers (handle c.args.self.now)
    (handle c.execute.new.self) tag c.args.job c.execute.result c.submitted.result e.handed e.item c.submitted.ensures.taken

pub returns-clause-unrun : goal.returns-clause-unrun
returns-clause-unrun g c =
    let handle = g.Self.PoolHandle.handle_of in let e = c.execute.ensures in let tag = g.C.Call.tag_of c.args.job in
    not_run g.Self.PoolHandle.count (g.W.Work.worth tag) g.Self.PoolHandle.settings.sizes.callers (handle c.args.self.now)
    (handle c.execute.new.self) tag c.args.job c.execute.result c.submitted.result e.handed e.item e.unstarted e.same
    e.back e.why c.submitted.ensures.unrun
