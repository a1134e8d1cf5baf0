-- Proof of `CheckedPool::new`, src/checker/pool.rt. A pool of these settings that nobody works in.
use Rattle.std.proofs.Common.{◌≡◌, ◌∙◌, None, sym}
use Rattle.pool_core.specs.Calls.{settings_refusal}
use Rattle.pool_history.proofs.Taken.{new-moment, new-orderly}
use Rattle.pool_history.proofs.checker.pool.CheckedPool.new.Goals as goal

pub invariant_of-result : goal.invariant_of-result
invariant_of-result c =
    let s = c.args.settings in
    let fits : settings_refusal s ≡ None = sym c.refusal.ensures ∙ c.in_default.is in
    record {
      orderly = rw (c.no_ticket.ensures, c.new-2.ensures.entries, c.in-Ok.ensures, ← new-moment s) (new-orderly s fits);
      order = c.new-2.ensures.end ∙ c.end.ensures;
    }

pub returns-clause-well_formed : goal.returns-clause-well_formed
returns-clause-well_formed c = new-orderly c.args.settings (sym c.refusal.ensures ∙ c.in_default.is)
