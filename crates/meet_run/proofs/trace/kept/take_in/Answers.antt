-- Proof of `take_in`, src/trace/kept.rt. Takes in the next record that was read: keeps it, if it is wanted, and pushes
-- it on the checker.
use Rattle.std.proofs.Common.{sym, ◌∙◌}
use Rattle.std.proofs.lemmas.Bool.{false≢true}
use Rattle.meet_run.proofs.trace.kept.take_in.Goals as goal

pub returns-clause-seen : goal.returns-clause-seen
returns-clause-seen c = c.push.ensures.seen (λ is. false≢true (sym c.if-is_memory.false ∙ c.is_memory.ensures.1 is))
