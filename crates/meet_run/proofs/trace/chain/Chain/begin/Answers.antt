-- Proof of `Chain::begin`, src/trace/chain.rt. A chain that begins with this chapter.
use Rattle.std.proofs.Common.{ap, ◌∙◌}
use Rattle.meet_run.specs.Tracing.Chapters.{broken_at}
use Rattle.meet_run.proofs.Tracing.Chaining.{begins-read}
use Rattle.meet_run.proofs.trace.chain.Chain.begin.Goals as goal

pub returns-clause-read : goal.returns-clause-read
returns-clause-read c = λ chapter of. begins-read c.args.trace c.broken_at.result chapter (c.broken_at.ensures ∙ ap (broken_at 1) c.in_ok-wrong.ensures.wrong) of
