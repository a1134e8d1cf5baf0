-- Proof of `Chain::take`, src/trace/chain.rt. The chain with this chapter behind the others.
use Rattle.std.proofs.Common.{sym, ◌∙◌}
use Rattle.meet_run.proofs.Tracing.Chaining.{takes-broken, takes-read, none-there}
use Rattle.meet_run.proofs.trace.chain.Chain.take.Goals as goal

pub returns-then-is_some-clause-read : goal.returns-then-is_some-clause-read
returns-then-is_some-clause-read c = λ chapters chapter read of.
    takes-broken c.args.self chapters chapter (sym c.is_some.ensures ∙ c.if-is_some.true) read

pub returns-clause-read : goal.returns-clause-read
returns-clause-read c = λ chapters chapter read of.
    takes-read c.args.self c.args.trace c.broken_at.result chapters chapter c.in_ok-wrong.wrong (none-there c.args.self.fault (sym c.is_some.ensures ∙ c.if-is_some.false)) c.in_ok-wrong.ensures.wrong c.broken_at.ensures read of
