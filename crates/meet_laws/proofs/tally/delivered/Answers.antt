-- Proof of `delivered`, src/tally.rt. How many items were handed over to a taker, by a base and the records since: so
-- many requests met somebody.
use Rattle.std.proofs.Common.{◌≡◌, ◌+◌, ◌∙◌, sym, rules, arith}
use Rattle.meet_laws.specs.Tally.{met_on}
use Rattle.meet_laws.proofs.Reckoned.{delivered_is}
use Rattle.meet_laws.proofs.tally.delivered.Goals as goal

pub returns-clause-tally : goal.returns-clause-tally
returns-clause-tally c = λ k w legal. is ∙ sym (delivered_is k c.args.base.now c.args.records.now w legal)
  where
    is : c.count_pairs.result + c.count_meets.result ≡ met_on c.args.base.now c.args.records.now
    is = search (rules, arith)
