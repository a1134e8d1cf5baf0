-- Proof of `none_got`, src/reasons/later.rt. That the call of this number alone gives the item, and it was got later.
use Rattle.std.proofs.Common.{inr}
use Rattle.meet_overlap.proofs.reasons.later.none_got.Goals as goal

pub returns-then-gives_alone : goal.returns-then-gives_alone
returns-then-gives_alone c found = inr (c.args.giver, c.gives_alone.ensures c.if-gives_alone.true, c.is_got_later.ensures found)
