-- Proof of `stories_of`, src/sums.rt. What a base, which these records open, and the records since tell of these
-- tickets.
use Rattle.std.proofs.Common.{refl, []}
use Rattle.meet_sum.proofs.sums.stories_of.Goals as goal

pub returns : goal.returns
returns c = c.hear_all-2.ensures.told c.args.before.now (c.hear_all.ensures.told [] c.in_ok-stories.ensures refl) refl
