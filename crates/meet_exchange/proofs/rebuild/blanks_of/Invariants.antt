-- What stays true from turn to turn of `blanks_of`, src/rebuild.rt.
use Rattle.std.proofs.Common.{◌≡◌, ◌++◌, drop, replicate}
use Rattle.meet_exchange.specs.Rebuild.{blank, posts_of}
use Rattle.meet_exchange.specs.Closed.{back_lists}
use Rattle.meet_exchange.proofs.rebuild.blanks_of.Given as goal

abbrev pub invariant-loop-back : goal.invariant-loop-back
invariant-loop-back g l = l.rounds.items ++ replicate (posts_of l.slot (back_lists (drop l.back-index l.seats))) blank ≡ replicate (posts_of l.slot (back_lists l.seats)) blank
