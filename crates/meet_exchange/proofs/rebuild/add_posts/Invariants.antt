-- What stays true from turn to turn of `add_posts`, src/rebuild.rt.
use Rattle.std.proofs.Common.{◌≡◌, ◌++◌, drop, replicate}
use Rattle.meet_exchange.specs.Rounds.{in_slot}
use Rattle.meet_exchange.specs.Rebuild.{blank, posts_among}
use Rattle.meet_exchange.proofs.rebuild.add_posts.Given as goal

abbrev pub invariant-loop-part : goal.invariant-loop-part
invariant-loop-part l = l.rounds.items ++ replicate (posts_among (in_slot l.slot (drop l.part-index l.list))) blank ≡ l.fn.rounds.items ++ replicate (posts_among (in_slot l.slot l.list)) blank
