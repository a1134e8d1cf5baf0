-- What stays true from turn to turn of `untold_all`, src/table.rt.
use Rattle.std.proofs.Common.{◌≡◌, map, take, []}
use Rattle.meet_sum.specs.Stories.{story_in}
use Rattle.meet_sum.proofs.table.untold_all.Given as goal

-- nothing is told of the tickets so far
abbrev pub invariant-loop-ticket : goal.invariant-loop-ticket
invariant-loop-ticket l = l.stories.items ≡ map (story_in []) (take l._ticket-index l.tickets)
