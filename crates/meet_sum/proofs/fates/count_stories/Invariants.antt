-- What stays true from turn to turn of `count_stories`, src/fates.rt.
use Rattle.std.proofs.Common.{◌≡◌, map, take}
use Rattle.meet_sum.specs.FatesCounted.{numbers_of}
use Rattle.meet_sum.specs.Stories.{fate_told}
use Rattle.meet_sum.proofs.fates.count_stories.Given as goal

-- the fates of the stories so far are counted
abbrev pub invariant-loop-story : goal.invariant-loop-story
invariant-loop-story l = l.counts ≡ numbers_of (map fate_told (take l.story-index l.stories))
