-- Proof of `count_stories`, src/fates.rt. How many of these stories end in which fate.
use Rattle.std.proofs.Common.{◌∙◌, ap, arith, map}
use Rattle.std.proofs.lemmas.List.{take_all}
use Rattle.meet_sum.specs.FatesCounted.{numbers_of}
use Rattle.meet_sum.specs.Stories.{fate_told}
use Rattle.meet_sum.proofs.FatesCounting.{counted-more, counted-fits}
use Rattle.meet_sum.proofs.fates.count_stories.Goals as goal

pub add-requires : goal.add-requires
add-requires c =
    counted-fits c.args.stories.now c.loop-story.story-index c.story-item.result c.loop-story.counts c.loop-story.invariant c.loop-story-test.true (omega arith)

pub loop-story-preserved : goal.loop-story-preserved
loop-story-preserved c =
    counted-more c.args.stories.now c.loop-story.story-index c.story-item.result c.loop-story.counts c.loop-story.invariant c.loop-story-test.true c.story-item.is c.add.new.counts c.add.ensures

pub returns : goal.returns
returns c = c.loop-story.invariant ∙ ap (λ xs. numbers_of (map fate_told xs)) (take_all c.loop-story.story-index c.args.stories.now c.loop-story-test.false)
