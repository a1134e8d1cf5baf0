-- Proof of `count_fates`, src/sums.rt. How many tickets have which fate, of those that a base and the records since
-- name as requested.
use Rattle.std.proofs.Common.{◌∙◌, ap, map, ◌++◌}
use Rattle.meet_tickets.specs.Fates.{opening}
use Rattle.meet_sum.specs.FatesCounted.{numbers_of}
use Rattle.meet_sum.specs.Stories.{fate_told}
use Rattle.meet_sum.proofs.StoryLemmas.{fates-told}
use Rattle.meet_sum.proofs.sums.count_fates.Goals as goal

pub returns-clause-counted : goal.returns-clause-counted
returns-clause-counted c =
    let told = c.in_ok-stories.ensures.told in
    (told.0, told.1, c.count_stories.ensures ∙ ap (λ ss. numbers_of (map fate_told ss)) (c.as_slice-2.ensures.value ∙ told.2) ∙ fates-told (opening c.args.base.now ++ c.args.records.now) told.0)
