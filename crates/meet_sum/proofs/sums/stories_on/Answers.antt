-- Proof of `stories_on`, src/sums.rt. What a base, which these records open, and the records since tell of the tickets
-- that they name as requested.
use Rattle.std.proofs.Common.{◌∙◌, ap, ◌++◌, map}
use Rattle.meet_sum.specs.Stories.{story_in}
use Rattle.meet_sum.proofs.sums.stories_on.Goals as goal

pub returns-in-Ok-stories_of-clause-told : goal.returns-in-Ok-stories_of-clause-told
returns-in-Ok-stories_of-clause-told c =
    let tickets = c.in-Ok.tickets.items in
    let own = c.as_slice.ensures.value in
    (tickets, c.in-Ok.ensures, c.in-Ok-stories_of.ensures ∙ ap (λ ts. map (story_in (c.args.before.now ++ c.args.records.now)) ts) own ∙ ap (λ h. map (story_in (h ++ c.args.records.now)) tickets) c.requires.opened)
