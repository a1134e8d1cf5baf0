-- Proof of `hear`, src/stories.rt. What is told of a ticket once the record of this number is heard too.
use Rattle.std.proofs.Common.{◌∙◌, ◌+◌, ◌||◌, ap, length}
use Rattle.std.specs.Bool.{then_some}
use Rattle.std.specs.Option.{option_or}
use Rattle.meet_tickets.proofs.Told.Said.{passing}
use Rattle.meet_sum.specs.Stories.{asks_for, takes_out, asked_by}
use Rattle.meet_sum.proofs.StoryLemmas.{story_more}
use Rattle.meet_sum.proofs.stories.hear.Goals as goal

pub returns : goal.returns
returns c =
    let r = c.args.entry.now in
    let t = c.args.ticket in
    let x = c.args.story in
    λ history e n. story_more history r t x e _ _ _ _ _ _ _
    (c.or.ensures ∙ ap (option_or x.asked) (c.then_some.ensures ∙ ap (λ b. then_some b c.asked_by.result) c.asks_for-asks.ensures
    ∙ ap (then_some (asks_for t r)) c.asked_by.ensures ∙ passing (asks_for t r) (asked_by r)))
    (c.or-2.ensures ∙ ap (option_or x.came) (c.then_some-2.ensures ∙ ap (λ b. then_some b c.args.number) c.asks_for-asks.ensures
    ∙ ap (then_some (asks_for t r)) n ∙ passing (asks_for t r) (1 + length history)))
    (ap (λ b. x.met || b) c.meets-meets.ensures)
    (ap (λ b. x.learned || b) c.tells.ensures)
    (c.or-3.ensures ∙ ap (option_or x.back) c.takes_back.ensures)
    (ap (λ b. x.cut || b) c.cuts.ensures)
    (c.or-4.ensures ∙ ap (option_or x.went) (c.then_some-3.ensures ∙ ap (λ b. then_some b c.args.number) c.takes_out-leaves.ensures
    ∙ ap (then_some (takes_out t r)) n ∙ passing (takes_out t r) (1 + length history)))
