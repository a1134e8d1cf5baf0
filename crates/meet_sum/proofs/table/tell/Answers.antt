-- Proof of `tell`, src/table.rt. Has one ticket hear the record of this number, if it is among these.
use Rattle.std.proofs.Common.{ap, ◌∙◌, ◌∷◌, ◌++◌, []}
use Rattle.std.specs.Prelude.{slice_set}
use Rattle.meet_sum.specs.Stories.{story_in}
use Rattle.meet_sum.proofs.TableLemmas.{absent-put, held-at, put-there}
use Rattle.meet_sum.proofs.table.tell.Goals as goal

pub returns-in-None-clause-told : goal.returns-in-None-clause-told
returns-in-None-clause-told c = λ f history are own number.
    are ∙ absent-put f c.args.tickets.now c.args.ticket c.number.result (story_in (history ++ c.args.entry.now ∷ []) c.args.ticket) c.number.ensures.value c.in-None.ensures

pub returns-in-Some-clause-told : goal.returns-in-Some-clause-told
returns-in-Some-clause-told c = λ f history are own number.
    let tickets = c.args.tickets.now in
    let stories = c.args.stories.now.items in
    let t = c.args.ticket in
    let n = c.number.result in
    let i = c.in-Some.place in
    let later = story_in (history ++ c.args.entry.now ∷ []) t in
    let held = held-at f tickets t n later c.number.ensures.value stories are i c.in-Some.ensures c.index-story.result.now in
    ap (λ x. slice_set stories i x) (c.hear.ensures history (c.index-story.ensures ∙ held ∙ own) number)
    ∙ put-there f tickets t n later c.number.ensures.value stories are i c.in-Some.ensures c.requires.rising
