-- Proof of `of_ending`, src/coming/answering.rt. The endings of a seat's open ticket.
use Rattle.meet_explain.specs.Answers.{MayCome}
use Rattle.meet_explain.specs.declared.coming.attempts.Attempt.TheVariants.{End}
use Rattle.meet_explain.proofs.Covering.{chosen_all, of_ending, ending_own, ending_all}
use Rattle.meet_explain.proofs.coming.answering.of_ending.Goals as goal

pub returns : goal.returns
returns c =
    let k = c.args.kind in
    let b = c.args.base.now in
    let i = c.args.seat in
    let t = c.args.ticket in
    let u = c.giver_of-giver.result.0 in
    let m = c.giver_of-giver.result.1 in
    chosen_all (MayCome k b i t) End (of_ending u m) c.in_ok-list.list.items (ending_own u m)
    (λ deed is may. ending_all k b i t u m c.giver_of-giver.ensures deed is may.allowed)
    c.in_ok-list.ensures
