-- Proof of `of_taker`, src/coming/answering.rt. The answers of a taker.
use Rattle.meet_explain.specs.Answers.{MayCome}
use Rattle.meet_explain.specs.declared.coming.attempts.Attempt.TheVariants.{Take}
use Rattle.meet_explain.proofs.Covering.{chosen_all, of_taker, taker_own, taker_all}
use Rattle.meet_explain.proofs.coming.answering.of_taker.Goals as goal

pub returns : goal.returns
returns c =
    let k = c.args.kind in
    let b = c.args.base.now in
    let i = c.args.seat in
    let t = c.args.ticket in
    let u = c.partner_of-giver.result.0 in
    let m = c.partner_of-giver.result.1 in
    chosen_all (MayCome k b i t) Take (of_taker u m) c.in_ok-list.list.items (taker_own u m)
    (λ deed is may. taker_all k b i t u m c.partner_of-giver.ensures deed is may.allowed)
    c.in_ok-list.ensures
