-- Proof of `of_giver`, src/coming/answering.rt. The answers of a giver.
use Rattle.meet_explain.specs.Answers.{MayCome}
use Rattle.meet_explain.specs.declared.coming.attempts.Attempt.TheVariants.{Give}
use Rattle.meet_explain.proofs.Covering.{chosen_all, of_giver, giver_own, giver_all}
use Rattle.meet_explain.proofs.coming.answering.of_giver.Goals as goal

pub returns : goal.returns
returns c =
    let k = c.args.kind in
    let b = c.args.base.now in
    let i = c.args.seat in
    let t = c.args.ticket in
    let m = c.args.mark in
    let u = c.partner_of-taker.result.0 in
    chosen_all (MayCome k b i t) (Give m) (of_giver m u) c.in_ok-list.list.items (giver_own m u)
    (λ deed is may. giver_all k b i t m u (λ ticket item found. (c.partner_of-taker.ensures ticket item found).0) deed is may.allowed)
    c.in_ok-list.ensures
