-- Proof of `Exchanger::attempt`, src/attempts.rt. Offers an item in a slot, and waits there for a while.
use Rattle.std.proofs.Common.{refl, subst}
use Rattle.meet_exchanger.specs.Tries.{TriesAs}
use Rattle.meet_exchanger.proofs.Trying.{posted}
use Rattle.meet_exchanger.proofs.exchanger.Exchanger.attempt.Goals as goal

pub returns-in-Posted-clause-tries : goal.returns-in-Posted-clause-tries
returns-in-Posted-clause-tries g c = let a = g.T.Marked.mark_of c.args.item in let w = c.in-Posted.ensures.answer in
    subst (λ k. TriesAs g.T.Marked.mark_of c.args.seat k a c.settle.result) w.1.1.0
    (c.settle.ensures.tries c.args.seat a (posted c.args.seat a c.args.slot w.0 a c.in-Posted.pending w.1.0 w.1.1 refl w.1.2))
