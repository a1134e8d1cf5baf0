-- Proof of `Exchanger::settle`, src/attempts.rt. Waits for the answer to an offer, and takes the offer back when it is
-- to be.
use Rattle.std.proofs.Common.{◌∙◌, subst}
use Rattle.meet_exchanger.specs.Tries.{TriesAs, HasMet}
use Rattle.meet_exchanger.proofs.Trying.{still, got}
use Rattle.meet_exchanger.proofs.exchanger.Exchanger.settle.Goals as goal

pub returns-in-Got-clause-tries : goal.returns-in-Got-clause-tries
returns-in-Got-clause-tries g c = λ v a h. let b = g.T.Marked.mark_of c.in-Got.other in
    subst (λ k. HasMet v k a b c.in-Got.seat) c.loop.invariant.slot (got v a c.loop.pending c.in-Got.seat b (c.loop.invariant.posted v a h) c.in-Got.ensures)

pub loop-preserved : goal.loop-preserved
loop-preserved g c = let yet = c.in-NotYet.ensures in record {
  place = yet.3.arena ∙ c.loop.invariant.place;
  slot = yet.0.0 ∙ c.loop.invariant.slot;
  posted = λ v a h. still v a c.loop.pending c.in-NotYet.again yet.1 (c.loop.invariant.posted v a h) yet.0 yet.2 yet.3;
}

pub returns-in-IsToMove-clause-tries : goal.returns-in-IsToMove-clause-tries
returns-in-IsToMove-clause-tries g c = λ v a h. subst (λ k. TriesAs g.T.Marked.mark_of v k a c.take_back.result) c.loop.invariant.slot (c.take_back.ensures.tries v a (c.loop.invariant.posted v a h))

pub returns-in-TimeIsUp-clause-tries : goal.returns-in-TimeIsUp-clause-tries
returns-in-TimeIsUp-clause-tries g c = λ v a h. subst (λ k. TriesAs g.T.Marked.mark_of v k a c.take_back-in-TimeIsUp.result) c.loop.invariant.slot
    (c.take_back-in-TimeIsUp.ensures.tries v a (c.loop.invariant.posted v a h))
