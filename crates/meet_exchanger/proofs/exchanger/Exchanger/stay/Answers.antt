-- Proof of `Exchanger::stay`, src/attempts.rt. Waits for the answer of a seat that has taken the item.
use Rattle.std.proofs.Common.{◌∙◌, subst}
use Rattle.meet_exchanger.specs.Tries.{HasMet}
use Rattle.meet_exchanger.proofs.Trying.{lost_still, lost_got}
use Rattle.meet_exchanger.proofs.exchanger.Exchanger.stay.Goals as goal

pub returns-in-Got-clause-tries : goal.returns-in-Got-clause-tries
returns-in-Got-clause-tries g c = λ v a h. let b = g.T.Marked.mark_of c.in-Got.other in
    subst (λ k. HasMet v k a b c.in-Got.seat) c.loop.invariant.slot (lost_got v a c.loop.pending c.in-Got.seat b (c.loop.invariant.lost v a h) c.in-Got.ensures)

pub loop-preserved : goal.loop-preserved
loop-preserved g c = let yet = c.in-NotYet.ensures in record {
  place = yet.3.arena ∙ c.loop.invariant.place;
  slot = yet.0.0 ∙ c.loop.invariant.slot;
  lost = λ v a h. lost_still v a c.loop.pending c.in-NotYet.again yet.1 (c.loop.invariant.lost v a h) yet.0 yet.2 yet.3;
}
