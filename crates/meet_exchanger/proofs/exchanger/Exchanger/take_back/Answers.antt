-- Proof of `Exchanger::take_back`, src/attempts.rt. Takes an offer back.
use Rattle.std.proofs.Common.{◌∙◌, subst}
use Rattle.meet_exchanger.specs.Tries.{TriesAs}
use Rattle.meet_exchanger.proofs.Trying.{back, late}
use Rattle.meet_exchanger.proofs.exchanger.Exchanger.take_back.Goals as goal

pub returns-in-Back-clause-tries : goal.returns-in-Back-clause-tries
returns-in-Back-clause-tries g c = λ v a h. (c.in-Back.ensures.0 ∙ h.0, back v a c.args.pending c.in-Back.seat h c.in-Back.ensures.1)

pub returns-in-Late-clause-tries : goal.returns-in-Late-clause-tries
returns-in-Late-clause-tries g c = λ v a h. let gone = c.in-Late.ensures in
    subst (λ k. TriesAs g.T.Marked.mark_of v k a c.stay.result) gone.0.0 (c.stay.ensures.tries v a (late v a c.args.pending c.in-Late.pending gone.1 h gone.0 gone.2 gone.3))
