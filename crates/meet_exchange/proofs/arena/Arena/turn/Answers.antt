-- Proof of `Arena::turn`, src/waiting.rt. One turn, with so many left.
use Rattle.std.proofs.Common.{subst}
use Rattle.meet_exchange.specs.Waits.{IsGoing}
use Rattle.meet_exchange.proofs.arena.Arena.turn.Goals as goal

pub returns-in-Tries-clause-goes : goal.returns-in-Tries-clause-goes
returns-in-Tries-clause-goes g c = λ v a first limit going. c.try_slot.ensures.goes v a first limit (subst (IsGoing g.T.Marked.mark_of v a c.args.self.now.slots first limit c.args.more) c.in-Tries.is going)

pub returns-in-Waits-clause-goes : goal.returns-in-Waits-clause-goes
returns-in-Waits-clause-goes g c = λ v a first limit going. c.wait_on.ensures.goes v a first limit (subst (IsGoing g.T.Marked.mark_of v a c.args.self.now.slots first limit c.args.more) c.in-Waits.is going)

pub returns-in-Stays-clause-goes : goal.returns-in-Stays-clause-goes
returns-in-Stays-clause-goes g c = λ v a first limit going. c.stay.ensures.goes v a first limit (subst (IsGoing g.T.Marked.mark_of v a c.args.self.now.slots first limit c.args.more) c.in-Stays.is going)
