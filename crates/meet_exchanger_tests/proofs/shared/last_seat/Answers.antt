-- Proof of `last_seat`, src/shared.rt. Takes the last of an exchanger's new seats out.
use Rattle.std.proofs.Common.{subst}
use Rattle.meet_exchange.specs.Seats.{AreNew}
use Rattle.meet_exchange.proofs.Deals.{new_last}
use Rattle.meet_exchanger_tests.proofs.shared.last_seat.Goals as goal

pub returns-clause-seat : goal.returns-clause-seat
returns-clause-seat g c = (new_last _ 0 _ _ (subst (AreNew c.args.exchanger.now.id 0) c.in-Some.ensures.items c.requires)).1

pub returns-clause-rest : goal.returns-clause-rest
returns-clause-rest g c = (new_last _ 0 _ _ (subst (AreNew c.args.exchanger.now.id 0) c.in-Some.ensures.items c.requires)).0
