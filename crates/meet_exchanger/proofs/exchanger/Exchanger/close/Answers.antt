-- Proof of `Exchanger::close`, src/exchanger.rt.
use Rattle.std.proofs.Common.{◌<◌, sym, subst}
use Rattle.meet_exchange.specs.Seats.{ArenaView}
use Rattle.meet_exchanger.proofs.exchanger.Exchanger.close.Goals as goal

pub returns-in-Ok-clause-each : goal.returns-in-Ok-clause-each
returns-in-Ok-clause-each g c = λ x l. c.in-Ok.ensures.each x (subst (λ (z : ArenaView). x < z.seats) (sym c.self.view_is) l)
