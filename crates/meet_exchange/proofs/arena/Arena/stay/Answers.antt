-- Proof of `Arena::stay`, src/waiting.rt. Looks for the answer of a seat that has taken the item.
use Rattle.std.proofs.Common.{inr}
use Rattle.meet_exchange.proofs.Tries.{stayed_got, stayed_still}
use Rattle.meet_exchange.proofs.arena.Arena.stay.Goals as goal

pub returns-in-Got-clause-goes : goal.returns-in-Got-clause-goes
returns-in-Got-clause-goes g c = λ v a first limit t. let got = c.in-Got.ensures in
    inr (stayed_got v a c.args.self.now.slots first limit c.args.pending c.in-Got.seat (g.T.Marked.mark_of c.in-Got.other) got.0 t got.1 got.2)

pub returns-in-NotYet-clause-goes : goal.returns-in-NotYet-clause-goes
returns-in-NotYet-clause-goes g c = λ v a first limit t. let yet = c.in-NotYet.ensures in stayed_still v a c.args.self.now.slots first limit c.args.pending c.in-NotYet.pending yet.1 t yet.0 yet.2 yet.3
