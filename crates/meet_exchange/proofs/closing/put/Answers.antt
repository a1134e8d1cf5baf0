-- Proof of `put`, src/closing.rt. Puts a list at its seat's number.
use Rattle.std.proofs.lemmas.List.{map-set}
use Rattle.meet_exchange.proofs.closing.put.Goals as goal

pub returns-then-number-len-clause-lists : goal.returns-then-number-len-clause-lists
returns-then-number-len-clause-lists c = map-set (λ l. l.items) c.args.lists.now.items c.args.number c.args.list
