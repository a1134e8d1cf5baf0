-- Proof of `place_of`, src/table.rt. Where a ticket stands among these, if it does.
use Rattle.meet_sum.proofs.TableLemmas.{search-found, search-none}
use Rattle.meet_sum.proofs.table.place_of.Goals as goal

pub returns-in-Ok : goal.returns-in-Ok
returns-in-Ok c = search-found c.args.tickets.now c.args.ticket c.in-Ok.place c.requires c.in-Ok.ensures.position

pub returns-in-Err : goal.returns-in-Err
returns-in-Err c = search-none c.args.tickets.now c.args.ticket c.in-Err.field-0 c.requires c.in-Err.ensures.position
