-- Proof of `is_among`, src/erasing.rt. Whether a ticket is among these, which rise.
use Rattle.std.proofs.Common.{◌∙◌}
use Rattle.meet_laws.proofs.Looked.{is_found}
use Rattle.meet_laws.proofs.erasing.is_among.Goals as goal

pub returns : goal.returns
returns c = c.is_ok.ensures.value ∙ is_found c.args.tickets.now c.args.ticket c.binary_search.result c.binary_search.ensures.position c.requires.rising
