-- Proof of `Chronicle::erased`, src/tally.rt. The records that are left without those of tickets that were cut or taken
-- back, the interrupts, and the requests that were refused at their entry.
use Rattle.std.proofs.Common.{subst}
use Rattle.meet_tickets.specs.Bases.{IsLegalOn}
use Rattle.meet_laws.proofs.Erased.{is_erased}
use Rattle.meet_sync.proofs.closing.Chronicle.erased.Goals as goal

pub returns-clause-legal : goal.returns-clause-legal
returns-clause-legal g c = λ kind mark lists is none.
    is_erased kind c.args.self.now.records.items (subst (λ b. IsLegalOn kind b c.args.self.now.records.items) (is.chapter.first none) is.chapter.legal)
