-- Proof of `requested`, src/openings.rt. The tickets that a base and the records since name as requested, each once and
-- rising.
use Rattle.meet_sum.proofs.Requests.{requested-of}
use Rattle.meet_sum.proofs.openings.requested.Goals as goal

pub returns : goal.returns
returns c =
    requested-of c.args.base.now c.args.records.now c.in_ok-tickets.tickets.items c.sort_unstable.new.self.items c.dedup.new.self.items
    c.in_ok-tickets.ensures c.sort_unstable.ensures.permutation c.sort_unstable.ensures.sorted c.dedup.ensures.filtered
