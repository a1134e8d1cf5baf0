-- Proof of `TransferLine::len`, src/transfer_line.rt. Returns how many nodes there are.
use Rattle.std.proofs.Common.{◌≡◌, ap, length, arith}
use Rattle.meet_line.specs.Merged.{merged}
use Rattle.meet_line.proofs.Merging.{merged-length}
use Rattle.meet_line.proofs.transfer_line.TransferLineLine.len.Goals as goal

pub returns-clause-count : goal.returns-clause-count
returns-clause-count g c =
    let shown : length (merged c.self.inside.seats.entries c.self.inside.ring.entries) ≡ length (merged c.args.self.now.waiting c.args.self.now.buffered) = ap (λ v. length (merged v.waiting v.buffered)) c.self.view_is in
    omega (arith, merged-length c.self.inside.seats.entries c.self.inside.ring.entries, shown, c.len.ensures.count, c.len-2.ensures.count)
