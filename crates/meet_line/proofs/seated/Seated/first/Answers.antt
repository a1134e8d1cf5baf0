-- Proof of `Seated::first`, src/seated.rt. The node that came first, if anybody is there.
use Rattle.std.proofs.Common.{◌∙◌, sym, []}
use Rattle.meet_line.proofs.Walking.{first-sits, sits-first, item-first}
use Rattle.meet_line.proofs.seated.Seated.first.Goals as goal

pub node_at-requires : goal.node_at-requires
node_at-requires g c = sits-first c.args.self.now.entries c.in_ok-key.key (sym c.in_ok-key.was ∙ c.first_seat.ensures)

pub returns : goal.returns
returns g c =
    let at = first-sits c.args.self.now.entries c.in_ok-key.key (sym c.in_ok-key.was ∙ c.first_seat.ensures) in
    item-first c.args.self.now.entries c.node_at.result at.0 at.1 at.2 (c.node_at.ensures [] at.0 at.1 at.2 at.3)
