-- Proof of `Seated::entry_at`, src/seated.rt. The same, and the place of this seat is looked at first.
use Rattle.std.proofs.Common.{◌∙◌, sym, refl}
use Rattle.meet_line.proofs.Walking.{found_at}
use Rattle.meet_line.proofs.seated.Seated.entry_at.Goals as goal

pub node_at-requires : goal.node_at-requires
node_at-requires g c = (found_at c.args.self.now.entries c.args.ticket c.number-key.result (c.if-has.ensures.found refl)).at

pub returns-then-has : goal.returns-then-has
returns-then-has g c =
    let there = found_at c.args.self.now.entries c.args.ticket c.number-key.result (c.if-has.ensures.found refl) in
    c.node_at.ensures there.at.front there.at.entry there.at.rest there.at.all there.at.own ∙ sym there.found
