-- Proof of `Seated::entry`, src/seated.rt. The node of this ticket, if it is there.
use Rattle.std.proofs.Common.{◌∙◌, ap, sym, option_map}
use Rattle.meet_line.proofs.Walking.{found_at, found-none}
use Rattle.meet_line.proofs.seated.Seated.entry.Goals as goal

pub node_at-requires : goal.node_at-requires
node_at-requires g c = (found_at c.args.self.now.entries c.args.ticket c.in_ok-key.key (sym c.find.ensures ∙ c.in_ok-key.was)).at

pub returns-in_err-key : goal.returns-in_err-key
returns-in_err-key g c =
    ap (option_map (λ e. e.now)) c.from_residual.ensures ∙ sym (found-none c.args.self.now.entries c.args.ticket (sym c.in_err-key.was ∙ c.find.ensures))

pub returns : goal.returns
returns g c =
    let there = found_at c.args.self.now.entries c.args.ticket c.in_ok-key.key (sym c.find.ensures ∙ c.in_ok-key.was) in
    c.node_at.ensures there.at.front there.at.entry there.at.rest there.at.all there.at.own ∙ sym there.found
