-- Proof of `Seated::remove`, src/seated.rt. The node of this ticket leaves, if it is there.
use Rattle.std.proofs.Common.{◌+◌, ◌∙◌, ◌==◌, ap, sym, length, option_to_list}
use Rattle.meet_line.proofs.Removed.{without_first-none}
use Rattle.meet_line.proofs.Walking.{found_at, found-none}
use Rattle.meet_line.proofs.seated.Seated.remove.Goals as goal

pub returns-in_err-key-clause-entry : goal.returns-in_err-key-clause-entry
returns-in_err-key-clause-entry g c =
    c.from_residual.ensures ∙ sym (found-none c.args.self.now.entries c.args.ticket (sym c.in_err-key.was ∙ c.find.ensures))

pub returns-in_err-key-clause-entries : goal.returns-in_err-key-clause-entries
returns-in_err-key-clause-entries g c =
    sym (without_first-none (λ e. e.ticket == c.args.ticket) c.args.self.now.entries (found-none c.args.self.now.entries c.args.ticket (sym c.in_err-key.was ∙ c.find.ensures)))

pub take_out-requires : goal.take_out-requires
take_out-requires g c = (found_at c.args.self.now.entries c.args.ticket c.in_ok-key.key (sym c.find.ensures ∙ c.in_ok-key.was)).at

pub returns-clause-entry : goal.returns-clause-entry
returns-clause-entry g c =
    let there = found_at c.args.self.now.entries c.args.ticket c.in_ok-key.key (sym c.find.ensures ∙ c.in_ok-key.was) in
    let at = there.at in
    (c.take_out.ensures.entries at.front at.entry at.rest at.all at.own).0 ∙ sym there.found

pub returns-clause-entries : goal.returns-clause-entries
returns-clause-entries g c =
    let there = found_at c.args.self.now.entries c.args.ticket c.in_ok-key.key (sym c.find.ensures ∙ c.in_ok-key.was) in
    let at = there.at in
    (c.take_out.ensures.entries at.front at.entry at.rest at.all at.own).1 ∙ sym there.gone

pub returns-clause-count : goal.returns-clause-count
returns-clause-count g c =
    let at = (found_at c.args.self.now.entries c.args.ticket c.in_ok-key.key (sym c.find.ensures ∙ c.in_ok-key.was)).at in
    ap (λ o. length c.take_out.new.self.entries + length (option_to_list o)) (c.take_out.ensures.entries at.front at.entry at.rest at.all at.own).0 ∙ c.take_out.ensures.count
