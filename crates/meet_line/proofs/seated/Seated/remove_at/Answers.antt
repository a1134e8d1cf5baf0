-- Proof of `Seated::remove_at`, src/seated.rt. The same, and the place of this seat is looked at first.
use Rattle.std.proofs.Common.{◌+◌, ◌∙◌, ap, sym, refl, length, option_to_list}
use Rattle.meet_line.proofs.Walking.{found_at}
use Rattle.meet_line.proofs.seated.Seated.remove_at.Goals as goal

pub take_out-requires : goal.take_out-requires
take_out-requires g c = (found_at c.args.self.now.entries c.args.ticket c.number-key.result (c.if-has.ensures.found refl)).at

pub returns-then-has-clause-entry : goal.returns-then-has-clause-entry
returns-then-has-clause-entry g c =
    let there = found_at c.args.self.now.entries c.args.ticket c.number-key.result (c.if-has.ensures.found refl) in
    let at = there.at in
    (c.take_out.ensures.entries at.front at.entry at.rest at.all at.own).0 ∙ sym there.found

pub returns-then-has-clause-entries : goal.returns-then-has-clause-entries
returns-then-has-clause-entries g c =
    let there = found_at c.args.self.now.entries c.args.ticket c.number-key.result (c.if-has.ensures.found refl) in
    let at = there.at in
    (c.take_out.ensures.entries at.front at.entry at.rest at.all at.own).1 ∙ sym there.gone

pub returns-then-has-clause-count : goal.returns-then-has-clause-count
returns-then-has-clause-count g c =
    let at = (found_at c.args.self.now.entries c.args.ticket c.number-key.result (c.if-has.ensures.found refl)).at in
    ap (λ o. length c.take_out.new.self.entries + length (option_to_list o)) (c.take_out.ensures.entries at.front at.entry at.rest at.all at.own).0 ∙ c.take_out.ensures.count
