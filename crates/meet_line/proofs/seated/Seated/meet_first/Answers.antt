-- Proof of `Seated::meet_first`, src/seated.rt. The first node leaves, if there is one.
use Rattle.std.proofs.Common.{◌+◌, ◌∙◌, ap, sym, [], length, option_to_list}
use Rattle.meet_line.proofs.Walking.{first-sits, sits-first, met-first}
use Rattle.meet_line.proofs.seated.Seated.meet_first.Goals as goal

pub take_out-requires : goal.take_out-requires
take_out-requires g c = sits-first c.args.self.now.entries c.in_ok-key.key (sym c.in_ok-key.was ∙ c.first_seat.ensures)

pub returns-clause-entry : goal.returns-clause-entry
returns-clause-entry g c =
    let at = first-sits c.args.self.now.entries c.in_ok-key.key (sym c.in_ok-key.was ∙ c.first_seat.ensures) in
    (c.take_out.ensures.entries [] at.0 at.1 at.2 at.3).0 ∙ sym (met-first c.args.self.now.entries at.0 at.1 at.2).0

pub returns-clause-entries : goal.returns-clause-entries
returns-clause-entries g c =
    let at = first-sits c.args.self.now.entries c.in_ok-key.key (sym c.in_ok-key.was ∙ c.first_seat.ensures) in
    (c.take_out.ensures.entries [] at.0 at.1 at.2 at.3).1 ∙ sym (met-first c.args.self.now.entries at.0 at.1 at.2).1

pub returns-clause-count : goal.returns-clause-count
returns-clause-count g c =
    let at = first-sits c.args.self.now.entries c.in_ok-key.key (sym c.in_ok-key.was ∙ c.first_seat.ensures) in
    ap (λ o. length c.take_out.new.self.entries + length (option_to_list o)) (c.take_out.ensures.entries [] at.0 at.1 at.2 at.3).0 ∙ c.take_out.ensures.count
