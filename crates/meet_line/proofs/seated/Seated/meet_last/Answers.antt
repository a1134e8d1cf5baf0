-- Proof of `Seated::meet_last`, src/seated.rt. The last node leaves, if there is one.
use Rattle.std.proofs.Common.{◌+◌, ◌∙◌, ap, sym, subst, length, option_to_list}
use Rattle.meet_line.specs.Seated.{IsLastSeat}
use Rattle.meet_line.proofs.Walking.{met-last}
use Rattle.meet_line.proofs.seated.Seated.meet_last.Goals as goal

pub take_out-requires : goal.take_out-requires
take_out-requires g c = (subst (IsLastSeat c.args.self.now.entries) c.in_ok-key.was c.last_seat.ensures).0

pub returns-clause-entry : goal.returns-clause-entry
returns-clause-entry g c =
    let last = subst (IsLastSeat c.args.self.now.entries) c.in_ok-key.was c.last_seat.ensures in
    let at = last.0 in
    (c.take_out.ensures.entries at.front at.entry at.rest at.all at.own).0 ∙ sym (met-last c.args.self.now.entries at.front at.entry at.rest at.all last.1).0

pub returns-clause-entries : goal.returns-clause-entries
returns-clause-entries g c =
    let last = subst (IsLastSeat c.args.self.now.entries) c.in_ok-key.was c.last_seat.ensures in
    let at = last.0 in
    (c.take_out.ensures.entries at.front at.entry at.rest at.all at.own).1 ∙ sym (met-last c.args.self.now.entries at.front at.entry at.rest at.all last.1).1

pub returns-clause-count : goal.returns-clause-count
returns-clause-count g c =
    let at = (subst (IsLastSeat c.args.self.now.entries) c.in_ok-key.was c.last_seat.ensures).0 in
    ap (λ o. length c.take_out.new.self.entries + length (option_to_list o)) (c.take_out.ensures.entries at.front at.entry at.rest at.all at.own).0 ∙ c.take_out.ensures.count
