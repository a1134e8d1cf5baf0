-- Proof of `hear`, src/fates.rt. What is told of a ticket once this record is heard too.
use Rattle.std.proofs.Common.{◌∙◌, ◌==◌, ◌&&◌, ◌||◌, ap}
use Rattle.std.specs.Bool.{then_some}
use Rattle.std.specs.Option.{option_or}
use Rattle.meet_tickets.specs.BySeat.{is_request}
use Rattle.meet_tickets.specs.Fates.{tells_of_meeting, meets_it}
use Rattle.meet_tickets.proofs.Told.Said.{passing}
use Rattle.meet_laws.proofs.Heard.{told_more}
use Rattle.meet_laws.proofs.fates.hear.Goals as goal

pub returns : goal.returns
returns c =
    let r = c.args.entry in
    let t = c.args.ticket in
    let x = c.args.told in
    λ history e. told_more history r t x e _ _ _ _ _
    (c.or.ensures ∙ ap (option_or x.asked) (c.then_some.ensures
    ∙ ap (λ b. then_some b r.deed) (ap (λ b. b && c.is_of-own.result) c.is_request.ensures ∙ ap (λ b. is_request r.deed && b) c.is_of-own.ensures)
    ∙ passing (is_request r.deed && (r.ticket == t)) r.deed))
    (c.or-2.ensures ∙ ap (option_or x.met) (c.then_some-2.ensures ∙ ap (λ b. then_some b r.ticket) c.meets-meets.ensures ∙ passing (meets_it t r) r.ticket))
    (ap (λ b. x.learned || (b && c.is_of-own.result)) c.tells_of_meeting.ensures ∙ ap (λ b. x.learned || (tells_of_meeting r.deed && b)) c.is_of-own.ensures)
    (c.or-3.ensures ∙ ap (option_or x.back) c.takes_back.ensures)
    (ap (λ b. x.cut || b) c.cuts.ensures)
