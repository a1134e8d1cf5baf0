-- Proof of `note`, src/judging.rt. What the next event of the call of this number leaves, if it has one.
use Rattle.std.proofs.Common.{◌≡◌, ◌∙◌, ap, sym, Some, length, refl, subst, arith}
use Rattle.std.specs.Prelude.{slice_get, max}
use Rattle.std.proofs.lemmas.Option.{slice_get_read}
use Rattle.meet_tickets.specs.BySeat.{put_at}
use Rattle.meet_overlap.specs.Calls.{Tells, IsWithin, stage_after}
use Rattle.meet_overlap.specs.Known.{AreLatest}
use Rattle.meet_overlap.specs.Places.{latest_at, stage_at, world_of}
use Rattle.meet_overlap.proofs.InTurn.{latest_turn, latest_noted}
use Rattle.meet_overlap.proofs.Windows.{moving_runs, running_within}
use Rattle.meet_overlap.specs.Search.{deed_of, ticket_of}
use Rattle.meet_overlap.proofs.Barren.{step_noted}
use Rattle.meet_overlap.proofs.judging.note.Goals.{then-reached-call, else-reached-call}
use Rattle.meet_overlap.proofs.judging.note.Goals as goal

pub returns-clause-noted : goal.returns-clause-noted
returns-clause-noted c =
    let k = c.args.kind in
    let calls = c.args.calls.now in
    let w = world_of c.args.reached.now in
    let n = c.args.number in
    let call = c.index-calls-number.result in
    let stage : c.stage-stage.result ≡ w.stages n = c.stage-stage.ensures in
    let known : slice_get calls n ≡ Some call = slice_get_read calls (length calls) n call refl c.requires.there c.index-calls-number.is in
    let made : deed_of k w.moment.seats call (w.stages n) ≡ Some c.in-Some.deed = ap (deed_of k w.moment.seats call) (sym stage) ∙ sym c.in-Some.ensures in
    let time : c.if-reached-call.time ≡ max w.time call.begin = elim c.if-reached-call.branch [ then-reached-call v ↦ omega arith | else-reached-call v ↦ omega arith ] in
    let tells : Tells call c.in-Some.deed = c.tells.ensures.0 c.if-not-tells.false in
    let within : IsWithin call c.if-reached-call.time c.in-Some.deed = c.is_within.ensures.0 c.if-not-is_within.false in
    let ticket : c.in-Some-next_ticket.ticket ≡ ticket_of w.moment call.verb (w.stages n) = c.in-Some-next_ticket.ensures ∙ ap (ticket_of w.moment call.verb) stage in
    let turn = latest_turn calls w.stages (latest_at c.args.latest.now.items) n call known c.requires.latest (rw c.as_slice.ensures.value at (c.is_latest.ensures c.if-not-is_latest.false)) in
    λ _. step_noted k calls w n call known c.in-Some.deed c.in-Some-next_ticket.ticket c.if-reached-call.time (world_of c.advance.new.reached) c.args.history.now.items c.push.new.self.items made ticket time tells within turn c.in_ok-advance.ensures c.in_ok-push.ensures.items

pub returns-clause-latest : goal.returns-clause-latest
returns-clause-latest c =
    let calls = c.args.calls.now in
    let w = world_of c.args.reached.now in
    let n = c.args.number in
    let call = c.index-calls-number.result in
    let known : slice_get calls n ≡ Some call = slice_get_read calls (length calls) n call refl c.requires.there c.index-calls-number.is in
    let noted = latest_noted calls w.stages (latest_at c.args.latest.now.items) n call known c.requires.latest (rw c.as_slice.ensures.value at (c.is_latest.ensures c.if-not-is_latest.false)) (stage_after (w.stages n) (record { seat = call.seat; ticket = c.in-Some-next_ticket.ticket; deed = c.in-Some.deed })) in
    λ _.
    subst (AreLatest calls (world_of c.advance.new.reached).stages) (sym c.in_ok-put_latest.ensures)
    (subst (λ f. AreLatest calls f (put_at (latest_at c.args.latest.now.items) call.seat n)) (sym (ap (λ x. x.stages) c.in_ok-advance.ensures)) noted)

pub advance-requires : goal.advance-requires
advance-requires c =
    let n = c.args.number in
    let window = c.args.reached.now.window in
    let stage : c.stage-stage.result ≡ stage_at window n = c.stage-stage.ensures in
    let made : deed_of c.args.kind (world_of c.args.reached.now).moment.seats c.index-calls-number.result (stage_at window n) ≡ Some c.in-Some.deed =
    ap (deed_of c.args.kind (world_of c.args.reached.now).moment.seats c.index-calls-number.result) (sym stage) ∙ sym c.in-Some.ensures in
    running_within window.first window.stages.items n (moving_runs c.args.kind (world_of c.args.reached.now).moment.seats c.index-calls-number.result (stage_at window n) c.in-Some.deed made)
