-- Proof of `play`, src/moving.rt. What the next event of the call of this number leaves, if it has one.
use Rattle.std.proofs.Common.{◌≡◌, ◌∙◌, ap, sym, Some, length, refl, arith}
use Rattle.std.specs.Prelude.{slice_get, max}
use Rattle.std.proofs.lemmas.Option.{slice_get_read}
use Rattle.meet_overlap.specs.Calls.{Tells, IsWithin}
use Rattle.meet_overlap.specs.Places.{stage_at, world_of}
use Rattle.meet_overlap.proofs.Windows.{moving_runs, running_within}
use Rattle.meet_overlap.specs.Search.{deed_of}
use Rattle.meet_overlap.specs.Plays.{play_ticket}
use Rattle.meet_overlap.proofs.PlaySteps.{play_leads, none_turns}
use Rattle.meet_overlap.proofs.moving.play.Goals.{then-reached-call, else-reached-call}
use Rattle.meet_overlap.proofs.moving.play.Goals as goal

pub returns : goal.returns
returns c =
    let k = c.args.kind in
    let calls = c.args.calls.now in
    let w = world_of c.args.reached.now in
    let n = c.args.number in
    let call = c.index-calls-number.result in
    let stage : c.stage-stage.result ≡ w.stages n = c.stage-stage.ensures in
    let known : slice_get calls n ≡ Some call = slice_get_read calls (length calls) n call refl c.requires c.index-calls-number.is in
    let made : deed_of k w.moment.seats call (w.stages n) ≡ Some c.in-Some.deed = ap (deed_of k w.moment.seats call) (sym stage) ∙ sym c.in-Some.ensures in
    let time : c.if-reached-call.time ≡ max w.time call.begin = elim c.if-reached-call.branch [ then-reached-call v ↦ omega arith | else-reached-call v ↦ omega arith ] in
    let tells : Tells call c.in-Some.deed = c.tells.ensures.0 c.if-not-tells.false in
    let within : IsWithin call c.if-reached-call.time c.in-Some.deed = c.is_within.ensures.0 c.if-not-is_within.false in
    let ticket : c.in-Some-ticket.ticket ≡ play_ticket w.moment.seats n call.verb (w.stages n) = c.in-Some-ticket.ensures ∙ ap (play_ticket w.moment.seats n call.verb) stage in
    let turn = c.is_in_turn.ensures.0 c.if-not-is_in_turn.false in
    play_leads k calls w n call known c.in-Some.deed c.in-Some-ticket.ticket c.if-reached-call.time (world_of c.in_ok-then.then) made ticket time tells within turn c.in_ok-then.ensures

pub after-requires : goal.after-requires
after-requires c =
    let n = c.args.number in
    let window = c.args.reached.now.window in
    let stage : c.stage-stage.result ≡ stage_at window n = c.stage-stage.ensures in
    let made : deed_of c.args.kind (world_of c.args.reached.now).moment.seats c.index-calls-number.result (stage_at window n) ≡ Some c.in-Some.deed =
    ap (deed_of c.args.kind (world_of c.args.reached.now).moment.seats c.index-calls-number.result) (sym stage) ∙ sym c.in-Some.ensures in
    running_within window.first window.stages.items n (moving_runs c.args.kind (world_of c.args.reached.now).moment.seats c.index-calls-number.result (stage_at window n) c.in-Some.deed made)

pub returns-then-not-is_in_turn : goal.returns-then-not-is_in_turn
returns-then-not-is_in_turn c =
    let calls = c.args.calls.now in
    let w = world_of c.args.reached.now in
    let n = c.args.number in
    let call = c.index-calls-number.result in
    let known : slice_get calls n ≡ Some call = slice_get_read calls (length calls) n call refl c.requires c.index-calls-number.is in
    λ e at s. none_turns c.args.kind calls w n call known (λ turn. let is = c.is_in_turn.ensures.1 turn in let not = c.if-not-is_in_turn.true in absurd (cc)) e at s
