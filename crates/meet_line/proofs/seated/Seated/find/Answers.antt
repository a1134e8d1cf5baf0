-- Proof of `Seated::find`, src/seated.rt. The seat of the node of this ticket, if it is there: by a walk from the first node on.
use Rattle.std.proofs.Common.{◌≡◌, ◌==◌, ◌∙◌, ap, sym, refl, subst, None, false, find}
use Rattle.meet_line.proofs.Walking.{Walked, walked-none, walked-sits, walked-more, find-behind}
use Rattle.meet_line.proofs.seated.Seated.find.Goals as goal

pub loop-step-init : goal.loop-step-init
loop-step-init g c = (walked-none c.args.self.now.entries _ c.first_seat-at.ensures, refl)

pub loop-step-preserved : goal.loop-step-preserved
loop-step-preserved g c =
    let line = c.args.self.now.entries in
    let t = c.args.ticket in
    let step = c.loop-step._step in
    let walked = subst (λ o. (w : Walked line o step) × (find (λ e. e.ticket == t) w.done ≡ None)) c.in-Some.is c.loop-step.invariant in
    let at = walked-sits line c.in-Some.key step walked.0 in
    let on = walked-more line c.in-Some.key step c.seat_after-at.result walked.0 c.seat_after-at.ensures in
    let other : at.entry.ticket == t ≡ false = sym (c.if-has.ensures.own at.front at.entry at.rest at.all at.own) in
    (on.0, ap (find (λ e. e.ticket == t)) on.1 ∙ find-behind t walked.0.done at.entry walked.1 other)
