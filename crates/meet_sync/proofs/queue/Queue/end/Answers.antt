-- Proof of `Queue::end`, src/queue.rt.
use Rattle.std.proofs.Common.{◌≡◌, sym, ap, ◌∙◌, subst, Some, None}
use Rattle.meet_core.specs.Awaits.{AwaitsAs}
use Rattle.meet_core.specs.Queue.{seats_of}
use Rattle.meet_core.specs.QueueSteps.{queue_need, queue_refusal}
use Rattle.meet_sync.proofs.Awaited.{no_need, not_refused}
use Rattle.meet_sync.proofs.queue.Queue.end.Goals as goal

-- the queue that was looked at is the one whose step it is, and it refuses no ending of a ticket that its seat awaits
pub unreachable-requires : goal.unreachable-requires
unreachable-requires g c =
    let laws = g.met.O.QueuePlace in
    let mark = g.O.Item.Marked.mark_of in
    let place = c.probe.result.now in
    let q = g.O.QueuePlace.queue_of place in
    let n = c.args.seat.now.number in
    let t = c.args.awaited.0 in
    let same = ap (λ s. s.object) (c.deref_mut.ensures.value ∙ sym c.deref.ensures) ∙ sym c.probe.ensures.object in
    let awaits = subst (λ m. AwaitsAs mark (seats_of q) m t c.args.awaited.1) c.number.ensures.number
    (c.awaits.ensures.0 c.if-not-awaits.false) in
    let need = laws.is_need c.of.result ∙ ap queue_need c.of.ensures ∙ no_need _ c.args.ending t in
    let none = laws.is_refusal place n c.of.result ∙ ap (queue_refusal q n) c.of.ensures
    ∙ not_refused mark q n t c.args.awaited.1 awaits c.args.ending in
    let is : Some c.in-Err.field-0.why ≡ None = sym (c.in-Err.ensures.why.1 need)
    ∙ ap (λ o. g.O.Object.refusal_of o n c.of.result) same ∙ none in
    cc
