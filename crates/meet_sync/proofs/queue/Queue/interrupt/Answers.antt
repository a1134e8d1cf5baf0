-- Proof of `Queue::interrupt`, src/requests.rt. `Thread.interrupt` of a target.
use Rattle.std.proofs.Common.{◌≡◌, None, ap, ◌∙◌, rules, arith}
use Rattle.meet_core.specs.QueueSteps.{item_in}
use Rattle.meet_place.proofs.Later.{later_equal}
use Rattle.meet_sync.proofs.Reasons.{interrupt_why}
use Rattle.meet_sync.proofs.queue.Queue.interrupt.Goals as goal

pub returns-in-Err-clause-refused : goal.returns-in-Err-clause-refused
returns-in-Err-clause-refused g c =
    let r = c.reserve.ensures in
    let same = c.refused_with.ensures.seat ∙ c.in-Err.ensures.same in
    let item : c.refused_with.result.item ≡ None = search (rules, arith) in
    let told = c.in-Err.ensures.why in
    let why = interrupt_why told.0 told.1 g.N.Ledger.parts c.reserve.new.self.number c.args.target c.in-Err.refused.why told.2 told.3 told.4 in (
      (
        ap (λ s. s.number) same ∙ r.number,
        ap (λ s. s.past) same ∙ r.past,
        later_equal c.args.seat.moment c.refused_with.result.seat.moment c.args.seat.list c.refused_with.result.seat.list
            (ap (λ s. s.moment) same ∙ r.moment) (ap (λ s. s.list) same ∙ r.list),
      ),
      ap (λ s. s.list) same ∙ r.list,
      item,
      rw c.refused_with.ensures.why why,
    )
