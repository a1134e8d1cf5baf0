-- Proof of `Stepper::make`, src/one_thread/stepper.rt. Makes a call of the queue; an ending is of the seat's open
-- ticket.
use Rattle.std.proofs.Common.{◌∙◌, ◌≡◌, ◌+◌, ◌<◌, sym, ap, subst, length, false, true, Option, None, Some, arith}
use Rattle.std.specs.Prelude.{nat_lt}
use Rattle.std.proofs.lemmas.Result.{IfErr-weaker}
use Rattle.meet_tickets.specs.declared.records.Deed.{Deed}
use Rattle.meet_book.specs.Received.{Received}
use Rattle.meet_core.specs.QueueSteps.{QueueStep, queue_need, queue_owed, queue_refusal}
use Rattle.meet_core.specs.SeatCounts.{queue-count}
use Rattle.meet_history.proofs.Calling.{refusal_at-is, admitted-at, place-admits, refused-needs, refused-so, memory-alone, most-needed, has-reply}
use Rattle.meet_history.proofs.Telling.{takes-refused, takes-made, told-refused}
use Rattle.meet_history.proofs.one_thread.stepper.Stepper.make.Goals.{in-Some, in-None}
use Rattle.meet_history.proofs.one_thread.stepper.Stepper.make.Goals as goal

pub returns-in-Err-clause-turn : goal.returns-in-Err-clause-turn
returns-in-Err-clause-turn c =
    let book = c.self.inside.book in
    let setup = c.self.inside.setup in
    let call = c.args.call in
    let why = c.in-Err.refused.why in
    let own : queue_need call ≡ 0 → queue_refusal book.object.queue c.args.seat call ≡ None = λ none. ap (λ s. queue_refusal s.queue c.args.seat call) c.self.view_is ∙ c.requires.opened none in
    let needs : 0 < queue_need call = refused-needs (queue_need call) _ own c.in-Err.ensures.ending in
    let same = c.in-Err.ensures.unchanged in
    rw (← c.self.view_is) (told-refused c.refused_unless_memory.result _ _ _ c.refused_unless_memory.ensures.reply c.refused_unless_memory.ensures.other
    (λ other. takes-refused setup book.object.queue c.step.new.self.object.queue book.base c.step.new.self.base c.self.inside.cut book.records c.step.new.self.records book.room c.step.new.self.room c.args.seat call why (λ i. (same i).object.queue) (λ i. (same i).base) (λ i. (same i).records)
    (sym (refusal_at-is setup book.object.queue book.base.gone c.self.inside.cut book.cap (length book.records) c.args.seat call c.self.invariant.2 c.self.invariant.1 needs) ∙ refused-so _ why c.in-Err.ensures.why other)))

pub returns-in-Err-clause-memory : goal.returns-in-Err-clause-memory
returns-in-Err-clause-memory c =
    let book = c.self.inside.book in
    let setup = c.self.inside.setup in
    let call = c.args.call in
    let why = c.in-Err.refused.why in
    let own : queue_need call ≡ 0 → queue_refusal book.object.queue c.args.seat call ≡ None = λ none. ap (λ s. queue_refusal s.queue c.args.seat call) c.self.view_is ∙ c.requires.opened none in
    let needs : 0 < queue_need call = refused-needs (queue_need call) _ own c.in-Err.ensures.ending in
    let same = c.in-Err.ensures.unchanged in
    rw (← c.self.view_is) (IfErr-weaker c.refused_unless_memory.result _ _ (λ given is. record {
      memory = is.0;
      alone = sym (refusal_at-is setup book.object.queue book.base.gone c.self.inside.cut book.cap (length book.records) c.args.seat call c.self.invariant.2 c.self.invariant.1 needs)
          ∙ memory-alone book.object.queue c.args.seat call (nat_lt book.cap (length book.records + queue_owed book.object.queue + queue_need call)) why needs c.in-Err.ensures.why is.1;
      unchanged = λ i. record { setup = setup; queue = (same i).object.queue; base = (same i).base; cut = c.self.inside.cut; records = (same i).records; room = c.step.new.self.room };
    }) c.refused_unless_memory.ensures.memory)

pub returns-in-Err-clause-enough : goal.returns-in-Err-clause-enough
returns-in-Err-clause-enough c =
    let book = c.self.inside.book in
    let call = c.args.call in
    let why = c.in-Err.refused.why in
    let own : queue_need call ≡ 0 → queue_refusal book.object.queue c.args.seat call ≡ None = λ none. ap (λ s. queue_refusal s.queue c.args.seat call) c.self.view_is ∙ c.requires.opened none in
    let needs : 0 < queue_need call = refused-needs (queue_need call) _ own c.in-Err.ensures.ending in
    let most = most-needed call in
    rw (← c.self.view_is) (λ room. has-reply c.refused_unless_memory.result why c.refused_unless_memory.ensures.memory
    (λ is. (let no : false ≡ true = c.in-Err.ensures.enough (omega (arith, room.records, most.0)) (omega (arith, room.line, most.1))
    (memory-alone book.object.queue c.args.seat call (nat_lt book.cap (length book.records + queue_owed book.object.queue + queue_need call)) why needs c.in-Err.ensures.why is) in cc)))

pub invariant_of-self-2 : goal.invariant_of-self-2
invariant_of-self-2 c =
    let count = queue-count (λ m. m) c.self.inside.book.object.kind c.self.inside.book.object.queue c.args.seat c.args.call c.in-Ok.made.0 c.step.new.self.object.queue c.in-Ok.ensures.step.1 in
    (c.in-Ok.ensures.step.0 ∙ c.self.invariant.0, count ∙ c.self.invariant.1, c.step.ensures.cap ∙ c.self.invariant.2)

pub returns-clause-turn : goal.returns-clause-turn
returns-clause-turn c =
    let book = c.self.inside.book in
    let setup = c.self.inside.setup in
    let call = c.args.call in
    let made = λ (receipt : Option (Received Deed)) (is : c.in-Ok.made.1 ≡ receipt). takes-made setup book.object.queue c.step.new.self.object.queue book.base c.step.new.self.base c.self.inside.cut book.records c.step.new.self.records book.room c.step.new.self.room c.args.seat call c.in-Ok.made.0 c.in-Ok.made.1 receipt c.step.ensures.base is
    (admitted-at setup book.object.queue book.base.gone c.self.inside.cut book.cap (length book.records) c.args.seat call c.self.invariant.2 c.self.invariant.1 c.in-Ok.ensures.admitted)
    (place-admits _ _ c.in-Ok.ensures.admitted)
    (subst (λ k. QueueStep (λ m. m) k book.object.queue c.args.seat call c.in-Ok.made.0 c.step.new.self.object.queue) c.self.invariant.0 c.in-Ok.ensures.step.1)
    c.in-Ok.ensures.record
    c.in-Ok.ensures.place
    c.in-Ok.ensures.records in
    elim c.match-receipt.branch [
      | in-Some w ↦ rw (w.result-is, w.reply_of.ensures, ← c.self.view_is) (made (Some w.in-Some.receipt) w.in-Some.is)
      | in-None w ↦ rw (w.result-is, c.unrecorded-otherwise.ensures, ← c.self.view_is) (made None w.in-None.is)
    ]
