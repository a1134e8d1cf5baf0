-- Proof of `Stepper::drain`, src/one_thread/stepper/drains.rt. Takes up to so many items, one poll after another: a
-- reply for each, and then their number.
use Rattle.meet_core.specs.Queue.{seats_of}
use Rattle.std.proofs.Common.{◌≡◌, ◌+◌, ◌++◌, ◌∷◌, [], ◌∙◌, refl, sym, ap, min, map, length, append_assoc, append-nil, length-append, Some, rules, ℕ}
use Rattle.std.proofs.lemmas.List.{length-map}
use Rattle.meet_tickets.specs.declared.records.Deed.{Deed}
use Rattle.meet_core.specs.declared.calls.queue_calls.QueueAnswer.{QueueAnswer}
use Rattle.meet_history.specs.declared.one_thread.replies.Outcome.TheVariants.{Drained}
use Rattle.meet_book.specs.Received.{Received}
use Rattle.meet_history.specs.OneThread.{Turn, drain, drain_refusal, refused}
use Rattle.meet_core.specs.QueueSteps.{queue_available}
use Rattle.meet_history.specs.Stepping.{Stepping, place_of, reply_of, back_of}
use Rattle.meet_history.proofs.Calling.{refused-so}
use Rattle.meet_history.proofs.Foldings.{folded-more}
use Rattle.meet_history.proofs.Drained.{drained, drain_refusal-is, drain-refused}
use Rattle.meet_history.proofs.one_thread.stepper.Stepper.drain.Goals as goal

pub returns-in-Ok-refused_unless_memory-clause-replies : goal.returns-in-Ok-refused_unless_memory-clause-replies
returns-in-Ok-refused_unless_memory-clause-replies c =
    let book = c.self.inside.book in
    let setup = c.self.inside.setup in
    let old : Stepping = record { setup = setup; queue = book.object.queue; base = book.base; cut = c.self.inside.cut; records = book.records; room = book.room } in
    let k = min c.args.most (queue_available book.object.queue) in
    let is : drain_refusal setup (place_of old) c.args.seat k ≡ Some c.in-Err.why = sym (drain_refusal-is setup c.args.seat book.base.gone c.self.inside.cut book.object.queue book.cap (length book.records) k c.self.invariant.2 c.self.invariant.1) ∙ refused-so _ c.in-Err.why c.in-Err.ensures.why c.in-Ok-refused_unless_memory.ensures.other in
    let turn : drain setup (place_of old) c.args.seat k ≡ refused (place_of old) c.args.seat c.in-Err.why = drain-refused setup c.args.seat book.base.gone c.self.inside.cut (place_of old) k c.in-Err.why is in
    rw (← c.self.view_is) (c.push_reserved.ensures.items ∙ (λ i. c.reserve.ensures.items i ++ c.in-Ok-refused_unless_memory.ensures.reply i ∷ []) ∙ ap (λ (t : Turn). c.args.replies.now.items ++ t.replies) (sym turn))

pub returns-in-Ok-refused_unless_memory-clause-takes : goal.returns-in-Ok-refused_unless_memory-clause-takes
returns-in-Ok-refused_unless_memory-clause-takes c =
    let book = c.self.inside.book in
    let setup = c.self.inside.setup in
    let old : Stepping = record { setup = setup; queue = book.object.queue; base = book.base; cut = c.self.inside.cut; records = book.records; room = book.room } in
    let k = min c.args.most (queue_available book.object.queue) in
    let is : drain_refusal setup (place_of old) c.args.seat k ≡ Some c.in-Err.why = sym (drain_refusal-is setup c.args.seat book.base.gone c.self.inside.cut book.object.queue book.cap (length book.records) k c.self.invariant.2 c.self.invariant.1) ∙ refused-so _ c.in-Err.why c.in-Err.ensures.why c.in-Ok-refused_unless_memory.ensures.other in
    let turn : drain setup (place_of old) c.args.seat k ≡ refused (place_of old) c.args.seat c.in-Err.why = drain-refused setup c.args.seat book.base.gone c.self.inside.cut (place_of old) k c.in-Err.why is in
    let same = c.in-Err.ensures.unchanged in
    rw (← c.self.view_is, same) (record {
      setup = refl;
      written = λ all. folded-more setup.kind all book.base book.base book.records book.records _ refl (sym (append-nil book.records) ∙ ap (λ (t : Turn). book.records ++ t.records) (sym turn));
      place = ap (λ (t : Turn). t.place) (sym turn);
    })

pub invariant_of-self-2 : goal.invariant_of-self-2
invariant_of-self-2 c =
    let book = c.self.inside.book in
    let k = min c.args.most (queue_available book.object.queue) in
    let end = drained c.self.inside.setup c.args.seat book.base.gone c.self.inside.cut book.object c.drain.new.self.object book.cap (length book.records) k c.in-Ok.got.items c.self.invariant.2 c.self.invariant.1 c.self.invariant.0 c.in-Ok.ensures.admitted c.in-Ok.ensures.count c.in-Ok.ensures.places c.in-Ok.ensures.polls in
    (end.kind, end.count, c.drain.ensures.cap ∙ c.self.invariant.2)

pub returns-clause-replies : goal.returns-clause-replies
returns-clause-replies c =
    let book = c.self.inside.book in
    let k = min c.args.most (queue_available book.object.queue) in
    let end = drained c.self.inside.setup c.args.seat book.base.gone c.self.inside.cut book.object c.drain.new.self.object book.cap (length book.records) k c.in-Ok.got.items c.self.invariant.2 c.self.invariant.1 c.self.invariant.0 c.in-Ok.ensures.admitted c.in-Ok.ensures.count c.in-Ok.ensures.places c.in-Ok.ensures.polls in
    let count : c.min-count.result ≡ k = search rules in
    rw (← c.self.view_is) (c.push_reserved-2.ensures.items
    ∙ (λ i. c.push_polls.ensures.replies i ++ record { seat = c.args.seat; outcome = Drained (count i) } ∷ [])
    ∙ (λ i. (c.reserve.ensures.items i ++ map (λ (one : QueueAnswer ℕ × Received Deed). reply_of c.args.seat one.1 (back_of one.0)) (c.as_slice.ensures.value i)) ++ record { seat = c.args.seat; outcome = Drained k } ∷ [])
    ∙ append_assoc c.args.replies.now.items (map (λ (one : QueueAnswer ℕ × Received Deed). reply_of c.args.seat one.1 (back_of one.0)) c.in-Ok.got.items) (record { seat = c.args.seat; outcome = Drained k } ∷ [])
    ∙ ap (λ (t : Turn). c.args.replies.now.items ++ t.replies) (sym end.turn))

pub returns-clause-takes : goal.returns-clause-takes
returns-clause-takes c =
    let book = c.self.inside.book in
    let k = min c.args.most (queue_available book.object.queue) in
    let end = drained c.self.inside.setup c.args.seat book.base.gone c.self.inside.cut book.object c.drain.new.self.object book.cap (length book.records) k c.in-Ok.got.items c.self.invariant.2 c.self.invariant.1 c.self.invariant.0 c.in-Ok.ensures.admitted c.in-Ok.ensures.count c.in-Ok.ensures.places c.in-Ok.ensures.polls in
    let long : length c.drain.new.self.records ≡ length book.records + length c.in-Ok.got.items = ap length c.in-Ok.ensures.records ∙ length-append book.records _ ∙ ap (λ n. length book.records + n) (length-map c.in-Ok.got.items _) in
    rw (← c.self.view_is) (record {
      setup = refl;
      written = λ all. folded-more c.self.inside.setup.kind all book.base c.drain.new.self.base book.records c.drain.new.self.records _ c.drain.ensures.base (c.in-Ok.ensures.records ∙ ap (λ (t : Turn). book.records ++ t.records) (sym end.turn));
      place = (λ i. record { next = c.drain.new.self.object.queue.next; seats = seats_of c.drain.new.self.object.queue; gone = (c.drain.ensures.base i).gone; cut = c.self.inside.cut; records = long i }) ∙ ap (λ (t : Turn). t.place) (sym end.turn);
    })
