-- Proof of `written`, src/judging.rt. The history in which the calls, in this order, make their records, if they can.
use Rattle.std.proofs.Common.{ap, inl, rules}
use Rattle.meet_overlap.specs.Known.{IsNoted}
use Rattle.meet_overlap.specs.Places.{world_of}
use Rattle.meet_overlap.specs.Search.{World, start}
use Rattle.meet_overlap.proofs.Barren.{there_more, there_explains}
use Rattle.meet_overlap.proofs.judging.written.Goals as goal

pub loop-number-init : goal.loop-number-init
loop-number-init c = (search rules, λ n call known. inl (ap (λ (w : World). w.stages n) c.beginning-reached.ensures))

pub loop-number-preserved : goal.loop-number-preserved
loop-number-preserved c =
    let noted : IsNoted c.args.kind c.args.calls.now (world_of c.loop-number.reached) (world_of c.note.new.reached) c.loop-number.history.items c.note.new.history.items = c.in_ok-note.ensures.noted c.if-not-branch.false in (
      there_more c.args.kind c.args.calls.now start (world_of c.loop-number.reached) (world_of c.note.new.reached) c.loop-number.history.items c.note.new.history.items c.loop-number.invariant.0 noted,
      c.in_ok-note.ensures.latest c.if-not-branch.false,
    )

pub returns-then-may_all_stop : goal.returns-then-may_all_stop
returns-then-may_all_stop c =
    there_explains c.args.kind c.args.calls.now c.loop-number.history.items (world_of c.loop-number.reached) c.loop-number.invariant.0
    (c.may_all_stop.ensures.0 c.if-may_all_stop.true)
