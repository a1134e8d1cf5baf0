-- Proof of `hold_pairs`, src/checker/place/base.rt. The seats of tickets that were met hold them.
use Rattle.std.proofs.Common.{◌∙◌, sym, arith}
use Rattle.meet_tickets.specs.BySeat.{put_at}
use Rattle.meet_tickets.specs.Bases.{paired_held}
use Rattle.meet_core.specs.Table.{hold_at}
use Rattle.meet_history.proofs.Layings.{held-more}
use Rattle.meet_history.proofs.checker.place.base.hold_pairs.Goals as goal

pub loop-pair-preserved : goal.loop-pair-preserved
loop-pair-preserved c =
    let before = c.loop-pair.invariant in
    let pair = c.pair-item.result in
    record {
      holds = c.in_ok-hold.ensures.holds ∙ (λ i. put_at (before.holds i) pair.seat (c.hold_met-held.ensures i))
          ∙ sym (held-more paired_held (hold_at c.args.table.now.holds) c.args.pairs.now c.loop-pair.pair-index pair c.loop-pair-test.true c.pair-item.is);
      flags = c.hold.ensures.flags ∙ before.flags;
      more = omega (arith, c.hold.ensures.more, before.more);
    }
