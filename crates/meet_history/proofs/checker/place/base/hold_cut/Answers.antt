-- Proof of `hold_cut`, src/checker/place/base.rt. The seats of tickets that were cut hold them.
use Rattle.std.proofs.Common.{◌∙◌, sym, ap, ℕ, arith}
use Rattle.meet_tickets.specs.declared.lines.Hold.{Hold}
use Rattle.meet_tickets.specs.BySeat.{put_at}
use Rattle.meet_tickets.specs.Bases.{cut_held}
use Rattle.meet_core.specs.Table.{hold_at}
use Rattle.meet_history.proofs.Layings.{held-more}
use Rattle.meet_history.proofs.checker.place.base.hold_cut.Goals as goal

pub loop-cut-preserved : goal.loop-cut-preserved
loop-cut-preserved c =
    let before = c.loop-cut.invariant in
    let cut = c.cut-item.result in
    record {
      holds = c.in_ok-hold.ensures.holds ∙ ap (λ (f : ℕ → Hold ℕ). put_at f cut.seat (cut_held cut).hold) before.holds
          ∙ sym (held-more cut_held (hold_at c.args.table.now.holds) c.args.cuts.now c.loop-cut.cut-index cut c.loop-cut-test.true c.cut-item.is);
      flags = c.hold.ensures.flags ∙ before.flags;
      more = omega (arith, c.hold.ensures.more, before.more);
    }
