-- Proof of `flag_all`, src/checker/place/base.rt. These seats are flagged.
use Rattle.std.proofs.Common.{◌∙◌, sym, ap, ℕ, Bool, true, length, arith}
use Rattle.meet_tickets.specs.BySeat.{put_at}
use Rattle.meet_core.specs.Table.{hold_at, flag_at}
use Rattle.meet_history.proofs.Layings.{flagged-more}
use Rattle.meet_history.proofs.checker.place.base.flag_all.Goals as goal

pub loop-seat-preserved : goal.loop-seat-preserved
loop-seat-preserved c =
    let before = c.loop-seat.invariant in
    let seat = c.seat-item.result in
    record {
      holds = ap hold_at c.set_flag.ensures.holds ∙ c.make_seat.ensures.holds ∙ before.holds;
      flags = c.set_flag.ensures.flags ∙ ap (λ (f : ℕ → Bool). put_at f seat true) (c.make_seat.ensures.flags ∙ before.flags)
          ∙ sym (flagged-more (flag_at c.args.table.now.flags) c.args.seats.now c.loop-seat.seat-index seat c.loop-seat-test.true c.seat-item.is);
      more = let same = ap length c.set_flag.ensures.holds in omega (arith, same, c.make_seat.ensures.more, before.more);
    }
