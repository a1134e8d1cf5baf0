-- Proof of `by_seat`, src/seats/opened.rt. The same in the order of the seats.
use Rattle.std.proofs.Common.{◌≡◌, ◌∙◌, ap, rules, ℕ}
use Rattle.meet_core.specs.Table.{hold_at}
use Rattle.meet_core.specs.Opened.{pair_of, cut_of, pair_at, cut_at, flagged_at}
use Rattle.meet_core.proofs.Gathered.{gathered_one}
use Rattle.meet_core.proofs.seats.opened.by_seat.Goals as goal

pub loop-number-preserved : goal.loop-number-preserved
loop-number-preserved g c =
    let mark = g.T.Marked.mark_of in
    let table = c.args.table.now in
    let n = c.loop-number.number in
    let seat : ◌≡◌ {A = ℕ} c.unwrap-seat.result n = search rules in
    let pair : c.open_pair.result ≡ pair_at mark table n = c.open_pair.ensures ∙ ap (pair_of mark c.unwrap-seat.result) c.hold.ensures ∙ ap (λ i. pair_of mark i (hold_at table.holds i)) seat in
    let cut : c.open_cut.result ≡ cut_at mark table n = c.open_cut.ensures ∙ ap (cut_of mark c.unwrap-seat.result) c.hold-in-loop-number.ensures ∙ ap (λ i. cut_of mark i (hold_at table.holds i)) seat in
    let flag : c.flagged.result ≡ flagged_at table n = c.flagged.ensures ∙ ap (flagged_at table) seat in
    record {
      pairs = gathered_one (pair_at mark table) n c.loop-number.pairs.items _ c.open_pair.result c.loop-number.invariant.pairs pair c.in_ok-push_some.ensures.items;
      cut = gathered_one (cut_at mark table) n c.loop-number.cut.items _ c.open_cut.result c.loop-number.invariant.cut cut c.in_ok-push_some-2.ensures.items;
      flags = gathered_one (flagged_at table) n c.loop-number.flags.items _ c.flagged.result c.loop-number.invariant.flags flag c.in_ok-push_some-3.ensures.items;
      end = c.loop-number.invariant.end;
    }
