-- Proof of `push_seats`, src/wording.rt. Appends what seats did, from 0 on.
use Rattle.std.proofs.Common.{◌++◌, sym, ap, ◌∙◌, take}
use Rattle.std.proofs.lemmas.List.{append-nil}
use Rattle.meet_sum.specs.SumTexts.{seats_text}
use Rattle.meet_sum.proofs.TextLemmas.{seats-more, seats-none, further}
use Rattle.meet_sum.proofs.wording.push_seats.Goals as goal

pub loop-seat-init : goal.loop-seat-init
loop-seat-init c = sym (ap (λ t. c.args.out.now.items ++ t) seats-none ∙ append-nil c.args.out.now.items)

pub loop-seat-preserved : goal.loop-seat-preserved
loop-seat-preserved c =
    further c.args.out.now.items (seats_text 0 (take c.loop-seat.seat c.args.sums.now)) _ c.loop-seat.out.items c.push_seat.new.out.items c.loop-seat.invariant c.in_ok-push_seat.ensures
    ∙ ap (λ t. c.args.out.now.items ++ t) (sym (seats-more c.args.sums.now c.loop-seat.seat _ c.loop-seat-test.true))
