-- Proof of `is_above_flags`, src/ground.rt. Whether a seat is above those that are flagged.
use Rattle.std.proofs.Common.{nat_lt, sym, ◌∙◌}
use Rattle.meet_history.proofs.LastDecides.{last-rises}
use Rattle.meet_history.proofs.ground.is_above_flags.Goals as goal

pub returns-in-Some : goal.returns-in-Some
returns-in-Some c = record {
  above = (λ i. nat_lt (c.number.ensures.value i) (c.number-in-Some.ensures.value i)) ∙ sym (last-rises (λ f. f) c.args.flags.now c.args.seat c.in-Some.last.now c.requires.rises (sym c.in-Some.ensures.value));
}
