-- Proof of `longest_line`, src/rows.rt. How long the longest line of rows is, without its end.
use Rattle.std.proofs.Common.{◌-◌, ◌++◌, List, ℕ, length, max, ap, ◌∙◌}
use Rattle.meet_draw.specs.Rows.{line_in}
use Rattle.meet_draw.proofs.Rowing.{long-more, long-all}
use Rattle.meet_draw.proofs.rows.longest_line.Goals as goal

pub loop-shown-preserved : goal.loop-shown-preserved
loop-shown-preserved c =
    long-more c.args.rows.now c.loop-shown.shown-index c.loop-shown.long c.max-long.result c.shown-item.result c.push_line.new.out.items c.loop-shown.invariant c.loop-shown-test.true c.shown-item.is
    (c.in_ok-push_line.ensures ∙ ap (λ (t : List ℕ). t ++ line_in c.shown-item.result) c.clear.ensures.items)
    (c.max-long.ensures ∙ ap (max c.loop-shown.long) (c.saturating_sub.ensures ∙ ap (λ (t : List ℕ). length t - 1) c.as_slice.ensures.value))

pub returns : goal.returns
returns c = record { long = long-all c.args.rows.now c.loop-shown.shown-index c.loop-shown.long c.loop-shown.invariant c.loop-shown-test.false }
