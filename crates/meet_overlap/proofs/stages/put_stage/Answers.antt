-- Proof of `put_stage`, src/stages.rt. Notes how far the call of this number is.
use Rattle.std.proofs.Common.{◌-◌, ◌∙◌, ◌<◌, ◌≤◌, ap, sym, set, length, arith}
use Rattle.meet_tickets.specs.BySeat.{put_at}
use Rattle.meet_overlap.specs.Places.{stage_in}
use Rattle.meet_overlap.proofs.Windows.{stage_grown, stage_put}
use Rattle.meet_overlap.proofs.stages.put_stage.Goals as goal

pub loop-window-preserved : goal.loop-window-preserved
loop-window-preserved c = record {
  read =
      ap (stage_in c.loop-window.window.first) c.in_ok-push.ensures.items
      ∙ stage_grown c.loop-window.window.first c.loop-window.window.stages.items
      ∙ c.loop-window.invariant.read;
  first = c.loop-window.invariant.first;
}

pub returns : goal.returns
returns c =
    let first = c.loop-window.window.first in
    let items = c.loop-window.window.stages.items in
    let same = c.loop-window.invariant.first in
    let from : first ≤ c.args.number = omega (arith, same, c.requires) in
    let there : c.args.number - first < length items = omega (arith, same, c.len.ensures, c.loop-window-test.false) in
    ap (λ n. stage_in first (set items (c.args.number - n) c.args.stage)) (sym same)
    ∙ stage_put first items c.args.number c.args.stage from there
    ∙ ap (λ f. put_at f c.args.number c.args.stage) c.loop-window.invariant.read
