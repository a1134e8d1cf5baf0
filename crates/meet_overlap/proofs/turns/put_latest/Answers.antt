-- Proof of `put_latest`, src/turns.rt. Notes which call of a seat began last.
use Rattle.std.proofs.Common.{◌<◌, ◌∙◌, ap, length, arith}
use Rattle.meet_tickets.specs.BySeat.{put_at}
use Rattle.meet_overlap.specs.Places.{latest_at}
use Rattle.meet_overlap.proofs.Tables.{put_at-set, padded}
use Rattle.meet_overlap.proofs.turns.put_latest.Goals as goal

pub loop-latest-preserved : goal.loop-latest-preserved
loop-latest-preserved c = ap latest_at c.in_ok-push.ensures.items ∙ padded c.loop-latest.latest.items 0 ∙ c.loop-latest.invariant

pub returns : goal.returns
returns c =
    let items = c.loop-latest.latest.items in
    let there : c.number-index.result < length items = omega (arith, c.len.ensures, c.loop-latest-test.false) in
    put_at-set items c.number-index.result c.args.number 0 there
    ∙ ap (λ f. put_at f c.number-index.result c.args.number) c.loop-latest.invariant
    ∙ ap (λ i. put_at (latest_at c.args.latest.now.items) i c.args.number) c.number-index.ensures.value
