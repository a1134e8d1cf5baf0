-- Proof of `is_next_at`, src/merged.rt. Whether the first of both is a buffered item, from these indices on.
use Rattle.std.proofs.Common.{◌<◌, ◌≤◌, ◌∙◌, nat_lt, length, rules}
use Rattle.std.proofs.Math.Path.{ap₂}
use Rattle.meet_line.proofs.MergedWalk.{next-at_alone, next-at_both}
use Rattle.meet_line.proofs.merged.is_next_at.Goals as goal

pub returns-then-at-waiting : goal.returns-then-at-waiting
returns-then-at-waiting g c =
    let past : length c.args.waiting.now ≤ c.args.at = search rules in
    let within : c.args.from < length c.args.buffered.now = search rules in
    next-at_alone c.args.waiting.now c.args.buffered.now c.args.at c.args.from past within

pub returns : goal.returns
returns g c =
    let there : c.args.at < length c.args.waiting.now = search rules in
    let within : c.args.from < length c.args.buffered.now = search rules in
    ap₂ nat_lt c.number.ensures.value c.number-2.ensures.value
    ∙ next-at_both c.args.waiting.now c.args.buffered.now c.args.at c.args.from c.index-buffered-from.result c.index-waiting-at.result there within
