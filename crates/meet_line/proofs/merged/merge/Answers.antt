-- Proof of `merge`, src/merged.rt. The nodes of both lists in order of arrival.
use Rattle.std.proofs.Common.{◌+◌, ◌<◌, ◌∙◌, ◌∷◌, ◌++◌, [], length, map, vec_len, sym, ap, arith, rules}
use Rattle.std.specs.Vec.{vec_capacity}
use Rattle.std.proofs.lemmas.List.{map-append}
use Rattle.meet_line.proofs.MergedWalk.{waiting-there, waiting-more, buffered-there, buffered-more}
use Rattle.meet_line.proofs.merged.merge.Goals.{then-is_next_at, else-is_next_at}
use Rattle.meet_line.proofs.merged.merge.Goals as goal

pub bounds-waiting-at : goal.bounds-waiting-at
bounds-waiting-at g c =
    let more : c.loop-step._step < length c.args.waiting.now + length c.args.buffered.now = search rules in
    omega (arith, waiting-there c.args.waiting.now c.args.buffered.now c.loop-step.at c.loop-step.from c.loop-step._step _ c.loop-step.invariant.0 more (sym c.if-is_next_at.ensures))

pub loop-step-preserved : goal.loop-step-preserved
loop-step-preserved g c =
    let ws = c.args.waiting.now in
    let bs = c.args.buffered.now in
    let at = c.loop-step.at in
    let from = c.loop-step.from in
    let step = c.loop-step._step in
    let done = map (λ e. e.now) c.loop-step.list.items in
    let inv = c.loop-step.invariant in
    let more : step < length ws + length bs = search rules in
    elim c.if-is_next_at.branch [
      | then-is_next_at w ↦
          let next = sym c.is_next_at.ensures ∙ w.if-is_next_at.true in
          let within = buffered-there ws bs at from step done inv.0 next in
          let on = buffered-more ws bs at from step done w.index-buffered-from.result inv.0 next within in
          let items = ap (λ v. map (λ e. e.now) v.items) w.list-is ∙ ap (map (λ e. e.now)) w.push_reserved.ensures.items ∙ map-append (λ e. e.now) c.loop-step.list.items (_ ∷ []) ∙ ap (λ b. done ++ b.now ∷ []) w.index-buffered-from.is in (
            rw (w.at-is, w.from-is, items) on,
            omega (arith, inv.1, w.push_reserved.ensures.len, ap vec_len w.list-is),
            omega (arith, inv.2, w.push_reserved.ensures.capacity, ap vec_capacity w.list-is),
          )
      | else-is_next_at w ↦
          let next = sym c.is_next_at.ensures ∙ w.if-is_next_at.false in
          let within = waiting-there ws bs at from step done inv.0 more next in
          let on = waiting-more ws bs at from step done w.index-waiting-at.result inv.0 next within in
          let items = ap (λ v. map (λ e. e.now) v.items) w.list-is ∙ ap (map (λ e. e.now)) w.push_reserved-else-is_next_at.ensures.items ∙ map-append (λ e. e.now) c.loop-step.list.items (_ ∷ []) ∙ ap (λ b. done ++ b.now ∷ []) w.index-waiting-at.is in (
            rw (w.at-is, w.from-is, items) on,
            omega (arith, inv.1, w.push_reserved-else-is_next_at.ensures.len, ap vec_len w.list-is),
            omega (arith, inv.2, w.push_reserved-else-is_next_at.ensures.capacity, ap vec_capacity w.list-is),
          )
    ]
