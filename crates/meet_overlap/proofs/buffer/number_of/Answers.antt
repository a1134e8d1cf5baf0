-- Proof of `number_of`, src/buffer.rt. The number of the call whose effect stands at a place.
use Rattle.std.proofs.Common.{◌∙◌, sym, ap, arith}
use Rattle.std.specs.Option.{is_some}
use Rattle.meet_overlap.proofs.Effective.{counted_more, counts_one, counts_none}
use Rattle.meet_overlap.proofs.buffer.number_of.Goals.{then-is_some+else-effects-place, else-is_some}
use Rattle.meet_overlap.proofs.buffer.number_of.Goals as goal

pub loop-number-preserved : goal.loop-number-preserved
loop-number-preserved c =
    let call = c.index-calls-number.result in
    let counted = counted_more c.args.calls.now c.loop-number.number call c.loop-number.effects c.if-is_some.effects c.loop-number-test.true c.index-calls-number.is c.loop-number.invariant.0 in
    elim c.if-is_some.branch [
      | then-is_some+else-effects-place w ↦
          let one = counts_one call (sym w.if-is_some.true ∙ c.is_some.ensures ∙ ap is_some c.effect.ensures) in
          let other = w.if-effects-place.false in
          let before = c.loop-number.invariant.1 in
          let is = w.effects-is in
          (counted (omega arith), omega arith)
      | else-is_some w ↦
          let none = counts_none call (sym w.if-is_some.false ∙ c.is_some.ensures ∙ ap is_some c.effect.ensures) in
          let before = c.loop-number.invariant.1 in
          let is = w.effects-is in
          (counted (omega arith), omega arith)
    ]
