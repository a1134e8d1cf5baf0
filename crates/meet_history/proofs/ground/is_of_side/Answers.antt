-- Proof of `is_of_side`, src/ground.rt. Whether a line's entries are of this side: givers, or takers.
use Rattle.std.proofs.Common.{if◌then◌else◌, not, sym, ap, ◌∙◌}
use Rattle.meet_history.proofs.LastDecides.{last-sides}
use Rattle.meet_history.proofs.ground.is_of_side.Goals as goal

pub returns-then-is_some : goal.returns-then-is_some
returns-then-is_some c = record {
  side = ap (λ b. if b then c.args.gives else not c.args.gives) (sym (sym c.is_some.ensures ∙ c.if-is_some.true)) ∙ sym (last-sides c.args.line.now c.args.gives c.in-Some.last.now c.requires.one_side (sym c.in-Some.ensures.value));
}

pub returns-else-is_some : goal.returns-else-is_some
returns-else-is_some c = record {
  side = ap (λ b. if b then c.args.gives else not c.args.gives) (sym (sym c.is_some.ensures ∙ c.if-is_some.false)) ∙ sym (last-sides c.args.line.now c.args.gives c.in-Some.last.now c.requires.one_side (sym c.in-Some.ensures.value));
}
