-- Proof of `with_bit`, src/numbers.rt. A word with this bit one or zero.
use Rattle.std.proofs.Common.{sym, ap, ◌∙◌, cond, ℕ}
use Rattle.std.specs.Int.{w64}
use Rattle.std.proofs.lemmas.Nat.Bits.{bit_at_set_same, bit_at_set_other, bit_at_clear_same, bit_at_clear_other}
use Rattle.pool_core.proofs.numbers.with_bit.Goals as goal

pub returns-then-is-clause-own : goal.returns-then-is-clause-own
returns-then-is-clause-own c = bit_at_set_same w64 c.args.word c.args.bit c.requires ∙ sym (ap (λ b. cond {A = ℕ} b 1 0) c.if-is.true)

pub returns-then-is-clause-others : goal.returns-then-is-clause-others
returns-then-is-clause-others c k below other = bit_at_set_other w64 c.args.word c.args.bit c.requires k other

pub returns-else-is-clause-own : goal.returns-else-is-clause-own
returns-else-is-clause-own c = bit_at_clear_same w64 c.args.word c.args.bit c.requires ∙ sym (ap (λ b. cond {A = ℕ} b 1 0) c.if-is.false)

pub returns-else-is-clause-others : goal.returns-else-is-clause-others
returns-else-is-clause-others c k below other = bit_at_clear_other w64 c.args.word c.args.bit c.requires k below other
