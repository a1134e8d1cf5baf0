-- Proof of `lowest_bit`, src/numbers.rt. The lowest bit of a word that is one.
use Rattle.std.specs.Int.{w64}
use Rattle.std.proofs.lemmas.Nat.Bits.{bit_at-trailing_zeros}
use Rattle.pool_core.proofs.numbers.lowest_bit.Goals as goal

pub returns : goal.returns
returns c =
    let lowest = bit_at-trailing_zeros w64 c.args.word c.requires c.ranges.word.fits in
    rw c.from.ensures (record { within = lowest.0; is = lowest.1; least = lowest.2 })
