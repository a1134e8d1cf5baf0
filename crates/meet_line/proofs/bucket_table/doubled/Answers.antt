-- Proof of `doubled`, src/bucket_table.rt. A power of two, neither below `needed` nor below `count`, which is one or 0,
-- and no greater one than must be; none where that is too great.
use Rattle.std.proofs.Common.{suc, arith}
use Rattle.std.proofs.Math.Nat.{pow-suc}
use Rattle.meet_line.proofs.bucket_table.doubled.Goals as goal

pub loop-size-preserved : goal.loop-size-preserved
loop-size-preserved c =
    let power = c.loop-size.invariant.3 in
    (omega (arith, c.loop-size.invariant.0), omega (arith, c.loop-size.invariant.1), λ more. omega arith, (suc power.0, omega (arith, power.1, pow-suc 2 power.0)))

pub returns-clause-least : goal.returns-clause-least
returns-clause-least c = c.loop-size.invariant.2
