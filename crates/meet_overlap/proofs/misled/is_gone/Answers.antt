-- Proof of `is_gone`, src/misled.rt. Whether no entry of this seat waits in the line.
use Rattle.std.proofs.Common.{arith}
use Rattle.meet_overlap.proofs.Settled.{gone_all}
use Rattle.meet_overlap.proofs.Tables.{got_below}
use Rattle.meet_overlap.proofs.misled.is_gone.Goals as goal

pub returns : goal.returns
returns c =
    λ _. gone_all c.args.seat c.args.line.now
    (λ n e is.
    let below = got_below c.args.line.now n e is in
    c.loop-at.invariant n e (omega arith) is)
