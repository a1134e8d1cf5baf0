-- Proof of `settled_move`, src/settling.rt. The ending of the first call in the window that was met or cut, and can
-- end.
use Rattle.std.proofs.Common.{sym, subst}
use Rattle.meet_overlap.specs.Known.{LeadsOn}
use Rattle.meet_overlap.specs.Places.{world_of}
use Rattle.meet_overlap.proofs.Endings.{settled_barren}
use Rattle.meet_overlap.proofs.settling.settled_move.Goals as goal

pub returns-in-Some : goal.returns-in-Some
returns-in-Some c =
    let k = c.args.kind in
    let calls = c.args.calls.now in
    let w = world_of c.args.reached.now in
    let m = c.is_settled.ensures c.if-is_settled.true in
    let leads : LeadsOn k calls w c.loop-number.number (world_of c.in-Some.there) = rw c.in-Some.is at c.in_ok-there.ensures in
    λ barren. settled_barren k calls w (world_of c.in-Some.there) m.0 (subst (λ n. LeadsOn k calls w n (world_of c.in-Some.there)) (sym m.1) leads) barren
