-- Proof of `Seen::has`, src/seen.rt. Whether one that was seen is the same as this world.
use Rattle.std.proofs.Common.{◌-◌, ◌<◌, length, arith}
use Rattle.meet_overlap.specs.Places.{world_of}
use Rattle.meet_overlap.proofs.Barren.{alike_at}
use Rattle.meet_overlap.proofs.seen.Seen.has.Goals as goal

pub returns-then-alike : goal.returns-then-alike
returns-then-alike c =
    let there : c.loop.next - 1 < length c.args.self.now.worlds.items = omega (arith, c.if-next-eq0.false, c.if-len-next.false, c.len.ensures) in
    λ _. alike_at c.args.self.now.worlds.items (c.loop.next - 1) c.index.result.now (world_of c.args.reached.now) there c.index.ensures (c.alike.ensures c.if-alike.true)
