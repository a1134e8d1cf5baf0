-- Proof of `RingLine::push_back`, src/ring_line.rt.
use Rattle.std.proofs.Common.{◌≢◌, ◌<◌, All, arith}
use Rattle.std.proofs.lemmas.List.Quantifiers.{all_pairs_push}
use Rattle.meet_line.proofs.ring_line.RingLineLine.push_back.Goals as goal

pub invariant_of-self : goal.invariant_of-self
invariant_of-self g c =
    let room : 0 < c.self.inside.room = rw (← c.self.view_is) at c.requires.room in
    let fresh : All (λ e. e.ticket ≢ c.args.entry.ticket) c.self.inside.entries.items = rw (← c.self.view_is) at c.requires.fresh in (
      omega (arith, c.self.invariant.0, c.push_back_reserved.ensures.len, c.push_back_reserved.ensures.capacity),
      rw c.push_back_reserved.ensures.items (all_pairs_push (λ e f. e.ticket ≢ f.ticket) c.self.inside.entries.items c.args.entry c.self.invariant.1 fresh),
    )
