-- Proof of `claim`, src/steps.rt. Claims a slot that was seen free, and returns the word that it found.
use Rattle.std.proofs.Common.{rules, arith, ap, ◌+◌, ◌*◌}
use Rattle.meet_exchange.proofs.Keeping.{claims}
use Rattle.meet_exchange.proofs.steps.claim.Goals as goal

pub compare_exchange-requires : goal.compare_exchange-requires
compare_exchange-requires g c = (search rules, omega arith, claims g.T.Marked.mark_of _ _ _ _ _ _ _ _ c.requires.place.1 c.requires.idle.0 c.requires.idle.1 c.requires.idle.2 c.requires.free.0 (ap (λ z. (c.args.seen + 1) + 8 * z) c.number.ensures.value))
