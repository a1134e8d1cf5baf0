-- Proof of `Arena::starting`, src/arena.rt. The same, with the rounds of each slot numbered from `round` on, 0 to 2^44
-- - 1.
use Rattle.std.proofs.Common.{rules, arith, ◌≡◌, ◌*◌}
use Rattle.meet_exchange.specs.Words.{round_unit}
use Rattle.std.proofs.Math.ListN.{replicate}
use Rattle.meet_exchange.proofs.Making.{opens}
use Rattle.meet_exchange.proofs.arena.Arena.starting.Goals as goal

pub vacant-requires : goal.vacant-requires
vacant-requires g c = opens g.T.Marked.mark_of (record { slots = c.args.slots; seats = c.args.seats; start = c.args.round }) _ (let e : c.as_slice.result.now ≡ replicate c.args.slots (round_unit * c.args.round) = search rules in e) (omega arith) (omega arith) (omega arith)
