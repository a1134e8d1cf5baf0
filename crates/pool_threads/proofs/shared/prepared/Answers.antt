-- Proof of `prepared`, src/shared.rt. Makes room for four receipts of the worker that a job may start, ahead of the
-- step: whether there is.
use Rattle.std.proofs.Common.{sym, subst, arith, Some}
use Rattle.std.specs.Prelude.{IfSome, slice_set}
use Rattle.std.proofs.lemmas.Option.{slice_get_within}
use Rattle.pool_threads.specs.Mirrored.{HasFour}
use Rattle.pool_threads.proofs.Placing.{away_set, four_set}
use Rattle.pool_threads.proofs.shared.prepared.Goals as goal

pub returns-then-at-len-clause-away : goal.returns-then-at-len-clause-away
returns-then-at-len-clause-away g c = away_set c.args.seats.now.items c.in-Some.w c.index_mut.result.now c.reserved.new.slot c.index_mut.ensures.value c.reserved.ensures.here

pub returns-then-at-len-clause-room : goal.returns-then-at-len-clause-room
returns-then-at-len-clause-room g c = λ there.
    subst (λ o. IfSome o (λ w. HasFour (slice_set c.args.seats.now.items c.in-Some.w c.reserved.new.slot) w)) (sym c.in-Some.is)
    (four_set c.args.seats.now.items c.in-Some.w c.reserved.new.slot (c.reserved.ensures.room there))

pub returns-else-at-len-clause-room : goal.returns-else-at-len-clause-room
returns-else-at-len-clause-room g c = λ there.
    subst (λ o. IfSome o (λ w. HasFour c.args.seats.now.items w)) (sym c.in-Some.is)
    (λ seat at. absurd (let in_it = slice_get_within c.args.seats.now.items c.in-Some.w (Some seat) at in omega (arith, in_it, c.if-at-len.false)))
