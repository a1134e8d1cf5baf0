-- Proof of `Pool::close`, src/closing.rt. Ends the pool: takes all seats back, compares the records with their
-- receipts, and waits until the threads of its workers have let it go.
use Rattle.std.proofs.Common.{◌∙◌, sym, ap, subst, map, arith, not}
use Rattle.std.specs.Prelude.{count_by}
use Rattle.std.specs.List.{filter_map}
use Rattle.pool_core.specs.Pools.{kept_tasks, task_at}
use Rattle.pool_core.specs.Moves.{job_in}
use Rattle.pool_threads.specs.Mirrored.{absent}
use Rattle.pool_threads.specs.Seated.{AddsWorthy}
use Rattle.pool_threads.proofs.Lying.{lying}
use Rattle.pool_threads.proofs.Rising.{left_rise}
use Rattle.pool_threads.proofs.pool.Pool.close.Goals as goal

pub take_seats-requires : goal.take_seats-requires
take_seats-requires g c =
    let lies = lying c.inside.inside.seats.items ∙ ap (λ j. count_by not j.there) c.inside.invariant.0 in
    let same = c.seats_here-lying.ensures ∙ ap (λ b. absent b.object.pool) (sym c.inside.view_is) in
    record {
      room = omega (arith, lies, same, c.in-Some.ensures.backs, c.in-Some.ensures.count, c.if-lying-made.false, c.if-have-made-2.false, c.len-have.ensures);
    }

pub settle-requires-clause-all : goal.settle-requires-clause-all
settle-requires-clause-all g c =
    let lies = lying c.inside.inside.seats.items ∙ ap (λ j. count_by not j.there) c.inside.invariant.0 in
    let same = c.seats_here-lying.ensures ∙ ap (λ b. absent b.object.pool) (sym c.inside.view_is) in
    omega (arith, lies, same, c.take_seats.ensures.count, c.in-Some.ensures.count, c.if-lying-made.false, c.if-have-made-2.false, c.len-have.ensures, c.count-made.ensures.all)

pub settle-requires-clause-room : goal.settle-requires-clause-room
settle-requires-clause-room g c =
    let lies = lying c.inside.inside.seats.items ∙ ap (λ j. count_by not j.there) c.inside.invariant.0 in
    let same = c.seats_here-lying.ensures ∙ ap (λ b. absent b.object.pool) (sym c.inside.view_is) in
    omega (arith, lies, same, c.take_seats.ensures.count, c.in-Some.ensures.count, c.in-Some.ensures.seats, c.if-lying-made.false, c.if-have-made-2.false, c.len-have.ensures)

pub with_tickets-requires-clause-tasks : goal.with_tickets-requires-clause-tasks
with_tickets-requires-clause-tasks g c = (
  kept_tasks c.in-Ok.field-0.object.pool.line,
  filter_map task_at c.in-Ok.field-0.object.pool.workers,
  c.into_left-tasks.ensures,
  ap (λ j. j.kept) c.inside.invariant.0 ∙ ap (λ o. map job_in (kept_tasks o.pool.line)) (sym c.in-Ok.ensures.same),
)

pub returns-in-Ok-clause-left : goal.returns-in-Ok-clause-left
returns-in-Ok-clause-left g c = (
  c.in-Ok.field-0.object,
  ap (λ o. o.settings) c.in-Ok.ensures.same ∙ c.inside.invariant.1,
  c.in-Ok.ensures.leads,
  c.with_tickets.ensures (kept_tasks c.in-Ok.field-0.object.pool.line) (filter_map task_at c.in-Ok.field-0.object.pool.workers)
      c.into_left-tasks.ensures
      (ap (λ j. j.kept) c.inside.invariant.0 ∙ ap (λ o. map job_in (kept_tasks o.pool.line)) (sym c.in-Ok.ensures.same)),
)

pub returns-in-Ok-clause-rises : goal.returns-in-Ok-clause-rises
returns-in-Ok-clause-rises g c =
    left_rise c.in-Ok.field-0.object.pool.line c.with_tickets.result.items c.stays_sound.ensures.sound.risen
    (c.with_tickets.ensures (kept_tasks c.in-Ok.field-0.object.pool.line) (filter_map task_at c.in-Ok.field-0.object.pool.workers)
    c.into_left-tasks.ensures
    (ap (λ j. j.kept) c.inside.invariant.0 ∙ ap (λ o. map job_in (kept_tasks o.pool.line)) (sym c.in-Ok.ensures.same)))

pub returns-in-Ok-clause-lists : goal.returns-in-Ok-clause-lists
returns-in-Ok-clause-lists g c =
    let lists = c.in-Ok.ensures.lists in (
      c.take_seats.new.backs.items,
      lists.0,
      subst (λ seats. AddsWorthy g.W.Work.worth seats c.take_seats.new.backs.items) c.new.ensures.same c.take_seats.ensures.adds,
      lists.1,
      lists.2,
      c.in-Ok.ensures.shares,
      c.in-Ok.ensures.folded,
    )
