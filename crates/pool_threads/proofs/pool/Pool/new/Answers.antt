-- Proof of `Pool::new`, src/making.rt. A pool without a job, and a seat for each caller, numbered from 0.
use Rattle.std.proofs.Common.{ap, sym, ◌∙◌, arith, vec_len}
use Rattle.std.specs.Prelude.{map}
use Rattle.pool_threads.specs.Mirrored.{tags_of, given_tag, away}
use Rattle.pool_threads.proofs.Founded.{new_jobs, fresh_rest, fresh_first}
use Rattle.pool_threads.proofs.pool.Pool.new.Goals as goal

pub workers_of-requires-clause-new : goal.workers_of-requires-clause-new
workers_of-requires-clause-new g c = fresh_rest c.args.parts.sizes.callers c.open_seats-total.result.2.items c.in-Ok-split_off.others.items c.open_seats-total.ensures.numbers c.in-Ok-split_off.ensures.tail

pub returns-in-Ok-new-clause-numbers : goal.returns-in-Ok-new-clause-numbers
returns-in-Ok-new-clause-numbers g c = fresh_first c.args.parts.sizes.callers c.open_seats-total.result.2.items c.split_off.new.self.items c.open_seats-total.ensures.numbers c.in-Ok-split_off.ensures.items

pub invariant_of-shared : goal.invariant_of-shared
invariant_of-shared g c = (
  ap (λ k. tags_of k c.in_ok-given.given.items (away c.workers_of.result.items)) c.new-2.ensures.items
      ∙ new_jobs c.args.parts.sizes.maximum (vec_len c.in-Ok-split_off.others) (map given_tag c.in_ok-given.given.items) (away c.workers_of.result.items)
      c.new.result.object.pool c.in_ok-given.ensures.none c.workers_of.ensures
      (omega (arith, c.in-Ok-split_off.ensures.tail_len, c.open_seats-total.ensures.count))
      (ap (λ b. b.object.pool) c.new.ensures ∙ c.in_ok-book.ensures.fresh),
  ap (λ b. b.object.settings) c.new.ensures ∙ c.in_ok-book.ensures.settings ∙ sym c.requires.settings,
)
