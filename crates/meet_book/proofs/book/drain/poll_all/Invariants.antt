-- What stays true from turn to turn of `poll_all`, src/book/drain.rt.
use Rattle.std.proofs.Common.{◌≡◌, ◌+◌, ◌<◌, ◌≤◌, ◌++◌, None, length, map, vec_len, vec_capacity}
use Rattle.meet_book.specs.Draining.{TakingPolls, AreNumbered}
use Rattle.meet_book.proofs.book.drain.poll_all.Given as goal

-- so many polls were made, and for the others all is there
abbrev pub invariant-loop : goal.invariant-loop
invariant-loop g l =
    let o = g.O.Object in
    let d = g.O.Drains in
    record {
      count : length l.got.items ≡ l.counter;
      room : vec_capacity l.got ≡ vec_capacity l.fn.empty;
      polls : TakingPolls (λ old answer new. o.steps old l.seat d.poll answer new) (o.record_of l.seat d.poll) (λ x. o.refusal_of x l.seat d.poll) d.available_of d.unspent_of o.owed_of l.fn.object l.got.items l.object;
      records : l.records.items ≡ l.fn.records.items ++ map (λ one. one.1.entry) l.got.items;
      numbered : AreNumbered (l.gone + length l.fn.records.items) l.got.items;
      leads : (base : _) → o.leads base l.fn.records.items l.fn.object → o.leads base l.records.items l.object;
      there : d.available_of l.object + l.counter ≡ d.available_of l.fn.object;
      tickets : d.unspent_of l.object + l.counter ≡ d.unspent_of l.fn.object;
      spare : o.spare l.fn.object ≤ o.spare l.object;
      free : 0 < d.unspent_of l.object → o.refusal_of l.object l.seat d.poll ≡ None;
      owed : o.owed_of l.object ≡ o.owed_of l.fn.object;
      places : vec_len l.records ≡ vec_len l.fn.records + l.counter;
      capacity : vec_capacity l.records ≡ vec_capacity l.fn.records;
    }
