-- Proof of `Meetings::into_left_by_ticket`, src/meetings/leaving.rt. The same, by rising ticket: n items cost n log n.
use Rattle.std.proofs.Common.{rules}
use Rattle.std.proofs.lemmas.List.Sorted.{IsNonDecreasingBy-from_sort_by_key}
use Rattle.meet_core.specs.declared.left.Left.{Left}
use Rattle.meet_core.proofs.meetings.Meetings.into_left_by_ticket.Goals as goal

pub returns-clause-rises : goal.returns-clause-rises
returns-clause-rises g c =
    IsNonDecreasingBy-from_sort_by_key (λ (x : Left g.row.T.Denot). x.ticket) _ c.sort_unstable_by_key.ensures.sorted (λ a r q k. search rules)
