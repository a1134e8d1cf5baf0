-- Proof of `open_tickets`, src/seats/opened.rt. What a table of seats holds outside the line, as a base names it: the
-- open tickets that were met and those that were cut, each by rising ticket, and the flagged seats, rising.
use Rattle.std.proofs.Common.{rules}
use Rattle.std.proofs.lemmas.List.Sorted.{IsNonDecreasingBy-from_sort_by_key}
use Rattle.meet_tickets.specs.declared.bases.OpenPair.{OpenPair}
use Rattle.meet_tickets.specs.declared.bases.OpenCut.{OpenCut}
use Rattle.meet_core.proofs.seats.opened.open_tickets.Goals as goal

pub returns-clause-pairs_rise : goal.returns-clause-pairs_rise
returns-clause-pairs_rise g c = IsNonDecreasingBy-from_sort_by_key (λ (p : OpenPair). p.ticket) _ c.sort_unstable_by_key.ensures.sorted (λ a r q k. search rules)

pub returns-clause-cut_rises : goal.returns-clause-cut_rises
returns-clause-cut_rises g c = IsNonDecreasingBy-from_sort_by_key (λ (x : OpenCut). x.ticket) _ c.sort_unstable_by_key-2.ensures.sorted (λ a r q k. search rules)
