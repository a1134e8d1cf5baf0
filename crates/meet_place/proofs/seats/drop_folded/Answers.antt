-- Proof of `drop_folded`, src/seats.rt. Drops the receipts for the first `gone` records, and answers how many.
use Rattle.std.proofs.Common.{rules}
use Rattle.std.proofs.lemmas.Fn.{filter_same}
use Rattle.meet_place.proofs.seats.drop_folded.Goals as goal

pub returns-clause-list : goal.returns-clause-list
returns-clause-list g c = filter_same _ _ _ (λ x b f' k. search rules) _ _ c.retain.ensures.filtered
