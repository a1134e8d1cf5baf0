-- Proof of `bases_are_one`, src/laws.rt. A place has one base: two well-formed ones of as many records, which stand for
-- the same, are one; so that of no records where nothing happened is empty.
use Rattle.meet_tickets.proofs.OnBases.Unique.{one_base, one_empty}
use Rattle.meet_tickets.proofs.laws.bases_are_one.Goals as goal

pub returns-clause-one : goal.returns-clause-one
returns-clause-one c = one_base

pub returns-clause-empty : goal.returns-clause-empty
returns-clause-empty c = one_empty
