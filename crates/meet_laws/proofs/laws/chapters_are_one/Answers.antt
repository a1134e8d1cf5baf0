-- Proof of `chapters_are_one`, src/laws.rt. Chapters that follow one another, each on a base that stands for those
-- before it, are one legal history on the first one's base.
use Rattle.meet_laws.proofs.Chaptered.{are_one}
use Rattle.meet_laws.proofs.laws.chapters_are_one.Goals as goal

pub returns : goal.returns
returns c = are_one
