-- Proof of `Chronicle::laws`, src/tally.rt. Where the items are that were given, by number.
use Rattle.std.proofs.Common.{◌≡◌, ◌++◌, sym, subst}
use Rattle.meet_tickets.specs.Bases.{IsLegalOn}
use Rattle.meet_tickets.specs.Fates.{opening}
use Rattle.meet_core.specs.LeftTold.{AreLeftOn}
use Rattle.meet_laws.specs.Tally.{tally_in}
use Rattle.meet_sync.proofs.closing.Chronicle.laws.Goals as goal

pub returns-clause-tally : goal.returns-clause-tally
returns-clause-tally g c = λ kind mark lists is.
    let base = c.args.self.now.base in
    let records = c.as_slice.ensures.value in
    let left = c.as_slice-2.ensures.value in
    let legal = subst (IsLegalOn kind base) (sym records) is.chapter.legal in
    let items = subst (λ rs. AreLeftOn mark base rs c.as_slice-2.result.now) (sym records) (subst (AreLeftOn mark base c.args.self.now.records.items) (sym left) is.left) in
    subst (λ rs. c.reckon.result ≡ tally_in (opening base ++ rs)) records (c.reckon.ensures.tally kind mark is.chapter.well_formed legal items)
