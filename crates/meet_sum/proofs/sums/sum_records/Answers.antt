-- Proof of `sum_records`, src/sums.rt. The sums of a base and the records since.
use Rattle.std.proofs.Common.{◌+◌, ◌∙◌, sym, ap, map, length, ◌++◌}
use Rattle.meet_tickets.specs.Fates.{opening}
use Rattle.meet_sum.specs.FatesCounted.{numbers_of}
use Rattle.meet_sum.specs.Stories.{fate_told}
use Rattle.meet_sum.proofs.StoryLemmas.{fates-told}
use Rattle.meet_sum.proofs.SumLemmas.{wait-on, seats-on}
use Rattle.meet_sum.proofs.sums.sum_records.Goals as goal

pub returns-clause-sums : goal.returns-clause-sums
returns-clause-sums c =
    let b = c.args.base.now in
    let records = c.args.records.now in
    let opened = c.len-opened.result in
    let told = c.in_ok-stories.ensures.told in
    let first = c.as_slice.ensures.value ∙ c.in-Ok.ensures in
    let many = c.len-opened.ensures ∙ sym c.as_slice.ensures.len ∙ ap length first in
    let stories = c.as_slice-3.ensures.value ∙ told.2 in
    let seats = c.add_up-wait.ensures.seats c.as_slice-2.result.now records (c.in-Ok-seats_in.ensures.told opened (opened + length records)) in
    record {
      tickets = told.0;
      requested = told.1;
      deeds = c.count_deeds.ensures;
      fates = c.add_up-wait.ensures.fates ∙ ap (λ ss. numbers_of (map fate_told ss)) stories ∙ fates-told (opening b ++ records) told.0;
      line = c.longest_line.ensures;
      wait = wait-on b records opened _ many told.0 stories c.add_up-wait.result.1 c.add_up-wait.ensures.wait;
      seats = seats-on b records opened _ many told.0 stories c.as_slice-2.result.now c.add_up-wait.new.seats.items (c.as_slice-2.ensures.value ∙ c.in-Ok.ensures) seats;
    }
