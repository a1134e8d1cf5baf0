-- Proof of `told`, src/whole.rt. What a history tells of a drive of so many givers and takers of so many items each,
-- whose takers counted so.
use Rattle.std.proofs.Common.{◌≡◌, ◌++◌, refl, subst, rules, arith}
use Rattle.meet_tickets.specs.Bases.{Based, IsLegalOn, IsWellFormed}
use Rattle.meet_tickets.specs.Fates.{opening}
use Rattle.meet_history.specs.Standings.{standing_on}
use Rattle.meet_laws.specs.Tally.{tally_in}
use Rattle.meet_drive.specs.Driven.{fair}
use Rattle.meet_drive.proofs.whole.told.Goals as goal

pub returns-in-Ok : goal.returns-in-Ok
returns-in-Ok c =
    let none = c.empty-first.ensures in
    let legal = c.in-Ok.ensures.legal in
    let well : IsWellFormed fair c.empty-first.result = search rules in
    let met = c.delivered.ensures.tally fair well legal in
    record {
      driven = record {
        history = c.args.records.now;
        legal = subst (λ (b : Based). IsLegalOn fair b c.args.records.now) none legal;
        records = refl;
        pairs = subst (λ (b : Based). c.delivered.result ≡ (tally_in (opening b ++ c.args.records.now)).delivered) none met;
        standing = subst (λ (b : Based). c.in-Ok.standing ≡ standing_on b c.args.records.now) none c.in-Ok.ensures.standing;
        items = c.count_got-items.ensures;
        sum = search rules;
        all = search (rules, arith);
        whole = search (rules, arith);
      };
      all = refl;
    }
