-- Proof of `missing_seats`, src/missing.rt. The numbers of those of so many seats that aren't among these, in rising
-- order.
use Rattle.std.proofs.Common.{◌≡◌, ◌∙◌, ◌++◌, [], ◌∷◌, ap, sym, arith, rules}
use Rattle.std.specs.Prelude.{not}
use Rattle.meet_place.specs.Backs.{is_back}
use Rattle.meet_place.proofs.Numbered.{passes, falls}
use Rattle.meet_place.proofs.missing.missing_seats.Goals as goal

pub loop-number-preserved-then-is_back : goal.loop-number-preserved-then-is_back
loop-number-preserved-then-is_back g c = record {
  within = omega arith;
  list = falls (λ number. not (is_back c.args.seats.now number)) c.loop-number.number c.loop-number.list.items
      c.loop-number.invariant.list (ap not (sym c.is_back.ensures ∙ c.if-is_back.true));
}

pub loop-number-preserved : goal.loop-number-preserved
loop-number-preserved g c =
    let pushed : c.push.new.self.items ≡ c.loop-number.list.items ++ c.loop-number.number ∷ [] = search (rules, arith) in
    record {
      within = omega arith;
      list = pushed ∙ passes (λ number. not (is_back c.args.seats.now number)) c.loop-number.number c.loop-number.list.items
          c.loop-number.invariant.list (ap not (sym c.is_back.ensures ∙ c.if-is_back.false));
    }
