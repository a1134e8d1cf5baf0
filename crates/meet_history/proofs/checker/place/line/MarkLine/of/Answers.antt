-- Proof of `MarkLine::of`, src/checker/place/line.rt. The line of these entries, whose tickets rise, and which are of
-- one side.
use Rattle.std.proofs.Common.{◌∙◌, ℕ, sym, ap, subst, [], ◌∷◌, ◌++◌, take}
use Rattle.std.proofs.lemmas.List.{take_more}
use Rattle.meet_tickets.specs.declared.lines.Entry.{Entry}
use Rattle.meet_history.specs.Marks.{IsNewest}
use Rattle.meet_history.proofs.Layings.{newest-below, newest-next, alone-before}
use Rattle.meet_history.proofs.checker.place.line.MarkLine.of.Goals as goal

pub push_back-requires-clause-above : goal.push_back-requires-clause-above
push_back-requires-clause-above c =
    rw c.copy.ensures
    (newest-below c.args.entries.now c.loop-entry.entry-index c.entry-item.result c.reserve.new.self.newest c.loop-entry-test.true c.entry-item.is c.requires.rises c.requires.named
    (subst (IsNewest (take c.loop-entry.entry-index c.args.entries.now)) (sym c.reserve.ensures.newest) c.loop-entry.invariant.newest))

pub push_back-requires-clause-alone : goal.push_back-requires-clause-alone
push_back-requires-clause-alone c =
    rw (c.copy.ensures, c.reserve.ensures.entries, c.loop-entry.invariant.entries)
    (alone-before c.reserve.new.self.end c.args.entries.now c.loop-entry.entry-index c.entry-item.result c.loop-entry-test.true c.entry-item.is c.requires.one_side)

pub loop-entry-preserved : goal.loop-entry-preserved
loop-entry-preserved c =
    let before = c.loop-entry.invariant in
    let at = c.loop-entry.entry-index in
    let entries = c.args.entries.now in
    record {
      end = c.push_back.ensures.end ∙ c.reserve.ensures.end ∙ before.end;
      entries = c.push_back.ensures.entries ∙ ap (λ xs. xs ++ c.copy.result ∷ []) (c.reserve.ensures.entries ∙ before.entries)
          ∙ ap (λ x. take at entries ++ x ∷ []) c.copy.ensures
          ∙ sym (take_more entries at c.entry-item.result c.loop-entry-test.true ∙ ap (λ x. take at entries ++ x ∷ []) (sym c.entry-item.is));
      newest = newest-next entries at c.entry-item.result c.push_back.new.self.newest c.loop-entry-test.true c.entry-item.is (c.push_back.ensures.newest ∙ ap (λ (e : Entry ℕ). e.ticket) c.copy.ensures);
    }
