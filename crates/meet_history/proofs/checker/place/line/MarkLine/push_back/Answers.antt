-- Proof of `MarkLine::push_back`, src/checker/place/line.rt. An entry comes to the line's end.
use Rattle.std.proofs.Common.{◌≤◌, ◌<◌, [], ◌∷◌, arith}
use Rattle.std.proofs.lemmas.List.Elements.{All-nil, All-cons, All-append, All-weaker}
use Rattle.meet_tickets.specs.Meeting.{IsAlone}
use Rattle.meet_tickets.proofs.Line.Counted.{giver-joins}
use Rattle.meet_tickets.proofs.Line.Keeping.{kept-joins}
use Rattle.meet_history.specs.Marks.{met_end, entries_of}
use Rattle.meet_history.proofs.Kept.{one_side-joined}
use Rattle.meet_history.proofs.checker.place.line.MarkLine.push_back.Goals as goal

pub invariant_of-self : goal.invariant_of-self
invariant_of-self c =
    let line = entries_of c.self.inside.line in
    let entry = c.args.entry in
    let above : c.self.inside.newest < entry.ticket = rw (← c.self.view_is) at c.requires.above in
    let alone : IsAlone (met_end c.self.inside.line) line entry.item = rw (← c.self.view_is) at c.requires.alone in
    let newest = c.number-self-inside.result in (
      rw c.push_by.ensures.entries (All-append (λ e. e.ticket ≤ newest) line (entry ∷ [])
          (All-weaker (λ e. e.ticket ≤ c.self.inside.newest) (λ e. e.ticket ≤ newest) (λ e below. omega (arith, below, above, c.number-self-inside.ensures.value)) line c.self.invariant.0)
          (All-cons (λ e. e.ticket ≤ newest) entry [] (omega (arith, c.number-self-inside.ensures.value)) (All-nil (λ e. e.ticket ≤ newest)))),
      omega (arith, c.self.invariant.1, c.one_if_kept-kept.ensures, kept-joins line _ entry c.push_by.ensures.entries),
      one_side-joined (met_end c.self.inside.line) line _ entry c.push_by.ensures.entries c.self.invariant.2 alone,
      omega (arith, c.self.invariant.3, c.one_if_gives-gives.ensures, giver-joins line _ entry c.push_by.ensures.entries),
    )
