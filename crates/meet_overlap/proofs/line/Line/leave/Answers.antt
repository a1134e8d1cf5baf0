-- Proof of `leave`, src/line.rt. The entry of this ticket leaves, if it is there.
use Rattle.std.proofs.Common.{◌≡◌, ◌==◌, ◌∙◌, ◌<◌, Some, drop, sym, ap, subst, arith}
use Rattle.std.specs.Prelude.{AllPairs}
use Rattle.std.specs.List.{position}
use Rattle.std.proofs.lemmas.List.{length-drop}
use Rattle.std.proofs.lemmas.List.Quantifiers.{position-Some}
use Rattle.meet_tickets.specs.BySeat.{without_first}
use Rattle.meet_tickets.proofs.Line.Sides.{AllPairs-without_first}
use Rattle.meet_overlap.proofs.LineParts.{left_over}
use Rattle.meet_overlap.proofs.Removals.{removed_nowhere}
use Rattle.meet_overlap.proofs.line.Line.leave.Goals as goal

pub invariant_of-self : goal.invariant_of-self
invariant_of-self c =
    let gone = c.self.inside.gone in
    let items = c.self.inside.entries.items in
    let t = c.args.ticket in
    let found : position (λ e. e.ticket == t) (drop gone items) ≡ Some c.in-Some.index = ap (position (λ e. e.ticket == t)) c.self.view_is ∙ (sym c.index_of.ensures ∙ c.in-Some.is) in
    let there = (position-Some (λ e. e.ticket == t) (drop gone items) c.in-Some.index c.remove-left.result found).0 in
    let left : drop gone c.remove-left.new.self.items ≡ without_first (λ e. e.ticket == t) (drop gone items) =
    left_over gone c.in-Some.index t items c.remove-left.new.self.items found c.remove-left.ensures.items in
    (omega (arith, there, length-drop gone items, c.remove-left.ensures.len, c.self.invariant.0), λ rises. subst (AllPairs (λ e f. e.ticket < f.ticket)) (sym left) (AllPairs-without_first (λ e f. e.ticket < f.ticket) t (drop gone items) (c.self.invariant.1 rises)))

pub returns-in-Some : goal.returns-in-Some
returns-in-Some c =
    left_over c.self.inside.gone c.in-Some.index c.args.ticket c.self.inside.entries.items c.remove-left.new.self.items
    (ap (position (λ e. e.ticket == c.args.ticket)) c.self.view_is ∙ (sym c.index_of.ensures ∙ c.in-Some.is)) c.remove-left.ensures.items
    ∙ ap (without_first (λ e. e.ticket == c.args.ticket)) c.self.view_is

pub returns-in_default : goal.returns-in_default
returns-in_default c = (removed_nowhere (λ e. e.ticket == c.args.ticket) c.args.self.now (sym c.index_of.ensures ∙ c.in_default.is)).1
