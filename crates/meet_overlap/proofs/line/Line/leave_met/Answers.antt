-- Proof of `leave_met`, src/line.rt. The entry that is met leaves a line that isn't empty.
use Rattle.std.proofs.Common.{◌≡◌, ◌∙◌, ◌-◌, ◌<◌, ℕ, List, min, length, drop, sym, ap, subst, arith}
use Rattle.std.specs.Prelude.{vec_len}
use Rattle.std.proofs.lemmas.List.{length-drop, length-take}
use Rattle.meet_tickets.specs.declared.lines.Entry.{Entry}
use Rattle.meet_tickets.specs.declared.places.End.TheVariants.{Front, Back}
use Rattle.meet_tickets.specs.BySeat.{unmet}
use Rattle.meet_tickets.proofs.Line.Sides.{AllPairs-unmet}
use Rattle.meet_overlap.proofs.LineParts.{drop_more, drop_last}
use Rattle.meet_overlap.proofs.Rising.{Rises}
use Rattle.meet_overlap.proofs.line.Line.leave_met.Goals as goal

pub invariant_of-self : goal.invariant_of-self
invariant_of-self c =
    let some : 0 < length (drop c.self.inside.gone c.self.inside.entries.items) = subst (λ (l : List (Entry ℕ)). 0 < length l) (sym c.self.view_is) c.requires in (
      omega (arith, some, length-drop c.self.inside.gone c.self.inside.entries.items, c.self.invariant.0),
      λ rises. subst Rises (sym (drop_more c.self.inside.gone c.self.inside.entries.items))
          (AllPairs-unmet (λ e f. e.ticket < f.ticket) Front (drop c.self.inside.gone c.self.inside.entries.items) (c.self.invariant.1 rises)),
    )

pub invariant_of-self-in-Back : goal.invariant_of-self-in-Back
invariant_of-self-in-Back c =
    let gone = c.self-in-Back.inside.gone in
    let items = c.self-in-Back.inside.entries.items in
    let some : 0 < length (drop gone items) = subst (λ (l : List (Entry ℕ)). 0 < length l) (sym c.self-in-Back.view_is) c.requires in
    let left : drop gone c.pop-met.new.self.items ≡ unmet Back (drop gone items) = ap (drop gone) c.pop-met.ensures.rest ∙ drop_last gone (vec_len c.self-in-Back.inside.entries) items (omega arith) (omega (arith, some, length-drop gone items)) in
    let left_one : length c.pop-met.new.self.items ≡ min (vec_len c.self-in-Back.inside.entries - 1) (length items) = ap length c.pop-met.ensures.rest ∙ length-take (vec_len c.self-in-Back.inside.entries - 1) items in (
      omega (arith, some, length-drop gone items, left_one, c.self-in-Back.invariant.0),
      λ rises. subst Rises (sym left) (AllPairs-unmet (λ e f. e.ticket < f.ticket) Back (drop gone items) (c.self-in-Back.invariant.1 rises)),
    )

pub returns-in-Front : goal.returns-in-Front
returns-in-Front c =
    c.make_room.ensures ∙ drop_more c.self.inside.gone c.self.inside.entries.items ∙ ap (drop 1) c.self.view_is ∙ ap (λ end. unmet end c.args.self.now) (sym c.in-Front.is)
