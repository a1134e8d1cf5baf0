-- Proof of `Linked::destroy_empty`, src/linked.rt. Lets an empty line go, also where its items can't be dropped.
use Rattle.std.proofs.Common.{◌∙◌, ◌∷◌, [], ap, sym, refl, inl, inr, None, length, get_or}
use Rattle.std.proofs.lemmas.List.{get_or_append_left, get_or_past, get_or_at}
use Rattle.std.proofs.lemmas.Bool.{cases_lt}
use Rattle.meet_line.proofs.Stored.{all-vacant}
use Rattle.meet_line.proofs.linked.Linked.destroy_empty.Goals as goal

pub loop-slot-init : goal.loop-slot-init
loop-slot-init g c = all-vacant c.self.inside.roll c.self.inside.slots.items c.self.inside.room c.self.invariant (ap (λ v. v.entries) c.self.view_is ∙ c.requires)

pub loop-slot-preserved : goal.loop-slot-preserved
loop-slot-preserved g c k =
    let items = c.pop.new.self.items in
    elim (cases_lt k (length items)) [
      | inl within ↦ sym (get_or_append_left items (c.in-Some.slot ∷ []) None k within) ∙ ap (λ xs. get_or xs k None) (sym c.in-Some.ensures.items) ∙ c.loop-slot.invariant k
      | inr past ↦ get_or_past items k None past
    ]

pub let_go_none-requires : goal.let_go_none-requires
let_go_none-requires g c =
    let items = c.pop.new.self.items in
    sym (get_or_at items c.in-Some.slot [] None (length items) refl) ∙ ap (λ xs. get_or xs (length items) None) (sym c.in-Some.ensures.items) ∙ c.loop-slot.invariant (length items)
