-- Proof of `Seated::destroy_empty`, src/seated.rt. Lets an empty line go, also where its items can't be dropped.
use Rattle.std.proofs.Common.{◌≡◌, ◌∙◌, ◌∷◌, ◌++◌, [], ap, sym, refl, inl, inr, None, length, get_or}
use Rattle.std.proofs.lemmas.List.{get_or_append_left, get_or_past, get_or_at, map-append}
use Rattle.std.proofs.lemmas.Bool.{cases_lt}
use Rattle.meet_line.specs.declared.spots.Spot.{Spot}
use Rattle.meet_line.specs.Seated.{slots_of}
use Rattle.meet_line.proofs.Stored.{all-vacant}
use Rattle.meet_line.proofs.seated.Seated.destroy_empty.Given.{Over}
use Rattle.meet_line.proofs.seated.Seated.destroy_empty.Goals.{After-pop}
use Rattle.meet_line.proofs.seated.Seated.destroy_empty.Goals as goal

-- what stood at the places before the last of them was taken
whole : (g : Over) (c : After-pop g) → (s : Spot g.row.T.Denot) → c.loop-spot.spots.items ≡ c.pop.new.self.items ++ s ∷ [] → slots_of c.loop-spot.spots.items ≡ slots_of c.pop.new.self.items ++ s.entry ∷ []
whole g c s items = ap slots_of items ∙ map-append (λ p. p.entry) c.pop.new.self.items (s ∷ [])

pub loop-spot-init : goal.loop-spot-init
loop-spot-init g c = all-vacant _ (slots_of c.self.inside.spots.items) _ c.self.invariant.stored (ap (λ v. v.entries) c.self.view_is ∙ c.requires)

pub loop-spot-preserved : goal.loop-spot-preserved
loop-spot-preserved g c k =
    let slots = slots_of c.pop.new.self.items in
    let all = whole g (goal.at.loop-spot-preserved g c).After-pop c.in-Some.spot c.in-Some.ensures.items in
    elim (cases_lt k (length slots)) [
      | inl within ↦ sym (get_or_append_left slots (c.in-Some.spot.entry ∷ []) None k within) ∙ ap (λ xs. get_or xs k None) (sym all) ∙ c.loop-spot.invariant k
      | inr past ↦ get_or_past slots k None past
    ]

pub let_go_none-requires : goal.let_go_none-requires
let_go_none-requires g c =
    let slots = slots_of c.pop.new.self.items in
    let all = whole g (goal.at.let_go_none-requires g c).After-pop c.in-Some.spot c.in-Some.ensures.items in
    sym (get_or_at slots c.in-Some.spot.entry [] None (length slots) refl) ∙ ap (λ xs. get_or xs (length slots) None) (sym all) ∙ c.loop-spot.invariant (length slots)
