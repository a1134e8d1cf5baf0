-- Proof of `Linked::list`, src/linked.rt. The entries in order of arrival, lent.
use Rattle.std.proofs.Common.{◌≡◌, ◌<◌, ◌∙◌, ◌∷◌, [], ap, sym, subst, None, Some, length, map, arith, rules, vec_len}
use Rattle.std.specs.Vec.{vec_capacity}
use Rattle.std.proofs.lemmas.List.{get_or_read, map-append}
use Rattle.meet_line.specs.Stored.{slot_at}
use Rattle.meet_line.proofs.Stored.{HasListed, listed-stands, listed-more, listed-end, within-slots, held-at}
use Rattle.meet_line.proofs.linked.Linked.list.Goals.{in-Some, in-Some-index, in_default-index, in_default-at}
use Rattle.meet_line.proofs.linked.Linked.list.Goals as goal

pub index-requires : goal.index-requires
index-requires g c =
    let slots = c.self.inside.slots.items in
    let has = subst (λ o. HasListed slots c.self.inside.roll.places (map (λ e. e.now) c.loop-step.list.items) o c.loop-step._step) c.in-Some.is c.loop-step.invariant.0 in
    let at = listed-stands slots c.self.inside.roll.places _ c.in-Some.key c.loop-step._step has in
    omega (arith, within-slots c.self.inside.roll slots c.self.inside.room c.self.invariant c.in-Some.key at, c.self.inside.slots.ok.0)

pub loop-step-preserved : goal.loop-step-preserved
loop-step-preserved g c =
    let slots = c.self.inside.slots.items in
    let roll = c.self.inside.roll in
    let more : c.loop-step._step < length roll.places = omega (arith, c.loop-step-test.true, c.len-step-end.ensures) in
    elim c.match-at.branch [
      | in-Some w ↦
          let has = subst (λ o. HasListed slots roll.places (map (λ e. e.now) c.loop-step.list.items) o c.loop-step._step) w.in-Some.is c.loop-step.invariant.0 in
          let at = listed-stands slots roll.places _ w.in-Some.key c.loop-step._step has in
          let here = held-at roll slots c.self.inside.room c.self.invariant w.in-Some.key at in
          let within = within-slots roll slots c.self.inside.room c.self.invariant w.in-Some.key at in
          let read : w.index.result.now ≡ slot_at slots w.in-Some.key = get_or_read slots w.in-Some.key w.index.result.now within w.index.ensures None in
          elim w.match-index.branch [
            | in-Some-index w' ↦
                let slot : slot_at slots w.in-Some.key ≡ Some w'.in-Some-index.entry = sym read ∙ w'.in-Some-index.is in
                let list = w.list-is ∙ w'.list-is in
                let items = ap (λ v. map (λ e. e.now) v.items) list ∙ ap (map (λ e. e.now)) w'.push_reserved.ensures.items ∙ map-append (λ e. e.now) c.loop-step.list.items (_ ∷ []) in (
                  listed-more slots roll.places _ _ w.in-Some.key c.loop-step._step c.match-at.at w'.in-Some-index.entry slot items (λ front place rest all own. w.at-is ∙ w.after-at.ensures front place rest all own) has,
                  omega (arith, c.loop-step.invariant.1, w'.push_reserved.ensures.len, ap vec_len list),
                  omega (arith, c.loop-step.invariant.2, w'.push_reserved.ensures.capacity, ap vec_capacity list),
                )
            | in_default-index w' ↦
                let none : w.index.result.now ≡ None = search rules in
                let clash : Some here.0 ≡ None = sym here.1 ∙ sym read ∙ none in
                absurd (cc)
          ]
      | in_default-at w ↦
          let none : c.loop-step.at ≡ None = search rules in
          absurd (listed-end slots roll.places _ c.loop-step._step more (subst (λ o. HasListed slots roll.places (map (λ e. e.now) c.loop-step.list.items) o c.loop-step._step) none c.loop-step.invariant.0))
    ]
