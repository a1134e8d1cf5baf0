-- Proof of `Seated::list`, src/seated.rt. The nodes in order of arrival, borrowed. Fails only if an allocation fails.
use Rattle.std.proofs.Common.{◌≡◌, ◌+◌, ◌<◌, ◌∙◌, ◌∷◌, ◌++◌, [], ap, sym, subst, None, Some, length, map, option_map, arith, rules, vec_len}
use Rattle.std.specs.Vec.{vec_capacity}
use Rattle.std.proofs.lemmas.List.{map-append}
use Rattle.meet_line.proofs.Walking.{Walked, walked-none, walked-sits, walked-more, walked-end}
use Rattle.meet_line.proofs.seated.Seated.list.Goals.{in-Some, in-Some-node_at, in_default-node_at, in_default-at}
use Rattle.meet_line.proofs.seated.Seated.list.Goals as goal

pub loop-step-init : goal.loop-step-init
loop-step-init g c = (
  walked-none c.args.self.now.entries _ c.first_seat-at.ensures,
  ap (map (λ e. e.now)) c.in-Ok.ensures.items,
  omega (arith, c.in-Ok.ensures.len),
  omega (arith, c.in-Ok.ensures.capacity, c.len.ensures.count),
)

pub loop-step-preserved : goal.loop-step-preserved
loop-step-preserved g c =
    let line = c.args.self.now.entries in
    let step = c.loop-step._step in
    let inv = c.loop-step.invariant in
    let before : step < length line = omega (arith, c.loop-step-test.true, c.len-step-end.ensures.count) in
    elim c.match-at.branch [
      | in-Some w ↦
          let walked = subst (λ o. (v : Walked line o step) × (map (λ e. e.now) c.loop-step.list.items ≡ v.done)) w.in-Some.is (inv.0, inv.1) in
          let at = walked-sits line w.in-Some.key step walked.0 in
          let on = walked-more line w.in-Some.key step w.seat_after-at.result walked.0 w.seat_after-at.ensures in
          let here = w.node_at.ensures at.front at.entry at.rest at.all at.own in
          elim w.match-node_at.branch [
            | in-Some-node_at w' ↦
                let both : Some w'.in-Some-node_at.entry.now ≡ Some at.entry = sym (ap (option_map (λ e. e.now)) w'.in-Some-node_at.is) ∙ here in
                let same : w'.in-Some-node_at.entry.now ≡ at.entry = cc in
                let list = w.list-is ∙ w'.list-is in
                let items : map (λ e. e.now) c.match-at.list.items ≡ on.0.done = ap (λ v. map (λ e. e.now) v.items) list ∙ ap (map (λ e. e.now)) w'.push_reserved.ensures.items ∙ map-append (λ e. e.now) c.loop-step.list.items (_ ∷ []) ∙ ap (λ es. es ++ w'.in-Some-node_at.entry.now ∷ []) walked.1 ∙ ap (λ e. walked.0.done ++ e ∷ []) same ∙ sym on.1 in
                let out = subst (λ o. (v : Walked line o (step + 1)) × (map (λ e. e.now) c.match-at.list.items ≡ v.done)) (sym w.at-is) (on.0, items) in (
                  out.0,
                  out.1,
                  omega (arith, inv.2, w'.push_reserved.ensures.len, ap vec_len list),
                  omega (arith, inv.3, w'.push_reserved.ensures.capacity, ap vec_capacity list),
                )
            | in_default-node_at w' ↦
                let none : w.node_at.result ≡ None = search rules in
                let clash : None ≡ Some at.entry = sym (ap (option_map (λ e. e.now)) none) ∙ here in
                absurd (cc)
          ]
      | in_default-at w ↦
          let none : c.loop-step.at ≡ None = search rules in
          let walked = subst (λ o. Walked line o step) none inv.0 in
          absurd (omega (arith, before, walked.steps, ap length (walked-end line step walked)))
    ]
