-- Proof of `Arena::try_slot`, src/waiting.rt. Offers the item in the slot.
use Rattle.std.proofs.Common.{◌≡◌, ◌≢◌, ◌<◌, ◌+◌, Some, [], add-zero, inl, true, false, refl, sym, ap, ◌∙◌, subst}
use Rattle.meet_exchange.specs.Ways.{HasCome}
use Rattle.meet_exchange.specs.Waits.{more_after}
use Rattle.meet_exchange.proofs.Tries.{come_on, come_posted, come_swapped, come_contended, more_step, within, reached, not_reached}
use Rattle.meet_exchange.proofs.arena.Arena.try_slot.Goals as goal

pub returns-in-Posted-clause-goes : goal.returns-in-Posted-clause-goes
returns-in-Posted-clause-goes g c = λ v a first limit t. let w = c.in-Posted.ensures.answer in (
  t.1,
  0,
  t.2 ∙ ap (more_after limit) (sym (add-zero t.1)),
  (λ above. refl),
  come_posted v a c.args.self.now.slots first limit c.args.seat c.in-Posted.pending c.args.slot t.1 (g.T.Marked.mark_of c.args.item) w.0 t.4 t.3 w.1.0 w.1.1 t.0 w.1.2,
)

pub returns-in-Swapped-clause-goes : goal.returns-in-Swapped-clause-goes
returns-in-Swapped-clause-goes g c = λ v a first limit t. let w = c.in-Swapped.ensures.answer in
    inl (come_swapped v a c.args.self.now.slots first limit c.args.seat c.in-Swapped.seat c.args.slot t.1 (g.T.Marked.mark_of c.args.item) w.0 (g.T.Marked.mark_of c.in-Swapped.other) t.4 w.1.0 t.0 w.1.1)

pub returns-then-is_reached-clause-goes : goal.returns-then-is_reached-clause-goes
returns-then-is_reached-clause-goes g c = λ v a first limit t. let w = c.in-Contended.ensures.answer in
    let h = come_contended v a c.args.self.now.slots first limit c.args.seat c.in-Contended.seat c.args.slot t.1 w.0 c.in-Contended.field-2 t.4 w.1.2 in
    let more : c.less-more.result ≡ more_after limit (t.1 + 1) = c.less-more.ensures ∙ (ap (λ l. more_after l 1) t.2 ∙ more_step limit t.1) in
    (ap g.T.Marked.mark_of w.1.0 ∙ t.0, (c.args.slot, t.1, h.0, inl (h.1, reached limit (t.1 + 1) (sym more ∙ c.if-is_reached.ensures.0 refl), h.2)))

pub returns-else-is_reached-clause-goes : goal.returns-else-is_reached-clause-goes
returns-else-is_reached-clause-goes g c = λ v a first limit t. let w = c.in-Contended.ensures.answer in let n = c.args.self.now.slots in let k = c.args.slot in
    let h = come_contended v a n first limit c.args.seat c.in-Contended.seat k t.1 w.0 c.in-Contended.field-2 t.4 w.1.2 in
    let more : c.less-more.result ≡ more_after limit (t.1 + 1) = c.less-more.ensures ∙ (ap (λ l. more_after l 1) t.2 ∙ more_step limit t.1) in
    let some : more_after limit (t.1 + 1) ≢ Some 0 = λ e. let no : false ≡ true = c.if-is_reached.ensures.1 (more ∙ e) in cc in let f = not_reached limit (t.1 + 1) some in let next = c.slot_after.ensures.next in
    let on = come_on v a n first limit c.in-Contended.seat k t.1 h.0 h.2 h.1 f (subst (λ z. z < n) next c.slot_after.ensures.low) in
    (ap g.T.Marked.mark_of w.1.0 ∙ t.0, t.1 + 1, more, within limit (t.1 + 1) f, subst (λ z. HasCome v a n first limit c.in-Contended.seat z (t.1 + 1) [] []) (sym next) on)
