-- Proof of `Arena::wait_on`, src/waiting.rt. Looks for an answer, unless the offer has stood for long enough.
use Rattle.std.proofs.Common.{◌≡◌, ◌≢◌, ◌<◌, ◌+◌, Some, inr, false, true, ap, subst, ◌∙◌, arith}
use Rattle.meet_exchange.specs.Ways.{patience}
use Rattle.meet_exchange.specs.Waits.{more_after}
use Rattle.meet_exchange.proofs.Tries.{posted_got, posted_still, not_over, may_more, more_step, not_reached}
use Rattle.meet_exchange.proofs.arena.Arena.wait_on.Goals as goal

pub returns-then-is_reached-clause-goes : goal.returns-then-is_reached-clause-goes
returns-then-is_reached-clause-goes g c = λ v a first limit t. c.time_out.ensures.goes v a first c.args.turns limit t

pub move_on-requires-clause-limit : goal.move_on-requires-clause-limit
move_on-requires-clause-limit g c = λ e. let no : false ≡ true = c.if-is_reached.ensures.1 e in cc

pub returns-then-turns-ge-PATIENCE-clause-goes : goal.returns-then-turns-ge-PATIENCE-clause-goes
returns-then-turns-ge-PATIENCE-clause-goes g c = λ v a first limit t. c.move_on.ensures.goes v a first c.args.turns limit (omega arith) t

pub returns-in-Got-clause-goes : goal.returns-in-Got-clause-goes
returns-in-Got-clause-goes g c = λ v a first limit t. let p = c.args.pending in let n = c.args.self.now.slots in
    let few : 0 < p.slot → t.1 < patience = λ above. let same : c.args.turns ≡ t.1 = t.3 above in omega (arith, c.else-slot-gt0.either) in
    let some : more_after limit (t.0 + t.1) ≢ Some 0 = λ e. let no : false ≡ true = c.if-is_reached.ensures.1 (t.2 ∙ e) in cc in
    let still = not_over limit p.slot t.0 t.1 (not_reached limit (t.0 + t.1) some) few in
    let got = c.in-Got.ensures in
    inr (posted_got v a n first limit p c.in-Got.seat t.0 t.1 (g.T.Marked.mark_of c.in-Got.other) got.0 t.4 still got.1 got.2)

pub returns-in-NotYet-clause-goes : goal.returns-in-NotYet-clause-goes
returns-in-NotYet-clause-goes g c = λ v a first limit t. let p = c.args.pending in let n = c.args.self.now.slots in let yet = c.in-NotYet.ensures in
    let few : 0 < p.slot → t.1 < patience = λ above. let same : c.args.turns ≡ t.1 = t.3 above in omega (arith, c.else-slot-gt0.either) in
    let some : more_after limit (t.0 + t.1) ≢ Some 0 = λ e. let no : false ≡ true = c.if-is_reached.ensures.1 (t.2 ∙ e) in cc in
    let may = may_more limit p.slot t.0 t.1 (not_reached limit (t.0 + t.1) some) few in let e : (t.0 + t.1) + 1 ≡ t.0 + (t.1 + 1) = omega arith in (
      t.0,
      t.1 + 1,
      c.less.ensures ∙ (ap (λ l. more_after l 1) t.2 ∙ (more_step limit (t.0 + t.1) ∙ ap (more_after limit) e)),
      (λ above. let here : 0 < p.slot = subst (λ k. 0 < k) yet.0.0 above in let same : c.args.turns ≡ t.1 = t.3 here in let low : t.1 < patience = few here in omega (arith, c.saturating_add.ensures)),
      posted_still v a n first limit p c.in-NotYet.pending t.0 t.1 yet.1 t.4 may yet.0 yet.2 yet.3,
    )
