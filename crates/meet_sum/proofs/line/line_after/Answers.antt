-- Proof of `line_after`, src/line.rt. How many entries stand in the line behind one record more, which is legal there.
use Rattle.std.proofs.Common.{◌-◌, ◌<◌, ◌≤◌, sym, ap, ◌∙◌, arith}
use Rattle.meet_tickets.specs.declared.records.Cause.{Cause}
use Rattle.meet_tickets.specs.declared.records.Deed.TheVariants.{Withdrawn}
use Rattle.meet_sum.proofs.LineLemmas.{after-cancelled, after-expired, after-cut, after-flag}
use Rattle.meet_sum.proofs.line.line_after.Goals as goal

pub returns-in-Cancelled-clause-after : goal.returns-in-Cancelled-clause-after
returns-in-Cancelled-clause-after c = λ k m is fits numbered.
    c.saturating_sub-in-Cancelled.ensures ∙ ap (λ n. n - 1) is
    ∙ sym (after-cancelled k m c.args.entry.now fits (c.in-Withdrawn.is ∙ ap (λ (x : Cause). Withdrawn x) c.in-Cancelled.is))

pub returns-in-Expired-clause-after : goal.returns-in-Expired-clause-after
returns-in-Expired-clause-after c = λ k m is fits numbered.
    c.saturating_sub-in-Expired.ensures ∙ ap (λ n. n - 1) is
    ∙ sym (after-expired k m c.args.entry.now fits (c.in-Withdrawn.is ∙ ap (λ (x : Cause). Withdrawn x) c.in-Expired.is))

pub returns-then-number-gt0-clause-after : goal.returns-then-number-gt0-clause-after
returns-then-number-gt0-clause-after c = λ k m is fits numbered.
    let above : 0 < c.args.entry.now.ticket = omega (arith, c.if-number-gt0.true, c.number.ensures.value) in
    c.saturating_sub-then-number-gt0.ensures ∙ ap (λ n. n - 1) is
    ∙ sym (after-cut k m c.args.entry.now fits c.in-Interrupt.field-0 c.in-Interrupt.is above)

pub returns-else-number-gt0-clause-after : goal.returns-else-number-gt0-clause-after
returns-else-number-gt0-clause-after c = λ k m is fits numbered.
    let none : c.args.entry.now.ticket ≤ 0 = omega (arith, c.if-number-gt0.false, c.number.ensures.value) in
    is ∙ sym (after-flag k m c.args.entry.now fits c.in-Interrupt.field-0 c.in-Interrupt.is none numbered)
