-- Proof of `rechain`, src/roll.rt. The nodes of a line join the chains of a table that is empty, in order of arrival.
use Rattle.std.proofs.Common.{◌≡◌, ◌<◌, ◌∙◌, ap, subst, sym, arith, rules, length, None, Some}
use Rattle.slab.specs.Slab.{get}
use Rattle.meet_line.specs.Nodes.{links}
use Rattle.meet_line.specs.Rolled.{keys_of}
use Rattle.meet_line.proofs.Runs.{run-first}
use Rattle.meet_line.proofs.Standing.{some-from_there}
use Rattle.meet_line.proofs.Rechained.{HasChained, chained-none, chained-more, chained-all, chained-end, next-there}
use Rattle.meet_line.proofs.roll.rechain.Goals.{in-Some, in_default}
use Rattle.meet_line.proofs.roll.rechain.Goals as goal

pub loop-step-init : goal.loop-step-init
loop-step-init c =
    let keys = keys_of c.args.nodes.now c.args.first in
    chained-none c.args.nodes.now c.args.table.now.items keys c.args.first c.requires.empty (run-first (links (λ n. n.after) c.args.nodes.now c.args.first) None keys None c.requires.line.onward)

pub chain_next-at-requires-clause-there : goal.chain_next-at-requires-clause-there
chain_next-at-requires-clause-there c =
    let keys = keys_of c.args.nodes.now c.args.first in
    let m = length c.args.table.now.items in
    let has : HasChained c.args.nodes.now c.loop-step.nodes c.loop-step.table.items m keys (Some c.in-Some.key) c.loop-step._step = subst (λ o. HasChained c.args.nodes.now c.loop-step.nodes c.loop-step.table.items m keys o c.loop-step._step) (sym c.key.ensures ∙ c.in-Some.is) c.loop-step.invariant in
    some-from_there (get c.loop-step.nodes c.in-Some.key) (next-there c.args.nodes.now c.loop-step.nodes c.args.first c.loop-step.table.items m keys c.in-Some.key c.loop-step._step c.requires.line has)

pub loop-step-preserved : goal.loop-step-preserved
loop-step-preserved c =
    let keys = keys_of c.args.nodes.now c.args.first in
    let m = length c.args.table.now.items in
    elim c.match-key.branch [
      | in-Some w ↦
          let has : HasChained c.args.nodes.now c.loop-step.nodes c.loop-step.table.items m keys (Some w.in-Some.key) c.loop-step._step = subst (λ o. HasChained c.args.nodes.now c.loop-step.nodes c.loop-step.table.items m keys o c.loop-step._step) (sym c.key.ensures ∙ w.in-Some.is) c.loop-step.invariant in
          chained-more c.args.nodes.now c.loop-step.nodes c.match-key.nodes c.args.first c.loop-step.table.items c.match-key.table.items m keys w.in-Some.key c.loop-step._step c.match-key.at c.requires.some c.requires.line has (w.nodes-is ∙ w.chain_next-at.ensures.nodes) (ap (λ v. v.items) w.table-is ∙ w.chain_next-at.ensures.table) (w.at-is ∙ w.chain_next-at.ensures.next)
      | in_default w ↦
          let none : c.loop-step.at ≡ None = search rules in
          let has : HasChained c.args.nodes.now c.loop-step.nodes c.loop-step.table.items m keys None c.loop-step._step = subst (λ o. HasChained c.args.nodes.now c.loop-step.nodes c.loop-step.table.items m keys o c.loop-step._step) none c.loop-step.invariant in
          let more : c.loop-step._step < length keys = omega (arith, c.loop-step-test.true, c.len-step-end.ensures, c.requires.line.counted) in
          absurd (chained-end c.args.nodes.now c.loop-step.nodes c.loop-step.table.items m keys c.loop-step._step more has)
    ]

pub returns-clause-chained : goal.returns-clause-chained
returns-clause-chained c =
    let keys = keys_of c.args.nodes.now c.args.first in
    chained-all c.args.nodes.now c.loop-step.nodes c.loop-step.table.items (length c.args.table.now.items) keys c.loop-step.at c.loop-step._step (omega (arith, c.loop-step-test.false, c.len-step-end.ensures, c.requires.line.counted)) c.loop-step.invariant
