-- Proof of `ends_otherwise`, src/misled.rt. Whether a call whose ticket was met or cut can't end as it did.
use Rattle.std.proofs.Common.{◌≡◌, ◌∙◌, ap, sym, subst, Some, not}
use Rattle.std.proofs.lemmas.Bool.{false≢true}
use Rattle.meet_overlap.specs.Calls.{Tells}
use Rattle.meet_overlap.proofs.Answering.{ending_any}
use Rattle.meet_overlap.proofs.misled.ends_otherwise.Goals as goal

pub returns-in-Some-clause-misled : goal.returns-in-Some-clause-misled
returns-in-Some-clause-misled c =
    λ no other d made tells.
    let settled = c.is_settled_by.ensures c.if-not-is_settled_by.false in
    let same : Some c.in-Some.deed ≡ Some d = sym c.in-Some.is ∙ c.ends.ensures ∙ ending_any c.args.ticket c.args.hold.now c.args.call.now.verb c.args.line.now other settled ∙ made in
    let one : c.in-Some.deed ≡ d = cc in
    let yes = c.tells.ensures.1 (subst (Tells c.args.call.now) (sym one) tells) in
    false≢true (ap not (sym yes) ∙ no)
