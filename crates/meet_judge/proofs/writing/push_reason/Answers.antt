-- Proof of `push_reason`, src/writing.rt. Appends why no history explains so many calls.
use Rattle.std.proofs.Common.{◌++◌, ◌∙◌, ap, sym}
use Rattle.std.specs.Prelude.{codes}
use Rattle.meet_judge.specs.CallText.{line_number, put_text, reason_text}
use Rattle.meet_judge.proofs.Lines.{appended_three}
use Rattle.meet_judge.proofs.writing.push_reason.Goals as goal

pub returns-in_ok-push_put-in-Overlooked : goal.returns-in_ok-push_put-in-Overlooked
returns-in_ok-push_put-in-Overlooked c =
    appended_three c.args.out.now.items c.push_at.new.out.items c.extend_from_slice.new.self.items c.push_put-in-Overlooked.new.out.items
    (codes "refused line " ++ line_number c.in-Overlooked.taker) (codes ": nothing was found") (put_text c.in-Overlooked.giver c.in-Overlooked.item)
    c.in_ok-push_at-in-Overlooked.ensures c.in_ok-extend_from_slice-in-Overlooked.ensures.items c.in_ok-push_put-in-Overlooked.ensures
    ∙ ap (λ reason. c.args.out.now.items ++ reason_text reason c.args.count) (sym c.in-Overlooked.is)
