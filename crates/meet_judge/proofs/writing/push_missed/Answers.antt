-- Proof of `push_missed`, src/writing.rt. Appends that a call found nobody, and which one waited.
use Rattle.std.proofs.Common.{◌++◌}
use Rattle.std.specs.Prelude.{codes}
use Rattle.meet_judge.specs.CallText.{line_number, waited_text}
use Rattle.meet_judge.proofs.Lines.{appended_three}
use Rattle.meet_judge.proofs.writing.push_missed.Goals as goal

pub returns : goal.returns
returns c =
    appended_three c.args.out.now.items c.push_at.new.out.items c.extend_from_slice.new.self.items c.push_waited.new.out.items
    (codes "refused line " ++ line_number c.args.caller) (codes ": nobody was found") (waited_text c.args.waiting c.args.item)
    c.in_ok-push_at.ensures c.in_ok-extend_from_slice.ensures.items c.in_ok-push_waited.ensures
