-- Proof of `push_case`, src/writing.rt. Appends a refusal of one call, and then what another call does.
use Rattle.std.proofs.Common.{◌++◌}
use Rattle.std.specs.Prelude.{codes, decimal}
use Rattle.meet_judge.specs.CallText.{line_number, other_text}
use Rattle.meet_judge.proofs.Lines.{appended_four}
use Rattle.meet_judge.proofs.writing.push_case.Goals as goal

pub returns : goal.returns
returns c =
    appended_four c.args.out.now.items c.push_at.new.out.items c.push_numbered.new.out.items c.extend_from_slice.new.self.items c.push_other.new.out.items
    (codes "refused line " ++ line_number c.args.call) (codes ": item " ++ decimal c.args.item) c.args.was.now (other_text c.args.other c.args.does.now)
    c.in_ok-push_at.ensures c.in_ok-push_numbered.ensures c.in_ok-extend_from_slice.ensures.items c.in_ok-push_other.ensures
