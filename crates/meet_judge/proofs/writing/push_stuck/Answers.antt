-- Proof of `push_stuck`, src/writing.rt. Appends how far a search came among so many calls.
use Rattle.std.proofs.Common.{◌++◌}
use Rattle.std.specs.Prelude.{codes, decimal}
use Rattle.meet_judge.specs.CallText.{stuck_line}
use Rattle.meet_judge.proofs.Lines.{appended_three}
use Rattle.meet_judge.proofs.writing.push_stuck.Goals as goal

pub returns : goal.returns
returns c =
    appended_three c.args.out.now.items c.push_line.new.out.items c.push_numbered.new.out.items c.push_numbered-2.new.out.items
    (stuck_line c.args.stuck.call) (codes ", explained " ++ decimal c.args.stuck.explained) (codes " of " ++ decimal c.args.count)
    c.in_ok-push_line.ensures c.in_ok-push_numbered.ensures c.in_ok-push_numbered-2.ensures
