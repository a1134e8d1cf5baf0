-- Proof of `push_call`, src/writing.rt. Appends a call's line.
use Rattle.std.proofs.Common.{◌∙◌, ap, ◌++◌}
use Rattle.std.specs.Prelude.{codes, decimal}
use Rattle.meet_judge.specs.CallText.{verb_text, seen_text, end_text, told_text}
use Rattle.meet_judge.proofs.Lines.{appended}
use Rattle.meet_judge.proofs.writing.push_call.Goals as goal

pub returns : goal.returns
returns c =
    appended c.args.out.now.items c.push_number.new.out.items c.extend_from_slice.new.self.items c.push_number-2.new.out.items c.extend_from_slice-2.new.self.items
    c.push_seen.new.out.items c.push_end.new.out.items c.push_verb.new.out.items c.push_told.new.out.items c.extend_from_slice-3.new.self.items
    (decimal c.args.call.now.seat) (codes " ") (decimal c.args.call.now.begin) (codes " ") (seen_text c.args.call.now.waits) (end_text c.args.call.now.returned)
    (verb_text c.args.order c.args.call.now.verb) (told_text c.args.call.now.verb c.args.call.now.returned) (codes "\n")
    (c.in_ok-push_number.ensures ∙ ap (λ n. c.args.out.now.items ++ decimal n) c.number.ensures.value) c.in_ok-extend_from_slice.ensures.items c.in_ok-push_number-2.ensures
    c.in_ok-extend_from_slice-2.ensures.items c.in_ok-push_seen.ensures c.in_ok-push_end.ensures c.in_ok-push_verb.ensures c.in_ok-push_told.ensures c.in_ok-extend_from_slice-3.ensures.items
