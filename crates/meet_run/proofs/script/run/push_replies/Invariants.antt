-- What stays true from turn to turn of `push_replies`, src/script/run.rt.
use Rattle.std.proofs.Common.{◌≡◌, ◌++◌, take}
use Rattle.meet_run.specs.Scripts.Script.{replies_text}
use Rattle.meet_run.proofs.script.run.push_replies.Given as goal

-- the lines of the replies so far are there
abbrev pub invariant-loop-reply : goal.invariant-loop-reply
invariant-loop-reply l = l.out.items ≡ l.fn.out.items ++ replies_text (take l.reply-index l.replies)
