-- What stays true from turn to turn of `push_replies`, src/run.rt.
use Rattle.std.proofs.Common.{◌≡◌, ◌++◌, take}
use Rattle.pool_run.specs.Scripts.{replies_text}
use Rattle.pool_run.proofs.run.push_replies.Given as goal

abbrev pub invariant-loop-reply : goal.invariant-loop-reply
invariant-loop-reply l = l.out.items ≡ l.fn.out.items ++ replies_text (take l.reply-index l.replies)
