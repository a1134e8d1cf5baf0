-- What stays true from turn to turn of `push_polls`, src/one_thread/stepper/drains.rt.
use Rattle.std.proofs.Common.{◌≡◌, ◌+◌, ◌++◌, map, take, vec_len, vec_capacity}
use Rattle.meet_history.specs.Stepping.{reply_of, back_of}
use Rattle.meet_history.proofs.one_thread.stepper.drains.push_polls.Given as goal

-- the replies of the polls so far were put behind the others
abbrev pub invariant-loop-one : goal.invariant-loop-one
invariant-loop-one l = record {
  said : l.replies.items ≡ l.fn.replies.items ++ map (λ one. reply_of l.fn.seat one.1 (back_of one.0)) (take l.one-index l.got);
  long : vec_len l.replies ≡ vec_len l.fn.replies + l.one-index;
  capacity : vec_capacity l.replies ≡ vec_capacity l.fn.replies;
}
