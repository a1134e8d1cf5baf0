-- Proof of `one_thread_is_recorded`, src/one_thread/laws.rt. What one thread's calls write, on a place of any kind, is
-- legal and leaves the place as they do.
use Rattle.std.proofs.Common.{◌<◌, ◌≤◌, arith}
use Rattle.meet_history.proofs.Recorded.{is_recorded}
use Rattle.meet_history.proofs.one_thread.laws.one_thread_is_recorded.Goals as goal

pub returns : goal.returns
returns c = λ setup calls limits. let positive : 0 < setup.first = (let from : 1 ≤ setup.first = limits.first.0 in omega arith) in is_recorded setup calls positive
