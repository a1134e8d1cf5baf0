-- Proof of `legal_histories_are_made`, src/one_thread/laws.rt.
use Rattle.std.proofs.Common.{arith}
use Rattle.meet_tickets.proofs.Tellings.Histories.{tellings_are_one}
use Rattle.meet_history.specs.OneThread.{start}
use Rattle.meet_history.proofs.Called.{all_called, all_served}
use Rattle.meet_history.proofs.one_thread.laws.legal_histories_are_made.Goals as goal

pub returns : goal.returns
returns c = record {
  made = λ setup history legal numbered room.
      all_called setup history 0 (start setup) numbered (omega (arith, room))
      ((tellings_are_one setup.kind history).legal.0 legal);
  served = λ setup history. all_served setup.kind.order history;
}
