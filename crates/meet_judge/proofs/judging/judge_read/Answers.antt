-- Proof of `judge_read`, src/judging.rt. Judges calls, and writes the verdict.
use Rattle.std.proofs.Common.{subst, length, List}
use Rattle.std.specs.Io.KnownBytes.{Appends}
use Rattle.meet_tickets.specs.declared.records.Deed.{Deed}
use Rattle.meet_tickets.specs.declared.records.Record.{Record}
use Rattle.meet_judge.specs.CallText.{refused_text}
use Rattle.meet_judge.specs.Judging.{ExplainsAt, IsReasonAt}
use Rattle.meet_judge.proofs.judging.judge_read.Goals as goal

pub returns-in-Ok-write_refused : goal.returns-in-Ok-write_refused
returns-in-Ok-write_refused g c =
    let queue = c.args.calls.now.queue in
    let calls = c.args.calls.now.list.items in
    let no : (history : List (Record Deed)) → ExplainsAt queue calls history → ⊥ = rw c.in-Err-judged.is at c.in-Ok.ensures.no in
    let is : IsReasonAt queue calls c.in-Err-judged.reason = rw c.in-Err-judged.is at c.in-Ok.ensures.reason in
    λ text read. record {
      queue = queue;
      calls = calls;
      read = read;
      none = no;
      reason = c.in-Err-judged.reason;
      is = is;
      written = subst
          (λ calls. Appends (g.W.Write.contents c.args.writer.now) (g.W.Write.contents c.write_refused.new.writer) (refused_text c.in-Err-judged.reason (length calls)))
          c.as_slice-in-Err-judged.ensures c.in-Ok-write_refused.ensures;
    }
