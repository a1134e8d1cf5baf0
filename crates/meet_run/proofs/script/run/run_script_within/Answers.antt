-- Proof of `run_script_within`, src/script/run.rt. Runs the script that this reader gives, and writes its replies: the
-- first line names the place, each other line is a call.
use Rattle.std.proofs.Common.{arith}
use Rattle.meet_run.specs.Scripts.Script.{fault_of, text_before, output_of}
use Rattle.meet_run.proofs.Texts.LineLemmas.{uses-more, uses-fewer}
use Rattle.meet_run.proofs.Scripts.Ran.{runs-behind, runs-faulty, runs-lineless, follows, bad_line-ends}
use Rattle.meet_run.proofs.script.run.run_script_within.Goals as goal

pub returns-in-Read-clause-script : goal.returns-in-Read-clause-script
returns-in-Read-clause-script g c =
    runs-behind c.in-Read.setup (g.R.Read.remaining c.args.reader.now) (g.R.Read.remaining c.next_setup.new.reader) c.run_calls.result (g.W.Write.contents c.args.writer.now) (g.W.Write.contents c.run_calls.new.writer) c.in-Read.ensures.next.0 c.run_calls.ensures.script

pub returns-in-Read-clause-uses : goal.returns-in-Read-clause-uses
returns-in-Read-clause-uses g c =
    uses-fewer (g.R.Read.remaining c.args.reader.now) (g.R.Read.remaining c.run_calls.new.reader) c.args.turns c.run_calls.new.turns 0
    (uses-more (g.R.Read.remaining c.args.reader.now) (g.R.Read.remaining c.next_setup.new.reader) (g.R.Read.remaining c.run_calls.new.reader) c.args.turns c.next_setup.new.turns c.run_calls.new.turns c.next_setup.ensures.uses c.run_calls.ensures.uses)
    (omega arith)

pub returns-in-Ended-clause-script : goal.returns-in-Ended-clause-script
returns-in-Ended-clause-script g c =
    follows (g.R.Read.remaining c.args.reader.now)
    (λ input at. bad_line-ends c.at_line.result 1 (fault_of input) (text_before input) (output_of input) (g.W.Write.contents c.args.writer.now) (g.W.Write.contents c.args.writer.now) c.at_line.ensures at)
    (runs-lineless (g.R.Read.remaining c.args.reader.now) (g.W.Write.contents c.args.writer.now) c.in-Ended.ensures.next.0)

pub returns-in-Faulty-clause-script : goal.returns-in-Faulty-clause-script
returns-in-Faulty-clause-script g c =
    follows (g.R.Read.remaining c.args.reader.now)
    (λ input at. bad_line-ends c.at_line-in-Faulty.result 1 (fault_of input) (text_before input) (output_of input) (g.W.Write.contents c.args.writer.now) (g.W.Write.contents c.args.writer.now) c.at_line-in-Faulty.ensures at)
    (runs-faulty (g.R.Read.remaining c.args.reader.now) (g.W.Write.contents c.args.writer.now) c.in-Faulty.ensures.next.0)
