-- Proof of `read_records`, src/trace/erase.rt. Reads the records behind a trace's first line.
use Rattle.std.proofs.Common.{◌+◌, arith, rules}
use Rattle.meet_run.specs.Texts.Reading.{lines_of}
use Rattle.meet_run.specs.Tracing.Traces.{records_behind}
use Rattle.meet_run.proofs.Texts.LineLemmas.{uses-more}
use Rattle.meet_run.proofs.Tracing.Erasing.{read_whole}
use Rattle.meet_run.proofs.Tracing.TraceReading.{read-more, read-fault, names-it}
use Rattle.meet_run.proofs.trace.erase.read_records.Goals as goal

pub returns-then-is_err-clause-uses : goal.returns-then-is_err-clause-uses
returns-then-is_err-clause-uses g c =
    uses-more (g.R.Read.remaining c.args.reader.now) (g.R.Read.remaining c.loop-entry.reader) (g.R.Read.remaining c.next_record.new.reader) c.args.turns.now c.loop-entry.turns c.next_record.new.turns c.loop-entry.invariant.uses c.next_record.ensures.uses

pub loop-entry-preserved : goal.loop-entry-preserved
loop-entry-preserved g c =
    let before = c.loop-entry.invariant in
    record {
      records = read-more c.loop-entry.records.items c.loop-entry.read (g.R.Read.remaining c.args.reader.now) (g.R.Read.remaining c.loop-entry.reader) (g.R.Read.remaining c.next_record.new.reader) c.in-Read.entry c.push.new.self.items before.records c.in-Read.ensures.next.0 (search rules);
      uses = uses-more (g.R.Read.remaining c.args.reader.now) (g.R.Read.remaining c.loop-entry.reader) (g.R.Read.remaining c.next_record.new.reader) c.args.turns.now c.loop-entry.turns c.next_record.new.turns before.uses c.next_record.ensures.uses;
      few = omega (arith, before.few, c.in-Read.ensures.next.1);
      room = c.next_record.ensures.room;
    }

pub returns-in-Ended-clause-records : goal.returns-in-Ended-clause-records
returns-in-Ended-clause-records g c =
    read_whole c.loop-entry.records.items c.loop-entry.read (g.R.Read.remaining c.args.reader.now) (g.R.Read.remaining c.loop-entry.reader) c.loop-entry.invariant.records c.in-Ended.ensures.next.0

pub returns-in-Faulty-clause-bad : goal.returns-in-Faulty-clause-bad
returns-in-Faulty-clause-bad g c =
    names-it (g.R.Read.remaining c.args.reader.now) (λ rest. (records_behind (lines_of rest)).fault) c.at_line.result (c.loop-entry.read + 1) c.at_line.ensures
    (read-fault c.loop-entry.records.items c.loop-entry.read (g.R.Read.remaining c.args.reader.now) (g.R.Read.remaining c.loop-entry.reader) c.loop-entry.invariant.records c.in-Faulty.ensures.next.0)

pub returns-in-Faulty-clause-uses : goal.returns-in-Faulty-clause-uses
returns-in-Faulty-clause-uses g c =
    uses-more (g.R.Read.remaining c.args.reader.now) (g.R.Read.remaining c.loop-entry.reader) (g.R.Read.remaining c.next_record.new.reader) c.args.turns.now c.loop-entry.turns c.next_record.new.turns c.loop-entry.invariant.uses c.next_record.ensures.uses

pub returns-in-Broken-clause-uses : goal.returns-in-Broken-clause-uses
returns-in-Broken-clause-uses g c =
    uses-more (g.R.Read.remaining c.args.reader.now) (g.R.Read.remaining c.loop-entry.reader) (g.R.Read.remaining c.next_record.new.reader) c.args.turns.now c.loop-entry.turns c.next_record.new.turns c.loop-entry.invariant.uses c.next_record.ensures.uses
