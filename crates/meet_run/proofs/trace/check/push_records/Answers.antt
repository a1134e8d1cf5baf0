-- Proof of `push_records`, src/trace/check.rt. Reads the records behind a trace's first line, and takes each in.
use Rattle.meet_tickets.specs.Bases.{no_base}
use Rattle.std.proofs.Common.{◌+◌, ◌-◌, ◌++◌, ◌∷◌, [], length-append, arith, refl, ◌∙◌}
use Rattle.meet_run.specs.Texts.Reading.{lines_of}
use Rattle.meet_run.specs.Tracing.Traces.{records_behind}
use Rattle.meet_run.proofs.Texts.LineLemmas.{uses-more}
use Rattle.meet_run.proofs.Tracing.TraceReading.{read-more, read-end, read-kept, read-fault, names-it}
use Rattle.meet_run.proofs.trace.check.push_records.Goals as goal

pub loop-entry-preserved : goal.loop-entry-preserved
loop-entry-preserved g c =
    let before = c.loop-entry.invariant in
    let past = before.pushed.0 in
    let all = past ++ c.in-Read.entry ∷ [] in
    record {
      pushed = (
        all,
        read-more past c.loop-entry.read (g.R.Read.remaining c.args.reader.now) (g.R.Read.remaining c.loop-entry.reader) (g.R.Read.remaining c.next_record.new.reader) c.in-Read.entry all before.pushed.1 c.in-Read.ensures.next.0 refl,
        omega (arith, before.pushed.2, length-append past (c.in-Read.entry ∷ [])),
        c.in-Ok.ensures.seen no_base past before.pushed.3,
        c.in-Ok.ensures.kept c.args.kept.now.wanted past before.pushed.4,
      );
      kind = c.take_in.ensures.kind ∙ before.kind;
      uses = uses-more (g.R.Read.remaining c.args.reader.now) (g.R.Read.remaining c.loop-entry.reader) (g.R.Read.remaining c.next_record.new.reader) c.args.turns.now c.loop-entry.turns c.next_record.new.turns before.uses c.next_record.ensures.uses;
      few = omega (arith, before.few, c.in-Read.ensures.next.1);
      room = c.next_record.ensures.room;
    }

pub returns-in-Err-clause-uses : goal.returns-in-Err-clause-uses
returns-in-Err-clause-uses g c =
    uses-more (g.R.Read.remaining c.args.reader.now) (g.R.Read.remaining c.loop-entry.reader) (g.R.Read.remaining c.next_record.new.reader) c.args.turns.now c.loop-entry.turns c.next_record.new.turns c.loop-entry.invariant.uses c.next_record.ensures.uses

pub returns-in-Ended-clause-pushed : goal.returns-in-Ended-clause-pushed
returns-in-Ended-clause-pushed g c =
    let before = c.loop-entry.invariant in
    read-end before.pushed.0 c.loop-entry.read (g.R.Read.remaining c.args.reader.now) (g.R.Read.remaining c.loop-entry.reader) c.loop-entry.checker (c.loop-entry.read - 1) before.pushed.1 (omega (arith, before.pushed.2)) before.pushed.3 c.in-Ended.ensures.next.0

pub returns-in-Ended-clause-kept : goal.returns-in-Ended-clause-kept
returns-in-Ended-clause-kept g c =
    let before = c.loop-entry.invariant in
    read-kept before.pushed.0 c.loop-entry.read (g.R.Read.remaining c.args.reader.now) (g.R.Read.remaining c.loop-entry.reader) c.args.kept.now.wanted c.loop-entry.kept before.pushed.1 before.pushed.4 c.in-Ended.ensures.next.0

pub returns-in-Faulty-clause-bad : goal.returns-in-Faulty-clause-bad
returns-in-Faulty-clause-bad g c =
    let before = c.loop-entry.invariant in
    names-it (g.R.Read.remaining c.args.reader.now) (λ rest. (records_behind (lines_of rest)).fault) c.at_line.result (c.loop-entry.read + 1) c.at_line.ensures
    (read-fault before.pushed.0 c.loop-entry.read (g.R.Read.remaining c.args.reader.now) (g.R.Read.remaining c.loop-entry.reader) before.pushed.1 c.in-Faulty.ensures.next.0)

pub returns-in-Faulty-clause-uses : goal.returns-in-Faulty-clause-uses
returns-in-Faulty-clause-uses g c =
    uses-more (g.R.Read.remaining c.args.reader.now) (g.R.Read.remaining c.loop-entry.reader) (g.R.Read.remaining c.next_record.new.reader) c.args.turns.now c.loop-entry.turns c.next_record.new.turns c.loop-entry.invariant.uses c.next_record.ensures.uses

pub returns-in-Broken-clause-uses : goal.returns-in-Broken-clause-uses
returns-in-Broken-clause-uses g c =
    uses-more (g.R.Read.remaining c.args.reader.now) (g.R.Read.remaining c.loop-entry.reader) (g.R.Read.remaining c.next_record.new.reader) c.args.turns.now c.loop-entry.turns c.next_record.new.turns c.loop-entry.invariant.uses c.next_record.ensures.uses
