-- Proof of `push_from`, src/trace/based.rt. Reads records, of which the first stands in the line with this number,
-- which was read; and takes each in.
use Rattle.std.proofs.Common.{◌≡◌, ◌+◌, ◌-◌, ◌∷◌, [], ◌++◌, Some, None, length-append, arith, sym, ap, ◌∙◌}
use Rattle.meet_run.specs.Texts.Reading.{lines_of, listed}
use Rattle.meet_run.specs.Tracing.BasedTraces.{record_from}
use Rattle.meet_run.proofs.Texts.LineLemmas.{uses-more}
use Rattle.meet_run.proofs.Tracing.TraceReading.{names-it}
use Rattle.meet_run.proofs.Tracing.ReadFrom.{from-some, from-more, from-fault, from-long, from-end, from-kept}
use Rattle.meet_run.proofs.trace.based.push_from.Goals as goal

pub returns-in-None-clause-bad : goal.returns-in-None-clause-bad
returns-in-None-clause-bad g c =
    let before = c.loop-entry.invariant in
    let is : record_from c.args.first c.loop-entry.number c.loop-entry.line.items ≡ None = sym (c.read_record_from.ensures ∙ ap (record_from c.args.first c.loop-entry.number) c.as_slice.ensures.value) ∙ c.in-None.is in
    names-it (g.R.Read.remaining c.args.reader.now) (λ rest. (listed (record_from c.args.first) c.args.first (c.args.line.now.items ∷ lines_of rest)).fault) c.at_line.result c.loop-entry.number c.at_line.ensures
    (from-fault c.args.first c.args.line.now.items c.loop-entry.line.items c.loop-entry.number before.pushed.0 (g.R.Read.remaining c.args.reader.now) (g.R.Read.remaining c.loop-entry.reader) before.pushed.1 is)

pub loop-entry-preserved : goal.loop-entry-preserved
loop-entry-preserved g c =
    let before = c.loop-entry.invariant in
    let is : record_from c.args.first c.loop-entry.number c.loop-entry.line.items ≡ Some c.in-Some.entry = sym (c.read_record_from.ensures ∙ ap (record_from c.args.first c.loop-entry.number) c.as_slice.ensures.value) ∙ c.in-Some.is in
    record {
      pushed = (
        before.pushed.0 ++ c.in-Some.entry ∷ [],
        from-more c.args.first c.args.line.now.items c.loop-entry.line.items c.loop-entry.number before.pushed.0 (g.R.Read.remaining c.args.reader.now) (g.R.Read.remaining c.loop-entry.reader) (g.R.Read.remaining c.read_line.new.reader) c.in-Some.entry c.read_line.new.line.items before.pushed.1 is c.in-Line.ensures.read.0,
        omega (arith, before.pushed.2, length-append before.pushed.0 (c.in-Some.entry ∷ [])),
        (λ b fresh. c.in-Ok.ensures.seen b before.pushed.0 (before.pushed.3 b fresh)),
        c.in-Ok.ensures.kept c.args.kept.now.wanted before.pushed.0 before.pushed.4,
      );
      most = omega (arith, from-some c.args.first c.loop-entry.number c.loop-entry.line.items c.in-Some.entry is);
      kind = c.take_in.ensures.kind ∙ before.kind;
      uses = uses-more (g.R.Read.remaining c.args.reader.now) (g.R.Read.remaining c.loop-entry.reader) (g.R.Read.remaining c.read_line.new.reader) c.args.turns.now c.loop-entry.turns c.read_line.new.turns c.loop-entry.invariant.uses c.read_line.ensures.uses;
      few = omega (arith, before.few, c.in-Line.ensures.spends);
      room = c.read_line.ensures.room;
    }

pub returns-in-End-clause-pushed : goal.returns-in-End-clause-pushed
returns-in-End-clause-pushed g c =
    let before = c.loop-entry.invariant in
    let is : record_from c.args.first c.loop-entry.number c.loop-entry.line.items ≡ Some c.in-Some.entry = sym (c.read_record_from.ensures ∙ ap (record_from c.args.first c.loop-entry.number) c.as_slice.ensures.value) ∙ c.in-Some.is in
    from-end c.args.first c.args.line.now.items c.loop-entry.line.items c.loop-entry.number before.pushed.0 (g.R.Read.remaining c.args.reader.now) (g.R.Read.remaining c.loop-entry.reader) (g.R.Read.remaining c.read_line.new.reader) c.in-Some.entry c.args.checker.now c.take_in.new.checker (c.loop-entry.number + 1 - c.args.first) before.pushed.1 is c.in-End.ensures.read.0 c.in-End.ensures.read.1
    (omega (arith, before.pushed.2, length-append before.pushed.0 (c.in-Some.entry ∷ [])))
    (λ b fresh. c.in-Ok.ensures.seen b before.pushed.0 (before.pushed.3 b fresh))

pub returns-in-End-clause-kept : goal.returns-in-End-clause-kept
returns-in-End-clause-kept g c =
    let before = c.loop-entry.invariant in
    let is : record_from c.args.first c.loop-entry.number c.loop-entry.line.items ≡ Some c.in-Some.entry = sym (c.read_record_from.ensures ∙ ap (record_from c.args.first c.loop-entry.number) c.as_slice.ensures.value) ∙ c.in-Some.is in
    from-kept c.args.first c.args.line.now.items c.loop-entry.line.items c.loop-entry.number before.pushed.0 (g.R.Read.remaining c.args.reader.now) (g.R.Read.remaining c.loop-entry.reader) (g.R.Read.remaining c.read_line.new.reader) c.in-Some.entry c.args.kept.now.wanted c.take_in.new.kept before.pushed.1 is c.in-End.ensures.read.0 c.in-End.ensures.read.1
    (c.in-Ok.ensures.kept c.args.kept.now.wanted before.pushed.0 before.pushed.4)

pub returns-in-End-clause-most : goal.returns-in-End-clause-most
returns-in-End-clause-most g c =
    let is : record_from c.args.first c.loop-entry.number c.loop-entry.line.items ≡ Some c.in-Some.entry = sym (c.read_record_from.ensures ∙ ap (record_from c.args.first c.loop-entry.number) c.as_slice.ensures.value) ∙ c.in-Some.is in
    omega (arith, from-some c.args.first c.loop-entry.number c.loop-entry.line.items c.in-Some.entry is)

pub returns-in-TooLong-clause-bad : goal.returns-in-TooLong-clause-bad
returns-in-TooLong-clause-bad g c =
    let before = c.loop-entry.invariant in
    let is : record_from c.args.first c.loop-entry.number c.loop-entry.line.items ≡ Some c.in-Some.entry = sym (c.read_record_from.ensures ∙ ap (record_from c.args.first c.loop-entry.number) c.as_slice.ensures.value) ∙ c.in-Some.is in
    names-it (g.R.Read.remaining c.args.reader.now) (λ rest. (listed (record_from c.args.first) c.args.first (c.args.line.now.items ∷ lines_of rest)).fault) c.at_line-in-TooLong.result (c.loop-entry.number + 1) c.at_line-in-TooLong.ensures
    (from-long c.args.first c.args.line.now.items c.loop-entry.line.items c.loop-entry.number before.pushed.0 (g.R.Read.remaining c.args.reader.now) (g.R.Read.remaining c.loop-entry.reader) c.in-Some.entry before.pushed.1 is c.in-TooLong.ensures.read)

pub returns-in-TooLong-clause-uses : goal.returns-in-TooLong-clause-uses
returns-in-TooLong-clause-uses g c = uses-more (g.R.Read.remaining c.args.reader.now) (g.R.Read.remaining c.loop-entry.reader) (g.R.Read.remaining c.read_line.new.reader) c.args.turns.now c.loop-entry.turns c.read_line.new.turns c.loop-entry.invariant.uses c.read_line.ensures.uses

pub returns-in-Failed-clause-uses : goal.returns-in-Failed-clause-uses
returns-in-Failed-clause-uses g c = uses-more (g.R.Read.remaining c.args.reader.now) (g.R.Read.remaining c.loop-entry.reader) (g.R.Read.remaining c.read_line.new.reader) c.args.turns.now c.loop-entry.turns c.read_line.new.turns c.loop-entry.invariant.uses c.read_line.ensures.uses
