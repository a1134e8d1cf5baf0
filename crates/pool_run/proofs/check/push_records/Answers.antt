-- Proof of `push_records`, src/check.rt. Reads the records behind a trace's first line, and pushes each on the checker.
use Rattle.std.proofs.Common.{◌++◌, ◌∷◌, [], length-append, arith, refl, sym, ◌∙◌}
use Rattle.std.proofs.lemmas.Bool.{false≢true}
use Rattle.pool_core.specs.Histories.{no_base}
use Rattle.pool_run.specs.Records.{pool_record_at}
use Rattle.meet_run.proofs.Texts.LineLemmas.{uses-more, uses-none}
use Rattle.pool_run.proofs.Came.{has_come-first, has_come-more}
use Rattle.pool_run.proofs.Checked.{pushed-all, pushed-some}
use Rattle.pool_run.proofs.check.push_records.Goals as goal

pub loop-entry-init : goal.loop-entry-init
loop-entry-init g c = record {
  pushed = ([], has_come-first pool_record_at (g.R.Read.remaining c.args.reader.now), refl, c.requires.fresh);
  settings = refl;
  uses = uses-none (g.R.Read.remaining c.args.reader.now) c.args.turns.now c.args.turns.now (omega arith);
  few = omega arith;
  room = c.requires.room;
}

pub loop-entry-preserved : goal.loop-entry-preserved
loop-entry-preserved g c =
    let before = c.loop-entry.invariant in
    let past = before.pushed.0 in
    record {
      pushed = (
        past ++ c.in-Read.entry ∷ [],
        has_come-more pool_record_at past c.loop-entry.read (g.R.Read.remaining c.args.reader.now) (g.R.Read.remaining c.loop-entry.reader) (g.R.Read.remaining c.next_pool_record.new.reader) c.in-Read.entry before.pushed.1 c.in-Read.ensures.next.0,
        omega (arith, before.pushed.2, length-append past (c.in-Read.entry ∷ [])),
        c.push.ensures.seen (λ is. false≢true (sym c.if-is_memory.false ∙ c.is_memory.ensures.1 is)) no_base past before.pushed.3,
      );
      settings = c.push.ensures.settings ∙ before.settings;
      uses = uses-more (g.R.Read.remaining c.args.reader.now) (g.R.Read.remaining c.loop-entry.reader) (g.R.Read.remaining c.next_pool_record.new.reader) c.args.turns.now c.loop-entry.turns c.next_pool_record.new.turns before.uses c.next_pool_record.ensures.uses;
      few = omega (arith, before.few, c.in-Read.ensures.next.1);
      room = c.next_pool_record.ensures.room;
    }

pub returns-then-is_memory-clause-uses : goal.returns-then-is_memory-clause-uses
returns-then-is_memory-clause-uses g c =
    uses-more (g.R.Read.remaining c.args.reader.now) (g.R.Read.remaining c.loop-entry.reader) (g.R.Read.remaining c.next_pool_record.new.reader) c.args.turns.now c.loop-entry.turns c.next_pool_record.new.turns c.loop-entry.invariant.uses c.next_pool_record.ensures.uses

pub returns-in-Ended-clause-pushed : goal.returns-in-Ended-clause-pushed
returns-in-Ended-clause-pushed g c =
    let before = c.loop-entry.invariant in
    pushed-all before.pushed.0 c.loop-entry.read (g.R.Read.remaining c.args.reader.now) (g.R.Read.remaining c.loop-entry.reader) c.loop-entry.checker before.pushed.1 before.pushed.2 before.pushed.3 c.in-Ended.ensures.next.0

pub returns-in-Faulty-clause-bad : goal.returns-in-Faulty-clause-bad
returns-in-Faulty-clause-bad g c =
    let before = c.loop-entry.invariant in
    pushed-some before.pushed.0 c.loop-entry.read (g.R.Read.remaining c.args.reader.now) (g.R.Read.remaining c.loop-entry.reader) c.at_line.result before.pushed.1 c.in-Faulty.ensures.next.0 c.at_line.ensures

pub returns-in-Faulty-clause-uses : goal.returns-in-Faulty-clause-uses
returns-in-Faulty-clause-uses g c =
    uses-more (g.R.Read.remaining c.args.reader.now) (g.R.Read.remaining c.loop-entry.reader) (g.R.Read.remaining c.next_pool_record.new.reader) c.args.turns.now c.loop-entry.turns c.next_pool_record.new.turns c.loop-entry.invariant.uses c.next_pool_record.ensures.uses

pub returns-in-Broken-clause-uses : goal.returns-in-Broken-clause-uses
returns-in-Broken-clause-uses g c =
    uses-more (g.R.Read.remaining c.args.reader.now) (g.R.Read.remaining c.loop-entry.reader) (g.R.Read.remaining c.next_pool_record.new.reader) c.args.turns.now c.loop-entry.turns c.next_pool_record.new.turns c.loop-entry.invariant.uses c.next_pool_record.ensures.uses
