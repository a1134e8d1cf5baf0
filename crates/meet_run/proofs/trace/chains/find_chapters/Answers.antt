-- Proof of `find_chapters`, src/trace/chains.rt. Says what is found of a chain, of which the first line was read, and
-- the line that says so.
use Rattle.std.proofs.Common.{arith, ap, subst, ◌∙◌}
use Rattle.std.proofs.lemmas.Result.{err_from_is_err_and}
use Rattle.meet_run.specs.declared.text.faults.RunFault.{RunFault}
use Rattle.meet_run.proofs.Texts.LineLemmas.{uses-more, ends-more}
use Rattle.meet_run.proofs.Tracing.ReadParts.{ChainSoFar, chain-more, chain-begins, chain-faulty, chain-faulty-first, chain-found, memory-names}
use Rattle.meet_run.proofs.trace.chains.find_chapters.Goals as goal

pub returns-in_err-trace-clause-bad : goal.returns-in_err-trace-clause-bad
returns-in_err-trace-clause-bad g c =
    let failed = err_from_is_err_and c.from_residual.result c.from_residual.ensures.1 in
    rw (failed.1, failed.2) (λ plain. chain-faulty-first c.args.line.now.items (g.R.Read.remaining c.args.reader.now) c.in_err-trace.field-0.0 plain c.in_err-trace.ensures.bad)

pub loop-more-init : goal.loop-more-init
loop-more-init g c =
    record {
      so_far = λ plain. chain-begins c.args.line.now.items (g.R.Read.remaining c.args.reader.now) (g.R.Read.remaining c.read_chapter.new.reader) c.in_ok-trace.before c.in_ok-trace.more c.read_chapter.new.line.items c.in-Ok.chain c.in_ok-trace.trace plain c.in_ok-trace.ensures.read c.in-Ok.ensures.read;
      chapters = omega (arith, c.in-Ok.ensures.many, c.in_ok-trace.ensures.some);
      few = omega (arith, c.in_ok-trace.ensures.few);
      uses = c.read_chapter.ensures.uses;
      room = c.read_chapter.ensures.room;
      ends = c.in_ok-trace.ensures.ends;
    }

pub returns-in_err-trace-2-clause-bad : goal.returns-in_err-trace-2-clause-bad
returns-in_err-trace-2-clause-bad g c =
    let failed = err_from_is_err_and c.from_residual-in_err-trace-2.result c.from_residual-in_err-trace-2.ensures.1 in
    rw (failed.1, failed.2) (λ plain. chain-faulty c.args.line.now.items (g.R.Read.remaining c.args.reader.now) (g.R.Read.remaining c.loop-more.reader) c.loop-more.before c.loop-more.line.items c.loop-more.chain c.in_err-trace-2.field-0.0 (subst (λ m. ChainSoFar c.args.line.now.items (g.R.Read.remaining c.args.reader.now) (g.R.Read.remaining c.loop-more.reader) c.loop-more.before m c.loop-more.line.items c.loop-more.chain) c.loop-more-test.true (c.loop-more.invariant.so_far plain)) c.in_err-trace-2.ensures.bad)

pub returns-in_err-trace-2-clause-uses : goal.returns-in_err-trace-2-clause-uses
returns-in_err-trace-2-clause-uses g c =
    uses-more (g.R.Read.remaining c.args.reader.now) (g.R.Read.remaining c.loop-more.reader) (g.R.Read.remaining c.read_chapter-in-loop-more.new.reader) c.args.turns.now c.loop-more.turns c.read_chapter-in-loop-more.new.turns c.loop-more.invariant.uses c.read_chapter-in-loop-more.ensures.uses

pub returns-in-Err-take-clause-uses : goal.returns-in-Err-take-clause-uses
returns-in-Err-take-clause-uses g c =
    uses-more (g.R.Read.remaining c.args.reader.now) (g.R.Read.remaining c.loop-more.reader) (g.R.Read.remaining c.read_chapter-in-loop-more.new.reader) c.args.turns.now c.loop-more.turns c.read_chapter-in-loop-more.new.turns c.loop-more.invariant.uses c.read_chapter-in-loop-more.ensures.uses

pub loop-more-preserved : goal.loop-more-preserved
loop-more-preserved g c =
    record {
      so_far = λ plain. chain-more c.args.line.now.items (g.R.Read.remaining c.args.reader.now) (g.R.Read.remaining c.loop-more.reader) (g.R.Read.remaining c.read_chapter-in-loop-more.new.reader) c.loop-more.before c.in_ok-trace-2.lines c.in_ok-trace-2.another c.loop-more.line.items c.read_chapter-in-loop-more.new.line.items c.loop-more.chain c.in-Ok-take.chain c.in_ok-trace-2.trace (subst (λ m. ChainSoFar c.args.line.now.items (g.R.Read.remaining c.args.reader.now) (g.R.Read.remaining c.loop-more.reader) c.loop-more.before m c.loop-more.line.items c.loop-more.chain) c.loop-more-test.true (c.loop-more.invariant.so_far plain)) c.in_ok-trace-2.ensures.read c.in-Ok-take.ensures.read;
      chapters = omega (arith, c.loop-more.invariant.chapters, c.in-Ok-take.ensures.many, c.in_ok-trace-2.ensures.some);
      few = omega (arith, c.loop-more.invariant.few, c.in_ok-trace-2.ensures.few);
      uses = uses-more (g.R.Read.remaining c.args.reader.now) (g.R.Read.remaining c.loop-more.reader) (g.R.Read.remaining c.read_chapter-in-loop-more.new.reader) c.args.turns.now c.loop-more.turns c.read_chapter-in-loop-more.new.turns c.loop-more.invariant.uses c.read_chapter-in-loop-more.ensures.uses;
      room = c.read_chapter-in-loop-more.ensures.room;
      ends = λ last. ends-more (g.R.Read.remaining c.args.reader.now) (g.R.Read.remaining c.loop-more.reader) c.args.turns.now c.loop-more.turns c.loop-more.invariant.uses (c.in_ok-trace-2.ensures.ends last);
    }

pub returns-in-Ok-found-clause-found : goal.returns-in-Ok-found-clause-found
returns-in-Ok-found-clause-found g c =
    λ plain. chain-found c.args.line.now.items (g.R.Read.remaining c.args.reader.now) (g.R.Read.remaining c.loop-more.reader) c.loop-more.before c.loop-more.line.items c.loop-more.chain c.in-Ok-found.found.0 c.in-Ok-found.found.1.items (subst (λ m. ChainSoFar c.args.line.now.items (g.R.Read.remaining c.args.reader.now) (g.R.Read.remaining c.loop-more.reader) c.loop-more.before m c.loop-more.line.items c.loop-more.chain) c.loop-more-test.false (c.loop-more.invariant.so_far plain)) c.in-Ok-found.ensures.found

pub returns-clause-bad : goal.returns-clause-bad
returns-clause-bad g c =
    λ plain. memory-names c.args.line.now.items (g.R.Read.remaining c.args.reader.now) c.cut_short-in-Err-found.result (ap (λ (f : RunFault). f.why) c.cut_short-in-Err-found.ensures ∙ c.in-Err-found.ensures.memory)
