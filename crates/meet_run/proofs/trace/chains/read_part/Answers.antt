-- Proof of `read_part`, src/trace/chains.rt. Reads the lines of a chain's next part into `text`, of which the first was
-- read.
use Rattle.std.proofs.Common.{◌++◌, codes, sym, ap, arith, ◌∙◌}
use Rattle.meet_run.specs.Tracing.Chains.{is_head}
use Rattle.meet_run.proofs.Texts.LineLemmas.{uses-more}
use Rattle.meet_run.proofs.Tracing.ReadParts.{part-more, part-head, part-end, part-long}
use Rattle.meet_run.proofs.trace.chains.read_part.Goals as goal

pub returns-in-End-clause-part : goal.returns-in-End-clause-part
returns-in-End-clause-part g c =
    λ plain. part-end c.args.line.now.items (g.R.Read.remaining c.args.reader.now) (g.R.Read.remaining c.loop-line.reader) (g.R.Read.remaining c.read_line.new.reader) c.loop-line.text.items c.read_line.new.line.items c.loop-line.lines (c.loop-line.invariant.part plain) c.in-End.ensures.read.0 c.in-End.ensures.read.1

pub returns-in-TooLong-clause-part : goal.returns-in-TooLong-clause-part
returns-in-TooLong-clause-part g c =
    λ plain. part-long c.args.line.now.items (g.R.Read.remaining c.args.reader.now) (g.R.Read.remaining c.loop-line.reader) (g.R.Read.remaining c.read_line.new.reader) c.loop-line.text.items c.read_line.new.line.items c.loop-line.lines (c.loop-line.invariant.part plain) c.in-TooLong.ensures.read

pub returns-in-TooLong-clause-uses : goal.returns-in-TooLong-clause-uses
returns-in-TooLong-clause-uses g c =
    uses-more (g.R.Read.remaining c.args.reader.now) (g.R.Read.remaining c.loop-line.reader) (g.R.Read.remaining c.read_line.new.reader) c.args.turns.now c.loop-line.turns c.read_line.new.turns c.loop-line.invariant.uses c.read_line.ensures.uses

pub returns-in-Failed-clause-uses : goal.returns-in-Failed-clause-uses
returns-in-Failed-clause-uses g c =
    uses-more (g.R.Read.remaining c.args.reader.now) (g.R.Read.remaining c.loop-line.reader) (g.R.Read.remaining c.read_line.new.reader) c.args.turns.now c.loop-line.turns c.read_line.new.turns c.loop-line.invariant.uses c.read_line.ensures.uses

pub returns-then-is_head-clause-part : goal.returns-then-is_head-clause-part
returns-then-is_head-clause-part g c =
    λ plain. part-head c.args.line.now.items (g.R.Read.remaining c.args.reader.now) (g.R.Read.remaining c.loop-line.reader) (g.R.Read.remaining c.read_line.new.reader) c.loop-line.text.items c.read_line.new.line.items c.loop-line.lines (c.loop-line.invariant.part plain) c.in-Line.ensures.read.0 (ap is_head (sym c.as_slice-in-loop-line.ensures.value) ∙ (sym c.is_head.ensures ∙ c.if-is_head.true))

pub returns-then-is_head-clause-uses : goal.returns-then-is_head-clause-uses
returns-then-is_head-clause-uses g c =
    uses-more (g.R.Read.remaining c.args.reader.now) (g.R.Read.remaining c.loop-line.reader) (g.R.Read.remaining c.read_line.new.reader) c.args.turns.now c.loop-line.turns c.read_line.new.turns c.loop-line.invariant.uses c.read_line.ensures.uses

pub returns-in_err-keep_line-2-clause-uses : goal.returns-in_err-keep_line-2-clause-uses
returns-in_err-keep_line-2-clause-uses g c =
    uses-more (g.R.Read.remaining c.args.reader.now) (g.R.Read.remaining c.loop-line.reader) (g.R.Read.remaining c.read_line.new.reader) c.args.turns.now c.loop-line.turns c.read_line.new.turns c.loop-line.invariant.uses c.read_line.ensures.uses

pub loop-line-preserved : goal.loop-line-preserved
loop-line-preserved g c =
    record {
      part = λ plain. part-more c.args.line.now.items (g.R.Read.remaining c.args.reader.now) (g.R.Read.remaining c.loop-line.reader) (g.R.Read.remaining c.read_line.new.reader) c.loop-line.text.items c.keep_line-in-loop-line.new.text.items c.read_line.new.line.items c.loop-line.lines (c.loop-line.invariant.part plain) c.in-Line.ensures.read.0 (ap is_head (sym c.as_slice-in-loop-line.ensures.value) ∙ (sym c.is_head.ensures ∙ c.if-is_head.false))
          (c.in_ok-keep_line-2.ensures.kept ∙ ap (λ l. c.loop-line.text.items ++ (l ++ codes "\n")) c.as_slice-in-loop-line-2.ensures.value);
      some = omega arith;
      few = omega (arith, c.loop-line.invariant.few, c.in-Line.ensures.spends);
      uses = uses-more (g.R.Read.remaining c.args.reader.now) (g.R.Read.remaining c.loop-line.reader) (g.R.Read.remaining c.read_line.new.reader) c.args.turns.now c.loop-line.turns c.read_line.new.turns c.loop-line.invariant.uses c.read_line.ensures.uses;
      room = c.read_line.ensures.room;
    }
