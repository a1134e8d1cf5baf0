-- Proof of `write_whole`, src/text/output.rt. Writes these bytes, as often as it takes, and for none of them not once.
use Rattle.std.proofs.Common.{◌+◌, arith}
use Rattle.meet_run.proofs.Texts.WritingLemmas.{appends-kept, prefix-at, less-at, written-more}
use Rattle.meet_run.proofs.text.output.write_whole.Goals as goal

pub loop-written-preserved : goal.loop-written-preserved
loop-written-preserved g c = record {
  within = grind (arith, c.in-Ok.ensures.bound);
  text = written-more (g.W.Write.contents c.args.writer.now) (g.W.Write.contents c.loop-written.writer) (g.W.Write.contents c.write.new.self) c.loop-written.written c.in-Ok.more c.args.bytes.now c.loop-written.invariant.text c.in-Ok.ensures.bytes;
}

pub returns-in-Ok-eq0-clause-prefix : goal.returns-in-Ok-eq0-clause-prefix
returns-in-Ok-eq0-clause-prefix g c =
    let old = g.W.Write.contents c.args.writer.now in
    let new = g.W.Write.contents c.write.new.self in
    let text = written-more old (g.W.Write.contents c.loop-written.writer) new c.loop-written.written c.in-Ok-eq0.field-0 c.args.bytes.now c.loop-written.invariant.text c.in-Ok-eq0.ensures.bytes in
    prefix-at old new (c.loop-written.written + c.in-Ok-eq0.field-0) c.args.bytes.now text

pub returns-in-Err-clause-prefix : goal.returns-in-Err-clause-prefix
returns-in-Err-clause-prefix g c =
    let old = g.W.Write.contents c.args.writer.now in
    let new = g.W.Write.contents c.write.new.self in
    prefix-at old new c.loop-written.written c.args.bytes.now (appends-kept old (g.W.Write.contents c.loop-written.writer) new _ c.loop-written.invariant.text c.in-Err.ensures.bytes)

pub returns-in-Ok-eq0-clause-less : goal.returns-in-Ok-eq0-clause-less
returns-in-Ok-eq0-clause-less g c =
    let old = g.W.Write.contents c.args.writer.now in
    let new = g.W.Write.contents c.write.new.self in
    let text = written-more old (g.W.Write.contents c.loop-written.writer) new c.loop-written.written c.in-Ok-eq0.field-0 c.args.bytes.now c.loop-written.invariant.text c.in-Ok-eq0.ensures.bytes in
    less-at old new (c.loop-written.written + c.in-Ok-eq0.field-0) c.args.bytes.now (omega (arith, c.loop-written-test.true, c.in-Ok-eq0.field-0-is)) text

pub returns-in-Err-clause-less : goal.returns-in-Err-clause-less
returns-in-Err-clause-less g c =
    let old = g.W.Write.contents c.args.writer.now in
    let new = g.W.Write.contents c.write.new.self in
    less-at old new c.loop-written.written c.args.bytes.now c.loop-written-test.true (appends-kept old (g.W.Write.contents c.loop-written.writer) new _ c.loop-written.invariant.text c.in-Err.ensures.bytes)
