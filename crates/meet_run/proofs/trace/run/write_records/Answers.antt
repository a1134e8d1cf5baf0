-- Proof of `write_records`, src/trace/run.rt. Writes what is kept back, and then the lines of these records, block by
-- block.
use Rattle.std.proofs.Common.{◌+◌, ap, sym, subst, ◌∙◌}
use Rattle.std.specs.Io.KnownBytes.{Appends}
use Rattle.meet_run.specs.Texts.Writing.{AppendsPrefix}
use Rattle.meet_run.proofs.Tracing.TraceWriting.{IsUnderWay, under_way-stopped, under_way-more, under_way-written, under_way-broken}
use Rattle.meet_run.proofs.trace.run.write_records.Goals.{then-len-ge-BLOCK+in_ok-write_whole, else-len-ge-BLOCK}
use Rattle.meet_run.proofs.trace.run.write_records.Goals as goal

pub returns-in-Err-clause-prefix : goal.returns-in-Err-clause-prefix
returns-in-Err-clause-prefix g c =
    under_way-stopped (g.W.Write.contents c.args.writer.now) (g.W.Write.contents c.loop-entry.writer) c.args.out.now.items c.loop-entry.out.items c.args.records.now c.loop-entry.entry-index c.loop-entry.invariant

pub returns-in_err-write_whole-clause-prefix : goal.returns-in_err-write_whole-clause-prefix
returns-in_err-write_whole-clause-prefix g c =
    let old = g.W.Write.contents c.args.writer.now in
    let now = g.W.Write.contents c.loop-entry.writer in
    let head = c.args.out.now.items in
    let kept = c.push_record.new.out.items in
    let n = c.loop-entry.entry-index in
    let more : IsUnderWay old now head kept c.args.records.now (n + 1) = under_way-more old now head c.loop-entry.out.items c.args.records.now n c.loop-entry.invariant c.entry-item.result kept c.loop-entry-test.true c.entry-item.is c.in-Ok.ensures in
    under_way-broken old now head kept c.args.records.now (n + 1) more (g.W.Write.contents c.write_whole.new.writer)
    (subst (λ t. AppendsPrefix now (g.W.Write.contents c.write_whole.new.writer) t) c.as_slice.ensures.value c.write_whole.ensures.prefix)

pub loop-entry-preserved : goal.loop-entry-preserved
loop-entry-preserved g c =
    let old = g.W.Write.contents c.args.writer.now in
    let now = g.W.Write.contents c.loop-entry.writer in
    let head = c.args.out.now.items in
    let kept = c.push_record.new.out.items in
    let n = c.loop-entry.entry-index in
    let more : IsUnderWay old now head kept c.args.records.now (n + 1) = under_way-more old now head c.loop-entry.out.items c.args.records.now n c.loop-entry.invariant c.entry-item.result kept c.loop-entry-test.true c.entry-item.is c.in-Ok.ensures in
    elim c.if-len-ge-BLOCK.branch [
      | then-len-ge-BLOCK+in_ok-write_whole w ↦
          subst (λ x. IsUnderWay old (g.W.Write.contents x) head c.if-len-ge-BLOCK.out.items c.args.records.now (n + 1)) (sym w.writer-is)
          (under_way-written old now head kept c.args.records.now (n + 1) more (g.W.Write.contents w.write_whole.new.writer) c.if-len-ge-BLOCK.out.items
          (subst (λ t. Appends now (g.W.Write.contents w.write_whole.new.writer) t) w.as_slice.ensures.value w.in_ok-write_whole.ensures.ok)
          (ap (λ v. v.items) w.out-is ∙ w.clear.ensures.items))
      | else-len-ge-BLOCK w ↦
          subst (λ x. IsUnderWay old (g.W.Write.contents x) head c.if-len-ge-BLOCK.out.items c.args.records.now (n + 1)) (sym w.writer-is)
          (subst (λ v. IsUnderWay old now head v.items c.args.records.now (n + 1)) (sym w.out-is) more)
    ]

pub returns-clause-prefix : goal.returns-clause-prefix
returns-clause-prefix g c =
    under_way-broken (g.W.Write.contents c.args.writer.now) (g.W.Write.contents c.loop-entry.writer) c.args.out.now.items c.loop-entry.out.items c.args.records.now c.loop-entry.entry-index c.loop-entry.invariant (g.W.Write.contents c.write_whole-2.new.writer)
    (subst (λ t. AppendsPrefix (g.W.Write.contents c.loop-entry.writer) (g.W.Write.contents c.write_whole-2.new.writer) t) c.as_slice-2.ensures.value c.write_whole-2.ensures.prefix)
