-- Proof of `write_trace`, src/trace/run.rt. Writes the trace of these records of a place of this kind, whole; it
-- refuses Memory or WriteFault, and then a prefix of it is written.
use Rattle.std.proofs.Common.{◌++◌, ap, subst, ◌∙◌}
use Rattle.std.specs.Prelude.{OnOk}
use Rattle.std.specs.Io.KnownBytes.{Appends}
use Rattle.meet_run.specs.Tracing.TraceWording.{head_line}
use Rattle.meet_run.specs.Texts.Writing.{AppendsPrefix}
use Rattle.meet_run.proofs.Tracing.TraceWriting.{trace-is}
use Rattle.meet_run.proofs.trace.run.write_trace.Goals as goal

pub returns-in-Ok-clause-written : goal.returns-in-Ok-clause-written
returns-in-Ok-clause-written g c =
    subst (λ t. OnOk c.write_records.result (Appends (g.W.Write.contents c.args.writer.now) (g.W.Write.contents c.write_records.new.writer) t))
    (trace-is c.args.kind c.args.records.now c.push_head.new.out.items (c.in-Ok.ensures ∙ ap (λ t. t ++ head_line c.args.kind) c.new-out.ensures.items))
    c.write_records.ensures.written

pub returns-in-Ok-clause-prefix : goal.returns-in-Ok-clause-prefix
returns-in-Ok-clause-prefix g c =
    subst (λ t. AppendsPrefix (g.W.Write.contents c.args.writer.now) (g.W.Write.contents c.write_records.new.writer) t)
    (trace-is c.args.kind c.args.records.now c.push_head.new.out.items (c.in-Ok.ensures ∙ ap (λ t. t ++ head_line c.args.kind) c.new-out.ensures.items))
    c.write_records.ensures.prefix
