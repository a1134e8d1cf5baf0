-- Proof of `write_pool_trace`, src/trace.rt. Writes the trace of a pool of these settings, whole: of these records, and
-- then of those.
use Rattle.std.proofs.Common.{◌≡◌, ◌++◌, ap, subst, ◌∙◌}
use Rattle.std.specs.Io.KnownBytes.{Appends}
use Rattle.meet_run.proofs.Tracing.TraceReading.{well-follows}
use Rattle.meet_run.specs.Texts.Writing.{AppendsPrefix}
use Rattle.pool_run.specs.Wording.{pool_head_line}
use Rattle.pool_run.proofs.Tracing.{trace-whole, trace-cut, trace-headed, trace-started}
use Rattle.pool_run.proofs.trace.write_pool_trace.Goals as goal

pub returns-clause-written : goal.returns-clause-written
returns-clause-written g c =
    let head : c.as_slice.result.now ≡ pool_head_line c.args.settings = c.as_slice.ensures.value ∙ (c.in-Ok.ensures ∙ ap (λ t. t ++ pool_head_line c.args.settings) c.new-out.ensures.items) in
    well-follows c.write_records-2.result (trace-whole c.args.settings c.args.past.now c.args.since.now (g.W.Write.contents c.args.writer.now) (g.W.Write.contents c.write_whole.new.writer) (g.W.Write.contents c.write_records.new.writer) (g.W.Write.contents c.write_records-2.new.writer) (subst (λ t. Appends (g.W.Write.contents c.args.writer.now) (g.W.Write.contents c.write_whole.new.writer) t) head c.in_ok-write_whole.ensures.ok) c.in_ok-write_records.ensures.written) c.write_records-2.ensures.written

pub returns-clause-prefix : goal.returns-clause-prefix
returns-clause-prefix g c =
    let head : c.as_slice.result.now ≡ pool_head_line c.args.settings = c.as_slice.ensures.value ∙ (c.in-Ok.ensures ∙ ap (λ t. t ++ pool_head_line c.args.settings) c.new-out.ensures.items) in
    trace-cut c.args.settings c.args.past.now c.args.since.now (g.W.Write.contents c.args.writer.now) (g.W.Write.contents c.write_whole.new.writer) (g.W.Write.contents c.write_records.new.writer) (g.W.Write.contents c.write_records-2.new.writer) (subst (λ t. Appends (g.W.Write.contents c.args.writer.now) (g.W.Write.contents c.write_whole.new.writer) t) head c.in_ok-write_whole.ensures.ok) c.in_ok-write_records.ensures.written c.write_records-2.ensures.prefix

pub returns-in_err-write_records-clause-prefix : goal.returns-in_err-write_records-clause-prefix
returns-in_err-write_records-clause-prefix g c =
    let head : c.as_slice.result.now ≡ pool_head_line c.args.settings = c.as_slice.ensures.value ∙ (c.in-Ok.ensures ∙ ap (λ t. t ++ pool_head_line c.args.settings) c.new-out.ensures.items) in
    trace-headed c.args.settings c.args.past.now c.args.since.now (g.W.Write.contents c.args.writer.now) (g.W.Write.contents c.write_whole.new.writer) (g.W.Write.contents c.write_records.new.writer) (subst (λ t. Appends (g.W.Write.contents c.args.writer.now) (g.W.Write.contents c.write_whole.new.writer) t) head c.in_ok-write_whole.ensures.ok) c.write_records.ensures.prefix

pub returns-in_err-write_whole-clause-prefix : goal.returns-in_err-write_whole-clause-prefix
returns-in_err-write_whole-clause-prefix g c =
    let head : c.as_slice.result.now ≡ pool_head_line c.args.settings = c.as_slice.ensures.value ∙ (c.in-Ok.ensures ∙ ap (λ t. t ++ pool_head_line c.args.settings) c.new-out.ensures.items) in
    trace-started c.args.settings (c.args.past.now ++ c.args.since.now) (g.W.Write.contents c.args.writer.now) (g.W.Write.contents c.write_whole.new.writer) (subst (λ t. AppendsPrefix (g.W.Write.contents c.args.writer.now) (g.W.Write.contents c.write_whole.new.writer) t) head c.write_whole.ensures.prefix)
