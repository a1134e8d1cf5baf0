-- Proof of `write_records`, src/trace.rt. Writes the lines of these records, one by one.
use Rattle.std.proofs.Common.{◌≡◌, ◌++◌, take, ap, subst, ◌∙◌}
use Rattle.std.specs.Io.KnownBytes.{Appends}
use Rattle.std.specs.List.{flat_map}
use Rattle.std.proofs.lemmas.List.{take_all}
use Rattle.meet_run.proofs.Scripts.Ran.{appends-nothing}
use Rattle.meet_run.proofs.Texts.WritingLemmas.{appends-more, prefix-of}
use Rattle.meet_run.specs.Texts.Writing.{AppendsPrefix}
use Rattle.pool_run.specs.Wording.{pool_record_line}
use Rattle.pool_run.proofs.Tracing.{lines-more, lines-prefix, line-half}
use Rattle.pool_run.proofs.trace.write_records.Goals as goal

pub loop-entry-init : goal.loop-entry-init
loop-entry-init g c = appends-nothing (g.W.Write.contents c.args.writer.now)

pub loop-entry-preserved : goal.loop-entry-preserved
loop-entry-preserved g c =
    let records = c.args.records.now in
    let i = c.loop-entry.entry-index in
    let line : c.as_slice.result.now ≡ pool_record_line c.entry-item.result = c.as_slice.ensures.value ∙ (c.in-Ok.ensures ∙ ap (λ t. t ++ pool_record_line c.entry-item.result) c.clear.ensures.items) in
    subst (λ x. Appends (g.W.Write.contents c.args.writer.now) (g.W.Write.contents c.write_whole.new.writer) x) (lines-more records i c.entry-item.result c.loop-entry-test.true c.entry-item.is)
    (appends-more (g.W.Write.contents c.args.writer.now) (g.W.Write.contents c.loop-entry.writer) (g.W.Write.contents c.write_whole.new.writer) (flat_map pool_record_line (take i records)) (pool_record_line c.entry-item.result) c.loop-entry.invariant (subst (λ t. Appends (g.W.Write.contents c.loop-entry.writer) (g.W.Write.contents c.write_whole.new.writer) t) line c.in_ok-write_whole.ensures.ok))

pub returns-in-Err-clause-prefix : goal.returns-in-Err-clause-prefix
returns-in-Err-clause-prefix g c =
    let records = c.args.records.now in
    prefix-of (g.W.Write.contents c.args.writer.now) (g.W.Write.contents c.loop-entry.writer) (flat_map pool_record_line (take c.loop-entry.entry-index records)) (flat_map pool_record_line records) c.loop-entry.invariant (lines-prefix records c.loop-entry.entry-index)

pub returns-in_err-write_whole-clause-prefix : goal.returns-in_err-write_whole-clause-prefix
returns-in_err-write_whole-clause-prefix g c =
    let line : c.as_slice.result.now ≡ pool_record_line c.entry-item.result = c.as_slice.ensures.value ∙ (c.in-Ok.ensures ∙ ap (λ t. t ++ pool_record_line c.entry-item.result) c.clear.ensures.items) in
    line-half c.args.records.now c.loop-entry.entry-index c.entry-item.result (g.W.Write.contents c.args.writer.now) (g.W.Write.contents c.loop-entry.writer) (g.W.Write.contents c.write_whole.new.writer) c.loop-entry-test.true c.entry-item.is c.loop-entry.invariant (subst (λ t. AppendsPrefix (g.W.Write.contents c.loop-entry.writer) (g.W.Write.contents c.write_whole.new.writer) t) line c.write_whole.ensures.prefix)

pub returns-clause-written : goal.returns-clause-written
returns-clause-written g c =
    subst (λ rs. Appends (g.W.Write.contents c.args.writer.now) (g.W.Write.contents c.loop-entry.writer) (flat_map pool_record_line rs)) (take_all c.loop-entry.entry-index c.args.records.now c.loop-entry-test.false) c.loop-entry.invariant

pub returns-clause-prefix : goal.returns-clause-prefix
returns-clause-prefix g c =
    let records = c.args.records.now in
    prefix-of (g.W.Write.contents c.args.writer.now) (g.W.Write.contents c.loop-entry.writer) (flat_map pool_record_line (take c.loop-entry.entry-index records)) (flat_map pool_record_line records) c.loop-entry.invariant (lines-prefix records c.loop-entry.entry-index)
