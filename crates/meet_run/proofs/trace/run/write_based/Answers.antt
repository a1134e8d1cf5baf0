-- Proof of `write_based`, src/trace/run.rt. Writes the trace of these records of a place of this kind after this base,
-- whole; it refuses Memory or WriteFault, and then a prefix of it is written.
use Rattle.std.proofs.Common.{◌++◌, ap, subst, ◌∙◌}
use Rattle.std.specs.Prelude.{OnOk}
use Rattle.std.specs.Io.KnownBytes.{Appends}
use Rattle.std.specs.List.{flat_map}
use Rattle.meet_run.specs.Tracing.BaseWording.{based_head_line, numbers_line, piece_line, pieces_of}
use Rattle.meet_run.specs.Texts.Writing.{AppendsPrefix}
use Rattle.meet_run.proofs.Tracing.PieceLines.{based-is}
use Rattle.meet_run.proofs.trace.run.write_based.Goals as goal

pub returns-in-Ok-clause-written : goal.returns-in-Ok-clause-written
returns-in-Ok-clause-written g c =
    subst (λ t. OnOk c.write_records.result (Appends (g.W.Write.contents c.args.writer.now) (g.W.Write.contents c.write_records.new.writer) t))
    (based-is c.args.kind c.args.base.now c.args.records.now c.push_base.new.out.items (c.in-Ok.ensures ∙ ap (λ t. t ++ (based_head_line c.args.kind ++ (numbers_line c.args.base.now ++ flat_map piece_line (pieces_of c.args.base.now)))) c.new-out.ensures.items))
    c.write_records.ensures.written

pub returns-in-Ok-clause-prefix : goal.returns-in-Ok-clause-prefix
returns-in-Ok-clause-prefix g c =
    subst (λ t. AppendsPrefix (g.W.Write.contents c.args.writer.now) (g.W.Write.contents c.write_records.new.writer) t)
    (based-is c.args.kind c.args.base.now c.args.records.now c.push_base.new.out.items (c.in-Ok.ensures ∙ ap (λ t. t ++ (based_head_line c.args.kind ++ (numbers_line c.args.base.now ++ flat_map piece_line (pieces_of c.args.base.now)))) c.new-out.ensures.items))
    c.write_records.ensures.prefix
