-- Proof of `draw_trace`, src/drawing.rt. Draws a trace, of either format, as text.
use Rattle.std.proofs.Common.{None, ap, subst, ◌∙◌}
use Rattle.std.proofs.lemmas.Result.{err_from_is_err_and}
use Rattle.meet_run.specs.declared.text.faults.RunFault.{RunFault}
use Rattle.meet_run.specs.Texts.Writing.{AppendsPrefix}
use Rattle.meet_draw.proofs.DrawnLines.{draw-unread, draw-broken}
use Rattle.meet_draw.proofs.drawing.draw_trace.Goals as goal

pub returns-in_err-legal-clause-drawn : goal.returns-in_err-legal-clause-drawn
returns-in_err-legal-clause-drawn g c =
    let failed = err_from_is_err_and c.from_residual.result c.from_residual.ensures.1 in
    rw (failed.1, failed.2) (draw-unread c.args.style c.args.width (g.R.Read.remaining c.args.reader.now) (g.W.Write.contents c.args.writer.now) c.in_err-legal.field-0.0 c.in_err-legal.ensures.faults c.in_err-legal.ensures.bad)

pub returns-clause-drawn : goal.returns-clause-drawn
returns-clause-drawn g c =
    draw-broken c.args.style c.args.width (g.R.Read.remaining c.args.reader.now) (g.W.Write.contents c.args.writer.now) (g.W.Write.contents c.write_whole.new.writer) c.cut_short.result c.in_ok-legal.legal c.in_ok-legal.out.items
    (c.cut_short.ensures ∙ ap (λ w. let x : RunFault = record { why = w; line = None } in x) c.in-Err.ensures.fault) c.in_ok-legal.ensures.drawn
    (subst (λ t. AppendsPrefix (g.W.Write.contents c.args.writer.now) (g.W.Write.contents c.write_whole.new.writer) t) c.as_slice.ensures.value c.in-Err.ensures.prefix)
