-- Proof of `picture_in`, src/drawing.rt. Reads a trace up to its first faulty line, and draws it where it has none.
use Rattle.meet_draw.proofs.DrawnLines.{read-drawn}
use Rattle.meet_draw.proofs.drawing.picture_in.Goals as goal

pub returns-in-Ok-clause-drawn : goal.returns-in-Ok-clause-drawn
returns-in-Ok-clause-drawn g c =
    read-drawn c.args.style c.args.width (g.R.Read.remaining c.args.reader.now) c.in_ok-trace.trace c.in_ok-trace.records.items c.in-Ok.drawn.0 c.in-Ok.drawn.1.items c.in_ok-trace.ensures.read c.in-Ok.ensures
