-- Proof of `alike`, src/alike.rt. Whether two worlds are the same but for the last ticket.
use Rattle.std.proofs.Common.{◌∙◌, sym}
use Rattle.meet_overlap.proofs.Barren.{alike_parts}
use Rattle.meet_overlap.proofs.alike.alike.Goals as goal

pub returns : goal.returns
returns c =
    λ yes. alike_parts c.args.one.now c.args.other.now
    c.if-one-other.false
    c.if-one-other-2.false
    (sym c.deref.ensures.value ∙ c.same_stages.ensures c.if-not-same_stages.false ∙ c.deref-2.ensures.value)
    (sym c.as_slice.ensures ∙ c.same_line.ensures c.if-not-same_line.false ∙ c.as_slice-2.ensures)
    (sym c.deref-5.ensures.value ∙ c.same_holds.ensures yes ∙ c.deref-6.ensures.value)
    (sym c.deref-3.ensures.value ∙ c.same_flags.ensures c.if-not-same_flags.false ∙ c.deref-4.ensures.value)
