-- Proof of `entry`, src/line.rt. The entry of this ticket, if it is there.
use Rattle.std.proofs.Common.{◌≡◌, ◌==◌, ◌∙◌, Some, get_or, sym, ap, refl}
use Rattle.std.specs.List.{remove}
use Rattle.meet_overlap.proofs.Removals.{removed_there, removed_nowhere}
use Rattle.meet_overlap.proofs.line.Line.entry.Goals as goal

pub returns-in-None : goal.returns-in-None
returns-in-None c = (removed_nowhere (λ e. e.ticket == c.args.ticket) c.args.self.now (sym c.index_of.ensures ∙ c.in-None.is)).0

pub returns-in-Some : goal.returns-in-Some
returns-in-Some c =
    let line = c.args.self.now in
    let i = c.in-Some.index in
    let entry = c.index-as_slice-index.result in
    let there : entry ≡ get_or line i entry = c.index-as_slice-index.is ∙ ap (λ l. get_or l i entry) c.as_slice.ensures in
    ap Some c.copied_entry.ensures ∙ (removed_there (λ e. e.ticket == c.args.ticket) line (remove line i) i entry (sym c.index_of.ensures ∙ c.in-Some.is) there refl).0
