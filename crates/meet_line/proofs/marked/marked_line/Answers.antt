-- Proof of `marked_line`, src/marked.rt. The entries of a line with their items by their marks, in order of arrival.
use Rattle.std.proofs.Common.{◌∙◌, sym, ap, map, Bor}
use Rattle.meet_tickets.specs.declared.lines.Entry.{Entry}
use Rattle.meet_tickets.proofs.Lists.Lookups.{map_map}
use Rattle.meet_line.specs.Seen.{marked_entry}
use Rattle.meet_line.proofs.marked.marked_line.Goals as goal

pub returns-in-Ok-clause-entries : goal.returns-in-Ok-clause-entries
returns-in-Ok-clause-entries g c =
    let mark = g.T.Marked.mark_of in
    c.in-Ok.ensures
    ∙ ap (map (λ (e : Bor (Entry g.row.T.Denot)). marked_entry mark e.now)) c.as_slice.ensures.value
    ∙ sym (map_map (marked_entry mark) (λ (e : Bor (Entry g.row.T.Denot)). e.now) c.in_ok-list.list.items)
    ∙ ap (map (marked_entry mark)) c.in_ok-list.ensures.entries
