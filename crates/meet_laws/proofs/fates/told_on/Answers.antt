-- Proof of `told_on`, src/fates.rt. What a base and the records since tell of a ticket.
use Rattle.std.proofs.Common.{◌∙◌, ◌++◌, [], ap, map}
use Rattle.std.specs.List.{flat_map}
use Rattle.std.proofs.lemmas.List.{append_assoc}
use Rattle.meet_tickets.specs.Fates.{line_record, pair_records, cut_records}
use Rattle.meet_tickets.specs.Bases.{Based}
use Rattle.meet_laws.specs.Hearing.{told_in}
use Rattle.meet_laws.proofs.fates.told_on.Goals as goal

pub returns : goal.returns
returns c =
    let t = c.args.ticket in
    let records = c.args.records.now in
    let line = map line_record c.as_slice.result.now in
    let pairs = flat_map pair_records c.as_slice-2.result.now in
    let cuts = flat_map cut_records c.as_slice-3.result.now in
    let lined = c.hear_line-lined.ensures [] (c.nothing.ensures t) in
    let paired = c.hear_pairs-paired.ensures line lined in
    let cut = c.hear_cuts-cut.ensures (line ++ pairs) paired in
    let all = c.hear_all.ensures ((line ++ pairs) ++ cuts) cut in
    let line_is = c.as_slice.ensures.value ∙ ap (λ (b : Based). b.line) c.base.view_is in
    let pairs_are = c.as_slice-2.ensures.value ∙ ap (λ (b : Based). b.pairs) c.base.view_is in
    let cut_is = c.as_slice-3.ensures.value ∙ ap (λ (b : Based). b.cut) c.base.view_is in
    all ∙ ap (λ h. told_in (h ++ records) t) (append_assoc line pairs cuts
    ∙ ap (λ xs. map line_record xs ++ (pairs ++ cuts)) line_is
    ∙ ap (λ xs. map line_record c.args.base.now.line ++ (flat_map pair_records xs ++ cuts)) pairs_are
    ∙ ap (λ xs. map line_record c.args.base.now.line ++ (flat_map pair_records c.args.base.now.pairs ++ flat_map cut_records xs)) cut_is)
