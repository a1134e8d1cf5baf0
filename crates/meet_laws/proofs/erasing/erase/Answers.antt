-- Proof of `erase`, src/erasing.rt. What is staying of these records without those of tickets that were cut or taken back,
-- the interrupts, and the requests that were refused at their entry.
use Rattle.std.proofs.Common.{◌≡◌, ◌∙◌, ap, subst, IfOk}
use Rattle.meet_laws.specs.Erasing.{erase}
use Rattle.meet_laws.specs.Gone.{staying_among}
use Rattle.meet_laws.proofs.Looked.{erased_by}
use Rattle.meet_laws.proofs.erasing.erase.Goals as goal

pub returns-clause-erased : goal.returns-clause-erased
returns-clause-erased c =
    let records = c.args.records.now in
    let same : staying_among c.as_slice.result.now records ≡ erase records = ap (λ l. staying_among l records) c.as_slice.ensures.value
    ∙ erased_by records c.in_ok-gone_tickets.field-0.items c.in_order-gone.result.items c.in_ok-gone_tickets.ensures.gone c.in_order-gone.ensures.same in
    subst (λ xs. IfOk c.staying_of.result (λ staying. staying.items ≡ xs)) same c.staying_of.ensures.staying
