-- Proof of `is_past`, src/fates.rt. Whether a ticket is of the time before a base, and none of its entries'.
use Rattle.std.proofs.Common.{◌∙◌, ap, sym, not, ◌&&◌, ◌==◌}
use Rattle.std.specs.Prelude.{nat_lt, nat_le}
use Rattle.meet_tickets.specs.Bases.{Based}
use Rattle.meet_tickets.specs.Fates.{entered_in}
use Rattle.meet_laws.proofs.Heard.{none_found}
use Rattle.meet_laws.proofs.fates.is_past.Goals as goal

pub returns : goal.returns
returns c =
    let t = c.args.ticket in
    let base = c.args.base.now in
    let last = c.number-3.ensures.value ∙ ap (λ (b : Based). b.last) c.base.view_is in
    ap (λ n. nat_lt 0 n && nat_le c.number-2.result c.number-3.result && not c.is_entered.result) c.number.ensures.value
    ∙ ap (λ n. nat_lt 0 t && nat_le n c.number-3.result && not c.is_entered.result) c.number-2.ensures.value
    ∙ ap (λ n. nat_lt 0 t && nat_le t n && not c.is_entered.result) last
    ∙ ap (λ b. nat_lt 0 t && nat_le t base.last && not b) c.is_entered.ensures
    ∙ ap (λ b. nat_lt 0 t && nat_le t base.last && b) (sym (none_found (λ u. u == t) (entered_in base)))
