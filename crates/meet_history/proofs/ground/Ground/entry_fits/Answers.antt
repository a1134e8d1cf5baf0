-- Proof of `Ground::entry_fits`, src/ground.rt. Whether an entry fits.
use Rattle.std.proofs.Common.{if◌then◌else◌, ◌≡◌, ℕ, nat_lt, not, true, is_some, sym, ap, subst, ◌∙◌}
use Rattle.std.specs.List.{list_all}
use Rattle.meet_tickets.specs.declared.lines.Entry.{Entry}
use Rattle.meet_history.specs.Grounds.{Grounded}
use Rattle.meet_history.proofs.LastDecides.{entry-fits-rest}
use Rattle.meet_history.proofs.ground.Ground.entry_fits.Goals as goal

pub returns-then-is_new : goal.returns-then-is_new
returns-then-is_new c =
    let k = c.args.self.now.kind in
    let b = c.args.self.now.base in
    let e = c.args.entry.now in
    let first : c.as_slice.result.now ≡ b.line = c.as_slice.ensures.value ∙ ap (λ (g : Grounded). g.base.line) c.self.view_is in
    let second : c.as_slice-then-is_above_line.result.now ≡ b.line = c.as_slice-then-is_above_line.ensures.value ∙ ap (λ (g : Grounded). g.base.line) c.self.view_is in
    let above : list_all (λ f. nat_lt f.ticket e.ticket) b.line ≡ true = subst (λ l. list_all (λ (f : Entry ℕ). nat_lt f.ticket e.ticket) l ≡ true) first (sym c.is_above_line.ensures.above ∙ c.if-is_above_line.true) in
    let side : list_all (λ f. if is_some f.item then is_some e.item else not (is_some e.item)) b.line ≡ true =
    subst (λ l. list_all (λ (f : Entry ℕ). if is_some f.item then is_some e.item else not (is_some e.item)) l ≡ true) second
    (subst (λ g. list_all (λ (f : Entry ℕ). if is_some f.item then g else not g) c.as_slice-then-is_above_line.result.now ≡ true) c.is_some.ensures (sym c.is_of_side.ensures.side ∙ c.if-is_of_side.true)) in
    entry-fits-rest k b e c.may_stand.result above side (sym c.is_new.ensures ∙ c.if-is_new.true) c.may_stand.ensures
