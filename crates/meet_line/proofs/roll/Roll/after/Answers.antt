-- Proof of `Roll::after`, src/roll.rt. The key of the ticket behind the one under this key, if there is one.
use Rattle.std.proofs.Common.{◌≡◌, ◌∙◌, ap, sym, None, Some}
use Rattle.std.specs.Option.{option_map_or, option_copied}
use Rattle.slab.specs.Slab.{get}
use Rattle.meet_line.specs.declared.nodes.Node.{Node}
use Rattle.meet_line.specs.Nodes.{field_at}
use Rattle.meet_line.proofs.Standing.{after-key}
use Rattle.meet_line.proofs.roll.Roll.after.Goals as goal

pub returns-in_err-get : goal.returns-in_err-get
returns-in_err-get c front place rest all own =
    let gone : get c.self.inside.nodes c.args.key ≡ None = sym c.get.ensures ∙ ap option_copied c.in_err-get.was in
    let is = after-key c.self.inside.nodes c.self.inside.first c.self.inside.last c.self.inside.table.items _ c.self.invariant front place rest (ap (λ v. v.places) c.self.view_is ∙ all) in
    c.from_residual.ensures ∙ ap (λ o. option_map_or (λ (n : Node). n.after) o None) (sym gone) ∙ ap (field_at (λ n. n.after) None c.self.inside.nodes) (sym own) ∙ is

pub returns : goal.returns
returns c front place rest all own =
    let here : get c.self.inside.nodes c.args.key ≡ Some c.in_ok-get.field-0.now = sym c.get.ensures ∙ ap option_copied c.in_ok-get.was in
    let is = after-key c.self.inside.nodes c.self.inside.first c.self.inside.last c.self.inside.table.items _ c.self.invariant front place rest (ap (λ v. v.places) c.self.view_is ∙ all) in
    c.key.ensures ∙ ap (λ o. option_map_or (λ (n : Node). n.after) o None) (sym here) ∙ ap (field_at (λ n. n.after) None c.self.inside.nodes) (sym own) ∙ is
