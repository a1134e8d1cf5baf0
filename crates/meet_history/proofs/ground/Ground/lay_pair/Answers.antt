-- Proof of `Ground::lay_pair`, src/ground.rt. It goes on with a ticket that was met.
use Rattle.std.proofs.Common.{◌≡◌, true, sym, subst}
use Rattle.meet_tickets.specs.Bases.{Based}
use Rattle.meet_history.specs.declared.pieces.Piece.TheVariants.{Met}
use Rattle.meet_history.specs.Pieces.{may_follow}
use Rattle.meet_history.specs.Grounds.{Grounded, base_of, Adds, IsGround}
use Rattle.meet_history.proofs.Grounds.{ground-pair}
use Rattle.meet_history.proofs.ground.Ground.lay_pair.Goals as goal

pub invariant_of-result : goal.invariant_of-result
invariant_of-result c =
    let s = c.self.inside in
    let b : Based = base_of s.gone s.last s.line.items s.pairs.items s.cut.items s.flags.items in
    let fits : may_follow s.kind b (Met c.args.pair) ≡ true = subst (λ (g : Grounded). may_follow g.kind g.base (Met c.args.pair) ≡ true) (sym c.self.view_is) c.requires.fits in
    subst (λ xs. IsGround s.kind (base_of s.gone s.last s.line.items xs s.cut.items s.flags.items) c.add-2.new.self c.add-3.new.self s.waiting s.kept) (sym c.in-Ok.ensures.items)
    (ground-pair s.kind b s.named s.held s.waiting s.kept c.self.invariant c.args.pair c.add.new.self c.add-2.new.self c.add-3.new.self fits
    (subst (λ t. Adds s.named t c.add.new.self) c.number.ensures.value c.in_ok-add.ensures)
    (subst (λ t. Adds c.add.new.self t c.add-2.new.self) c.number-2.ensures.value c.in_ok-add-2.ensures)
    (subst (λ t. Adds s.held t c.add-3.new.self) c.number-3.ensures.value c.in_ok-add-3.ensures))
