-- Proof of `Ground::lay_flag`, src/ground.rt. It goes on with a flagged seat.
use Rattle.std.proofs.Common.{◌≡◌, true, sym, subst}
use Rattle.meet_tickets.specs.Bases.{Based}
use Rattle.meet_history.specs.declared.pieces.Piece.TheVariants.{Flagged}
use Rattle.meet_history.specs.Pieces.{may_follow}
use Rattle.meet_history.specs.Grounds.{Grounded, base_of, IsGround}
use Rattle.meet_history.proofs.Grounds.{ground-flag}
use Rattle.meet_history.proofs.ground.Ground.lay_flag.Goals as goal

pub invariant_of-result : goal.invariant_of-result
invariant_of-result c =
    let s = c.self.inside in
    let b : Based = base_of s.gone s.last s.line.items s.pairs.items s.cut.items s.flags.items in
    let fits : may_follow s.kind b (Flagged c.args.seat) ≡ true = subst (λ (g : Grounded). may_follow g.kind g.base (Flagged c.args.seat) ≡ true) (sym c.self.view_is) c.requires.fits in
    subst (λ xs. IsGround s.kind (base_of s.gone s.last s.line.items s.pairs.items s.cut.items xs) s.named s.held s.waiting s.kept) (sym c.in-Ok.ensures.items)
    (ground-flag s.kind b s.named s.held s.waiting s.kept c.self.invariant c.args.seat fits)
