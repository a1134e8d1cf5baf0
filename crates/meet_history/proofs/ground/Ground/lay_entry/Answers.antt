-- Proof of `Ground::lay_entry`, src/ground.rt. The base goes on with an entry that may follow.
use Rattle.std.proofs.Common.{◌≡◌, ℕ, true, List, sym, subst}
use Rattle.meet_tickets.specs.Bases.{Based}
use Rattle.meet_history.specs.declared.pieces.Piece.TheVariants.{Stands}
use Rattle.meet_history.specs.Pieces.{may_follow, with_piece}
use Rattle.meet_history.specs.Grounds.{Grounded, base_of, Adds, IsGround}
use Rattle.meet_history.proofs.Grounds.{ground-waits, ground-kept}
use Rattle.meet_history.proofs.ground.Ground.lay_entry.Goals.{then-entry+in_ok-add-2+in_ok-add-3, else-entry}
use Rattle.meet_history.proofs.ground.Ground.lay_entry.Goals as goal

pub invariant_of-result : goal.invariant_of-result
invariant_of-result c =
    let s = c.self.inside in
    let b : Based = base_of s.gone s.last s.line.items s.pairs.items s.cut.items s.flags.items in
    let fits : may_follow s.kind b (Stands c.args.entry) ≡ true = subst (λ (g : Grounded). may_follow g.kind g.base (Stands c.args.entry) ≡ true) (sym c.self.view_is) c.requires.fits in
    let e = c.args.entry in
    let name : Adds s.named e.ticket c.add.new.self = subst (λ t. Adds s.named t c.add.new.self) c.number.ensures.value c.in_ok-add.ensures in
    subst (λ xs. IsGround s.kind (base_of s.gone s.last xs s.pairs.items s.cut.items s.flags.items) c.add.new.self c.if-entry.held c.if-entry.waiting c.if-entry.kept) (sym c.in-Ok.ensures.items)
    (elim c.if-entry.branch [
      | then-entry+in_ok-add-2+in_ok-add-3 w ↦
          subst (λ (x : List ℕ). IsGround s.kind (with_piece b (Stands e)) c.add.new.self x c.if-entry.waiting c.if-entry.kept) (sym w.held-is)
          (subst (λ (x : List ℕ). IsGround s.kind (with_piece b (Stands e)) c.add.new.self w.add-then-entry.new.self x c.if-entry.kept) (sym w.waiting-is)
          (subst (λ x. IsGround s.kind (with_piece b (Stands e)) c.add.new.self w.add-then-entry.new.self w.add-then-entry-2.new.self x) (sym w.kept-is)
          (ground-waits s.kind b s.named s.held s.waiting s.kept c.self.invariant e c.add.new.self w.add-then-entry.new.self w.add-then-entry-2.new.self fits w.if-entry.true name
          (subst (λ t. Adds s.held t w.add-then-entry.new.self) w.number-then-entry.ensures.value w.in_ok-add-2.ensures)
          (subst (λ t. Adds s.waiting t w.add-then-entry-2.new.self) w.number-then-entry-2.ensures.value w.in_ok-add-3.ensures))))
      | else-entry w ↦
          subst (λ (x : List ℕ). IsGround s.kind (with_piece b (Stands e)) c.add.new.self x c.if-entry.waiting c.if-entry.kept) (sym w.held-is)
          (subst (λ (x : List ℕ). IsGround s.kind (with_piece b (Stands e)) c.add.new.self s.held x c.if-entry.kept) (sym w.waiting-is)
          (subst (λ x. IsGround s.kind (with_piece b (Stands e)) c.add.new.self s.held s.waiting x) (sym w.kept-is)
          (ground-kept s.kind b s.named s.held s.waiting s.kept c.self.invariant e c.add.new.self fits w.if-entry.false name)))
    ])
