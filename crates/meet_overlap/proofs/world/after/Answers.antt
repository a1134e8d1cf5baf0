-- Proof of `after`, src/world.rt. What a record of the call of this number leaves.
use Rattle.std.proofs.Common.{◌≡◌, ◌∙◌, ap}
use Rattle.meet_tickets.specs.BySeat.{Moment, put_at, moment_after}
use Rattle.meet_overlap.specs.Calls.{stage_after}
use Rattle.meet_overlap.specs.Places.{scene, stage_at}
use Rattle.meet_overlap.specs.Search.{World}
use Rattle.meet_overlap.proofs.world.after.Goals as goal

pub returns : goal.returns
returns c =
    let k = c.args.kind in
    let place : scene c.make.new.place ≡ moment_after k (scene c.args.reached.now.place) c.args.entry.now = c.in_ok-make.ensures ∙ ap (λ m. moment_after k m c.args.entry.now) c.in_ok-place.ensures in
    let was : c.stage-was.result ≡ stage_at c.args.reached.now.window c.args.number = c.stage-was.ensures ∙ ap (λ f. f c.args.number) c.in_ok-window.ensures.stages in
    let stages : stage_at c.shift.new.window ≡ put_at (stage_at c.args.reached.now.window) c.args.number (stage_after (stage_at c.args.reached.now.window c.args.number) c.args.entry.now) =
    c.shift.ensures
    ∙ c.in_ok-put_stage.ensures
    ∙ ap (λ f. put_at f c.args.number c.behind.result) c.in_ok-window.ensures.stages
    ∙ ap (put_at (stage_at c.args.reached.now.window) c.args.number) (c.behind.ensures ∙ ap (λ s. stage_after s c.args.entry.now) was) in
    joined (scene c.make.new.place) _ (stage_at c.shift.new.window) _ c.args.time place stages
  where
    joined : (m n : Moment) (f g : _) (t : _) → m ≡ n → f ≡ g → Path World (record { moment = m; stages = f; time = t }) (record { moment = n; stages = g; time = t })
    joined m n f g t p q =
        let one : Path World (record { moment = m; stages = f; time = t }) (record { moment = n; stages = f; time = t }) = ap (λ x. record { moment = x; stages = f; time = t }) p in
        let two : Path World (record { moment = n; stages = f; time = t }) (record { moment = n; stages = g; time = t }) = ap (λ x. record { moment = n; stages = x; time = t }) q in
        one ∙ two
