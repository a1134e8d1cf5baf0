-- Proof of `Arena::move_on`, src/waiting.rt. Takes the item back, to try it in the slot of half the number.
use Rattle.std.proofs.Common.{◌≡◌, ◌+◌, ◌/◌, [], inr, sym, ap, subst, ◌∙◌, arith}
use Rattle.meet_exchange.specs.Ways.{HasCome, SawFree, patience}
use Rattle.meet_exchange.specs.Waits.{more_after}
use Rattle.meet_exchange.proofs.Tries.{posted_back, posted_late, come_back, within, not_reached}
use Rattle.meet_exchange.proofs.arena.Arena.move_on.Goals as goal

pub returns-in-Back-clause-goes : goal.returns-in-Back-clause-goes
returns-in-Back-clause-goes g c = λ v a first counted limit long t. let p = c.args.pending in let h = t.4 in let n = c.args.self.now.slots in let same = t.3 c.requires.above in let most = h.1.1 c.requires.above in
    let looks : t.1 ≡ patience = omega arith in let e : t.0 + t.1 ≡ t.0 + patience = ap (λ z. t.0 + z) looks in let more : c.args.more ≡ more_after limit (t.0 + patience) = t.2 ∙ ap (more_after limit) e in
    let back = posted_back v a n first limit p c.in-Back.seat t.0 t.1 h c.in-Back.ensures.1 in
    let f = not_reached limit (t.0 + patience) (λ z. c.requires.limit (more ∙ z)) in
    let on = come_back v a n first limit c.in-Back.seat p.slot t.0 p.round h.2 back c.requires.above (subst (λ z. SawFree p.slot p.round z h.2) looks h.3) f in
    let half : p.slot / 2 ≡ c.slot-slot.result / 2 = ap (λ k. k / 2) (sym c.slot-slot.ensures) in
    (c.in-Back.ensures.0 ∙ h.0, t.0 + patience, more, within limit (t.0 + patience) f, subst (λ k. HasCome v a n first limit c.in-Back.seat k (t.0 + patience) [] []) half on)

pub returns-in-Late-clause-goes : goal.returns-in-Late-clause-goes
returns-in-Late-clause-goes g c = λ v a first counted limit long t. let late = c.in-Late.ensures in let same = t.3 c.requires.above in let most = t.4.1.1 c.requires.above in let looks : t.1 ≡ patience = omega arith in
    posted_late v a c.args.self.now.slots first limit c.args.pending c.in-Late.pending t.0 t.1 late.1 t.4 (inr (c.requires.above, looks)) late.0 late.2 late.3
