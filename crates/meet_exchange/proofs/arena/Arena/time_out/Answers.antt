-- Proof of `Arena::time_out`, src/waiting.rt. Takes the item back, as the limit is reached.
use Rattle.std.proofs.Common.{◌≡◌, ◌+◌, Some, inl, inr, sym, ◌∙◌}
use Rattle.meet_exchange.proofs.Tries.{posted_back, posted_late, is_limit}
use Rattle.meet_exchange.proofs.arena.Arena.time_out.Goals as goal

pub returns-in-Back-clause-goes : goal.returns-in-Back-clause-goes
returns-in-Back-clause-goes g c = λ v a first counted limit t. let p = c.args.pending in let h = t.4 in
    let e : limit ≡ Some (t.0 + t.1) = is_limit limit (t.0 + t.1) (sym t.2 ∙ c.requires.limit) h.1.0 in
    (c.in-Back.ensures.0 ∙ h.0, (p.slot, t.0, h.2, inr (p.round, t.1, h.1, h.3, e, posted_back v a c.args.self.now.slots first limit p c.in-Back.seat t.0 t.1 h c.in-Back.ensures.1)))

pub returns-in-Late-clause-goes : goal.returns-in-Late-clause-goes
returns-in-Late-clause-goes g c = λ v a first counted limit t. let late = c.in-Late.ensures in
    let e : limit ≡ Some (t.0 + t.1) = is_limit limit (t.0 + t.1) (sym t.2 ∙ c.requires.limit) t.4.1.0 in
    posted_late v a c.args.self.now.slots first limit c.args.pending c.in-Late.pending t.0 t.1 late.1 t.4 (inl e) late.0 late.2 late.3
