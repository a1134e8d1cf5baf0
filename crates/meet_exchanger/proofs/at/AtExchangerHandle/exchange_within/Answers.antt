-- Proof of `At::exchange_within`, src/at.rt.
use Rattle.std.proofs.Common.{◌≡◌, Some, sym, subst, arith, rules}
use Rattle.meet_exchange.specs.Seats.{ArenaView}
use Rattle.meet_exchanger.specs.Tries.{MayTimeOut, EndsAs}
use Rattle.meet_exchanger.specs.Handles.{CalledAs}
use Rattle.meet_exchanger.proofs.at.AtExchangerHandle.exchange_within.Goals as goal

pub returns : goal.returns
returns g c = let mark = g.T.Marked.mark_of in let a = mark c.args.item in let n = g.N.Site.site.slots in let end = c.exchange_within.result in let seat = c.unwrap-seat.result in
    let there : c.args.self.now.seat ≡ Some seat = search (rules, arith) in
    let ends : EndsAs mark seat a n (MayTimeOut c.args.limit) end = subst (λ (s : ArenaView). EndsAs mark seat a s.slots (MayTimeOut c.args.limit) end) c.args.self.now.here c.exchange_within.ensures.end in
    let called : CalledAs mark n (MayTimeOut c.args.limit) (Some seat) (Some c.apart-seat.result.0) a c.apart-seat.result.1 = (end, sym c.apart-seat.ensures, ends) in record {
      called = subst (λ old. CalledAs mark n (MayTimeOut c.args.limit) old (Some c.apart-seat.result.0) a c.apart-seat.result.1) (sym there) called;
    }
