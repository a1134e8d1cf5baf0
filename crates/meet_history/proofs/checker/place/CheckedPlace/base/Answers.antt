-- Proof of `CheckedPlace::base`, src/checker/place/base.rt. The base that stands for this place, where so many records
-- were folded away.
use Rattle.std.proofs.Common.{refl}
use Rattle.meet_history.specs.Checking.{Checked}
use Rattle.meet_history.proofs.Ends.{stands-checked}
use Rattle.meet_history.proofs.checker.place.CheckedPlace.base.Goals as goal

pub returns-clause-base : goal.returns-clause-base
returns-clause-base c =
    let inside = c.self.inside in
    let p : Checked = record { kind = inside.kind; last = inside.last; line = inside.line.entries; room = inside.line.room; table = inside.seats } in
    let opened = c.in_ok-opened.ensures in
    rw (← c.self.view_is) (stands-checked p c.args.gone _ refl refl c.in_ok-line.ensures.entries opened.pairs opened.pairs_rise opened.cut opened.cut_rises opened.flags opened.seats)
