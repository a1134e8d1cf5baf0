-- Proof of `WorkerSeat::forget`, src/worth.rt. Lets go of the receipts for the first `gone` records, but not of a start
-- whose answer stays.
use Rattle.std.proofs.Common.{◌≡◌, ◌≤◌, ◌∙◌, sym, ap, subst, true, false, length, arith}
use Rattle.std.proofs.lemmas.List.Sums.{length-filter, count_by-le-length}
use Rattle.meet_book.specs.Listed.{is_since}
use Rattle.pool_threads.specs.Worthy.{IsWorthy, stay_together}
use Rattle.pool_threads.proofs.Trimmed.{worthy_kept}
use Rattle.pool_threads.proofs.worth.WorkerSeat.forget.Goals as goal

pub invariant_of-self : goal.invariant_of-self
invariant_of-self g c =
    let upto = c.whole_upto-upto.result in
    let together : stay_together (is_since upto) false c.self.inside.seat.list ≡ true =
    sym (ap (λ l. stay_together (is_since upto) false l) c.receipts-2.ensures) ∙ (sym c.stay_together.ensures ∙ c.if-stay_together.true)
    in
    subst (IsWorthy g.W.Work.worth) (sym c.forget.ensures.list) (worthy_kept g.W.Work.worth (is_since upto) c.self.inside.seat.list together c.self.invariant)

pub returns-then-stay_together-clause-room : goal.returns-then-stay_together-clause-room
returns-then-stay_together-clause-room g c =
    let stays = is_since c.whole_upto-upto.result in
    let all = c.self.inside.seat.list in
    let count = ap length c.forget.ensures.list ∙ length-filter stays all in
    let few : length c.forget.new.self.list ≤ length all = subst (λ n. n ≤ length all) (sym count) (count_by-le-length stays all) in
    let same = ap (λ s. s.room) c.self.view_is in
    let room = c.forget.ensures.room in
    omega (arith, few, same, room)
