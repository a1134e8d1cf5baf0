-- Proof of `Arena::close`, src/closing.rt.
use Rattle.std.proofs.Common.{arith, ◌≡◌, ◌≤◌, ◌<◌, ℕ, List, length, map, replicate, sym, ap, ◌∙◌, subst}
use Rattle.std.proofs.lemmas.List.{length-map}
use Rattle.std.specs.Mem.Slots.{slots_items}
use Rattle.meet_exchange.specs.declared.records.Part.{Part}
use Rattle.meet_exchange.specs.declared.records.Round.{Round}
use Rattle.meet_exchange.specs.Rebuild.{blank, posts_of, rebuilt_from}
use Rattle.meet_exchange.specs.Closing.{Closing, lists_of, put_all}
use Rattle.meet_exchange.specs.Closed.{back_lists, entry_at, numbered, TakenUpTo}
use Rattle.meet_exchange.proofs.Making.{enters}
use Rattle.meet_exchange.proofs.Closings.{closes}
use Rattle.meet_exchange.proofs.Ends.{Ended, ended}
use Rattle.meet_exchange.proofs.arena.Arena.close.Given.{Over}
use Rattle.meet_exchange.proofs.arena.Arena.close.Goals.{After-fill_all}
use Rattle.meet_exchange.proofs.arena.Arena.close.Goals as goal

pub load_new_seat-requires : goal.load_new_seat-requires
load_new_seat-requires g c = (omega (arith, c.self.invariant), enters g.T.Marked.mark_of _ _ _)

-- what the lists that were joined, and the rounds that were filled in from them, come to
comes_to : (g : Over) (c : After-fill_all g)
    → Ended g.T.Marked.mark_of c.args.self.slots c.args.self.seats c.args.self.start (lists_of c.gather.new.master.me.0) (map (λ l. l.items) c.gather.new.lists.items) (map (λ r. r.items) c.fill_all.new.slots.items) c.take_left.new.left.items
comes_to g c = let mark = g.T.Marked.mark_of in let plan = c.self.inside.table.shared.key in let inv = c.self.invariant in let vs = c.gather.new.master.me.0 in
    let words : List ℕ = slots_items c.close_with.result.words in let values = slots_items c.close_with.result.slots in let room = c.in-Some.ensures in
    let few : plan.seats ≤ length vs = omega (arith, inv, c.gather.ensures.views) in
    let closing : Closing mark plan (lists_of vs) words values = closes mark plan c.gather.new.master.id vs words values c.close_with.ensures.values.2 few c.gather.ensures.settled in
    let lists0 : List (List Part) = map (λ l. l.items) c.in-Some.room.lists.items in let all : List (List Round) = map (λ r. r.items) c.fill_all.new.slots.items in
    let sized : length lists0 ≡ plan.seats = length-map c.in-Some.room.lists.items (λ l. l.items) ∙ (room.lists ∙ sym inv.2) in
    let long : length all ≡ plan.slots = length-map c.fill_all.new.slots.items (λ r. r.items) ∙ (c.fill_all.ensures.count ∙ (room.slots ∙ sym inv.1)) in
    let count : ℕ → ℕ = λ k. posts_of k (back_lists c.as_slice.result.now) in
    let posts : (k : ℕ) → posts_of k (lists_of vs) ≡ count k = λ k. c.gather.ensures.posts k ∙ ap (λ z. posts_of k (back_lists z)) (sym c.as_slice.ensures.value) in
    let seen : map (λ l. l.items) c.as_slice-2.result.now ≡ put_all (lists_of vs) lists0 = ap (map (λ l. l.items)) c.as_slice-2.ensures.value ∙ c.gather.ensures.lists in
    let each : (k : ℕ) → k < plan.slots → entry_at all k ≡ rebuilt_from plan.start k (numbered 0 (put_all (lists_of vs) lists0)) (replicate (count k) blank)
    = λ k l. let l' : k < c.self.inside.slots = subst (λ z. k < z) inv.1 l in c.fill_all.ensures.each k (subst (λ z. k < z) (sym room.slots) l')
    ∙ (λ i. rebuilt_from (sym inv.3 i) k (numbered 0 (seen i)) (room.blank k l' i)) in
    let items = c.take_left.new.left.items in let same : c.self.inside.slots ≡ c.args.self.slots = ap (λ a. a.slots) c.self.view_is in
    ended mark plan vs words values closing few lists0 sized count posts all long each c.args.self.slots c.args.self.seats c.args.self.start
    (inv.1 ∙ same) (inv.2 ∙ ap (λ a. a.seats) c.self.view_is) (inv.3 ∙ ap (λ a. a.start) c.self.view_is) _ c.gather.ensures.lists items (subst (λ (n : ℕ). TakenUpTo words values n items) same c.take_left.ensures)

pub returns-clause-history : goal.returns-clause-history
returns-clause-history g c = (comes_to g (goal.at.returns-clause-history g c).After-fill_all).history

pub returns-clause-lists : goal.returns-clause-lists
returns-clause-lists g c = (comes_to g (goal.at.returns-clause-lists g c).After-fill_all).lists

pub returns-clause-own : goal.returns-clause-own
returns-clause-own g c = c.gather.ensures.own _ (comes_to g (goal.at.returns-clause-own g c).After-fill_all).own

pub returns-clause-each : goal.returns-clause-each
returns-clause-each g c = λ x l. c.gather.ensures.back x ((comes_to g (goal.at.returns-clause-each g c).After-fill_all).each x l)

pub returns-clause-left : goal.returns-clause-left
returns-clause-left g c = (comes_to g (goal.at.returns-clause-left g c).After-fill_all).left
