-- Proof of `deal`, src/arena.rt. The seats of a new arena: each gets one of the maker's trails.
use Rattle.std.proofs.Common.{rules, arith, ◌≡◌, ◌<◌, ◌+◌, ◌-◌, ◌∷◌, [], List, length, refl, sym, ap, ◌∙◌, subst}
use Rattle.meet_exchange.specs.declared.views.Trail.{Trail}
use Rattle.meet_exchange.specs.Rule.{top, others, fresh, fresh_from}
use Rattle.meet_exchange.specs.Seats.{AreNew}
use Rattle.meet_exchange.proofs.Making.{splits}
use Rattle.meet_exchange.proofs.Deals.{new_snoc, fresh_more}
use Rattle.meet_exchange.proofs.arena.deal.Goals as goal

pub split_seat-token-requires : goal.split_seat-token-requires
split_seat-token-requires g c = let l : c.loop-number.number < c.args.seats = omega arith in
    let e : c.loop-number.maker.me.0 ≡ fresh c.loop-number.number ∷ fresh_from (c.loop-number.number + 1) (c.args.seats - (c.loop-number.number + 1)) = ap (λ m. m.0) c.loop-number.invariant.views ∙ fresh_more c.loop-number.number c.args.seats l in (
      c.loop-number.invariant.place,
      omega arith,
      splits g.T.Marked.mark_of c.args.board.now.key _ _ (subst (λ (v : List Trail). v ≡ top v ∷ others v) (sym e) refl),
    )

pub new-requires-in-loop-number-2 : goal.new-requires-in-loop-number-2
new-requires-in-loop-number-2 g c = let l : c.loop-number.number < c.args.seats = omega arith in
    let e : c.loop-number.maker.me.0 ≡ fresh c.loop-number.number ∷ fresh_from (c.loop-number.number + 1) (c.args.seats - (c.loop-number.number + 1)) = ap (λ m. m.0) c.loop-number.invariant.views ∙ fresh_more c.loop-number.number c.args.seats l in
    let h : c.split_seat-token.result.me ≡ (fresh c.loop-number.number ∷ [], []) = c.split_seat-token.ensures.4 ∙ ap (λ (v : List Trail). (top v ∷ [], [])) e in
    let t : top c.split_seat-token.result.me.0 ≡ fresh c.loop-number.number = ap (λ m. top m.0) h in let n : c.loop-number.number ≡ c.unwrap.result = search rules in
    ((h ∙ ap (λ v. (v ∷ [], [])) (sym t), ap (λ v. v.number) t ∙ n, ap (λ v. v.list) t ∙ sym c.new-in-loop-number.ensures.items), ap (λ v. v.hand) t)

pub loop-number-preserved : goal.loop-number-preserved
loop-number-preserved g c = let l : c.loop-number.number < c.args.seats = omega arith in let inv = c.loop-number.invariant in
    let e : c.loop-number.maker.me.0 ≡ fresh c.loop-number.number ∷ fresh_from (c.loop-number.number + 1) (c.args.seats - (c.loop-number.number + 1)) = ap (λ m. m.0) inv.views ∙ fresh_more c.loop-number.number c.args.seats l in
    let h : c.split_seat-token.result.me ≡ (fresh c.loop-number.number ∷ [], []) = c.split_seat-token.ensures.4 ∙ ap (λ (v : List Trail). (top v ∷ [], [])) e in
    let n : c.unwrap.result ≡ c.loop-number.number = search rules in
    let many : c.loop-number.number ≡ 0 + length c.loop-number.list.items = omega (arith, inv.many) in let is = c.new-in-loop-number-2.ensures in
    let items = c.push_reserved.ensures.items in let longer : length c.push_reserved.new.self.items ≡ c.loop-number.number + 1 = search rules in record {
      place = c.split_seat-token.ensures.0 ∙ inv.place;
      views = c.split_seat-token.ensures.2 ∙ (λ i. (others (e i), (inv.views i).1));
      dealt = subst (AreNew c.args.board.now.table_id 0) (sym items) (new_snoc _ 0 _ _ inv.dealt (ap (λ s. s.arena) is ∙ (c.split_seat-token.ensures.3 ∙ inv.place)) (ap (λ s. s.number) is ∙ (n ∙ many))
          (ap (λ s. s.list) is ∙ c.new-in-loop-number.ensures.items) (ap (λ s. s.seen) is ∙ ap (λ m. (top m.0).seen) h));
      count = c.push_reserved.ensures.len ∙ ap (λ n. n + 1) inv.count;
      many = longer;
      room = search rules;
    }
