-- Proof of `gather`, src/closing.rt. Joins the trails of all seats in one token, and puts their lists in order.
use Rattle.std.proofs.Common.{arith, ◌≡◌, ◌+◌, ◌-◌, ◌⊎◌, take, vec_len, inl, ◌∷◌, ◌++◌, [], ℕ, List, length, map, set, sym, ap, ◌∙◌, subst}
use Rattle.std.proofs.lemmas.List.{append-nil}
use Rattle.meet_exchange.specs.declared.records.Part.{Part}
use Rattle.meet_exchange.specs.declared.views.Trail.{Trail}
use Rattle.meet_exchange.specs.Rule.{top}
use Rattle.meet_exchange.specs.Rebuild.{posts_of, posts_among}
use Rattle.meet_exchange.specs.Rounds.{in_slot}
use Rattle.meet_exchange.specs.Closing.{AllSettled, lists_of, put_all}
use Rattle.meet_exchange.specs.Closed.{AreOf, AreAt, HasList, seat_of, back_lists}
use Rattle.meet_exchange.proofs.Making.{joins}
use Rattle.meet_exchange.proofs.Gathers.{lists_snoc, settled_snoc, views_snoc, at_last, put_snoc, posts_snoc, back_snoc, moved_at, moved_has}
use Rattle.meet_exchange.proofs.closing.gather.Goals as goal

pub join_seat-requires : goal.join_seat-requires
join_seat-requires g c = let inv = c.loop-back.invariant in let b = c.open-number.ensures in
    let place : (seat_of c.in-Some.back).arena ≡ c.args.board.now.table_id = (at_last _ _ _ (subst (AreOf c.args.board.now.table_id) c.in-Some.ensures.items inv.at)).1 in (
      inv.place,
      b.0 ∙ place,
      ap (λ m. m.1) b.3,
      c.requires.words,
      joins g.T.Marked.mark_of c.args.board.now.key _ _ _ _ (ap (λ m. m.0) b.3),
    )

pub loop-back-preserved : goal.loop-back-preserved
loop-back-preserved g c = let inv = c.loop-back.invariant in let b = c.open-number.ensures in let v = top c.open-number.result.token.me.0 in
    let views : c.join_seat.new.seat.me.0 ≡ c.loop-back.master.me.0 ++ v ∷ [] = ap (λ m. m.0) c.join_seat.ensures.2 ∙ ap (λ (w : List Trail). c.loop-back.master.me.0 ++ w) (ap (λ m. m.0) b.3) in
    let longer : length c.join_seat.new.seat.me.0 ≡ length c.loop-back.master.me.0 + 1 = ap length views ∙ views_snoc c.loop-back.master.me.0 v in
    let told : lists_of c.join_seat.new.seat.me.0 ≡ lists_of c.loop-back.master.me.0 ++ (v.number, v.list) ∷ [] = ap lists_of views ∙ lists_snoc c.loop-back.master.me.0 v in
    let lists0 : List (List Part) = map (λ x. x.items) c.args.lists.now.items in let vs : List (ℕ × List Part) = lists_of c.loop-back.master.me.0 in
    let mine : ℕ × List Part = (v.number, v.list) in
    let same : ((seat_of c.in-Some.back).number, (seat_of c.in-Some.back).list) ≡ mine = (λ i. (sym (b.4 ∙ b.1) i, sym (b.5 ∙ b.2) i)) in
    let popped : back_lists c.loop-back.seats.items ≡ back_lists c.pop.new.self.items ++ mine ∷ [] = ap back_lists c.in-Some.ensures.items ∙ (back_snoc c.pop.new.self.items c.in-Some.back ∙ ap (λ z. back_lists c.pop.new.self.items ++ z ∷ []) same) in
    let at = at_last _ _ _ (subst (AreOf c.args.board.now.table_id) c.in-Some.ensures.items inv.at) in record {
      place = c.join_seat.ensures.0 ∙ inv.place;
      held = ap (λ m. m.1) c.join_seat.ensures.2 ∙ inv.held;
      settled = subst AllSettled (sym views) (settled_snoc c.loop-back.master.me.0 v inv.settled b.6);
      count = omega (arith, longer, inv.count, c.in-Some.ensures.cases);
      at = at.0;
      lists = c.put.ensures.lists ∙ ((λ i. set (inv.lists i) ((c.number.ensures.value ∙ sym b.4) i) (sym b.5 i)) ∙ (sym (put_snoc vs (v.number, v.list) lists0) ∙ ap (λ z. put_all z lists0) (sym told)));
      many = c.put.ensures.count ∙ inv.many;
      own = λ lists at rest. let m = moved_at lists vs (back_lists c.pop.new.self.items) mine (subst (AreAt lists) told at) rest in inv.own lists m.0 (subst (AreAt lists) (sym popped) m.1);
      back = λ x h. inv.back x (subst (λ z. HasList x vs ⊎ HasList x z) (sym popped) (moved_has x vs (back_lists c.pop.new.self.items) mine (subst (λ z. HasList x z ⊎ HasList x (back_lists c.pop.new.self.items)) told h)));
      posts = λ k. let e1 : posts_of k (lists_of c.join_seat.new.seat.me.0) ≡ posts_of k vs + posts_among (in_slot k v.list) = ap (posts_of k) told ∙ posts_snoc k vs (v.number, v.list) in
          let e2 : posts_of k (back_lists c.loop-back.seats.items) ≡ posts_of k (back_lists c.pop.new.self.items) + posts_among (in_slot k (seat_of c.in-Some.back).list)
          = ap (λ z. posts_of k (back_lists z)) c.in-Some.ensures.items ∙ (ap (posts_of k) (back_snoc c.pop.new.self.items c.in-Some.back) ∙ posts_snoc k (back_lists c.pop.new.self.items) ((seat_of c.in-Some.back).number, (seat_of c.in-Some.back).list)) in
          let e3 : posts_among (in_slot k v.list) ≡ posts_among (in_slot k (seat_of c.in-Some.back).list) = ap (λ z. posts_among (in_slot k z)) (b.5 ∙ b.2) in
          let e4 = inv.posts k in omega arith;
    }

pub returns-clause-own : goal.returns-clause-own
returns-clause-own g c = let zero : vec_len c.loop-back.seats - 1 ≡ 0 = omega (arith, c.in_default.ensures.cases) in
    let none : c.pop.new.self.items ≡ [] = c.in_default.ensures.rest ∙ ap (λ n. take n c.loop-back.seats.items) zero in
    λ lists at. c.loop-back.invariant.own lists at (subst (λ z. AreAt lists (back_lists z)) (sym (c.in_default.ensures.items ∙ (append-nil c.pop.new.self.items ∙ none))) tt)

pub returns-clause-back : goal.returns-clause-back
returns-clause-back g c = λ x h. c.loop-back.invariant.back x (inl h)
