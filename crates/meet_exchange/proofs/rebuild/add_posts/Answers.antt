-- Proof of `add_posts`, src/rebuild.rt. A blank round for each post of a list in the slot; or none, where memory is
-- short.
use Rattle.std.proofs.Common.{arith, ◌≡◌, ◌+◌, ◌++◌, ◌∷◌, [], suc, List, drop, get_or, ap, sym, ◌∙◌}
use Rattle.std.proofs.Math.Seq.{drop-cons}
use Rattle.meet_exchange.specs.declared.records.Part.{Part}
use Rattle.meet_exchange.specs.declared.records.SlotDeed.TheVariants.{Posted}
use Rattle.meet_exchange.specs.Rounds.{in_slot, part}
use Rattle.meet_exchange.specs.Rebuild.{posts_among}
use Rattle.meet_exchange.proofs.Blanks.{posts_cons, more_blanks, blanks_for}
use Rattle.meet_exchange.proofs.rebuild.add_posts.Goals as goal

pub loop-part-preserved : goal.loop-part-preserved
loop-part-preserved c = let k = c.args.slot in let i = c.loop-part.part-index in let x : Part = get_or c.args.list.now i (part 0 0 (Posted 0)) in let rest : List Part = drop (i + 1) c.args.list.now in
    let next : suc i ≡ i + 1 = omega arith in let e : drop i c.args.list.now ≡ x ∷ rest = drop-cons c.args.list.now i (part 0 0 (Posted 0)) c.loop-part-test.true ∙ ap (λ n. x ∷ drop n c.args.list.now) next in
    ap (λ z. z ++ blanks_for (posts_among (in_slot k rest))) c.in_ok-add_post.ensures
    ∙ (more_blanks c.loop-part.rounds.items (posts_among (in_slot k (x ∷ []))) (posts_among (in_slot k rest)) ∙ (ap (λ n. c.loop-part.rounds.items ++ blanks_for n) (sym (ap (λ z. posts_among (in_slot k z)) e ∙ posts_cons k x rest)) ∙ c.loop-part.invariant))
