-- Proof of `take_left`, src/left.rt. Takes each item that is still there, by rising slot.
use Rattle.std.proofs.Common.{arith, ◌≡◌, ◌<◌, ◌+◌, ◌∙◌, ℕ, suc, ap, sym, subst, Bool, true, false, get_or, length, List}
use lib.ListN.{get_elem?}
use Rattle.std.specs.Mem.Slots.{slots_items, slots_filled, slots_len, slots_counts}
use Rattle.meet_exchange.specs.Closed.{Adds, TakenUpTo}
use Rattle.meet_exchange.proofs.Gathers.{read_at, still_filled, now_empty}
use Rattle.meet_exchange.proofs.left.take_left.Goals as goal

pub loop-slot-preserved : goal.loop-slot-preserved
loop-slot-preserved g c = let inv = c.loop-slot.invariant in let t = c.take-value.ensures.others in let count = slots_counts c.loop-slot.closed.slots in let i : ℕ = c.loop-slot.slot in
    let small : i < length (slots_filled c.loop-slot.closed.slots) = omega (arith, count.1, inv.size) in
    let word : c.word-word.result ≡ get_or (slots_items c.args.closed.words) i 0 = sym (read_at (slots_items c.loop-slot.closed.words) i c.word-word.result c.word-word.ensures) ∙ ap (λ w. get_or (slots_items w) i 0) inv.words in record {
      filled = λ k l h. subst (λ (fs : List Bool). get_or fs k false ≡ true) (sym t.1) (still_filled (slots_filled c.loop-slot.closed.slots) i (slots_len c.loop-slot.closed.slots) inv.filled k l (omega (arith, t.2)));
      emptied = λ k l. subst (λ (fs : List Bool). get_or fs k false ≡ false) (sym t.1) (now_empty (slots_filled c.loop-slot.closed.slots) i small inv.emptied k l);
      items = t.0 ∙ inv.items;
      words = t.3 ∙ inv.words;
      size = t.2 ∙ inv.size;
      taken = subst (λ (n : ℕ). TakenUpTo (slots_items c.args.closed.words) (slots_items c.args.closed.slots) n c.keep.new.left.items) (let e : suc i ≡ i + 1 = omega arith in e) (
        c.take-value.result,
        ap (λ xs. get_elem? xs i) (sym inv.items) ∙ c.take-value.ensures.value,
        c.loop-slot.left.items,
        inv.taken,
        subst (λ (w : ℕ). Adds i w c.take-value.result c.loop-slot.left.items c.keep.new.left.items) word c.keep.ensures.added,
      );
      room = omega (arith, inv.room, c.keep.ensures.room, c.keep.ensures.capacity);
    }
