-- Proof of `fill_all`, src/rebuild.rt. Fills the rounds of all slots in.
use Rattle.std.proofs.Common.{arith, ◌≡◌, ◌<◌, [], ℕ, List, length, length-set, map, set, get_or, get_or-set_other, get_or-set_same, le_refl, sym, ap, ◌∙◌, subst}
use Rattle.std.proofs.lemmas.List.{map-set, length-map, get_or-map}
use Rattle.std.specs.Vec.{with_items}
use mathlib.Core.Logic.{dite}
use native.Mathlib.Decide.{ℕ_discrete}
use Rattle.meet_exchange.specs.declared.records.Part.{Part}
use Rattle.meet_exchange.specs.declared.records.Round.{Round}
use Rattle.meet_exchange.specs.Rebuild.{rebuilt_from}
use Rattle.meet_exchange.specs.Closed.{numbered, entry_at}
use Rattle.meet_exchange.proofs.Blanks.{written_back}
use Rattle.meet_exchange.proofs.rebuild.fill_all.Goals as goal

pub loop-slot-preserved : goal.loop-slot-preserved
loop-slot-preserved c = let inv = c.loop-slot.invariant in let i : ℕ = c.loop-slot.slot in let s = c.loop-slot.slots.items in let old : List (List Round) = map (λ r. r.items) s in
    let ls : List (ℕ × List Part) = numbered 0 (map (λ l. l.items) c.args.lists.now) in let before : List (List Round) = map (λ r. r.items) c.args.slots.now.items in
    let inside : i < length s = omega (arith, inv.count, c.loop-slot-test.true) in let wide : i < length old = omega (arith, inside, length-map s (λ r. r.items)) in
    let first : c.as_mut_slice.result.now ≡ entry_at old i = c.as_mut_slice.ensures.value ∙ (ap (λ r. r.items) c.index_mut.ensures.value ∙ sym (get_or-map (λ r. r.items) s i c.index_mut.result.now [] inside)) in
    let new : c.fill_in.new.rounds ≡ rebuilt_from c.args.start i ls (entry_at before i) = c.fill_in.ensures ∙ ap (rebuilt_from c.args.start i ls) (first ∙ inv.rest i (le_refl i)) in
    let is : map (λ r. r.items) (set s i (with_items c.index_mut.result.now c.fill_in.new.rounds)) ≡ set old i c.fill_in.new.rounds = map-set (λ r. r.items) s i (with_items c.index_mut.result.now c.fill_in.new.rounds)
    ∙ ap (set old i) (written_back c.index_mut.result.now.len c.fill_in.new.rounds c.index_mut.result.now.items (c.fill_in.auto.rounds ∙ c.as_mut_slice.ensures.len) (ap length (sym c.as_mut_slice.ensures.value) ∙ c.as_mut_slice.ensures.len)) in
    let told : (k : ℕ) → entry_at (map (λ r. r.items) (set s i (with_items c.index_mut.result.now c.fill_in.new.rounds))) k ≡ get_or (set old i c.fill_in.new.rounds) k [] = λ k. ap (λ z. get_or z k []) is in record {
      count = length-set s i _ ∙ inv.count;
      done = λ k l. told k ∙ dite (ℕ_discrete k i)
          (λ e. subst (λ z. get_or (set old i c.fill_in.new.rounds) z [] ≡ rebuilt_from c.args.start z ls (entry_at before z)) (sym e) (get_or-set_same old i c.fill_in.new.rounds [] wide ∙ new))
          (λ ne. get_or-set_other old i k c.fill_in.new.rounds [] ne ∙ inv.done k (omega (arith, l, ne)));
      rest = λ k l. told k ∙ (get_or-set_other old i k c.fill_in.new.rounds [] (λ e. omega (arith, l, e)) ∙ inv.rest k (omega (arith, l)));
    }
