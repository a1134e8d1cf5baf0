-- Proof of `index_from_back`, src/line.rt. The index of the entry of this ticket among entries whose tickets rise.
use Rattle.std.proofs.Common.{◌≡◌, ℕ, ◌-◌, ◌<◌, ◌≤◌, ◌⊎◌, None, false, get_or, ⊎_elim, ap, sym, arith}
use Rattle.std.proofs.lemmas.Bool.{cases_lt}
use Rattle.meet_tickets.specs.declared.lines.Entry.{Entry}
use Rattle.meet_overlap.proofs.Rising.{found_at, found_nowhere}
use Rattle.meet_overlap.proofs.line.index_from_back.Goals as goal

pub returns-then-found-number : goal.returns-then-found-number
returns-then-found-number c =
    let within = c.loop-index.invariant.0 in
    let some = c.loop-index-test.true in
    let own : c.index-entries-index.result.ticket ≡ (get_or c.args.entries.now (c.loop-index.index - 1) c.index-entries-index.result).ticket = ap (λ (f : Entry ℕ). f.ticket) c.index-entries-index.is in
    let same : c.index-entries-index.result.ticket ≡ c.args.ticket = omega (arith, own, c.number-found.ensures.value, c.number.ensures.value, c.if-found-number.true) in
    sym (found_at c.args.entries.now c.args.ticket (c.loop-index.index - 1) c.index-entries-index.result c.requires (omega arith) c.index-entries-index.is same)

pub returns-then-found-number-2 : goal.returns-then-found-number-2
returns-then-found-number-2 c =
    let entries = c.args.entries.now in
    let i = c.loop-index.index - 1 in
    let e = c.index-entries-index.result in
    let within = c.loop-index.invariant.0 in
    let some = c.loop-index-test.true in
    let own : e.ticket ≡ (get_or entries i e).ticket = ap (λ (f : Entry ℕ). f.ticket) c.index-entries-index.is in
    let below : e.ticket < c.args.ticket = omega (arith, own, c.number-found.ensures.value, c.number-in-loop-index.ensures.value, c.if-found-number-2.true) in
    sym (found_nowhere entries c.args.ticket e (λ k there is. ⊎_elim
    (λ before. let lt : (get_or entries k e).ticket < (get_or entries i e).ticket = c.requires k i e before (omega arith) in omega arith)
    (λ after. ⊎_elim
    (λ same. let at : (get_or entries i e).ticket ≡ (get_or entries k e).ticket = ap (λ n. (get_or entries n e).ticket) (sym same) in omega arith)
    (λ behind. let lt : c.args.ticket < (get_or entries k e).ticket = c.loop-index.invariant.1 k e (omega arith) there in omega arith)
    (at_or_after k i after))
    (cases_lt k i)))
  where
    at_or_after : (k i : ℕ) → i ≤ k → (k ≡ i) ⊎ (i < k)
    at_or_after k i le = grind (arith)

pub returns : goal.returns
returns c =
    let entries = c.args.entries.now in
    let none = c.loop-index-test.false in
    let nobody : Entry ℕ = record { ticket = 0; seat = 0; item = None; waits = false } in
    sym (found_nowhere entries c.args.ticket nobody (λ k there is.
    let lt : c.args.ticket < (get_or entries k nobody).ticket = c.loop-index.invariant.1 k nobody (omega arith) there in omega arith))
