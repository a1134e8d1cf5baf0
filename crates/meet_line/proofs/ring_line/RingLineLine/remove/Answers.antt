-- Proof of `RingLine::remove`, src/ring_line.rt.
use Rattle.std.proofs.Common.{◌≡◌, ◌≢◌, ◌∙◌, ◌<◌, ◌==◌, length, sym, refl, rules, arith, tests}
use Rattle.std.specs.List.{position}
use Rattle.std.proofs.lemmas.Iterator.Search.{position_from_yields_List}
use Rattle.std.proofs.lemmas.Iterator.Consumers.{YieldsList-from_deque}
use Rattle.std.proofs.lemmas.List.Quantifiers.{all_pairs_remove}
use Rattle.meet_line.proofs.Removals.{removed_there, removed_nowhere}
use Rattle.meet_line.proofs.ring_line.RingLineLine.remove.Given.{Over}
use Rattle.meet_line.proofs.ring_line.RingLineLine.remove.Goals.{After-position}
use Rattle.meet_line.proofs.ring_line.RingLineLine.remove.Goals as goal

-- the walk stops at the first entry of the ticket
stops : (g : Over) (c : After-position g) → c.position.result ≡ position (λ e. e.ticket == c.args.ticket) c.self.inside.entries.items
stops g c =
    position_from_yields_List (λ e. e.ticket == c.args.ticket) _ _ _ c.position.ensures.ran (YieldsList-from_deque c.self.inside.entries.items (cc)) (λ x b q k. search (rules, tests))

pub returns-in_err-index : goal.returns-in_err-index
returns-in_err-index g c =
    let removed = removed_nowhere (λ e. e.ticket == c.args.ticket) c.self.inside.entries.items (sym (stops g (goal.at.returns-in_err-index g c).After-position) ∙ c.in_err-index.was) in
    rw (← c.self.view_is) (record { entry = c.from_residual.ensures ∙ removed.0; entries = removed.1; room = search rules; width = refl })

pub invariant_of-self-2 : goal.invariant_of-self-2
invariant_of-self-2 g c =
    let there : c.in_ok-index.index < length c.self.inside.entries.items = search rules in (
      omega (arith, c.self.invariant.0, c.in_ok-removed.ensures.len, c.in_ok-removed.ensures.capacity),
      rw c.in_ok-removed.ensures.items (all_pairs_remove (λ e f. e.ticket ≢ f.ticket) c.self.inside.entries.items c.in_ok-index.index there c.self.invariant.1),
    )

pub returns : goal.returns
returns g c =
    let removed = removed_there (λ e. e.ticket == c.args.ticket) c.self.inside.entries.items c.remove.new.self.items c.in_ok-index.index c.in_ok-removed.removed (sym (stops g (goal.at.returns g c).After-position) ∙ c.in_ok-index.was) c.in_ok-removed.ensures.value c.in_ok-removed.ensures.items in
    rw (← c.self.view_is) (record { entry = removed.0; entries = removed.1; room = search rules; width = refl })
