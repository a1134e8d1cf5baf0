-- Proof of `judge_buffer`, src/buffer.rt. Judges the calls of a buffer.
use Rattle.std.proofs.Common.{◌≡◌, ◌∙◌, List, subst}
use Rattle.meet_tickets.specs.declared.records.Deed.{Deed}
use Rattle.meet_tickets.specs.declared.records.Record.{Record}
use Rattle.meet_overlap.specs.Buffers.{effects}
use Rattle.meet_overlap.specs.Explaining.{Explains}
use Rattle.meet_overlap.proofs.buffer.judge_buffer.Goals as goal

pub returns-clause-no : goal.returns-clause-no
returns-clause-no c =
    let none : (history : List (Record Deed)) → Explains c.buffer_kind.result c.as_slice.result.now history → ⊥ = rw c.in-Err.is at c.in_ok-history.ensures.no in
    let list : c.as_slice.result.now ≡ effects c.args.calls.now = c.as_slice.ensures.value ∙ c.in_ok-list.ensures in
    let one : (history : List (Record Deed)) → Explains c.buffer_kind.result (effects c.args.calls.now) history → ⊥ =
    subst (λ calls. (history : List (Record Deed)) → Explains c.buffer_kind.result calls history → ⊥) list none in
    subst (λ k. (history : List (Record Deed)) → Explains k (effects c.args.calls.now) history → ⊥) c.buffer_kind.ensures one
