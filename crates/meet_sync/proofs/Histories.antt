-- A place's history is a queue's, where the place is a queue.
use Rattle.std.proofs.Common.{◌≡◌, ℕ, ap, ◌∙◌, List}
use Rattle.meet_tickets.specs.declared.places.Kind.{Kind}
use Rattle.meet_tickets.specs.declared.records.Record.{Record}
use Rattle.meet_tickets.specs.declared.records.Deed.{Deed}
use Rattle.meet_tickets.specs.Bases.{Based, no_base}
use Rattle.meet_core.specs.Queue.{Queue}
use Rattle.meet_core.specs.QueueSteps.{LeadsTo}
use Rattle.meet_sync.specs.Chronicles.{IsChapter}

pub chapter_of : {T O : Type 0} (mark : T → ℕ) (k : Kind) (queue_of : O → Queue T) (gone_of : Based → ℕ)
    (first base : Based) (records : List (Record Deed)) (o : O) → LeadsTo mark k base records (queue_of o)
    → gone_of ≡ (λ b. b.gone) → first ≡ no_base → (gone_of base ≡ 0 → base ≡ first) → IsChapter k base records
chapter_of mark k queue_of gone_of first base records o leads gone is_first begins = record {
  well_formed = leads.well_formed;
  first = λ none. begins (ap (λ f. f base) gone ∙ none) ∙ is_first;
  legal = leads.legal;
}
