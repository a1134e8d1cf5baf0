-- Polls change no number of seats.
use Rattle.std.proofs.Common.{◌≡◌, ℕ, ap, ◌∙◌, Option, List, [], ◌∷◌}
use Rattle.meet_tickets.specs.declared.records.Record.{Record}
use Rattle.meet_tickets.specs.declared.refusals.Refusal.{Refusal}
use Rattle.meet_book.specs.Draining.{TakingPolls}
use Rattle.meet_book.specs.Received.{Received}

module _ {O A D : Type 0} (steps : O → A → O → Type 0) (record_of : A → Option (Record D))
    (refusal_of : O → Option Refusal) (available_of unspent_of owed_of seat_count_of : O → ℕ)
    (same : (old : O) (answer : A) (new : O) → steps old answer new → seat_count_of new ≡ seat_count_of old) where
  pub polls_keep : (old : O) (got : List (A × Received D)) (new : O)
      → TakingPolls steps record_of refusal_of available_of unspent_of owed_of old got new
      → seat_count_of new ≡ seat_count_of old
  polls_keep old [] new is = ap seat_count_of is
  polls_keep old (one ∷ got) new (mid, does, is, polls) = polls_keep mid got new polls ∙ same old one.0 mid does.0
