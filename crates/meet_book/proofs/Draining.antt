-- A poll more.
use Rattle.std.proofs.Common.{◌≡◌, ℕ, ◌+◌, refl, subst, List, [], ◌∷◌, ◌++◌, length, arith, Option, Some}
use Rattle.meet_tickets.specs.declared.records.Record.{Record}
use Rattle.meet_book.specs.Received.{Received}
use Rattle.meet_book.specs.Draining.{Polls, AreNumbered}

-- polls, and one more
pub Polls-last : {O A D : Type 0} (Does : O → A → O → Type 0) (record_of : A → Option (Record D)) (old mid new : O) (got : List (A × Received D)) (one : A × Received D) → Polls Does record_of old got mid → Does mid one.0 new → record_of one.0 ≡ Some one.1.entry → Polls Does record_of old (got ++ one ∷ []) new
Polls-last Does record_of old mid new [] one polls step is = (new, subst (λ o. Does o one.0 new) polls step, is, refl)
Polls-last Does record_of old mid new (first ∷ got) one polls step is =
    (polls.0, polls.1, polls.2, Polls-last Does record_of polls.0 mid new got one polls.3 step is)

-- receipts in order, and the next one
pub AreNumbered-last : {A D : Type 0} (last : ℕ) (got : List (A × Received D)) (one : A × Received D) → AreNumbered last got → one.1.place ≡ last + length got + 1 → AreNumbered last (got ++ one ∷ [])
AreNumbered-last last [] one all place = (let at : one.1.place ≡ last + 1 = omega arith in at, tt)
AreNumbered-last last (first ∷ got) one all place =
    let at : one.1.place ≡ last + 1 + length got + 1 = omega arith in
    (all.0, AreNumbered-last (last + 1) got one all.1 at)
