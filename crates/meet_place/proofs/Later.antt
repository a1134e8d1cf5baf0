-- What comes behind a moment.
use Rattle.std.proofs.Common.{◌≡◌, ℕ, ◌+◌, ◌<◌, ◌≤◌, List, [], ◌∷◌, ◌++◌, map, length, sym, ap, ◌∙◌, subst, arith}
use Rattle.std.specs.Prelude.{All}
use Rattle.std.proofs.lemmas.List.{append-nil, append_assoc}
use Rattle.std.proofs.lemmas.List.Elements.{All-nil, All-cons, All-append}
use Rattle.meet_book.specs.Draining.{AreNumbered}
use Rattle.meet_book.specs.Received.{Received}
use Rattle.meet_book.specs.Booked.{Booked}
use Rattle.meet_tickets.specs.declared.records.Record.{Record}
use Rattle.meet_place.specs.Holds.{IsSince}
use Rattle.meet_place.specs.Seats.{SeatView, IsLater}

module _ {D : Type 0} where
  -- nothing came
  pub later_none : (before after : ℕ) (old new : List (Received D)) → before ≤ after → new ≡ old → IsLater before after old new
  later_none before after old new goes_on same = (goes_on, [], same ∙ sym (append-nil old), All-nil (λ receipt. (before < receipt.place) × (receipt.place ≤ after)))

  -- a seat stayed as it was
  pub later_same : (old new : SeatView D) → new ≡ old → IsLater old.moment new.moment old.list new.list
  later_same old new same = let moment = ap (λ (s : SeatView D). s.moment) same in later_none old.moment new.moment old.list new.list (omega (arith, moment)) (ap (λ (s : SeatView D). s.list) same)

  -- nothing came, and the moment is the same
  pub later_equal : (before after : ℕ) (old new : List (Received D)) → after ≡ before → new ≡ old → IsLater before after old new
  later_equal before after old new moment same = later_none before after old new (omega (arith, moment)) same

  -- a receipt came
  pub later_one : (before after : ℕ) (old new : List (Received D)) (receipt : Received D) → new ≡ old ++ receipt ∷ [] → before < receipt.place → receipt.place ≤ after → IsLater before after old new
  later_one before after old new receipt added behind within =
      let P : Received D → Type 0 = λ r. (before < r.place) × (r.place ≤ after) in
      (omega (arith, behind, within), receipt ∷ [], added, All-cons P receipt [] (behind, within) (All-nil P))

  wider : (a b c d : ℕ) (made : List (Received D)) → c ≤ a → b ≤ d → All (λ r. (a < r.place) × (r.place ≤ b)) made → All (λ r. (c < r.place) × (r.place ≤ d)) made
  wider a b c d made low high all = λ k e lt. let t = all k e lt in let p = t.0 in let q = t.1 in (omega (arith, p, low), omega (arith, q, high))

  -- some came, and then others
  pub later_both : (a b c : ℕ) (first second third : List (Received D)) → IsLater a b first second → IsLater b c second third → IsLater a c first third
  later_both a b c first second third (on, one, is, all) (on', two, is', all') = (
    omega (arith, on, on'),
    one ++ two,
    is' ∙ ap (λ l. l ++ two) is ∙ append_assoc first one two,
    All-append (λ r. (a < r.place) × (r.place ≤ c)) one two (wider a b a c one (omega arith) on' all) (wider b c a c two on (omega arith) all'),
  )

-- receipts that are numbered on from here are between it and the last
numbered_between : {A D : Type 0} (before last after : ℕ) (got : List (A × Received D)) → AreNumbered last got → before ≤ last → last + length got ≤ after
    → All (λ r. (before < r.place) × (r.place ≤ after)) (map (λ one. one.1) got)
numbered_between before last after [] numbered low high = All-nil (λ r. (before < r.place) × (r.place ≤ after))
numbered_between before last after (one ∷ got) (at, rest) low high =
    All-cons (λ r. (before < r.place) × (r.place ≤ after)) one.1 (map (λ x. x.1) got) (omega (arith, at, low), omega (arith, at, high)) (numbered_between before (last + 1) after got rest (omega (arith, low)) (omega (arith, high)))

-- some came that are numbered on from here
pub later_numbered : {A D : Type 0} (before last after : ℕ) (old new : List (Received D)) (got : List (A × Received D)) → new ≡ old ++ map (λ one. one.1) got → AreNumbered last got → before ≤ last → last + length got ≤ after
    → IsLater before after old new
later_numbered before last after old new got added numbered low high =
    (omega (arith, low, high), map (λ one. one.1) got, added, numbered_between before last after got numbered low high)

-- what is since a moment is since the same moment, and so is the same book
pub since_same : {O B D : Type 0} (leads : B → List (Record D) → O → Type 0) (gone_of : B → ℕ) (told moment : ℕ) (found book : Booked O B D) → told ≡ moment → book ≡ found
    → IsSince leads gone_of told found → IsSince leads gone_of moment book
since_same leads gone_of told moment found book same is since = subst (λ m. IsSince leads gone_of m book) same (subst (λ b. IsSince leads gone_of told b) (sym is) since)
