-- What is answered of the book behind the lock is so of some book.
use Rattle.std.proofs.Common.{◌≡◌, ◌⊎◌, ◌+◌, subst, ℕ, Ok, Err, inl, inr, true}
use Rattle.std.specs.Prelude.{Result, IfOk, IfErr}
use Rattle.meet_tickets.specs.declared.refusals.Refusal.{Refusal}
use Rattle.meet_tickets.specs.Refusals.{IsWhy}
use Rattle.meet_book.specs.Booked.{Booked}
use Rattle.meet_book.specs.Booking.{cut_refusal}
use Rattle.meet_place.specs.Holds.{IsBookOf}
use Rattle.meet_place.specs.Seats.{SeatView, Checkpoints, Trims}
use Rattle.meet_place.specs.Tending.{is_half_full, to_fold, LooksAfter, FoldsNone, Tends}

module _ {O B D A : Type 0} (gone_of : B → ℕ) (book : Booked O B D) where
  -- why nothing was folded away
  pub refused : (r : Result A Refusal) → IfErr r (IsWhy (cut_refusal (gone_of book.base) book))
      → IfErr r (λ why. (b : Booked O B D) × IsWhy (cut_refusal (gone_of b.base) b) why)
  refused (Ok n) is = is
  refused (Err why) is = (book, is)

  module _ (seat_count_of : O → ℕ) (parts cap : ℕ) (place : IsBookOf seat_count_of parts cap book) (gone : ℕ) where
    -- what was folded away where the book was looked at
    pub looked : (old new : SeatView D) → (r : Result A Refusal)
        → IfOk r (λ _. gone ≡ gone_of book.base + to_fold book) → IfOk r (λ _. Checkpoints (to_fold book) old new)
        → IfOk r (λ _. (b : Booked O B D) × IsBookOf seat_count_of parts cap b × (gone ≡ gone_of b.base + to_fold b)
        × Checkpoints (to_fold b) old new)
    looked old new (Ok done) is counted = (book, place, is, counted)
    looked old new (Err why) is counted = is

    -- why nothing was folded away where the book was looked at
    pub left_full : (r : Result A Refusal) → IfErr r (λ _. gone ≡ gone_of book.base)
        → IfErr r (λ _. is_half_full book ≡ true) → IfErr r (IsWhy (cut_refusal (gone_of book.base) book))
        → IfErr r (λ why. (b : Booked O B D) × IsBookOf seat_count_of parts cap b × (gone ≡ gone_of b.base)
        × (is_half_full b ≡ true) × IsWhy (cut_refusal (gone_of b.base) b) why)
    left_full (Ok done) none full is = is
    left_full (Err why) none full is = (book, place, none, full, is)

module _ {O B D A : Type 0} (gone_of : B → ℕ) (seat_count_of : O → ℕ) (parts cap gone : ℕ) (old between new : SeatView D)
    (trims : Trims gone between new) where
  -- who looked at a book, and then let go of receipts, looked after it
  pub looks_after : (r : Result A Refusal)
      → IfOk r (λ _. (b : Booked O B D) × IsBookOf seat_count_of parts cap b × (gone ≡ gone_of b.base + to_fold b)
      × Checkpoints (to_fold b) old between)
      → IfOk r (λ _. (new ≡ old) ⊎ ((b : Booked O B D) × IsBookOf seat_count_of parts cap b
      × LooksAfter gone_of b old new))
  looks_after (Ok done) (b, place, is, counted) =
      inr (b, place, (between, counted, subst (λ n. Trims n between new) is trims))
  looks_after (Err why) looked = looked

  -- so it did, and changed something
  pub has_looked : (r : Result A Refusal)
      → IfOk r (λ _. (b : Booked O B D) × IsBookOf seat_count_of parts cap b × (gone ≡ gone_of b.base + to_fold b)
      × Checkpoints (to_fold b) old between)
      → IfOk r (λ _. (b : Booked O B D) × IsBookOf seat_count_of parts cap b × LooksAfter gone_of b old new)
  has_looked (Ok done) (b, place, is, counted) =
      (b, place, (between, counted, subst (λ n. Trims n between new) is trims))
  has_looked (Err why) looked = looked

  -- who looked at one that stays full let go of receipts alone
  pub folds_none : (r : Result A Refusal)
      → IfErr r (λ why. (b : Booked O B D) × IsBookOf seat_count_of parts cap b × (gone ≡ gone_of b.base)
      × (is_half_full b ≡ true) × IsWhy (cut_refusal (gone_of b.base) b) why)
      → IfErr r (λ _. between ≡ old)
      → IfErr r (λ why. (b : Booked O B D) × IsBookOf seat_count_of parts cap b × FoldsNone gone_of b why old new)
  folds_none (Ok done) looked same = looked
  folds_none (Err why) (b, place, is, full, refused) same = (
    b,
    place,
    record {
      full = full;
      refused = refused;
      trims = subst (λ seat. Trims (gone_of b.base) seat new) same (subst (λ n. Trims n between new) is trims);
    },
  )

module _ {O B D A : Type 0} (gone_of : B → ℕ) (seat_count_of : O → ℕ) (parts cap : ℕ) (old new : SeatView D) where
  -- who looked after some book tended its place
  pub tends : (r : Result A Refusal)
      → IfOk r (λ _. (new ≡ old) ⊎ ((b : Booked O B D) × IsBookOf seat_count_of parts cap b
      × LooksAfter gone_of b old new))
      → IfOk r (λ _. (new ≡ old) ⊎ Tends old new)
  tends (Ok done) (inl same) = inl same
  tends (Ok done) (inr (b, place, (between, counted, trims))) =
      inr (to_fold b, gone_of b.base + to_fold b, between, counted, trims)
  tends (Err why) is = is

  -- who found that it stays full let go of receipts
  pub trims_still : (r : Result A Refusal)
      → IfErr r (λ why. (b : Booked O B D) × IsBookOf seat_count_of parts cap b × FoldsNone gone_of b why old new)
      → IfErr r (λ _. (gone : ℕ) × Trims gone old new)
  trims_still (Ok done) is = is
  trims_still (Err why) (b, place, none) = (gone_of b.base, none.trims)

  -- and was refused as a checkpoint is
  pub refused_still : (r : Result A Refusal)
      → IfErr r (λ why. (b : Booked O B D) × IsBookOf seat_count_of parts cap b × FoldsNone gone_of b why old new)
      → IfErr r (λ why. (b : Booked O B D) × IsWhy (cut_refusal (gone_of b.base) b) why)
  refused_still (Ok done) is = is
  refused_still (Err why) (b, place, none) = (b, none.refused)
