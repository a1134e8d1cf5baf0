-- How many tickets are open, once one seat holds something else.
use Rattle.std.proofs.Common.{◌≡◌, ◌≢◌, ℕ, ◌+◌, ◌<◌, ◌≤◌, sym, ap, ◌∙◌, ⊎_elim, true, arith}
use Rattle.std.specs.List.{range_with_len}
use Rattle.std.proofs.lemmas.Bool.{cases_eq}
use Rattle.meet_tickets.specs.declared.lines.Hold.{Hold}
use Rattle.meet_tickets.specs.declared.lines.Hold.TheVariants.{Free}
use Rattle.meet_tickets.specs.BySeat.{put_at, is_open, owed_of}
use Rattle.meet_tickets.proofs.Lists.Changed.{one, count-same, count_more, count_once, times_range, times_most}
use Rattle.meet_tickets.proofs.Tellings.Whereabouts.{put_at_here, put_at_there}

module _ {T : Type 0} (holds : ℕ → Hold T) (count i : ℕ) where
  -- the other seats are as they were
  others : (hold : Hold T) (k : ℕ) → k ≢ i → is_open (put_at holds i hold k) ≡ is_open (holds k)
  others hold k apart = ap is_open (put_at_there holds i hold k apart)

  -- a seat that has an open ticket before and after, or neither, changes nothing
  pub owed-same : (hold : Hold T) → is_open hold ≡ is_open (holds i) → owed_of count (put_at holds i hold) ≡ owed_of count holds
  owed-same hold same = count-same (λ k. is_open (put_at holds i hold k)) (λ k. is_open (holds k)) (λ k. ⊎_elim (at k) (others hold k) (cases_eq k i)) (range_with_len 0 count)
    where
      at : (k : ℕ) → k ≡ i → is_open (put_at holds i hold k) ≡ is_open (holds k)
      at k e = ap (λ j. is_open (put_at holds i hold j)) e ∙ ap is_open (put_at_here holds i hold) ∙ same ∙ ap (λ j. is_open (holds j)) (sym e)

  -- at most one more is open
  pub owed-more : (hold : Hold T) → owed_of count (put_at holds i hold) ≤ owed_of count holds + 1
  owed-more hold =
      count_more (λ k. is_open (put_at holds i hold k)) (λ k. is_open (holds k)) i (others hold) (range_with_len 0 count) (times_most i 0 count)

  -- an open ticket that ends is one less
  pub owed-fewer : i < count → is_open (holds i) ≡ true → owed_of count (put_at holds i Free) + 1 ≡ owed_of count holds
  owed-fewer there opened =
      let changed = count_once (λ k. is_open (put_at holds i Free k)) (λ k. is_open (holds k)) i (others Free) (range_with_len 0 count) (times_range i 0 count (omega arith) (omega arith)) in
      let now : ◌≡◌ {A = ℕ} (one (is_open (put_at holds i Free i))) 0 = ap (λ h. one (is_open h)) (put_at_here holds i Free) in
      let was : ◌≡◌ {A = ℕ} (one (is_open (holds i))) 1 = ap one opened in
      omega (arith, changed, now, was)
