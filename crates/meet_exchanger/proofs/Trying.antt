-- An exchange, from step to step.
use Rattle.std.proofs.Common.{◌≡◌, ◌≢◌, ℕ, ◌+◌, ◌⊎◌, inl, inr, List, [], ◌∷◌, ◌++◌, Option, Some, None, IfNone, Bool, true, false, sym, refl, ◌∙◌, subst}
use Rattle.std.proofs.lemmas.List.{append-nil}
use Rattle.meet_exchange.specs.declared.records.Part.{Part}
use Rattle.meet_exchange.specs.declared.records.SlotDeed.TheVariants.{Posted, Withdrawn, Swapped, Collected}
use Rattle.meet_exchange.specs.Words.{code_in, number_in}
use Rattle.meet_exchange.specs.Rounds.{part}
use Rattle.meet_exchange.specs.Seats.{SeatView, PendingView, Went}
use Rattle.meet_exchange.specs.Calls.{HasRound, StandsAt}
use Rattle.meet_exchange.specs.Ways.{SawFree, SawTaken}
use Rattle.meet_exchange.proofs.Tries.{then, free_more, taken_more}
use Rattle.meet_exchanger.specs.Tries.{HasPosted, HasLost, HasMet, HasTakenBack, IsContended, MayTimeOut}

module _ (v : SeatView) (a : ℕ) where
  -- the step that ends an offer adds its part, and no word
  ended : (p : PendingView) (s : SeatView) (ps qs : List Part) (words : List (ℕ × ℕ)) → Went v p.seat ps words → Went p.seat s qs [] → Went v s (ps ++ qs) words
  ended p s ps qs words before went = subst (Went v s (ps ++ qs)) (append-nil words) (then v p.seat s ps qs words [] before went)

  -- an offer that was posted
  pub posted : (k w m : ℕ) (p : PendingView) → HasRound w → StandsAt k (number_in w) m p → m ≡ a → Went v p.seat (part k (number_in w) (Posted m) ∷ []) ((k, w) ∷ []) → HasPosted v a p
  posted k w m p free st e went = let P : ℕ → ℕ → ℕ → Type 0 = λ k r m. (looks : ℕ) × (words : List (ℕ × ℕ)) × SawFree k r looks words × Went v p.seat (part k r (Posted m) ∷ []) words in
      let here : P k (number_in w) m = (0, (k, w) ∷ [], (w, [], refl, free, refl, tt, refl), went) in
      let there : P p.slot p.round a = subst (λ k. P k p.round a) (sym st.0) (subst (λ r. P k r a) (sym st.1) (subst (λ m. P k (number_in w) m) e here)) in
      (st.2 ∙ e, there.0, there.1, there.2, there.3)

  -- that was looked at once more
  pub still : (p q : PendingView) (w : ℕ) → HasPosted v a p → StandsAt p.slot p.round p.mark q → code_in w ≢ 4 → Went p.seat q.seat [] ((p.slot, w) ∷ []) → HasPosted v a q
  still p q w h st none went = let P : ℕ → ℕ → Type 0 = λ k r. (looks : ℕ) × (words : List (ℕ × ℕ)) × SawFree k r looks words × Went v q.seat (part k r (Posted a) ∷ []) words in
      let here : P p.slot p.round = (
        h.1 + 1,
        h.2 ++ (p.slot, w) ∷ [],
        free_more p.slot p.round h.1 w h.2 h.3 none,
        then v p.seat q.seat (part p.slot p.round (Posted a) ∷ []) [] h.2 ((p.slot, w) ∷ []) h.4 went,
      ) in
      let there : P q.slot q.round = subst (λ k. P k q.round) (sym st.0) (subst (λ r. P p.slot r) (sym st.1) here) in
      (st.2 ∙ h.0, there.0, there.1, there.2, there.3)

  -- that was to be taken back, and was gone
  pub late : (p q : PendingView) (w : ℕ) → HasPosted v a p → StandsAt p.slot p.round p.mark q → code_in w ≢ 2 → Went p.seat q.seat [] ((p.slot, w) ∷ []) → HasLost v a q
  late p q w h st gone went = let P : ℕ → ℕ → Type 0 = λ k r. (looks : ℕ) × (words : List (ℕ × ℕ)) × SawTaken k r looks words × Went v q.seat (part k r (Posted a) ∷ []) words in
      let here : P p.slot p.round = (
        h.1,
        h.2 ++ (p.slot, w) ∷ [],
        (h.2, w, [], refl, h.3, gone, tt),
        then v p.seat q.seat (part p.slot p.round (Posted a) ∷ []) [] h.2 ((p.slot, w) ∷ []) h.4 went,
      ) in
      let there : P q.slot q.round = subst (λ k. P k q.round) (sym st.0) (subst (λ r. P p.slot r) (sym st.1) here) in
      (st.2 ∙ h.0, there.0, there.1, there.2, there.3)

  -- and that was looked at once more
  pub lost_still : (p q : PendingView) (w : ℕ) → HasLost v a p → StandsAt p.slot p.round p.mark q → code_in w ≢ 4 → Went p.seat q.seat [] ((p.slot, w) ∷ []) → HasLost v a q
  lost_still p q w h st none went = let P : ℕ → ℕ → Type 0 = λ k r. (looks : ℕ) × (words : List (ℕ × ℕ)) × SawTaken k r looks words × Went v q.seat (part k r (Posted a) ∷ []) words in
      let here : P p.slot p.round = (
        h.1,
        h.2 ++ (p.slot, w) ∷ [],
        taken_more p.slot p.round h.1 w h.2 h.3 none,
        then v p.seat q.seat (part p.slot p.round (Posted a) ∷ []) [] h.2 ((p.slot, w) ∷ []) h.4 went,
      ) in
      let there : P q.slot q.round = subst (λ k. P k q.round) (sym st.0) (subst (λ r. P p.slot r) (sym st.1) here) in
      (st.2 ∙ h.0, there.0, there.1, there.2, there.3)

  -- that was collected
  pub got : (p : PendingView) (s : SeatView) (b : ℕ) → HasPosted v a p → Went p.seat s (part p.slot p.round (Collected b) ∷ []) [] → HasMet v p.slot a b s
  got p s b h went = inr (p.round, h.1, h.2, inl h.3, ended p s (part p.slot p.round (Posted a) ∷ []) (part p.slot p.round (Collected b) ∷ []) h.2 h.4 went)

  pub lost_got : (p : PendingView) (s : SeatView) (b : ℕ) → HasLost v a p → Went p.seat s (part p.slot p.round (Collected b) ∷ []) [] → HasMet v p.slot a b s
  lost_got p s b h went = inr (p.round, h.1, h.2, inr h.3, ended p s (part p.slot p.round (Posted a) ∷ []) (part p.slot p.round (Collected b) ∷ []) h.2 h.4 went)

  -- that was taken back
  pub back : (p : PendingView) (s : SeatView) → HasPosted v a p → Went p.seat s (part p.slot p.round Withdrawn ∷ []) [] → HasTakenBack v p.slot a s
  back p s h went = (p.round, h.1, h.2, h.3, ended p s (part p.slot p.round (Posted a) ∷ []) (part p.slot p.round Withdrawn ∷ []) h.2 h.4 went)

-- an offer that was contended
pub contended : (v s : SeatView) (k seen w : ℕ)
    → ((w ≡ seen) × (code_in seen ≢ 0) × (code_in seen ≢ 2) × Went v s [] ((k, seen) ∷ [])) ⊎ ((w ≢ seen) × (HasRound seen ⊎ (code_in seen ≡ 2)) × Went v s [] ((k, seen) ∷ (k, w) ∷ []))
    → IsContended v k s
contended v s k seen w (inl c) = ((k, seen) ∷ [], (seen, inl (refl, c.1, c.2)), c.3)
contended v s k seen w (inr c) = ((k, seen) ∷ (k, w) ∷ [], (seen, inr (w, refl, c.0, c.1)), c.2)

-- only an exchange with a limit has a time that is up
pub may : {D : Type 0} (limit : Option ℕ) (deadline : Option D) (up : Bool) → IfNone limit (deadline ≡ None) → IfNone deadline (up ≡ false) → up ≡ true → MayTimeOut limit
may None deadline up e f is = let no : up ≡ false = subst (λ d. IfNone d (up ≡ false)) e f in cc
may (Some milliseconds) deadline up e f is = tt
