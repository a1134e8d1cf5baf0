-- An exchange, turn by turn.
use Rattle.std.proofs.Common.{◌≡◌, ◌≢◌, ℕ, ◌+◌, ◌-◌, ◌/◌, ◌%◌, ◌<◌, ◌≤◌, ◌⊎◌, inl, inr, List, [], ◌∷◌, ◌++◌, length, length-append, sym, refl, ap, ◌∙◌, subst, arith, add-zero, le_refl, lt_of_not-le, Option, Some, None}
use Rattle.std.proofs.lemmas.List.{append_assoc, append-nil}
use Rattle.meet_exchange.specs.declared.records.Part.{Part}
use Rattle.meet_exchange.specs.declared.records.SlotDeed.TheVariants.{Posted, Withdrawn, Swapped, Collected}
use Rattle.meet_exchange.specs.declared.waiting.Exchanged.{Exchanged}
use Rattle.meet_exchange.specs.declared.waiting.Exchanged.TheVariants.{Swapped as ExchangeSwapped, TimedOut, Worn, Memory}
use Rattle.meet_exchange.specs.Words.{code_in, number_in}
use Rattle.meet_exchange.specs.Rounds.{part}
use Rattle.meet_exchange.specs.Seats.{SeatView, PendingView, Went}
use Rattle.meet_exchange.specs.Calls.{HasRound, StandsAt}
use Rattle.meet_exchange.specs.Ways.{ShowNone, SawContended, SawFree, SawTaken, IsReached, IsWithin, patience, MayStand, IsOver, HasCome, HasSwapped, HasCollected, HasTimedOut}
use Rattle.meet_exchange.specs.Waits.{more_after, HasPosted, HasStayed, EndsAs, seat_after}
use Rattle.meet_exchange.specs.Ways.Comes.{begins, goes_on, comes_back}

-- a seat goes on from where it went
pub then : (u v w : SeatView) (ps qs : List Part) (xs ys : List (ℕ × ℕ)) → Went u v ps xs → Went v w qs ys → Went u w (ps ++ qs) (xs ++ ys)
then u v w ps qs xs ys a b = record {
  arena = b.arena ∙ a.arena;
  number = b.number ∙ a.number;
  list = b.list ∙ (ap (λ z. z ++ qs) a.list ∙ append_assoc u.list ps qs);
  seen = b.seen ∙ (ap (λ z. z ++ ys) a.seen ∙ append_assoc u.seen xs ys);
}

-- a limit before the first turn, and after a turn more
pub more_first : (limit : Option ℕ) → limit ≡ more_after limit 0
more_first None = refl
more_first (Some most) = let e : most ≡ most - 0 = omega arith in ap (λ (z : ℕ). Some z) e

pub more_step : (limit : Option ℕ) (turns : ℕ) → more_after (more_after limit turns) 1 ≡ more_after limit (turns + 1)
more_step None turns = refl
more_step (Some most) turns = let e : (most - turns) - 1 ≡ most - (turns + 1) = omega arith in ap (λ (z : ℕ). Some z) e

-- what is left tells whether the limit is reached
pub within_first : (limit : Option ℕ) → IsWithin limit 0
within_first None = tt
within_first (Some most) = omega arith

pub within : (limit : Option ℕ) (turns : ℕ) → ¬ IsReached limit turns → IsWithin limit turns
within None turns f = tt
within (Some most) turns f = let l : turns < most = lt_of_not-le f in omega arith

pub reached : (limit : Option ℕ) (turns : ℕ) → more_after limit turns ≡ Some 0 → IsReached limit turns
reached None turns e = absurd (cc)
reached (Some most) turns e = let d : most - turns ≡ 0 = cc in omega arith

pub not_reached : (limit : Option ℕ) (turns : ℕ) → more_after limit turns ≢ Some 0 → ¬ IsReached limit turns
not_reached None turns f = λ h. h
not_reached (Some most) turns f = λ h. let l : most ≤ turns = h in let d : most - turns ≡ 0 = omega arith in f (ap (λ (z : ℕ). Some z) d)

pub within_more : (limit : Option ℕ) (turns : ℕ) → ¬ IsReached limit turns → IsWithin limit (turns + 1)
within_more None turns f = tt
within_more (Some most) turns f = let l : turns < most = lt_of_not-le f in omega arith

pub is_limit : (limit : Option ℕ) (turns : ℕ) → more_after limit turns ≡ Some 0 → IsWithin limit turns → limit ≡ Some turns
is_limit None turns e w = absurd (cc)
is_limit (Some most) turns e w = let d : most - turns ≡ 0 = cc in let l : turns ≤ most = w in let same : most ≡ turns = omega arith in ap (λ (z : ℕ). Some z) same

pub not_limit : (limit : Option ℕ) (turns : ℕ) → ¬ IsReached limit turns → limit ≢ Some turns
not_limit limit turns f e = f (subst (λ z. IsReached z turns) (sym e) (le_refl turns))

-- an offer that stands for a look more
pub not_over : (limit : Option ℕ) (k t looks : ℕ) → ¬ IsReached limit (t + looks) → (0 < k → looks < patience) → ¬ IsOver limit k t looks
not_over limit k t looks f few (inl e) = not_limit limit (t + looks) f e
not_over limit k t looks f few (inr h) = let l : looks < patience = few h.0 in let e : looks ≡ patience = h.1 in absurd (omega arith)

pub may_more : (limit : Option ℕ) (k t looks : ℕ) → ¬ IsReached limit (t + looks) → (0 < k → looks < patience) → MayStand limit k t (looks + 1)
may_more limit k t looks f few = let e : (t + looks) + 1 ≡ t + (looks + 1) = omega arith in (subst (IsWithin limit) e (within_more limit (t + looks) f), λ above. let l : looks < patience = few above in omega arith)

-- a look more at a slot
pub none_more : (k w : ℕ) (xs : List (ℕ × ℕ)) → ShowNone k xs → code_in w ≢ 4 → ShowNone k (xs ++ (k, w) ∷ [])
none_more k w [] h none = (refl, none, tt)
none_more k w (x ∷ xs) h none = (h.0, h.1, none_more k w xs h.2 none)

pub free_more : (k r looks w : ℕ) (words : List (ℕ × ℕ)) → SawFree k r looks words → code_in w ≢ 4 → SawFree k r (looks + 1) (words ++ (k, w) ∷ [])
free_more k r looks w words h none = let more : List (ℕ × ℕ) = (k, w) ∷ [] in let e : length (h.1 ++ more) ≡ looks + 1 = omega (arith, length-append h.1 more, h.6) in
    (h.0, h.1 ++ more, ap (λ z. z ++ more) h.2, h.3, h.4, none_more k w h.1 h.5 none, e)

pub taken_more : (k r looks w : ℕ) (words : List (ℕ × ℕ)) → SawTaken k r looks words → code_in w ≢ 4 → SawTaken k r looks (words ++ (k, w) ∷ [])
taken_more k r looks w words h none = let more : List (ℕ × ℕ) = (k, w) ∷ [] in
    (h.0, h.1, h.2 ++ more, ap (λ z. z ++ more) h.3 ∙ append_assoc h.0 ((k, h.1) ∷ h.2) more, h.4, h.5, none_more k w h.2 h.6 none)

module _ (v : SeatView) (a n first : ℕ) (limit : Option ℕ) where
  -- nothing was done yet
  pub come_first : first < n → HasCome v a n first limit v first 0 [] []
  come_first l = (l, [], [], begins, record { arena = refl; number = refl; list = sym (append-nil v.list); seen = sym (append-nil v.seen) })

  -- more parts, and more words
  pub come_then : (s u : SeatView) (k t : ℕ) (ps qs : List Part) (ws xs : List (ℕ × ℕ)) → HasCome v a n first limit s k t ps ws → Went s u qs xs → HasCome v a n first limit u k t (ps ++ qs) (ws ++ xs)
  come_then s u k t ps qs ws xs h w = let g = then v s u (h.1 ++ ps) qs (h.2 ++ ws) xs h.4 w in (
    h.0,
    h.1,
    h.2,
    h.3,
    record { arena = g.arena; number = g.number; list = g.list ∙ ap (λ (z : List Part). v.list ++ z) (append_assoc h.1 ps qs); seen = g.seen ∙ ap (λ (z : List (ℕ × ℕ)). v.seen ++ z) (append_assoc h.2 ws xs) },
  )

  pub come_parts : (s u : SeatView) (k t : ℕ) (ps qs : List Part) (ws : List (ℕ × ℕ)) → HasCome v a n first limit s k t ps ws → Went s u qs [] → HasCome v a n first limit u k t (ps ++ qs) ws
  come_parts s u k t ps qs ws h w = subst (HasCome v a n first limit u k t (ps ++ qs)) (append-nil ws) (come_then s u k t ps qs ws [] h w)

  -- on to the next slot
  pub come_on : (s : SeatView) (k t : ℕ) (ws : List (ℕ × ℕ)) → HasCome v a n first limit s k t [] ws → SawContended k ws → ¬ IsReached limit (t + 1) → (k + 1) % n < n → HasCome v a n first limit s ((k + 1) % n) (t + 1) [] []
  come_on s k t ws h c f l = let g = h.4 in (
    l,
    h.1,
    h.2 ++ ws,
    goes_on ws h.3 c f,
    record { arena = g.arena; number = g.number; list = g.list; seen = g.seen ∙ ap (λ (z : List (ℕ × ℕ)). v.seen ++ z) (sym (append-nil (h.2 ++ ws))) },
  )

  -- back to the slot of half the number
  pub come_back : (s : SeatView) (k t r : ℕ) (ws : List (ℕ × ℕ)) → HasCome v a n first limit s k t (part k r (Posted a) ∷ part k r Withdrawn ∷ []) ws → 0 < k → SawFree k r patience ws → ¬ IsReached limit (t + patience)
      → HasCome v a n first limit s (k / 2) (t + patience) [] []
  come_back s k t r ws h above free f = let g = h.4 in let both : List Part = part k r (Posted a) ∷ part k r Withdrawn ∷ [] in let low : k < n = h.0 in (
    omega arith,
    h.1 ++ both,
    h.2 ++ ws,
    comes_back r ws h.3 above free f,
    record { arena = g.arena; number = g.number; list = g.list ∙ ap (λ (z : List Part). v.list ++ z) (sym (append-nil (h.1 ++ both))); seen = g.seen ∙ ap (λ (z : List (ℕ × ℕ)). v.seen ++ z) (sym (append-nil (h.2 ++ ws))) },
  )

  -- ## An offer

  -- that was posted
  pub come_posted : (s : SeatView) (p : PendingView) (k t m w : ℕ) → HasCome v a n first limit s k t [] [] → IsWithin limit t → HasRound w → StandsAt k (number_in w) m p → m ≡ a
      → Went s p.seat (part k (number_in w) (Posted m) ∷ []) ((k, w) ∷ []) → HasPosted v a n first limit p t 0
  come_posted s p k t m w h within free st e went = let P : ℕ → ℕ → ℕ → Type 0 = λ k r m. (words : List (ℕ × ℕ)) × SawFree k r 0 words × HasCome v a n first limit p.seat k t (part k r (Posted m) ∷ []) words in
      let here : P k (number_in w) m = ((k, w) ∷ [], (w, [], refl, free, refl, tt, refl), come_then s p.seat k t [] (part k (number_in w) (Posted m) ∷ []) [] ((k, w) ∷ []) h went) in
      let there : P p.slot p.round a = subst (λ k. P k p.round a) (sym st.0) (subst (λ r. P k r a) (sym st.1) (subst (λ m. P k (number_in w) m) e here)) in
      (st.2 ∙ e, (subst (IsWithin limit) (sym (add-zero t)) within, λ above. omega arith), there.0, there.1, there.2)

  -- that stands for a look more
  pub posted_still : (p q : PendingView) (t looks w : ℕ) → HasPosted v a n first limit p t looks → MayStand limit p.slot t (looks + 1) → StandsAt p.slot p.round p.mark q → code_in w ≢ 4 → Went p.seat q.seat [] ((p.slot, w) ∷ [])
      → HasPosted v a n first limit q t (looks + 1)
  posted_still p q t looks w h may st none went = let P : ℕ → ℕ → Type 0 = λ k r. MayStand limit k t (looks + 1) × (words : List (ℕ × ℕ)) × SawFree k r (looks + 1) words × HasCome v a n first limit q.seat k t (part k r (Posted a) ∷ []) words in
      let here : P p.slot p.round = (
        may,
        h.2 ++ (p.slot, w) ∷ [],
        free_more p.slot p.round looks w h.2 h.3 none,
        come_then p.seat q.seat p.slot t (part p.slot p.round (Posted a) ∷ []) [] h.2 ((p.slot, w) ∷ []) h.4 went,
      ) in
      let there : P q.slot q.round = subst (λ k. P k q.round) (sym st.0) (subst (λ r. P p.slot r) (sym st.1) here) in
      (st.2 ∙ h.0, there.0, there.1, there.2, there.3)

  -- that was to be taken back, and was gone
  pub posted_late : (p q : PendingView) (t looks w : ℕ) → HasPosted v a n first limit p t looks → IsOver limit p.slot t looks → StandsAt p.slot p.round p.mark q → code_in w ≢ 2 → Went p.seat q.seat [] ((p.slot, w) ∷ [])
      → HasStayed v a n first limit q
  posted_late p q t looks w h over st gone went = let P : ℕ → ℕ → Type 0 = λ k r. MayStand limit k t looks × IsOver limit k t looks × (words : List (ℕ × ℕ)) × SawTaken k r looks words × HasCome v a n first limit q.seat k t (part k r (Posted a) ∷ []) words in
      let here : P p.slot p.round = (
        h.1,
        over,
        h.2 ++ (p.slot, w) ∷ [],
        (h.2, w, [], refl, h.3, gone, tt),
        come_then p.seat q.seat p.slot t (part p.slot p.round (Posted a) ∷ []) [] h.2 ((p.slot, w) ∷ []) h.4 went,
      ) in
      let there : P q.slot q.round = subst (λ k. P k q.round) (sym st.0) (subst (λ r. P p.slot r) (sym st.1) here) in
      (st.2 ∙ h.0, t, looks, there.0, there.1, there.2, there.3, there.4)

  pub stayed_still : (p q : PendingView) (w : ℕ) → HasStayed v a n first limit p → StandsAt p.slot p.round p.mark q → code_in w ≢ 4 → Went p.seat q.seat [] ((p.slot, w) ∷ []) → HasStayed v a n first limit q
  stayed_still p q w h st none went = let t = h.1 in let looks = h.2 in
      let P : ℕ → ℕ → Type 0 = λ k r. MayStand limit k t looks × IsOver limit k t looks × (words : List (ℕ × ℕ)) × SawTaken k r looks words × HasCome v a n first limit q.seat k t (part k r (Posted a) ∷ []) words in
      let here : P p.slot p.round = (
        h.3,
        h.4,
        h.5 ++ (p.slot, w) ∷ [],
        taken_more p.slot p.round looks w h.5 h.6 none,
        come_then p.seat q.seat p.slot t (part p.slot p.round (Posted a) ∷ []) [] h.5 ((p.slot, w) ∷ []) h.7 went,
      ) in
      let there : P q.slot q.round = subst (λ k. P k q.round) (sym st.0) (subst (λ r. P p.slot r) (sym st.1) here) in
      (st.2 ∙ h.0, t, looks, there.0, there.1, there.2, there.3, there.4)

  -- that was collected
  pub posted_got : (p : PendingView) (u : SeatView) (t looks b w : ℕ) → HasPosted v a n first limit p t looks → ¬ IsOver limit p.slot t looks → code_in w ≡ 4 → Went p.seat u (part p.slot p.round (Collected b) ∷ []) ((p.slot, w) ∷ [])
      → HasCollected v a n first limit u b
  posted_got p u t looks b w h f is went = (p.slot, t, p.round, looks, h.2, h.1, inl (h.3, f), w, is, come_then p.seat u p.slot t (part p.slot p.round (Posted a) ∷ []) (part p.slot p.round (Collected b) ∷ []) h.2 ((p.slot, w) ∷ []) h.4 went)

  pub stayed_got : (p : PendingView) (u : SeatView) (b w : ℕ) → HasStayed v a n first limit p → code_in w ≡ 4 → Went p.seat u (part p.slot p.round (Collected b) ∷ []) ((p.slot, w) ∷ []) → HasCollected v a n first limit u b
  stayed_got p u b w h is went = (p.slot, h.1, p.round, h.2, h.5, h.3, inr (h.6, h.4), w, is, come_then p.seat u p.slot h.1 (part p.slot p.round (Posted a) ∷ []) (part p.slot p.round (Collected b) ∷ []) h.5 ((p.slot, w) ∷ []) h.7 went)

  -- that was taken back
  pub posted_back : (p : PendingView) (u : SeatView) (t looks : ℕ) (h : HasPosted v a n first limit p t looks) → Went p.seat u (part p.slot p.round Withdrawn ∷ []) []
      → HasCome v a n first limit u p.slot t (part p.slot p.round (Posted a) ∷ part p.slot p.round Withdrawn ∷ []) h.2
  posted_back p u t looks h went = come_parts p.seat u p.slot t (part p.slot p.round (Posted a) ∷ []) (part p.slot p.round Withdrawn ∷ []) h.2 h.4 went

  -- that another seat had posted
  pub come_swapped : (s u : SeatView) (k t m w b : ℕ) → HasCome v a n first limit s k t [] [] → code_in w ≡ 2 → m ≡ a → Went s u (part k (number_in w) (Swapped m b) ∷ []) ((k, w) ∷ []) → HasSwapped v a n first limit u b
  come_swapped s u k t m w b h c e went = (
    k,
    t,
    number_in w,
    (k, w) ∷ [],
    (w, refl, c, refl),
    come_then s u k t [] (part k (number_in w) (Swapped a b) ∷ []) [] ((k, w) ∷ []) h (subst (λ z. Went s u (part k (number_in w) (Swapped z b) ∷ []) ((k, w) ∷ [])) e went),
  )

  -- that was contended
  pub come_contended : (s u : SeatView) (k t seen w : ℕ) → HasCome v a n first limit s k t [] []
      → ((w ≡ seen) × (code_in seen ≢ 0) × (code_in seen ≢ 2) × Went s u [] ((k, seen) ∷ [])) ⊎ ((w ≢ seen) × (HasRound seen ⊎ (code_in seen ≡ 2)) × Went s u [] ((k, seen) ∷ (k, w) ∷ []))
      → (words : List (ℕ × ℕ)) × SawContended k words × HasCome v a n first limit u k t [] words
  come_contended s u k t seen w h (inl c) = ((k, seen) ∷ [], (seen, inl (refl, c.1, c.2)), come_then s u k t [] [] [] ((k, seen) ∷ []) h c.3)
  come_contended s u k t seen w h (inr c) = ((k, seen) ∷ (k, w) ∷ [], (seen, inr (w, refl, c.0, c.1)), come_then s u k t [] [] [] ((k, seen) ∷ (k, w) ∷ []) h c.2)

  -- ## The end

  pub swapped_place : (s : SeatView) (b : ℕ) → HasSwapped v a n first limit s b ⊎ HasCollected v a n first limit s b → s.arena ≡ v.arena
  swapped_place s b (inl h) = h.5.4.arena
  swapped_place s b (inr h) = h.9.4.arena

  pub timed_out_place : (s : SeatView) → HasTimedOut v a n first limit s → s.arena ≡ v.arena
  timed_out_place s (k, t, words, inl h) = h.2.4.arena
  timed_out_place s (k, t, words, inr h) = h.5.4.arena

  pub ends_place : {T : Type 0} (mark : T → ℕ) (end : Exchanged T) → EndsAs mark v a n first limit end → (seat_after end).arena ≡ v.arena
  ends_place mark (ExchangeSwapped s x) h = swapped_place s (mark x) h
  ends_place mark (TimedOut s x) h = timed_out_place s h.1
  ends_place mark (Worn s x) h = h.1.4.4.arena
  ends_place mark (Memory s x) h = h.1.2.4.arena
