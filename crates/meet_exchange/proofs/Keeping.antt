-- Each kind of step keeps the rule.
use Rattle.meet_exchange.specs.Words.{round_unit}
use Rattle.meet_tickets.specs.Limits.{most_seats, last_round}
use Rattle.std.proofs.Common.{◌≡◌, ℕ, zero, suc, ◌+◌, ◌*◌, ◌/◌, ◌%◌, ◌^◌, ◌<◌, ◌≤◌, eqb, ◌≢◌, cond, true, List, [], ◌∷◌, ◌++◌, length, get_or, set, sym, refl, ap, ◌∙◌, subst, arith, Option, Some, None, eq-eqb, ne_eqb}
use mathlib.Core.Logic.{dite}
use mathlib.Core.Option.{Option as Perhaps, none, some, some-ne-none}
use native.Mathlib.Decide.{ℕ_discrete}
use lib.ListN.{get_elem?}
use prog.Atomic.{either}
use Rattle.atomic_table.specs.Table.{State, Me, Act, step, stepped, keeps, takes, gives, Valid, carried_after, Allows}
use Rattle.atomic_table.proofs.Lists.{set_else}
use Rattle.meet_exchange.specs.declared.views.Trail.{Trail}
use Rattle.meet_exchange.specs.declared.views.Plan.{Plan}
use Rattle.meet_exchange.specs.declared.records.Round.{Round}
use Rattle.meet_exchange.specs.declared.records.SlotDeed.TheVariants.{Posted, Withdrawn, Swapped, Collected}
use Rattle.meet_exchange.specs.declared.records.RoundEnd.TheVariants.{Withdrawn as EndWithdrawn, Swapped as Exchanged}
use Rattle.meet_exchange.specs.declared.views.Duty.{Duty}
use Rattle.meet_exchange.specs.declared.views.Duty.TheVariants.{Claimed, Offering, Ready, Took, Gathered, TookBack}
use Rattle.meet_exchange.specs.declared.views.InHand.TheVariants.{Nothing, At}
use Rattle.meet_exchange.specs.Stages.{Stage, Cell, cell_of, code, owner, rounds, in_hand, with_round, duties_in, running, AllPlayed}
use Rattle.meet_exchange.specs.Words.{word_of}
use Rattle.meet_exchange.specs.Rounds.{parts_of, in_slot, round_of, part, HasEnded, IsPlayed}
use Rattle.meet_exchange.specs.Rule.{AtHome, SlotFits, Kept, top}
use Rattle.meet_exchange.specs.Told.{saw, holds_now, Sees, HasClaimed, Claims, Tries, Posts, HasWithdrawn, Withdraws, HasTaken, Takes, HasCollected, Finds, Gains, Collects, Frees, did, round_in, given_in}
use Rattle.meet_exchange.specs.Stages.Stage.{free, claimed, posted, taken, answered, seen, collected, withdrawn}
use Rattle.meet_exchange.proofs.Turns.{Turns, turned}
use Rattle.meet_exchange.proofs.Stages.{Does, Offers, apart, stands, went, came, flip, same, code_small, free_by_code, posted_by_code, does, is_claimed, is_offered, is_taken, is_ready, is_collected, is_withdrawn, ended_snoc, length_snoc, claim_turns, post_turns, withdraw_turns, take_turns, collect_turns, find_turns, gain_turns, answer_turns, clear_turns}

module _ {A : Type 0} where
  pub set_there : (l : List A) (i : ℕ) (a b : A) → get_elem? l i ≡ some b → get_elem? (set l i a) i ≡ some a
  set_there [] i a b e = absurd (some-ne-none b (sym e))
  set_there (x ∷ xs) zero a b e = refl
  set_there (x ∷ xs) (suc i) a b e = set_there xs i a b e

module _ {T : Type 0} (mark : T → ℕ) (plan : Plan) where
  abbrev St : Type 0
  St = State (Option T) (List Trail)

  abbrev M : Type 0
  M = Me (Option T) (List Trail)

  abbrev Rule : St → Type 0
  Rule = Kept mark plan

  -- a look, also one by a step that fails
  pub looked : (s : St) (r : Rule s) (id k : ℕ) (v : Trail) (found : ℕ) → k < plan.slots → get_elem? s.views id ≡ some (v ∷ [])
      → Rule (record { words = set s.words k (get_or s.words k 0); homes = s.homes; views = set s.views id (saw v k found ∷ []) })
  looked s r id k v found inside at = let mine = (r.each_token id (v ∷ []) at).0 in
      turned mark plan s r id k (get_or s.words k 0) v (saw v k found) (r.cells k) s.homes inside at (r.each_slot k inside) (λ j _. refl) (record {
        number = refl;
        list = mine.list k;
        hand = mine.hand k;
        list_else = λ _ _. refl;
        hand_else = λ _ _. refl;
        list_others = λ _ _. refl;
        hand_others = λ _ _. refl;
      })

  -- a step may be proved where the token's view and what it holds stand open
  pub opened : (slots id k : ℕ) (f : ℕ → ℕ) (then : M → ℕ → M → Type 0) (me : M) (v : Trail) (c : List (ℕ × Option T)) → me ≡ (v ∷ [], c)
      → Allows Rule slots id (v ∷ [], c) k f (then (v ∷ [], c)) → Allows Rule slots id me k f (then me)
  opened slots id k f then me v c e at = subst (λ m. Allows Rule slots id m k f (then m)) (sym e) at

  pub looks : (slots id k : ℕ) (me : M) → k < plan.slots → me.0 ≡ top me.0 ∷ []
      → Allows Rule slots id me k (λ n. n) (Sees (step slots k 0 0 none) me)
  looks slots id k me inside one = opened slots id k (λ n. n) (Sees (step slots k 0 0 none)) me (top me.0) me.1 (λ i. (one i, me.1))
      (λ s r _ at _. let found : ℕ = get_or s.words k 0 in let fits = r.each_slot k inside in let word = fits.word_is in let little = code_small (r.cells k).stage in let low = fits.owner_fits in let few : plan.seats ≤ most_seats = r.few in
      let bound : plan.start + length (r.cells k).past ≤ last_round = fits.round_fits in (saw (top me.0) k found ∷ [], keeps, tt, looked s r id k (top me.0) found inside at, (omega arith, refl)))

  -- a compare-exchange that finds the word that it expects
  abbrev Hits : ℕ → M → ℕ → ℕ → ℕ → (M → Type 0) → Type 0
  Hits id me k old new then = (s : St) (r : Rule s) → get_elem? s.views id ≡ some me.0 → get_or s.words k 0 ≡ old
      → (w : List Trail) × (a : Act (Option T)) × Valid s.homes me.1 a × Rule (stepped s k new id me.1 w a) × then (w, carried_after me.1 a)

  pub tries : (slots id k old new : ℕ) (said : Perhaps (Option T)) (v : Trail) (c : List (ℕ × Option T)) (hit : M → Type 0) → k < plan.slots → Hits id (v ∷ [], c) k old new hit
      → Allows Rule slots id (v ∷ [], c) k (λ n. either (eqb n old) new n) (Tries hit (step slots k old new said) (v ∷ [], c))
  tries slots id k old new said v c hit inside hits s r _ at _ = let found : ℕ = get_or s.words k 0 in dite (ℕ_discrete found old)
      (λ e. let h = hits s r at e in (h.0, h.1, h.2, subst (λ b. Rule (stepped s k (either b new found) id c h.0 h.1)) (sym (eq-eqb found old e)) h.3, (λ _. h.4, λ ne. absurd (ne e))))
      (λ ne. (saw v k found ∷ [], keeps, tt, subst (λ b. Rule (stepped s k (either b new found) id c (saw v k found ∷ []) keeps)) (sym (ne_eqb found old ne)) (looked s r id k v found inside at), (λ e. absurd (ne e), λ _. refl)))

  claims_at : (slots id k old new number : ℕ) (v : Trail) → k < plan.slots → v.hand ≡ Nothing → v.number ≡ number → old % 8 ≡ 0 → new ≡ (old + 1) + 8 * number
      → Allows Rule slots id (v ∷ [], []) k (λ n. either (eqb n old) new n) (Claims (step slots k old new none) (v ∷ [], []))
  claims_at slots id k old new number v inside idle mine_is even up = tries slots id k old new none v [] (HasClaimed (step slots k old new none) (v ∷ [], [])) inside (λ s r at e.
      let fits = r.each_slot k inside in let mine = (r.each_token id (v ∷ []) at).0 in let st : Stage = (r.cells k).stage in let past : List Round = (r.cells k).past in
      let few : plan.seats ≤ most_seats = r.few in let low : v.number < plan.seats = mine.number in let small = code_small st in let word = fits.word_is in
      let is : st ≡ free = free_by_code st (omega arith) in
      let nobodys : owner st ≡ 0 = ap owner is in
      let bare : code st ≡ 0 = ap code is in
      let round : old / round_unit ≡ plan.start + length past = omega arith in
      let none_home : fits.value ≡ some None = subst (λ z. AtHome mark z fits.value) is fits.item in
      let home = fits.there ∙ ap some none_home in (
        holds_now v (At k (old / round_unit) Claimed) ∷ [],
        takes k None,
        home,
        turned mark plan s r id k new v (holds_now v (At k (old / round_unit) Claimed)) (cell_of past (claimed v.number)) (set s.homes k none) inside at
            (record { value = none; there = set_there s.homes k none (some None) home; item = refl; word_is = omega arith; owner_fits = omega arith; round_fits = fits.round_fits; ended = fits.ended; played = tt })
            (λ j ne. set_else s.homes k j none ne)
            (subst (λ z. Turns plan.start k v (holds_now v (At k (old / round_unit) Claimed)) (cell_of past z) (cell_of past (claimed v.number))) (sym is)
            (claim_turns plan.start k past v (old / round_unit) round idle (subst (λ z. in_slot k v.list ≡ parts_of v.number k plan.start (rounds (cell_of past z))) is (mine.list k)))),
        refl,
      ))

  pub claims : (slots id k old new number : ℕ) (me : M) → k < plan.slots → me ≡ (top me.0 ∷ [], []) → (top me.0).hand ≡ Nothing → (top me.0).number ≡ number → old % 8 ≡ 0 → new ≡ (old + 1) + 8 * number
      → Allows Rule slots id me k (λ n. either (eqb n old) new n) (Claims (step slots k old new none) me)
  claims slots id k old new number me inside one idle is even up = opened slots id k (λ n. either (eqb n old) new n) (Claims (step slots k old new none)) me (top me.0) [] one
      (claims_at slots id k old new number (top me.0) inside idle is even up)

  -- what the rule says of the slot that the seat has in hand
  hand_says : (s : St) (r : Rule s) (id k n : ℕ) (v : Trail) (d : Duty) → get_elem? s.views id ≡ some (v ∷ []) → v.hand ≡ At k n d
      → Does d v.number (r.cells k).stage × (n ≡ plan.start + length (r.cells k).past)
  hand_says s r id k n v d at hand = let mine = (r.each_token id (v ∷ []) at).0 in let c = r.cells k in
      does c.stage v.number n (plan.start + length c.past) d (ap (λ b. cond b ((d, n) ∷ []) []) (sym (same k)) ∙ (ap (in_hand k) (sym hand) ∙ mine.hand k))

  -- the slot, and the seat's list, at a known stage
  abbrev Known : St → (ℕ → Cell) → ℕ → ℕ → Trail → Stage → Type 0
  Known s cells id k v st = (stage_is : (cells k).stage ≡ st) × SlotFits mark plan (cell_of (cells k).past st) (get_or s.words k 0) (get_elem? s.homes k)
      × (in_slot k v.list ≡ parts_of v.number k plan.start ((cells k).past ++ running st)) × (v.number < plan.seats)

  known : (s : St) (r : Rule s) (id k : ℕ) (v : Trail) (st : Stage) → k < plan.slots → get_elem? s.views id ≡ some (v ∷ []) → (r.cells k).stage ≡ st → Known s r.cells id k v st
  known s r id k v st inside at is = let mine = (r.each_token id (v ∷ []) at).0 in let past = (r.cells k).past in let few : plan.seats ≤ most_seats = r.few in let low : v.number < plan.seats = mine.number in (
    is,
    subst (λ z. SlotFits mark plan (cell_of past z) (get_or s.words k 0) (get_elem? s.homes k)) is (r.each_slot k inside),
    subst (λ z. in_slot k v.list ≡ parts_of v.number k plan.start (past ++ running z)) is (mine.list k),
    low,
  )

  moved : (s : St) (r : Rule s) (id k n : ℕ) (v w : Trail) (st : Stage) (d : Cell) (hs : List (Perhaps (Option T))) → k < plan.slots → get_elem? s.views id ≡ some (v ∷ [])
      → (r.cells k).stage ≡ st → SlotFits mark plan d n (get_elem? hs k) → ((j : ℕ) → j ≢ k → get_elem? hs j ≡ get_elem? s.homes j) → Turns plan.start k v w (cell_of (r.cells k).past st) d
      → Rule (record { words = set s.words k n; homes = hs; views = set s.views id (w ∷ []) })
  moved s r id k n v w st d hs inside at is fits else turn = turned mark plan s r id k n v w d hs inside at fits else
      (subst (λ z. Turns plan.start k v w (cell_of (r.cells k).past z) d) (sym is) turn)

  -- ## Pass 1

  posts_at : (slots id k n new : ℕ) (x : T) (v : Trail) → k < plan.slots → v.hand ≡ At k n Claimed → new ≡ word_of 2 v.number n
      → Allows Rule slots id (v ∷ [], (k, Some x) ∷ []) k (λ _. new) (λ _. Posts mark (step slots k new 0 none) (v ∷ [], (k, Some x) ∷ []) new)
  posts_at slots id k n new x v inside hand up s r _ at _ = let says = hand_says s r id k n v Claimed at hand in let i = v.number in let past : List Round = (r.cells k).past in
      let is = is_claimed (r.cells k).stage i says.0 in let here = known s r id k v (claimed i) inside at is in let fits = here.1 in let round : n ≡ plan.start + length past = says.1 in let low : i < plan.seats = here.3 in
      let w = did v (part k n (Posted (mark x))) (At k n (Offering (mark x))) in (
        w ∷ [],
        gives,
        tt,
        moved s r id k new v w (claimed i) (cell_of past (posted i (mark x))) (set s.homes k (some (Some x))) inside at is
            (record { value = some (Some x); there = set_there s.homes k (some (Some x)) fits.value fits.there; item = (x, refl, refl); word_is = omega arith; owner_fits = low; round_fits = fits.round_fits; ended = fits.ended; played = (low, tt) })
            (λ j ne. set_else s.homes k j (some (Some x)) ne)
            (post_turns plan.start k past v n (mark x) round hand here.2),
        ap (λ h. (did v (part k (round_in h) (Posted (mark x))) (At k (round_in h) (Offering (mark x))) ∷ [], [])) (sym hand),
      )

  pub posts : (slots id k n new : ℕ) (x : T) (me : M) → k < plan.slots → me ≡ (top me.0 ∷ [], (k, Some x) ∷ []) → (top me.0).hand ≡ At k n Claimed → new ≡ word_of 2 (top me.0).number n
      → Allows Rule slots id me k (λ _. new) (λ _. Posts mark (step slots k new 0 none) me new)
  posts slots id k n new x me inside one hand up = opened slots id k (λ _. new) (λ m _. Posts mark (step slots k new 0 none) m new) me (top me.0) ((k, Some x) ∷ []) one
      (posts_at slots id k n new x (top me.0) inside hand up)

  -- the item of an offer that a code other than posted's says is gone
  offered_code : (st : Stage) (i a : ℕ) → Offers i a st → (code st ≡ 2 → st ≡ posted i a) × (code st ≡ 4 → (j : ℕ) × (b : ℕ) × (st ≡ answered i a j b)) × (owner st ≡ i)
  offered_code st i a (stands e) = let c : code st ≡ 2 = ap code e in ((λ _. e), (λ f. absurd (omega arith)), ap owner e)
  offered_code st i a (went j b e) = let c : code st ≡ 3 = ap code e in ((λ f. absurd (omega arith)), (λ f. absurd (omega arith)), ap owner e)
  offered_code st i a (came j b e) = let c : code st ≡ 4 = ap code e in ((λ f. absurd (omega arith)), (λ _. (j, b, e)), ap owner e)

  -- a compare-exchange by a seat that has an offer, which knows all of the word but its code
  abbrev Tells : ℕ → ℕ → ℕ → (ℕ → M → Type 0) → ℕ → M → Type 0
  Tells old c k hit found n = hit found n × (found ≢ old → found % 8 ≢ c)

  withdraws_at : (slots id k n old new a : ℕ) (v : Trail) → k < plan.slots → v.hand ≡ At k n (Offering a) → old ≡ word_of 2 v.number n → new ≡ word_of 1 v.number n
      → Allows Rule slots id (v ∷ [], []) k (λ z. either (eqb z old) new z) (Withdraws mark (step slots k old new none) (v ∷ [], []))
  withdraws_at slots id k n old new a v inside hand from up s r wide at small = let says = hand_says s r id k n v (Offering a) at hand in let i = v.number in let past : List Round = (r.cells k).past in
      let st : Stage = (r.cells k).stage in let codes = offered_code st i a (is_offered st i a says.0) in let fits0 = r.each_slot k inside in let little = code_small st in
      let word = fits0.word_is in let whose = codes.2 in let round : n ≡ plan.start + length past = says.1 in let found : ℕ = get_or s.words k 0 in
      let try = tries slots id k old new none v [] (HasWithdrawn mark (step slots k old new none) (v ∷ [], [])) inside (λ s r at e.
      let says = hand_says s r id k n v (Offering a) at hand in let past : List Round = (r.cells k).past in let st : Stage = (r.cells k).stage in let codes = offered_code st i a (is_offered st i a says.0) in
      let fits0 = r.each_slot k inside in let little = code_small st in let word = fits0.word_is in let whose = codes.2 in let round : n ≡ plan.start + length past = says.1 in
      let two : code st ≡ 2 = omega arith in let is = codes.0 two in let here = known s r id k v (posted i a) inside at is in let fits = here.1 in let low : i < plan.seats = here.3 in let x = fits.item.0 in
      let w = did v (part k n Withdrawn) (At k n TookBack) in let home : get_elem? s.homes k ≡ some (some (Some x)) = fits.there ∙ ap some fits.item.1 in (
        w ∷ [],
        takes k (Some x),
        home,
        moved s r id k new v w (posted i a) (cell_of past (withdrawn i a)) (set s.homes k none) inside at is
            (record { value = none; there = set_there s.homes k none (some (Some x)) home; item = refl; word_is = omega arith; owner_fits = low; round_fits = fits.round_fits; ended = fits.ended; played = (low, tt) })
            (λ j ne. set_else s.homes k j none ne)
            (withdraw_turns plan.start k past v n a round hand here.2),
        (x, fits.item.2 ∙ ap given_in (sym hand), ap (λ h. (did v (part k (round_in h) Withdrawn) (At k (round_in h) TookBack) ∷ [], (k, Some x) ∷ [])) (sym hand)),
      )) s r wide at small in
      (try.0, try.1, try.2, try.3, (try.4, λ ne e. ne (omega arith)))

  pub withdraws : (slots id k n old new a : ℕ) (me : M) → k < plan.slots → me ≡ (top me.0 ∷ [], []) → (top me.0).hand ≡ At k n (Offering a) → old ≡ word_of 2 (top me.0).number n → new ≡ word_of 1 (top me.0).number n
      → Allows Rule slots id me k (λ z. either (eqb z old) new z) (Withdraws mark (step slots k old new none) me)
  withdraws slots id k n old new a me inside one hand from up = opened slots id k (λ z. either (eqb z old) new z) (Withdraws mark (step slots k old new none)) me (top me.0) [] one
      (withdraws_at slots id k n old new a (top me.0) inside hand from up)

  abbrev IsPlayedWhen : Stage → Round → Type 0
  IsPlayedWhen st rd = AllPlayed plan.seats (running st) → IsPlayed plan.seats rd rd.end

  -- a clear, whatever ended the round
  clears_from : (slots id k n new : ℕ) (v : Trail) (h : Duty) → k < plan.slots → v.hand ≡ At k n h → new ≡ round_unit * (n + 1) → n + 1 ≤ last_round
      → ((st : Stage) → Does h v.number st → (rd : Round) × (running st ≡ rd ∷ []) × HasEnded rd.end × IsPlayedWhen st rd × ((x : ℕ) → x ≢ v.number → duties_in x st ≡ []) × ((y : Perhaps (Option T)) → AtHome mark st y → y ≡ none))
      → Allows Rule slots id (v ∷ [], (k, None) ∷ []) k (λ _. new) (λ _. Frees (step slots k new 0 none) (v ∷ [], (k, None) ∷ []) new)
  clears_from slots id k n new v h inside hand up bound ends s r _ at _ = let says = hand_says s r id k n v h at hand in let past : List Round = (r.cells k).past in let st : Stage = (r.cells k).stage in
      let fits = r.each_slot k inside in let mine = (r.each_token id (v ∷ []) at).0 in let round : n ≡ plan.start + length past = says.1 in let some_seat : v.number < plan.seats = mine.number in let end = ends st says.0 in let rd = end.0 in let longer = length_snoc past rd in (
        holds_now v Nothing ∷ [],
        gives,
        tt,
        turned mark plan s r id k new v (holds_now v Nothing) (cell_of (past ++ rd ∷ []) free) (set s.homes k (some None)) inside at
            (record { value = some None; there = set_there s.homes k (some None) fits.value fits.there; item = refl; word_is = omega arith; owner_fits = omega arith; round_fits = omega arith; ended = ended_snoc plan.seats past rd fits.ended end.2 (end.3 fits.played); played = tt })
            (λ j ne. set_else s.homes k j (some None) ne)
            (clear_turns plan.start k past v n h st rd end.1 hand (mine.list k) end.4),
        refl,
      )

  pub clears_collected : (slots id k n new : ℕ) (me : M) → k < plan.slots → me ≡ (top me.0 ∷ [], (k, None) ∷ []) → (top me.0).hand ≡ At k n Gathered → new ≡ round_unit * (n + 1) → n + 1 ≤ last_round
      → Allows Rule slots id me k (λ _. new) (λ _. Frees (step slots k new 0 none) me new)
  clears_collected slots id k n new me inside one hand up bound = let i = (top me.0).number in opened slots id k (λ _. new) (λ m _. Frees (step slots k new 0 none) m new) me (top me.0) ((k, None) ∷ []) one
      (clears_from slots id k n new (top me.0) Gathered inside hand up bound (λ st d. let is = is_collected st i d in let rd = round_of i is.0 (Exchanged is.1 is.2 true) in
      subst (λ z. (rd : Round) × (running z ≡ rd ∷ []) × HasEnded rd.end × IsPlayedWhen z rd × ((x : ℕ) → x ≢ i → duties_in x z ≡ []) × ((y : Perhaps (Option T)) → AtHome mark z y → y ≡ none)) (sym is.3)
      (rd, refl, refl, (λ all. all.0), (λ x ne. rw (apart i x (flip ne)) refl), λ y e. e)))

  pub clears_withdrawn : (slots id k n new : ℕ) (me : M) → k < plan.slots → me ≡ (top me.0 ∷ [], (k, None) ∷ []) → (top me.0).hand ≡ At k n TookBack → new ≡ round_unit * (n + 1) → n + 1 ≤ last_round
      → Allows Rule slots id me k (λ _. new) (λ _. Frees (step slots k new 0 none) me new)
  clears_withdrawn slots id k n new me inside one hand up bound = let i = (top me.0).number in opened slots id k (λ _. new) (λ m _. Frees (step slots k new 0 none) m new) me (top me.0) ((k, None) ∷ []) one
      (clears_from slots id k n new (top me.0) TookBack inside hand up bound (λ st d. let is = is_withdrawn st i d in let rd = round_of i is.0 EndWithdrawn in
      subst (λ z. (rd : Round) × (running z ≡ rd ∷ []) × HasEnded rd.end × IsPlayedWhen z rd × ((x : ℕ) → x ≢ i → duties_in x z ≡ []) × ((y : Perhaps (Option T)) → AtHome mark z y → y ≡ none)) (sym is.1)
      (rd, refl, tt, (λ all. all.0), (λ x ne. rw (apart i x (flip ne)) refl), λ y e. e)))

  -- ## Pass 2

  -- a seat with nothing in hand is not the owner of a posted slot
  not_mine : (o a i r : ℕ) → [] ≡ with_round r (duties_in i (posted o a)) → o ≢ i
  not_mine o a i r e h = let f : ◌≡◌ {A = List (Duty × ℕ)} [] ((Offering a, r) ∷ []) = e ∙ ap (λ b. with_round r (cond b (Offering a ∷ []) [])) (eq-eqb o i h) in absurd cc

  takes_at : (slots id k old new : ℕ) (y : T) (v : Trail) → k < plan.slots → v.hand ≡ Nothing → old % 8 ≡ 2 → new ≡ old + 1
      → Allows Rule slots id (v ∷ [], []) k (λ z. either (eqb z old) new z) (Takes mark (step slots k old new (some (Some y))) (v ∷ [], []))
  takes_at slots id k old new y v inside idle two up = tries slots id k old new (some (Some y)) v [] (HasTaken mark (step slots k old new (some (Some y))) (v ∷ [], [])) inside (λ s r at e.
      let mine = (r.each_token id (v ∷ []) at).0 in let st : Stage = (r.cells k).stage in let past : List Round = (r.cells k).past in let i = v.number in let b = mark y in
      let fits0 = r.each_slot k inside in let little = code_small st in let word = fits0.word_is in let posts : code st ≡ 2 = omega arith in
      let p = posted_by_code st posts in let o = p.0 in let a = p.1 in let is = p.2 in let here = known s r id k v (posted o a) inside at is in let fits = here.1 in let low : i < plan.seats = here.3 in let few : plan.seats ≤ most_seats = r.few in let low' : o < plan.seats = fits.owner_fits in
      let word' = fits.word_is in let round : old / round_unit ≡ plan.start + length past = omega arith in
      let other = not_mine o a i (plan.start + length past) (ap (in_hand k) (sym idle) ∙ (mine.hand k ∙ ap (λ z. with_round (plan.start + length past) (duties_in i z)) is)) in
      let x = fits.item.0 in let same_mark = fits.item.2 in let home : get_elem? s.homes k ≡ some (some (Some x)) = fits.there ∙ ap some fits.item.1 in
      let w = did v (part k (old / round_unit) (Swapped b a)) (At k (old / round_unit) (Took b)) in (
        w ∷ [],
        takes k (Some x),
        home,
        moved s r id k new v w (posted o a) (cell_of past (taken o a i b)) (set s.homes k none) inside at is
            (record { value = none; there = set_there s.homes k none (some (Some x)) home; item = refl; word_is = omega arith; owner_fits = low'; round_fits = fits.round_fits; ended = fits.ended; played = ((low', low, other), tt) })
            (λ j ne. set_else s.homes k j none ne)
            (take_turns plan.start k past v (old / round_unit) o a b round other idle here.2),
        (x, ap (λ z. (did v (part k (old / round_unit) (Swapped b z)) (At k (old / round_unit) (Took b)) ∷ [], (k, Some x) ∷ [])) (sym same_mark)),
      ))

  pub takes_it : (slots id k old new : ℕ) (y : T) (me : M) → k < plan.slots → me ≡ (top me.0 ∷ [], []) → (top me.0).hand ≡ Nothing → old % 8 ≡ 2 → new ≡ old + 1
      → Allows Rule slots id me k (λ z. either (eqb z old) new z) (Takes mark (step slots k old new (some (Some y))) me)
  takes_it slots id k old new y me inside one idle two up = opened slots id k (λ z. either (eqb z old) new z) (Takes mark (step slots k old new (some (Some y)))) me (top me.0) [] one
      (takes_at slots id k old new y (top me.0) inside idle two up)

  -- the word of the taken slot is known but for its owner, so a step adds 1 to it
  answers_at : (slots id k n b : ℕ) (y : T) (v : Trail) → k < plan.slots → v.hand ≡ At k n (Took b) → mark y ≡ b
      → Allows Rule slots id (v ∷ [], (k, Some y) ∷ []) k (λ z. (z + 1) % 2 ^ 64) (Frees (step slots k 1 0 none) (v ∷ [], (k, Some y) ∷ []))
  answers_at slots id k n b y v inside hand marked s r _ at small = let says = hand_says s r id k n v (Took b) at hand in let i = v.number in let past : List Round = (r.cells k).past in
      let p = is_taken (r.cells k).stage i b says.0 in let o = p.0 in let a = p.1 in let is = p.2 in let here = known s r id k v (taken o a i b) inside at is in let fits = here.1 in let low : o < plan.seats = fits.owner_fits in
      let word = fits.word_is in let found : ℕ = get_or s.words k 0 in let up : (found + 1) % 2 ^ 64 ≡ word_of 4 o (plan.start + length past) = omega arith in (
        holds_now v Nothing ∷ [],
        gives,
        tt,
        moved s r id k ((found + 1) % 2 ^ 64) v (holds_now v Nothing) (taken o a i b) (cell_of past (answered o a i b)) (set s.homes k (some (Some y))) inside at is
            (record { value = some (Some y); there = set_there s.homes k (some (Some y)) fits.value fits.there; item = (y, refl, marked); word_is = up; owner_fits = low; round_fits = fits.round_fits; ended = fits.ended; played = fits.played })
            (λ j ne. set_else s.homes k j (some (Some y)) ne)
            (answer_turns plan.start k past v n o a b fits.played.0.2 hand here.2),
        refl,
      )

  pub answers : (slots id k n b : ℕ) (y : T) (me : M) → k < plan.slots → me ≡ (top me.0 ∷ [], (k, Some y) ∷ []) → (top me.0).hand ≡ At k n (Took b) → mark y ≡ b
      → Allows Rule slots id me k (λ z. (z + 1) % 2 ^ 64) (Frees (step slots k 1 0 none) me)
  answers slots id k n b y me inside one hand marked = opened slots id k (λ z. (z + 1) % 2 ^ 64) (Frees (step slots k 1 0 none)) me (top me.0) ((k, Some y) ∷ []) one
      (answers_at slots id k n b y (top me.0) inside hand marked)

  -- a look by a seat whose offer stands there
  finds_at : (slots id k n a : ℕ) (v : Trail) → k < plan.slots → v.hand ≡ At k n (Offering a)
      → Allows Rule slots id (v ∷ [], []) k (λ z. z) (Finds (step slots k 0 0 none) (v ∷ [], []))
  finds_at slots id k n a v inside hand s r _ at _ = let says = hand_says s r id k n v (Offering a) at hand in let i = v.number in let past : List Round = (r.cells k).past in
      let st : Stage = (r.cells k).stage in let codes = offered_code st i a (is_offered st i a says.0) in let fits0 = r.each_slot k inside in let little = code_small st in
      let word = fits0.word_is in let low0 = fits0.owner_fits in let few : plan.seats ≤ most_seats = r.few in let bound : plan.start + length past ≤ last_round = fits0.round_fits in
      let round : n ≡ plan.start + length past = says.1 in let found : ℕ = get_or s.words k 0 in let most : found / round_unit ≤ last_round = omega arith in dite (ℕ_discrete (found % 8) 4)
      (λ e. let four : code st ≡ 4 = omega arith in let p = codes.1 four in let j = p.0 in let b = p.1 in let is = p.2 in let here = known s r id k v (answered i a j b) inside at is in let fits = here.1 in
      let w = saw (holds_now v (At k n (Ready a))) k found in (
        w ∷ [],
        keeps,
        tt,
        moved s r id k found v w (answered i a j b) (cell_of past (seen i a j b)) s.homes inside at is
            (record { value = fits.value; there = fits.there; item = fits.item; word_is = fits.word_is; owner_fits = here.3; round_fits = fits.round_fits; ended = fits.ended; played = fits.played })
            (λ _ _. refl)
            (find_turns plan.start k past v n a j b found round hand here.2),
        (most, (λ ne. absurd (ne e)), (λ _. ap (λ h. (saw (holds_now v (At k (round_in h) (Ready (given_in h)))) k found ∷ [], [])) (sym hand))),
      ))
      (λ ne. (saw v k found ∷ [], keeps, tt, looked s r id k v found inside at, (most, (λ _. refl), (λ e. absurd (ne e)))))

  pub finds : (slots id k n a : ℕ) (me : M) → k < plan.slots → me ≡ (top me.0 ∷ [], []) → (top me.0).hand ≡ At k n (Offering a)
      → Allows Rule slots id me k (λ z. z) (Finds (step slots k 0 0 none) me)
  finds slots id k n a me inside one hand = opened slots id k (λ z. z) (Finds (step slots k 0 0 none)) me (top me.0) [] one
      (finds_at slots id k n a (top me.0) inside hand)

  -- a collecting of an answer that was seen
  gains_at : (slots id k n old new a : ℕ) (v : Trail) → k < plan.slots → v.hand ≡ At k n (Ready a) → old ≡ word_of 4 v.number n → new ≡ word_of 1 v.number n
      → Allows Rule slots id (v ∷ [], []) k (λ z. either (eqb z old) new z) (Gains mark (step slots k old new none) (v ∷ [], []))
  gains_at slots id k n old new a v inside hand from up s r wide at small = let says0 = hand_says s r id k n v (Ready a) at hand in let i = v.number in let past0 : List Round = (r.cells k).past in
      let p0 = is_ready (r.cells k).stage i a says0.0 in let here0 = known s r id k v (seen i a p0.0 p0.1) inside at p0.2 in let word0 = here0.1.word_is in let round0 : n ≡ plan.start + length past0 = says0.1 in
      let same_word : get_or s.words k 0 ≡ old = omega arith in
      let try = tries slots id k old new none v [] (HasCollected mark (step slots k old new none) (v ∷ [], [])) inside (λ s r at e.
      let says = hand_says s r id k n v (Ready a) at hand in let past : List Round = (r.cells k).past in let p = is_ready (r.cells k).stage i a says.0 in let j = p.0 in let b = p.1 in let is = p.2 in
      let here = known s r id k v (seen i a j b) inside at is in let fits = here.1 in let low : i < plan.seats = here.3 in let round : n ≡ plan.start + length past = says.1 in
      let x = fits.item.0 in let same_mark = fits.item.2 in let home : get_elem? s.homes k ≡ some (some (Some x)) = fits.there ∙ ap some fits.item.1 in
      let w = did v (part k n (Collected b)) (At k n Gathered) in (
        w ∷ [],
        takes k (Some x),
        home,
        moved s r id k new v w (seen i a j b) (cell_of past (collected i a j b)) (set s.homes k none) inside at is
            (record { value = none; there = set_there s.homes k none (some (Some x)) home; item = refl; word_is = omega arith; owner_fits = low; round_fits = fits.round_fits; ended = fits.ended; played = fits.played })
            (λ j' ne. set_else s.homes k j' none ne)
            (gain_turns plan.start k past v n a j b round fits.played.0.2 hand here.2),
        (x, λ t. (did v (part k (round_in (sym hand t)) (Collected (sym same_mark t))) (At k (round_in (sym hand t)) Gathered) ∷ [], (k, Some x) ∷ [])),
      )) s r wide at small in
      (try.0, try.1, try.2, try.3, (same_word, try.4.0 same_word))

  pub gains : (slots id k n old new a : ℕ) (me : M) → k < plan.slots → me ≡ (top me.0 ∷ [], []) → (top me.0).hand ≡ At k n (Ready a) → old ≡ word_of 4 (top me.0).number n → new ≡ word_of 1 (top me.0).number n
      → Allows Rule slots id me k (λ z. either (eqb z old) new z) (Gains mark (step slots k old new none) me)
  gains slots id k n old new a me inside one hand from up = opened slots id k (λ z. either (eqb z old) new z) (Gains mark (step slots k old new none)) me (top me.0) [] one
      (gains_at slots id k n old new a (top me.0) inside hand from up)

  collects_at : (slots id k n old new a : ℕ) (v : Trail) → k < plan.slots → v.hand ≡ At k n (Offering a) → old ≡ word_of 4 v.number n → new ≡ word_of 1 v.number n
      → Allows Rule slots id (v ∷ [], []) k (λ z. either (eqb z old) new z) (Collects mark (step slots k old new none) (v ∷ [], []))
  collects_at slots id k n old new a v inside hand from up s r wide at small = let says = hand_says s r id k n v (Offering a) at hand in let i = v.number in let past : List Round = (r.cells k).past in
      let st : Stage = (r.cells k).stage in let codes = offered_code st i a (is_offered st i a says.0) in let fits0 = r.each_slot k inside in let little = code_small st in
      let word = fits0.word_is in let whose = codes.2 in let round : n ≡ plan.start + length past = says.1 in let found : ℕ = get_or s.words k 0 in
      let try = tries slots id k old new none v [] (HasCollected mark (step slots k old new none) (v ∷ [], [])) inside (λ s r at e.
      let says = hand_says s r id k n v (Offering a) at hand in let past : List Round = (r.cells k).past in let st : Stage = (r.cells k).stage in let codes = offered_code st i a (is_offered st i a says.0) in
      let fits0 = r.each_slot k inside in let little = code_small st in let word = fits0.word_is in let whose = codes.2 in let round : n ≡ plan.start + length past = says.1 in
      let four : code st ≡ 4 = omega arith in let p = codes.1 four in let j = p.0 in let b = p.1 in let is = p.2 in let here = known s r id k v (answered i a j b) inside at is in let fits = here.1 in let low : i < plan.seats = here.3 in
      let x = fits.item.0 in let same_mark = fits.item.2 in let home : get_elem? s.homes k ≡ some (some (Some x)) = fits.there ∙ ap some fits.item.1 in
      let w = did v (part k n (Collected b)) (At k n Gathered) in (
        w ∷ [],
        takes k (Some x),
        home,
        moved s r id k new v w (answered i a j b) (cell_of past (collected i a j b)) (set s.homes k none) inside at is
            (record { value = none; there = set_there s.homes k none (some (Some x)) home; item = refl; word_is = omega arith; owner_fits = low; round_fits = fits.round_fits; ended = fits.ended; played = fits.played })
            (λ j' ne. set_else s.homes k j' none ne)
            (collect_turns plan.start k past v n a j b round fits.played.0.2 hand here.2),
        (x, λ t. (did v (part k (round_in (sym hand t)) (Collected (sym same_mark t))) (At k (round_in (sym hand t)) Gathered) ∷ [], (k, Some x) ∷ [])),
      )) s r wide at small in
      (try.0, try.1, try.2, try.3, (try.4, λ ne e. ne (omega arith)))

  pub collects : (slots id k n old new a : ℕ) (me : M) → k < plan.slots → me ≡ (top me.0 ∷ [], []) → (top me.0).hand ≡ At k n (Offering a) → old ≡ word_of 4 (top me.0).number n → new ≡ word_of 1 (top me.0).number n
      → Allows Rule slots id me k (λ z. either (eqb z old) new z) (Collects mark (step slots k old new none) me)
  collects slots id k n old new a me inside one hand from up = opened slots id k (λ z. either (eqb z old) new z) (Collects mark (step slots k old new none)) me (top me.0) [] one
      (collects_at slots id k n old new a (top me.0) inside hand from up)
