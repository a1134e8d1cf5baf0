-- The history that is known once all seats are joined and the table is closed.
use Rattle.meet_tickets.specs.Limits.{most_seats}
use Rattle.std.proofs.Common.{◌≡◌, ℕ, suc, ◌+◌, ◌<◌, ◌≤◌, ◌⊎◌, inl, inr, eqb, cond, Bool, true, false, List, [], ◌∷◌, ◌++◌, length, get_or, sym, refl, ap, ◌∙◌, subst, arith, Option, Some, None, lt_of_not-le}
use mathlib.Core.Option.{some, some-injective}
use native.Mathlib.Decide.{dec_le}
use lib.ListN.{get_elem?}
use Rattle.atomic_table.specs.Table.{State, Final, Seen}
use Rattle.meet_exchange.specs.declared.views.Trail.{Trail}
use Rattle.meet_exchange.specs.declared.views.Plan.{Plan}
use Rattle.meet_exchange.specs.declared.records.Round.{Round}
use Rattle.meet_exchange.specs.declared.records.RoundEnd.{RoundEnd}
use Rattle.meet_exchange.specs.declared.records.RoundEnd.TheVariants.{Posted as Stands, Withdrawn as EndWithdrawn, Swapped as Exchanged}
use Rattle.meet_exchange.specs.declared.views.InHand.{InHand}
use Rattle.meet_exchange.specs.declared.views.InHand.TheVariants.{Nothing, At}
use Rattle.meet_exchange.specs.declared.views.Duty.{Duty}
use Rattle.meet_exchange.specs.declared.views.Duty.TheVariants.{Claimed, Offering, Ready, Took, Gathered, TookBack}
use Rattle.meet_exchange.specs.Stages.{Stage, Cell, cell_of, rounds, running, AllEnded, AllPlayed, in_hand, with_round, duties_in}
use Rattle.meet_exchange.specs.Rounds.{round_of, IsPlayed, HasEnded}
use Rattle.meet_exchange.specs.Rule.{SlotFits, SeatFits, IsNew, TokenFits, Kept}
use Rattle.meet_exchange.specs.Stages.Stage.{free, claimed, posted, taken, answered, seen, collected, withdrawn}
use Rattle.meet_exchange.specs.Rounds.{IsHistory, left_at_end, left_in}
use Rattle.meet_exchange.specs.Closing.{LastFits, IsSettled, AllSettled, IsNewList, AreParts, lists_of, Closing}
use Rattle.meet_exchange.proofs.Stages.{same, apart, length_snoc}
use Rattle.meet_exchange.proofs.Pigeons.{Absent, AllApart, AllBelow, Among, all_there}

abbrev numbers : List Trail → List ℕ
numbers [] = []
numbers (v ∷ vs) = v.number ∷ numbers vs

absent_numbers : (x : ℕ) (vs : List Trail) → IsNew x vs → Absent x (numbers vs)
absent_numbers x [] n = tt
absent_numbers x (v ∷ vs) n = (n.0, absent_numbers x vs n.1)

module _ (plan : Plan) (cells : ℕ → Cell) (f : ℕ → ℕ) (j : ℕ) where
  numbers_apart : (vs : List Trail) → TokenFits plan cells f j vs → AllApart (numbers vs)
  numbers_apart [] t = tt
  numbers_apart (v ∷ vs) t = (absent_numbers v.number vs t.1, numbers_apart vs t.2)

  numbers_below : (vs : List Trail) → TokenFits plan cells f j vs → AllBelow plan.seats (numbers vs)
  numbers_below [] t = tt
  numbers_below (v ∷ vs) t = (t.0.number, numbers_below vs t.2)

  -- what a settled seat has in hand is an offer
  seat_of : (vs : List Trail) (x : ℕ) → TokenFits plan cells f j vs → AllSettled vs → Among x (numbers vs) → (v : Trail) × SeatFits plan cells f j v × IsSettled v.hand × (v.number ≡ x)
  seat_of [] x t s a = absurd a
  seat_of (v ∷ vs) x t s (inl e) = (v, t.0, s.0, e)
  seat_of (v ∷ vs) x t s (inr a) = seat_of vs x t.2 s.1 a

  parts_fit : (vs : List Trail) → TokenFits plan cells f j vs → AreParts plan.seats plan.start (λ k. rounds (cells k)) (lists_of vs)
  parts_fit [] t = tt
  parts_fit (v ∷ vs) t = (t.0.number, t.0.list, news vs t.1, parts_fit vs t.2) where
    news : (vs : List Trail) → IsNew v.number vs → IsNewList v.number (lists_of vs)
    news [] n = tt
    news (u ∷ vs) n = (n.0, news vs n.1)

length-numbers : (vs : List Trail) → length (numbers vs) ≡ length vs
length-numbers [] = refl
length-numbers (v ∷ vs) = ap suc (length-numbers vs)

settled_duty : (k r : ℕ) (d : Duty) (h : InHand) → IsSettled h → in_hand k h ≡ (d, r) ∷ [] → (a : ℕ) × (d ≡ Offering a)
settled_duty k r d Nothing s e = absurd cc
settled_duty k r d (At k' r' Claimed) s e = absurd s
settled_duty k r d (At k' r' (Offering a)) s e = (a, by_case (eqb k' k) e) where
  by_case : (b : Bool) → ◌≡◌ {A = List (Duty × ℕ)} (cond {A = List (Duty × ℕ)} b ((Offering a, r') ∷ []) []) ((d, r) ∷ []) → d ≡ Offering a
  by_case true e = let p : ◌≡◌ {A = Duty × ℕ} (Offering a, r') (d, r) = cc in sym (ap (λ z. z.0) p)
  by_case false e = absurd cc
settled_duty k r d (At k' r' (Ready a)) s e = absurd s
settled_duty k r d (At k' r' (Took b)) s e = absurd s
settled_duty k r d (At k' r' Gathered) s e = absurd s
settled_duty k r d (At k' r' TookBack) s e = absurd s

-- ## Histories

history_of : (n : ℕ) (past : List Round) (now : List Round) → AllEnded n past → (now ≡ []) ⊎ ((x : Round) × (now ≡ x ∷ []) × IsPlayed n x x.end) → IsHistory n (past ++ now)
history_of n [] now all (inl e) = subst (IsHistory n) (sym e) tt
history_of n [] now all (inr p) = subst (IsHistory n) (sym p.1) p.2
history_of n (x ∷ []) now all (inl e) = subst (λ z. IsHistory n (x ∷ z)) (sym e) all.1
history_of n (x ∷ []) now all (inr p) = subst (λ z. IsHistory n (x ∷ z)) (sym p.1) (all.0, all.1, p.2)
history_of n (x ∷ y ∷ past) now all h = (all.0, all.1, history_of n (y ∷ past) now all.2 h)

left_last : (past : List Round) (x : Round) → left_in (past ++ x ∷ []) ≡ left_at_end x x.end
left_last [] x = refl
left_last (y ∷ []) x = refl
left_last (y ∷ z ∷ past) x = left_last (z ∷ past) x

left_end : (x : Round) (e : RoundEnd) → HasEnded e → left_at_end x e ≡ None
left_end x Stands h = absurd h
left_end x EndWithdrawn h = refl
left_end x (Exchanged j b true) h = refl
left_end x (Exchanged j b false) h = absurd cc

left_none : (n : ℕ) (past : List Round) → AllEnded n past → left_in (past ++ []) ≡ None
left_none n [] all = refl
left_none n (x ∷ []) all = left_end x x.end all.0
left_none n (x ∷ y ∷ past) all = left_none n (y ∷ past) all.2

module _ {T : Type 0} (mark : T → ℕ) (plan : Plan) where
  abbrev St : Type 0
  St = State (Option T) (List Trail)

  -- a stage in which some seat has something else in hand than an offer
  busy : (s : St) (r : Kept mark plan s) (id : ℕ) (vs : List Trail) → get_elem? s.views id ≡ some vs → plan.seats ≤ length vs → AllSettled vs → (k x : ℕ) (d : Duty) (st : Stage) → (r.cells k).stage ≡ st → x < plan.seats
      → duties_in x st ≡ d ∷ [] → (a : ℕ) × (d ≡ Offering a)
  busy s r id vs at many settled k x d st is low duty = let fits = r.each_token id vs at in let n = length-numbers vs in
      let all = all_there plan.seats (numbers vs) (numbers_apart plan r.cells r.token_of id vs fits) (numbers_below plan r.cells r.token_of id vs fits) (omega arith) x low in
      let p = seat_of plan r.cells r.token_of id vs x fits settled all in let at_round = with_round (plan.start + length (r.cells k).past) in
      settled_duty k (plan.start + length (r.cells k).past) d p.0.hand p.2 (p.1.hand k ∙ (ap (λ z. at_round (duties_in z (r.cells k).stage)) p.3 ∙ (ap (λ z. at_round (duties_in x z)) is ∙ ap at_round duty)))

  last_at : (s : St) (r : Kept mark plan s) (id : ℕ) (vs : List Trail) → get_elem? s.views id ≡ some vs → plan.seats ≤ length vs → AllSettled vs → (k : ℕ) → k < plan.slots → (value : Option T)
      → ((y : Option T) → get_elem? s.homes k ≡ some (some y) → y ≡ value) → (st : Stage) → (r.cells k).stage ≡ st → SlotFits mark plan (cell_of (r.cells k).past st) (get_or s.words k 0) (get_elem? s.homes k)
      → LastFits mark plan.start ((r.cells k).past ++ running st) (get_or s.words k 0) value
  last_at s r id vs at many settled k l value is_value free is fits =
      let v : None ≡ value = is_value None (fits.there ∙ ap some fits.item) in
      subst (LastFits mark plan.start ((r.cells k).past ++ []) (get_or s.words k 0)) v (left_none plan.seats (r.cells k).past fits.ended)
  last_at s r id vs at many settled k l value is_value (claimed o) is fits = let b = busy s r id vs at many settled k o Claimed (claimed o) is fits.owner_fits (rw (same o) refl) in let e = b.1 in absurd cc
  last_at s r id vs at many settled k l value is_value (posted o a) is fits = let past : List Round = (r.cells k).past in let rd = round_of o a Stands in let x = fits.item.0 in let word = fits.word_is in let few : plan.seats ≤ most_seats = r.few in let low = fits.owner_fits in
      let longer = length_snoc past rd in
      subst (LastFits mark plan.start (past ++ rd ∷ []) (get_or s.words k 0)) (is_value (Some x) (fits.there ∙ ap some fits.item.1))
      (true, left_last past rd ∙ ap (λ z. Some (z, true)) (sym fits.item.2), (λ _. omega arith), (λ e. absurd cc), omega arith)
  last_at s r id vs at many settled k l value is_value (taken o a j b) is fits = let p = fits.played.0 in
      let d = busy s r id vs at many settled k j (Took b) (taken o a j b) is p.1 (rw (apart o j p.2, same j) refl) in let e = d.1 in absurd cc
  last_at s r id vs at many settled k l value is_value (answered o a j b) is fits = let past : List Round = (r.cells k).past in let rd = round_of o a (Exchanged j b false) in let x = fits.item.0 in let word = fits.word_is in let few : plan.seats ≤ most_seats = r.few in let low = fits.owner_fits in
      let longer = length_snoc past rd in
      subst (LastFits mark plan.start (past ++ rd ∷ []) (get_or s.words k 0)) (is_value (Some x) (fits.there ∙ ap some fits.item.1))
      (false, left_last past rd ∙ ap (λ z. Some (z, false)) (sym fits.item.2), (λ e. absurd cc), (λ _. omega arith), omega arith)
  last_at s r id vs at many settled k l value is_value (seen o a j b) is fits = let d = busy s r id vs at many settled k o (Ready a) (seen o a j b) is fits.owner_fits (rw (same o) refl) in let e = d.1 in absurd cc
  last_at s r id vs at many settled k l value is_value (collected o a j b) is fits = let d = busy s r id vs at many settled k o Gathered (collected o a j b) is fits.owner_fits (rw (same o) refl) in let e = d.1 in absurd cc
  last_at s r id vs at many settled k l value is_value (withdrawn o a) is fits = let d = busy s r id vs at many settled k o TookBack (withdrawn o a) is fits.owner_fits (rw (same o) refl) in let e = d.1 in absurd cc

  runs : (st : Stage) → AllPlayed plan.seats (running st) → (running st ≡ []) ⊎ ((x : Round) × (running st ≡ x ∷ []) × IsPlayed plan.seats x x.end)
  runs free p = inl refl
  runs (claimed o) p = inl refl
  runs (posted o a) p = inr (round_of o a Stands, refl, p.0)
  runs (taken o a j b) p = inr (round_of o a (Exchanged j b false), refl, p.0)
  runs (answered o a j b) p = inr (round_of o a (Exchanged j b false), refl, p.0)
  runs (seen o a j b) p = inr (round_of o a (Exchanged j b false), refl, p.0)
  runs (collected o a j b) p = inr (round_of o a (Exchanged j b true), refl, p.0)
  runs (withdrawn o a) p = inr (round_of o a EndWithdrawn, refl, p.0)

  history_at : (s : St) (r : Kept mark plan s) (k : ℕ) → Dec (plan.slots ≤ k) → IsHistory plan.seats (rounds (r.cells k))
  history_at s r k (yes d) = subst (λ c. IsHistory plan.seats (rounds c)) (sym (r.beyond k d)) tt
  history_at s r k (no d) = let fits = r.each_slot k (lt_of_not-le d) in history_of plan.seats (r.cells k).past (running (r.cells k).stage) fits.ended (runs (r.cells k).stage fits.played)

  pub closes : (id : ℕ) (vs : List Trail) (words : List ℕ) (values : List (Option T)) → Final (Seen (Kept mark plan) id vs) words values → plan.seats ≤ length vs → AllSettled vs
      → Closing mark plan (lists_of vs) words values
  closes id vs words values final many settled = let s = final.0 in let r = final.1.0 in let at = final.1.1 in record {
    rounds = λ k. rounds (r.cells k);
    history = λ k. history_at s r k (dec_le plan.slots k);
    beyond = λ k l. ap rounds (r.beyond k l);
    parts = parts_fit plan r.cells r.token_of id vs (r.each_token id vs at);
    last = λ k value l e. subst (λ z. LastFits mark plan.start (rounds (r.cells k)) (get_or z k 0) value) final.2
        (last_at s r id vs at many settled k l value (λ y h. some-injective y value (sym (final.4 k y h) ∙ e)) (r.cells k).stage refl (r.each_slot k l));
  }
