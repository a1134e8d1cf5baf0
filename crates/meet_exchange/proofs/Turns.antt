-- A step that changes one slot's cell and one seat's view keeps the rule.
use Rattle.std.proofs.Common.{◌≡◌, ℕ, ◌+◌, ◌<◌, eqb, ◌≢◌, cond, List, [], ◌∷◌, length, get_or, set, sym, ap, ◌∙◌, subst, ⊎_elim, arith, length-set, get_or-set_other, get_or-set_same, eq-eqb, ne_eqb, Option}
use mathlib.Core.Logic.{dite}
use mathlib.Core.Option.{Option as Perhaps, some}
use native.Mathlib.Decide.{ℕ_discrete}
use lib.ListN.{get_elem?}
use Rattle.atomic_table.specs.Table.{State}
use Rattle.atomic_table.proofs.Lists.{at_set}
use Rattle.meet_exchange.specs.declared.views.Trail.{Trail}
use Rattle.meet_exchange.specs.declared.views.Plan.{Plan}
use Rattle.meet_exchange.specs.Stages.{Cell, cell_of, rounds, with_round, in_hand, duties_in}
use Rattle.meet_exchange.specs.Rounds.{parts_of, in_slot}
use Rattle.meet_exchange.specs.Rule.{SlotFits, SeatFits, TokenFits, Kept}

abbrev pub with_cell : (ℕ → Cell) → ℕ → Cell → ℕ → Cell
with_cell f k c j = cond (eqb j k) c (f j)

pub by_cell : (P : Cell → Type 0) (f : ℕ → Cell) (k : ℕ) (c : Cell) (j : ℕ) → (j ≡ k → P c) → (j ≢ k → P (f j)) → P (with_cell f k c j)
by_cell P f k c j here other = dite (ℕ_discrete j k) (λ e. subst (λ b. P (cond b c (f j))) (sym (eq-eqb j k e)) (here e)) (λ ne. subst (λ b. P (cond b c (f j))) (sym (ne_eqb j k ne)) (other ne))

-- the seat's view goes from v to w while the slot's cell goes from c to d, and no other seat's part or duty changes
pub record Turns (start k : ℕ) (v w : Trail) (c d : Cell) : Type 0 where
  pub number : w.number ≡ v.number
  pub list : in_slot k w.list ≡ parts_of v.number k start (rounds d)
  pub hand : in_hand k w.hand ≡ with_round (start + length d.past) (duties_in v.number d.stage)
  pub list_else : (j : ℕ) → j ≢ k → in_slot j w.list ≡ in_slot j v.list
  pub hand_else : (j : ℕ) → j ≢ k → in_hand j w.hand ≡ in_hand j v.hand
  pub list_others : (x : ℕ) → x ≢ v.number → parts_of x k start (rounds d) ≡ parts_of x k start (rounds c)
  pub hand_others : (x : ℕ) → x ≢ v.number → with_round (start + length d.past) (duties_in x d.stage) ≡ with_round (start + length c.past) (duties_in x c.stage)

module _ (plan : Plan) (cells : ℕ → Cell) (token_of : ℕ → ℕ) (k : ℕ) (v w : Trail) (d : Cell) (turn : Turns plan.start k v w (cells k) d) where
  abbrev cells' : ℕ → Cell
  cells' = with_cell cells k d

  turned_seat : (j : ℕ) → SeatFits plan cells token_of j v → SeatFits plan cells' token_of j w
  turned_seat j f = record {
    token = ap token_of turn.number ∙ f.token;
    number = subst (λ x. x < plan.seats) (sym turn.number) f.number;
    list = λ i. subst (λ x. in_slot i w.list ≡ parts_of x i plan.start (rounds (cells' i))) (sym turn.number) (by_cell (λ c. in_slot i w.list ≡ parts_of v.number i plan.start (rounds c)) cells k d i
        (λ e. subst (λ z. in_slot z w.list ≡ parts_of v.number z plan.start (rounds d)) (sym e) turn.list)
        (λ ne. turn.list_else i ne ∙ f.list i));
    hand = λ i. subst (λ x. in_hand i w.hand ≡ with_round (plan.start + length (cells' i).past) (duties_in x (cells' i).stage)) (sym turn.number) (by_cell (λ c. in_hand i w.hand ≡ with_round (plan.start + length c.past) (duties_in v.number c.stage)) cells k d i
        (λ e. subst (λ z. in_hand z w.hand ≡ with_round (plan.start + length d.past) (duties_in v.number d.stage)) (sym e) turn.hand)
        (λ ne. turn.hand_else i ne ∙ f.hand i));
  }

  other_seat : (j : ℕ) (x : Trail) → x.number ≢ v.number → SeatFits plan cells token_of j x → SeatFits plan cells' token_of j x
  other_seat j x other f = record {
    token = f.token;
    number = f.number;
    list = λ i. by_cell (λ c. in_slot i x.list ≡ parts_of x.number i plan.start (rounds c)) cells k d i
        (λ e. subst (λ z. in_slot z x.list ≡ parts_of x.number z plan.start (rounds d)) (sym e) (f.list k ∙ sym (turn.list_others x.number other)))
        (λ _. f.list i);
    hand = λ i. by_cell (λ c. in_hand i x.hand ≡ with_round (plan.start + length c.past) (duties_in x.number c.stage)) cells k d i
        (λ e. subst (λ z. in_hand z x.hand ≡ with_round (plan.start + length d.past) (duties_in x.number d.stage)) (sym e) (f.hand k ∙ sym (turn.hand_others x.number other)))
        (λ _. f.hand i);
  }

  other_token : (j : ℕ) (xs : List Trail) → token_of v.number ≢ j → TokenFits plan cells token_of j xs → TokenFits plan cells' token_of j xs
  other_token j [] apart f = tt
  other_token j (x ∷ xs) apart f = (other_seat j x (λ e. apart (ap token_of (sym e) ∙ f.0.token)) f.0, f.1, other_token j xs apart f.2)

module _ {T : Type 0} (mark : T → ℕ) (plan : Plan) where
  abbrev pub St : Type 0
  St = State (Option T) (List Trail)

  pub turned : (s : St) (r : Kept mark plan s) (id k n : ℕ) (v w : Trail) (d : Cell) (hs : List (Perhaps (Option T))) → k < plan.slots → get_elem? s.views id ≡ some (v ∷ [])
      → SlotFits mark plan d n (get_elem? hs k) → ((j : ℕ) → j ≢ k → get_elem? hs j ≡ get_elem? s.homes j) → Turns plan.start k v w (r.cells k) d
      → Kept mark plan (record { words = set s.words k n; homes = hs; views = set s.views id (w ∷ []) })
  turned s r id k n v w d hs inside at fits else turn = let wide : length s.words ≡ plan.slots = r.wide in let mine = r.each_token id (v ∷ []) at in record {
    cells = with_cell r.cells k d;
    token_of = r.token_of;
    wide = length-set s.words k n ∙ wide;
    few = r.few;
    each_slot = λ j l. by_cell (λ c. SlotFits mark plan c (get_or (set s.words k n) j 0) (get_elem? hs j)) r.cells k d j
        (λ e. subst (λ z. SlotFits mark plan d (get_or (set s.words k n) z 0) (get_elem? hs z)) (sym e) (subst (λ z. SlotFits mark plan d z (get_elem? hs k)) (sym (get_or-set_same s.words k n 0 (omega arith))) fits))
        (λ ne. subst (λ z. SlotFits mark plan (r.cells j) z (get_elem? hs j)) (sym (get_or-set_other s.words k j n 0 ne)) (subst (λ z. SlotFits mark plan (r.cells j) (get_or s.words j 0) z) (sym (else j ne)) (r.each_slot j l)));
    beyond = λ j l. by_cell (λ c. c ≡ cell_of [] Rattle.meet_exchange.specs.Stages.Stage.free) r.cells k d j (λ e. absurd (omega arith)) (λ _. r.beyond j l);
    each_token = λ j xs e. ⊎_elim
        (λ t. subst (λ z. TokenFits plan (with_cell r.cells k d) r.token_of z xs) (sym t.0) (subst (λ z. TokenFits plan (with_cell r.cells k d) r.token_of id z) t.1 (turned_seat plan r.cells r.token_of k v w d turn id mine.0, tt, tt)))
        (λ t. other_token plan r.cells r.token_of k v w d turn j xs (λ same. t.0 (sym same ∙ mine.0.token)) (r.each_token j xs t.1))
        (at_set s.views id j (w ∷ []) xs e);
  }
