-- What each kind of step does to a cell and to the acting seat's view, without the table.
use Rattle.std.proofs.Common.{◌≡◌, ℕ, suc, ◌+◌, ◌<◌, eqb, ◌≢◌, ◌⊎◌, inl, inr, cond, Bool, true, false, List, [], ◌∷◌, ◌++◌, length, sym, refl, ap, ◌∙◌, arith, eq-eqb, ne_eqb, append_assoc}
use Rattle.std.proofs.lemmas.Bool.{eqb-true}
use Rattle.std.proofs.lemmas.List.{append-nil}
use Rattle.std.proofs.lemmas.List.Elements.{filter-append}
use Rattle.meet_exchange.specs.declared.views.Trail.{Trail}
use Rattle.meet_exchange.specs.declared.records.Part.{Part}
use Rattle.meet_exchange.specs.declared.records.Round.{Round}
use Rattle.meet_exchange.specs.declared.records.SlotDeed.{SlotDeed}
use Rattle.meet_exchange.specs.declared.records.SlotDeed.TheVariants.{Posted, Withdrawn, Swapped, Collected}
use Rattle.meet_exchange.specs.declared.views.Duty.{Duty}
use Rattle.meet_exchange.specs.declared.views.Duty.TheVariants.{Claimed, Offering, Ready, Took, Gathered, TookBack}
use Rattle.meet_exchange.specs.declared.views.InHand.TheVariants.{Nothing, At}
use Rattle.meet_exchange.specs.Stages.{Stage, cell_of, code, running, in_hand, with_round, duties_in, AllEnded}
use Rattle.meet_exchange.specs.Rounds.{part, parts_in, parts_of, in_slot, IsPlayed, HasEnded}
use Rattle.meet_exchange.specs.Told.{saw, holds_now, did}
use Rattle.meet_exchange.specs.Stages.Stage.{free, claimed, posted, taken, answered, seen, collected, withdrawn}
use Rattle.meet_exchange.proofs.Turns.{Turns}

pub same : (n : ℕ) → eqb n n ≡ true
same n = eq-eqb n n refl

pub apart : (a b : ℕ) → a ≢ b → eqb a b ≡ false
apart a b ne = ne_eqb a b ne

pub flip : {a b : ℕ} → a ≢ b → b ≢ a
flip ne e = ne (sym e)

-- ## Lists of parts

pub parts_append : (x k r : ℕ) (past rds : List Round) → parts_of x k r (past ++ rds) ≡ parts_of x k r past ++ parts_of x k (r + length past) rds
parts_append x k r [] rds = let e : r ≡ r + 0 = omega arith in ap (λ z. parts_of x k z rds) e
parts_append x k r (rd ∷ past) rds = let e : suc r + length past ≡ r + suc (length past) = omega arith in
    ap (λ ps. parts_in x k r rd ++ ps) (parts_append x k (suc r) past rds ∙ ap (λ z. parts_of x k (suc r) past ++ parts_of x k z rds) e)
    ∙ sym (append_assoc (parts_in x k r rd) (parts_of x k (suc r) past) (parts_of x k (r + suc (length past)) rds))

pub parts_grow : (x k r : ℕ) (past rds rds' : List Round) (ps : List Part) → parts_of x k (r + length past) rds' ≡ parts_of x k (r + length past) rds ++ ps
    → parts_of x k r (past ++ rds') ≡ parts_of x k r (past ++ rds) ++ ps
parts_grow x k r past rds rds' ps e = parts_append x k r past rds' ∙ (ap (λ z. parts_of x k r past ++ z) e
    ∙ (sym (append_assoc (parts_of x k r past) (parts_of x k (r + length past) rds) ps) ∙ ap (λ z. z ++ ps) (sym (parts_append x k r past rds))))

pub parts_stay : (x k r : ℕ) (past rds rds' : List Round) → parts_of x k (r + length past) rds' ≡ parts_of x k (r + length past) rds → parts_of x k r (past ++ rds') ≡ parts_of x k r (past ++ rds)
parts_stay x k r past rds rds' e = parts_append x k r past rds' ∙ (ap (λ z. parts_of x k r past ++ z) e ∙ sym (parts_append x k r past rds))

pub in_slot_here : (k r : ℕ) (d : SlotDeed) (ps : List Part) → in_slot k (ps ++ part k r d ∷ []) ≡ in_slot k ps ++ part k r d ∷ []
in_slot_here k r d ps = filter-append (λ p. eqb p.slot k) ps (part k r d ∷ []) ∙ ap (λ b. in_slot k ps ++ cond b (part k r d ∷ []) []) (same k)

pub in_slot_else : (j k r : ℕ) (d : SlotDeed) (ps : List Part) → j ≢ k → in_slot j (ps ++ part k r d ∷ []) ≡ in_slot j ps
in_slot_else j k r d ps ne = filter-append (λ p. eqb p.slot j) ps (part k r d ∷ []) ∙ (ap (λ b. in_slot j ps ++ cond b (part k r d ∷ []) []) (apart k j (flip ne)) ∙ append-nil (in_slot j ps))

pub ended_snoc : (n : ℕ) (past : List Round) (rd : Round) → AllEnded n past → HasEnded rd.end → IsPlayed n rd rd.end → AllEnded n (past ++ rd ∷ [])
ended_snoc n [] rd all e a = (e, a, tt)
ended_snoc n (x ∷ past) rd all e a = (all.0, all.1, ended_snoc n past rd all.2 e a)

pub length_snoc : (past : List Round) (rd : Round) → length (past ++ rd ∷ []) ≡ length past + 1
length_snoc [] rd = refl
length_snoc (x ∷ past) rd = let e = length_snoc past rd in omega arith

-- ## Codes

pub code_small : (st : Stage) → code st < 8
code_small free = omega arith
code_small (claimed o) = omega arith
code_small (posted o a) = omega arith
code_small (taken o a j b) = omega arith
code_small (answered o a j b) = omega arith
code_small (seen o a j b) = omega arith
code_small (collected o a j b) = omega arith
code_small (withdrawn o a) = omega arith

pub free_by_code : (st : Stage) → code st ≡ 0 → st ≡ free
free_by_code free e = refl
free_by_code (claimed o) e = absurd (omega arith)
free_by_code (posted o a) e = absurd (omega arith)
free_by_code (taken o a j b) e = absurd (omega arith)
free_by_code (answered o a j b) e = absurd (omega arith)
free_by_code (seen o a j b) e = absurd (omega arith)
free_by_code (collected o a j b) e = absurd (omega arith)
free_by_code (withdrawn o a) e = absurd (omega arith)

pub posted_by_code : (st : Stage) → code st ≡ 2 → (o : ℕ) × (a : ℕ) × (st ≡ posted o a)
posted_by_code free e = absurd (omega arith)
posted_by_code (claimed o) e = absurd (omega arith)
posted_by_code (posted o a) e = (o, a, refl)
posted_by_code (taken o a j b) e = absurd (omega arith)
posted_by_code (answered o a j b) e = absurd (omega arith)
posted_by_code (seen o a j b) e = absurd (omega arith)
posted_by_code (collected o a j b) e = absurd (omega arith)
posted_by_code (withdrawn o a) e = absurd (omega arith)

-- ## What a seat in hand says of the stage

abbrev pub Does : Duty → ℕ → Stage → Type 0
Does d i free = ⊥
Does d i (claimed o) = (o ≡ i) × (d ≡ Claimed)
Does d i (posted o a) = (o ≡ i) × (d ≡ Offering a)
Does d i (taken o a j b) = ((o ≡ i) × (d ≡ Offering a)) ⊎ ((j ≡ i) × (d ≡ Took b))
Does d i (answered o a j b) = (o ≡ i) × (d ≡ Offering a)
Does d i (seen o a j b) = (o ≡ i) × (d ≡ Ready a)
Does d i (collected o a j b) = (o ≡ i) × (d ≡ Gathered)
Does d i (withdrawn o a) = (o ≡ i) × (d ≡ TookBack)

one_duty : (b : Bool) (d d' : Duty) (r r' : ℕ) → (d, r) ∷ [] ≡ with_round r' (cond b (d' ∷ []) []) → (b ≡ true) × (d ≡ d') × (r ≡ r')
one_duty true d d' r r' e = let p : ◌≡◌ {A = Duty × ℕ} (d, r) (d', r') = cc in (refl, ap (λ z. z.0) p, ap (λ z. z.1) p)
one_duty false d d' r r' e = absurd cc

two_duties : (b b' : Bool) (d d' d'' : Duty) (r r' : ℕ) → (d, r) ∷ [] ≡ with_round r' (cond b (d' ∷ []) [] ++ cond b' (d'' ∷ []) []) → (((b ≡ true) × (d ≡ d')) ⊎ ((b' ≡ true) × (d ≡ d''))) × (r ≡ r')
two_duties true true d d' d'' r r' e = absurd cc
two_duties true false d d' d'' r r' e = let h = one_duty true d d' r r' e in (inl (refl, h.1), h.2)
two_duties false b' d d' d'' r r' e = let h = one_duty b' d d'' r r' e in (inr (h.0, h.1), h.2)

pub does : (st : Stage) (i r r' : ℕ) (d : Duty) → (d, r) ∷ [] ≡ with_round r' (duties_in i st) → Does d i st × (r ≡ r')
does free i r r' d e = absurd cc
does (claimed o) i r r' d e = let h = one_duty (eqb o i) d Claimed r r' e in ((eqb-true o i h.0, h.1), h.2)
does (posted o a) i r r' d e = let h = one_duty (eqb o i) d (Offering a) r r' e in ((eqb-true o i h.0, h.1), h.2)
does (taken o a j b) i r r' d e = let h = two_duties (eqb o i) (eqb j i) d (Offering a) (Took b) r r' e in
    (elim h.0 as (λ _. Does d i (taken o a j b)) [ inl t ↦ inl (eqb-true o i t.0, t.1) | inr t ↦ inr (eqb-true j i t.0, t.1) ], h.1)
does (answered o a j b) i r r' d e = let h = one_duty (eqb o i) d (Offering a) r r' e in ((eqb-true o i h.0, h.1), h.2)
does (seen o a j b) i r r' d e = let h = one_duty (eqb o i) d (Ready a) r r' e in ((eqb-true o i h.0, h.1), h.2)
does (collected o a j b) i r r' d e = let h = one_duty (eqb o i) d Gathered r r' e in ((eqb-true o i h.0, h.1), h.2)
does (withdrawn o a) i r r' d e = let h = one_duty (eqb o i) d TookBack r r' e in ((eqb-true o i h.0, h.1), h.2)

pub is_claimed : (st : Stage) (i : ℕ) → Does Claimed i st → st ≡ claimed i
is_claimed free i h = absurd h
is_claimed (claimed o) i h = ap claimed h.0
is_claimed (posted o a) i h = let e = h.1 in absurd cc
is_claimed (taken o a j b) i (inl h) = let e = h.1 in absurd cc
is_claimed (taken o a j b) i (inr h) = let e = h.1 in absurd cc
is_claimed (answered o a j b) i h = let e = h.1 in absurd cc
is_claimed (seen o a j b) i h = let e = h.1 in absurd cc
is_claimed (collected o a j b) i h = let e = h.1 in absurd cc
is_claimed (withdrawn o a) i h = let e = h.1 in absurd cc

-- the owner's item is posted, taken or answered
pub data Offers (i a : ℕ) (st : Stage) : Type 0 where
  stands : st ≡ posted i a → Offers i a st
  went : (j b : ℕ) → st ≡ taken i a j b → Offers i a st
  came : (j b : ℕ) → st ≡ answered i a j b → Offers i a st

offered_mark : (a a' : ℕ) → Offering a ≡ Offering a' → a ≡ a'
offered_mark a a' e = cc

pub is_offered : (st : Stage) (i a : ℕ) → Does (Offering a) i st → Offers i a st
is_offered free i a h = absurd h
is_offered (claimed o) i a h = let e = h.1 in absurd cc
is_offered (posted o a') i a h = stands (λ n. posted (h.0 n) (offered_mark a' a (sym h.1) n))
is_offered (taken o a' j b) i a (inl h) = went j b (λ n. taken (h.0 n) (offered_mark a' a (sym h.1) n) j b)
is_offered (taken o a' j b) i a (inr h) = let e = h.1 in absurd cc
is_offered (answered o a' j b) i a h = came j b (λ n. answered (h.0 n) (offered_mark a' a (sym h.1) n) j b)
is_offered (seen o a' j b) i a h = let e = h.1 in absurd cc
is_offered (collected o a' j b) i a h = let e = h.1 in absurd cc
is_offered (withdrawn o a') i a h = let e = h.1 in absurd cc

ready_mark : (a a' : ℕ) → Ready a ≡ Ready a' → a ≡ a'
ready_mark a a' e = cc

pub is_ready : (st : Stage) (i a : ℕ) → Does (Ready a) i st → (j : ℕ) × (b : ℕ) × (st ≡ seen i a j b)
is_ready free i a h = absurd h
is_ready (claimed o) i a h = let e = h.1 in absurd cc
is_ready (posted o a') i a h = let e = h.1 in absurd cc
is_ready (taken o a' j b) i a (inl h) = let e = h.1 in absurd cc
is_ready (taken o a' j b) i a (inr h) = let e = h.1 in absurd cc
is_ready (answered o a' j b) i a h = let e = h.1 in absurd cc
is_ready (seen o a' j b) i a h = (j, b, λ n. seen (h.0 n) (ready_mark a' a (sym h.1) n) j b)
is_ready (collected o a' j b) i a h = let e = h.1 in absurd cc
is_ready (withdrawn o a') i a h = let e = h.1 in absurd cc

took_mark : (a a' : ℕ) → Took a ≡ Took a' → a ≡ a'
took_mark a a' e = cc

pub is_taken : (st : Stage) (i b : ℕ) → Does (Took b) i st → (o : ℕ) × (a : ℕ) × (st ≡ taken o a i b)
is_taken free i b h = absurd h
is_taken (claimed o) i b h = let e = h.1 in absurd cc
is_taken (posted o a) i b h = let e = h.1 in absurd cc
is_taken (taken o a j b') i b (inl h) = let e = h.1 in absurd cc
is_taken (taken o a j b') i b (inr h) = (o, a, λ n. taken o a (h.0 n) (took_mark b' b (sym h.1) n))
is_taken (answered o a j b') i b h = let e = h.1 in absurd cc
is_taken (seen o a j b') i b h = let e = h.1 in absurd cc
is_taken (collected o a j b') i b h = let e = h.1 in absurd cc
is_taken (withdrawn o a) i b h = let e = h.1 in absurd cc

pub is_collected : (st : Stage) (i : ℕ) → Does Gathered i st → (a : ℕ) × (j : ℕ) × (b : ℕ) × (st ≡ collected i a j b)
is_collected free i h = absurd h
is_collected (claimed o) i h = let e = h.1 in absurd cc
is_collected (posted o a) i h = let e = h.1 in absurd cc
is_collected (taken o a j b) i (inl h) = let e = h.1 in absurd cc
is_collected (taken o a j b) i (inr h) = let e = h.1 in absurd cc
is_collected (answered o a j b) i h = let e = h.1 in absurd cc
is_collected (seen o a j b) i h = let e = h.1 in absurd cc
is_collected (collected o a j b) i h = (a, j, b, ap (λ z. collected z a j b) h.0)
is_collected (withdrawn o a) i h = let e = h.1 in absurd cc

pub is_withdrawn : (st : Stage) (i : ℕ) → Does TookBack i st → (a : ℕ) × (st ≡ withdrawn i a)
is_withdrawn free i h = absurd h
is_withdrawn (claimed o) i h = let e = h.1 in absurd cc
is_withdrawn (posted o a) i h = let e = h.1 in absurd cc
is_withdrawn (taken o a j b) i (inl h) = let e = h.1 in absurd cc
is_withdrawn (taken o a j b) i (inr h) = let e = h.1 in absurd cc
is_withdrawn (answered o a j b) i h = let e = h.1 in absurd cc
is_withdrawn (seen o a j b) i h = let e = h.1 in absurd cc
is_withdrawn (collected o a j b) i h = let e = h.1 in absurd cc
is_withdrawn (withdrawn o a) i h = (a, ap (λ z. withdrawn z a) h.0)

-- ## The turns

module _ (start k : ℕ) (past : List Round) (v : Trail) where
  abbrev at : ℕ
  at = start + length past

  pub claim_turns : (r : ℕ) → r ≡ at → v.hand ≡ Nothing → in_slot k v.list ≡ parts_of v.number k start (past ++ [])
      → Turns start k v (holds_now v (At k r Claimed)) (cell_of past free) (cell_of past (claimed v.number))
  claim_turns r is idle list = record {
    number = refl;
    list = list;
    hand = rw (same k, same v.number, is) refl;
    list_else = λ _ _. refl;
    hand_else = λ j ne. rw (apart k j (flip ne), idle) refl;
    list_others = λ _ _. refl;
    hand_others = λ x ne. rw (apart v.number x (flip ne)) refl;
  }

  -- a turn that adds a part
  grows : (r : ℕ) (st st' : Stage) (d : SlotDeed) (h : Duty) → r ≡ at → in_slot k v.list ≡ parts_of v.number k start (past ++ running st)
      → ((j : ℕ) → j ≢ k → in_hand j v.hand ≡ [])
      → parts_of v.number k at (running st') ≡ parts_of v.number k at (running st) ++ part k at d ∷ []
      → h ∷ [] ≡ duties_in v.number st'
      → ((x : ℕ) → x ≢ v.number → parts_of x k at (running st') ≡ parts_of x k at (running st))
      → ((x : ℕ) → x ≢ v.number → duties_in x st' ≡ duties_in x st)
      → Turns start k v (did v (part k r d) (At k r h)) (cell_of past st) (cell_of past st')
  grows r st st' d h is list idle more duty others duties = record {
    number = refl;
    list = in_slot_here k r d v.list ∙ (ap (λ z. in_slot k v.list ++ part k z d ∷ []) is ∙ (ap (λ z. z ++ part k at d ∷ []) list ∙ sym (parts_grow v.number k start past (running st) (running st') (part k at d ∷ []) more)));
    hand = rw (same k) (ap (λ z. (h, z) ∷ []) is ∙ ap (with_round at) duty);
    list_else = λ j ne. in_slot_else j k r d v.list ne;
    hand_else = λ j ne. rw (apart k j (flip ne)) (sym (idle j ne));
    list_others = λ x ne. parts_stay x k start past (running st) (running st') (others x ne);
    hand_others = λ x ne. ap (with_round at) (duties x ne);
  }

  elsewhere : (r : ℕ) (h : Duty) → v.hand ≡ At k r h → (j : ℕ) → j ≢ k → in_hand j v.hand ≡ []
  elsewhere r h e j ne = ap (in_hand j) e ∙ ap (λ b. cond b ((h, r) ∷ []) []) (apart k j (flip ne))

  nowhere : v.hand ≡ Nothing → (j : ℕ) → j ≢ k → in_hand j v.hand ≡ []
  nowhere e j ne = ap (in_hand j) e

  pub post_turns : (r a : ℕ) → r ≡ at → v.hand ≡ At k r Claimed → in_slot k v.list ≡ parts_of v.number k start (past ++ [])
      → Turns start k v (did v (part k r (Posted a)) (At k r (Offering a))) (cell_of past (claimed v.number)) (cell_of past (posted v.number a))
  post_turns r a is hand list = grows r (claimed v.number) (posted v.number a) (Posted a) (Offering a) is list (elsewhere r Claimed hand)
      (rw (same v.number) refl) (rw (same v.number) refl) (λ x ne. rw (apart v.number x (flip ne)) refl) (λ x ne. rw (apart v.number x (flip ne)) refl)

  pub withdraw_turns : (r a : ℕ) → r ≡ at → v.hand ≡ At k r (Offering a) → in_slot k v.list ≡ parts_of v.number k start (past ++ running (posted v.number a))
      → Turns start k v (did v (part k r Withdrawn) (At k r TookBack)) (cell_of past (posted v.number a)) (cell_of past (withdrawn v.number a))
  withdraw_turns r a is hand list = grows r (posted v.number a) (withdrawn v.number a) Withdrawn TookBack is list (elsewhere r (Offering a) hand)
      (rw (same v.number) refl) (rw (same v.number) refl) (λ x ne. rw (apart v.number x (flip ne)) refl) (λ x ne. rw (apart v.number x (flip ne)) refl)

  pub take_turns : (r o a b : ℕ) → r ≡ at → o ≢ v.number → v.hand ≡ Nothing → in_slot k v.list ≡ parts_of v.number k start (past ++ running (posted o a))
      → Turns start k v (did v (part k r (Swapped b a)) (At k r (Took b))) (cell_of past (posted o a)) (cell_of past (taken o a v.number b))
  take_turns r o a b is other hand list = grows r (posted o a) (taken o a v.number b) (Swapped b a) (Took b) is list (nowhere hand)
      (rw (apart o v.number other, same v.number) refl) (rw (apart o v.number other, same v.number) refl) (λ x ne. rw (apart v.number x (flip ne)) refl)
      (λ x ne. rw (apart v.number x (flip ne)) (append-nil (cond (eqb o x) (Offering a ∷ []) [])))

  pub collect_turns : (r a j b : ℕ) → r ≡ at → v.number ≢ j → v.hand ≡ At k r (Offering a) → in_slot k v.list ≡ parts_of v.number k start (past ++ running (answered v.number a j b))
      → Turns start k v (did v (part k r (Collected b)) (At k r Gathered)) (cell_of past (answered v.number a j b)) (cell_of past (collected v.number a j b))
  collect_turns r a j b is other hand list = grows r (answered v.number a j b) (collected v.number a j b) (Collected b) Gathered is list (elsewhere r (Offering a) hand)
      (rw (same v.number, apart j v.number (flip other)) refl) (rw (same v.number) refl) (λ x ne. rw (apart v.number x (flip ne)) refl) (λ x ne. rw (apart v.number x (flip ne)) refl)

  pub gain_turns : (r a j b : ℕ) → r ≡ at → v.number ≢ j → v.hand ≡ At k r (Ready a) → in_slot k v.list ≡ parts_of v.number k start (past ++ running (seen v.number a j b))
      → Turns start k v (did v (part k r (Collected b)) (At k r Gathered)) (cell_of past (seen v.number a j b)) (cell_of past (collected v.number a j b))
  gain_turns r a j b is other hand list = grows r (seen v.number a j b) (collected v.number a j b) (Collected b) Gathered is list (elsewhere r (Ready a) hand)
      (rw (same v.number, apart j v.number (flip other)) refl) (rw (same v.number) refl) (λ x ne. rw (apart v.number x (flip ne)) refl) (λ x ne. rw (apart v.number x (flip ne)) refl)

  -- a look that sees the answer
  pub find_turns : (r a j b w : ℕ) → r ≡ at → v.hand ≡ At k r (Offering a) → in_slot k v.list ≡ parts_of v.number k start (past ++ running (answered v.number a j b))
      → Turns start k v (saw (holds_now v (At k r (Ready a))) k w) (cell_of past (answered v.number a j b)) (cell_of past (seen v.number a j b))
  find_turns r a j b w is hand list = record {
    number = refl;
    list = list;
    hand = rw (same k, same v.number, is) refl;
    list_else = λ _ _. refl;
    hand_else = λ j ne. rw (apart k j (flip ne)) (sym (elsewhere r (Offering a) hand j ne));
    list_others = λ _ _. refl;
    hand_others = λ x ne. rw (apart v.number x (flip ne)) refl;
  }

  pub answer_turns : (r o a b : ℕ) → o ≢ v.number → v.hand ≡ At k r (Took b) → in_slot k v.list ≡ parts_of v.number k start (past ++ running (taken o a v.number b))
      → Turns start k v (holds_now v Nothing) (cell_of past (taken o a v.number b)) (cell_of past (answered o a v.number b))
  answer_turns r o a b other hand list = record {
    number = refl;
    list = list;
    hand = rw (apart o v.number other) refl;
    list_else = λ _ _. refl;
    hand_else = λ j ne. sym (elsewhere r (Took b) hand j ne);
    list_others = λ _ _. refl;
    hand_others = λ x ne. rw (apart v.number x (flip ne)) (ap (with_round at) (sym (append-nil (cond (eqb o x) (Offering a ∷ []) []))));
  }

  -- a clear of a slot whose round has ended
  pub clear_turns : (r : ℕ) (h : Duty) (st : Stage) (rd : Round) → running st ≡ rd ∷ [] → v.hand ≡ At k r h → in_slot k v.list ≡ parts_of v.number k start (past ++ running st)
      → ((x : ℕ) → x ≢ v.number → duties_in x st ≡ [])
      → Turns start k v (holds_now v Nothing) (cell_of past st) (cell_of (past ++ rd ∷ []) free)
  clear_turns r h st rd runs hand list others = let whole : (past ++ rd ∷ []) ++ [] ≡ past ++ running st = append-nil (past ++ rd ∷ []) ∙ ap (λ z. past ++ z) (sym runs) in record {
    number = refl;
    list = list ∙ ap (parts_of v.number k start) (sym whole);
    hand = refl;
    list_else = λ _ _. refl;
    hand_else = λ j ne. sym (elsewhere r h hand j ne);
    list_others = λ x ne. ap (parts_of x k start) whole;
    hand_others = λ x ne. sym (ap (with_round at) (others x ne));
  }
